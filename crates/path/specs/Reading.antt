-- What reading a path expression answers: its steps, or the first fault with its place.
--
--   onward r f             the answer f of what r gives, or the fault of r
--   step_test c at p       the test that the bytes p of one step are, at the offset at: `*`, or a name
--   excess c at p          the fault of a ninth step p; at one place an empty step and a bad byte are told first
--   surplus c at b         the fault of one step or label too many that begins with the byte b; a bad byte is told first
--   next_test c n at p     the test of a step p behind n others
--   add_step c n d at bs r the step at the front of bs, behind n others, and then the steps r
--   steps_after c n at bs  the steps behind the slashes of bs, where n steps are read
--   read_path c at bs      what reading bs, at the offset at, as a path answers
--   seen_path r            what the answer of a reading says of the text
--
-- Assumes nothing.
use Rattle.std.specs.Prelude.{◌≡◌, ℕ, suc, ◌+◌, ◌<◌, ◌≤◌, Bool, true, false, cond, ◌||◌, List, [], ◌∷◌, map, length, drop, Some, None, Ok, Err, Option, Result, ◌==◌, nat_lt}
use Rattle.byte_classes.specs.declared.classes.Classes.{Classes}
use Rattle.name.specs.declared.fault.NameCause.TheVariants.{Byte}
use Rattle.name.specs.declared.fault.NameFault.{NameFault}
use Rattle.name.specs.declared.name.Name.{Name}
use Rattle.byte_classes.specs.Bytes.{class_of, begins}
use Rattle.name.specs.Names.{Spot, fault, read_name, spot}
use Rattle.path.specs.declared.fault.PathFault.{PathFault}
use Rattle.path.specs.declared.fault.PathFault.TheVariants as fault_in
use Rattle.path.specs.declared.path.Path.{Path}
use Rattle.path.specs.declared.step.Step.{Step}
use Rattle.path.specs.declared.step.Test.{Test}
use Rattle.path.specs.declared.step.Test.TheVariants as test
use Rattle.path.specs.Paths.{steps_of}
use Rattle.path.specs.Pieces.{piece, at_slash}

abbrev pub onward : {X Y E : Type 0} → Result X E → (X → Result Y E) → Result Y E
onward (Ok x) f = f x
onward (Err e) f = Err e

-- a name's fault as a path's
abbrev pub in_path : {X : Type 0} → Result X NameFault → Result X PathFault
in_path (Ok x) = Ok x
in_path (Err e) = Err (fault_in.Name e)

-- nothing may stand behind a star
abbrev pub star_test : ℕ → List ℕ → Result (Test Spot) PathFault
star_test at [] = Ok test.Star
star_test at (b ∷ bs) = Err (fault_in.Name (fault Byte at))

abbrev pub step_test : Classes → ℕ → List ℕ → Result (Test Spot) PathFault
step_test c at [] = Err (fault_in.Empty at)
step_test c at (b ∷ bs) = cond (b == 42) (star_test (at + 1) bs) (onward (in_path (read_name c at (b ∷ bs))) (λ s. Ok (test.Name s)))

abbrev pub excess : Classes → ℕ → List ℕ → PathFault
excess c at [] = fault_in.Empty at
excess c at (b ∷ bs) = cond (b == 42 || begins (class_of c b)) (fault_in.Many at) (fault_in.Name (fault Byte at))

abbrev pub surplus : Classes → ℕ → ℕ → PathFault
surplus c at b = cond (begins (class_of c b)) (fault_in.Many at) (fault_in.Name (fault Byte at))

abbrev pub next_test : Classes → ℕ → ℕ → List ℕ → Result (Test Spot) PathFault
next_test c n at p = cond (nat_lt n 8) (step_test c at p) (Err (excess c at p))

abbrev pub step : {L : Type 0} → Bool → Test L → Step L
step d t = record { deep = d; test = t }

abbrev pub add_step : Classes → ℕ → Bool → ℕ → List ℕ → Result (List (Step Spot)) PathFault → Result (List (Step Spot)) PathFault
add_step c n d at bs r = onward (next_test c n at (piece bs)) (λ t. onward r (λ ss. Ok (step d t ∷ ss)))

-- bytes before a slash belong to a step that is read already
abbrev pub steps_after : Classes → ℕ → ℕ → List ℕ → Result (List (Step Spot)) PathFault
steps_after c n at [] = Ok []
steps_after c n at (b ∷ []) = cond (b == 47) (add_step c n false (at + 1) [] (Ok [])) (Ok [])
steps_after c n at (b ∷ d ∷ bs) =
    cond (b == 47)
    (cond (d == 47)
    (add_step c n true (at + 2) bs (steps_after c (suc n) (at + 2) bs))
    (add_step c n false (at + 1) (d ∷ bs) (steps_after c (suc n) (at + 1) (d ∷ bs))))
    (steps_after c n (at + 1) (d ∷ bs))

abbrev pub read_path : Classes → ℕ → List ℕ → Result (List (Step Spot)) PathFault
read_path c at bs = add_step c 0 false at bs (steps_after c 1 at bs)

-- ── what the code holds, as the text has it ──
abbrev pub named : {K L : Type 0} → (K → L) → Test K → Test L
named f test.Star = test.Star
named f (test.Name x) = test.Name (f x)

abbrev pub step_named : {K L : Type 0} → (K → L) → Step K → Step L
step_named f s = step s.deep (named f s.test)

abbrev pub spelled : List (Step Name) → List (Step Spot)
spelled ss = map (step_named spot) ss

abbrev pub seen_path : Result (Path Name) PathFault → Result (List (Step Spot)) PathFault
seen_path (Ok p) = Ok (spelled (steps_of p))
seen_path (Err e) = Err e

-- one step, and where it ends
abbrev pub read_step : Classes → ℕ → List ℕ → Result (Test Spot × ℕ) PathFault
read_step c at bs = onward (step_test c at (piece bs)) (λ t. Ok (t, at + length (piece bs)))

abbrev pub seen_step : Result (Test Name × ℕ) PathFault → Result (Test Spot × ℕ) PathFault
seen_step (Ok (t, end)) = Ok (named spot t, end)
seen_step (Err e) = Err e

-- one step behind n others, and where it ends
abbrev pub read_behind : Classes → ℕ → Bool → ℕ → List ℕ → Result (Step Spot × ℕ) PathFault
read_behind c n d at bs = onward (next_test c n at (piece bs)) (λ t. Ok (step d t, at + length (piece bs)))

abbrev pub seen_next : Result (Step Name × ℕ) PathFault → Result (Step Spot × ℕ) PathFault
seen_next (Ok (s, end)) = Ok (step_named spot s, end)
seen_next (Err e) = Err e

-- the steps that an answer about the next one leaves, where `rest` gives those behind its end
abbrev pub goes_on : (ℕ → Result (List (Step Spot)) PathFault) → Result (Option (Step Name × ℕ)) PathFault → Result (List (Step Spot)) PathFault
goes_on rest (Ok None) = Ok []
goes_on rest (Ok (Some (s, end))) = onward (rest end) (λ ss. Ok (step_named spot s ∷ ss))
goes_on rest (Err e) = Err e

-- a step that is read behind n others and the offset `at` is no ninth one, and ends within the text, at a slash or the text's end
abbrev pub EndsWell : ℕ → ℕ → List ℕ → Result (Option (Step Name × ℕ)) PathFault → Type 0
EndsWell n at text (Ok None) = Unit {0}
EndsWell n at text (Ok (Some (s, end))) = (n < 8) × (at < end) × (end ≤ length text) × (at_slash (drop end text) ≡ true)
EndsWell n at text (Err e) = Unit {0}
