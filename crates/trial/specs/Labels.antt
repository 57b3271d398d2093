-- Label paths as they are written: one to sixteen names joined by slashes.
--
--   joined ls              the names ls with a slash between each two
--   IsLabelPath c ls       ls are one to sixteen names
--   excess c at b          the fault of a seventeenth label that begins with b; a bad byte is told first
--   next_label c n at p    the label that the bytes p are, behind n others
--   add_label c n at bs r  the label at the front of bs, behind n others, and then the labels r
--   labels_after c n at bs the labels behind the slashes of bs, where n labels are read
--   read_labels c at bs    what reading bs, at the offset at, as a label path answers
--   seen_labels r          what the answer of a reading says of the text
--   AcceptsLabels c bs r   the answer r to reading bs accepts exactly the label paths, each as its names
--
-- Assumes nothing.
use Rattle.std.specs.Prelude.{◌≡◌, ℕ, suc, ◌+◌, ◌≤◌, cond, List, [], ◌∷◌, ◌++◌, map, length, Ok, Err, Result, ◌==◌, nat_lt}
use Rattle.byte_classes.specs.declared.classes.Classes.{Classes}
use Rattle.name.specs.declared.fault.NameCause.TheVariants.{Byte}
use Rattle.name.specs.declared.name.Name.{Name}
use Rattle.byte_classes.specs.Bytes.{begins, class_of}
use Rattle.name.specs.Names.{IsName, Spot, fault, read_name, spot}
use Rattle.path.specs.declared.fault.PathFault.{PathFault}
use Rattle.path.specs.declared.fault.PathFault.TheVariants as fault_in
use Rattle.path.specs.Pieces.{piece}
use Rattle.path.specs.Reading.{in_path, onward}
use Rattle.trial.specs.declared.labels.Labels.{Labels}
use Rattle.trial.specs.Rows.{names_of}

abbrev pub joined : List (List ℕ) → List ℕ
joined [] = []
joined (l ∷ []) = l
joined (l ∷ k ∷ ls) = l ++ 47 ∷ joined (k ∷ ls)

abbrev pub AllNames : Classes → List (List ℕ) → Type 0
AllNames c [] = Unit {0}
AllNames c (l ∷ ls) = IsName c l × AllNames c ls

abbrev pub IsLabelPath : Classes → List (List ℕ) → Type 0
IsLabelPath c ls = AllNames c ls × (1 ≤ length ls) × (length ls ≤ 16)

abbrev pub excess : Classes → ℕ → ℕ → PathFault
excess c at b = cond (begins (class_of c b)) (fault_in.Many at) (fault_in.Name (fault Byte at))

abbrev pub next_label : Classes → ℕ → ℕ → List ℕ → Result Spot PathFault
next_label c n at [] = Err (fault_in.Empty at)
next_label c n at (b ∷ bs) = cond (nat_lt n 16) (in_path (read_name c at (b ∷ bs))) (Err (excess c at b))

abbrev pub add_label : Classes → ℕ → ℕ → List ℕ → Result (List Spot) PathFault → Result (List Spot) PathFault
add_label c n at bs r = onward (next_label c n at (piece bs)) (λ l. onward r (λ ls. Ok (l ∷ ls)))

-- bytes before a slash belong to a label that is read already
abbrev pub labels_after : Classes → ℕ → ℕ → List ℕ → Result (List Spot) PathFault
labels_after c n at [] = Ok []
labels_after c n at (b ∷ bs) = cond (b == 47) (add_label c n (at + 1) bs (labels_after c (suc n) (at + 1) bs)) (labels_after c n (at + 1) bs)

abbrev pub read_labels : Classes → ℕ → List ℕ → Result (List Spot) PathFault
read_labels c at bs = add_label c 0 at bs (labels_after c 1 at bs)

abbrev pub written : List Spot → List (List ℕ)
written ls = map (λ l. l.bytes) ls

abbrev pub AcceptsLabels : Classes → List ℕ → Result (List Spot) PathFault → Type 0
AcceptsLabels c bs r =
    ((ls : List Spot) → r ≡ Ok ls → (joined (written ls) ≡ bs) × IsLabelPath c (written ls))
    × ((ks : List (List ℕ)) → joined ks ≡ bs → IsLabelPath c ks → (ls : List Spot) × (r ≡ Ok ls) × (written ls ≡ ks))

abbrev pub seen_labels : Result Labels PathFault → Result (List Spot) PathFault
seen_labels (Ok p) = Ok (map spot (names_of p))
seen_labels (Err e) = Err e

-- one label, and where it ends
abbrev pub read_label : Classes → ℕ → ℕ → List ℕ → Result (Spot × ℕ) PathFault
read_label c n at bs = onward (next_label c n at (piece bs)) (λ l. Ok (l, at + length (piece bs)))

abbrev pub seen_label : Result (Name × ℕ) PathFault → Result (Spot × ℕ) PathFault
seen_label (Ok (l, end)) = Ok (spot l, end)
seen_label (Err e) = Err e
