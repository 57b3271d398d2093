-- The steps behind the slashes of a text, as they are read one after another.
-- Assumes nothing.
use Rattle.std.proofs.Common.{◌≡◌, ℕ, suc, ◌+◌, ◌<◌, ◌≤◌, Bool, true, false, eqb, List, [], ◌∷◌, length, drop, Ok, Err, Result, sym, refl, ap, ◌∙◌, ⊎_elim, arith, length-drop}
use Rattle.std.proofs.lemmas.List.{drop-drop}
use Rattle.std.proofs.lemmas.Bool.{cases_lt, cond-false, cond-true}
use Rattle.std.proofs.lemmas.Bool.Decides.{nat_tests}
use Rattle.byte_classes.specs.declared.classes.Classes.{Classes}
use Rattle.name.specs.Names.{Spot}
use Rattle.path.specs.declared.fault.PathFault.{PathFault}
use Rattle.path.specs.declared.step.Step.{Step}
use Rattle.path.specs.declared.step.Test.{Test}
use Rattle.path.specs.Pieces.{piece, at_slash}
use Rattle.path.specs.Reading.{add_step, next_test, onward, read_behind, step, steps_after}
use Rattle.path.specs.Tokens.{child, deep, token_at}
use Rattle.name.proofs.Fronts.{before_within}
use Rattle.path.proofs.Onward.{item_ends, item_faults, item_goes_on}
use Rattle.path.proofs.Pieces.{piece_stops}

-- one slash, or two, stand at the front
pub child_begins : (at : ℕ) (bs : List ℕ) → token_at at bs ≡ child → 0 < length bs
child_begins at [] e = absurd (let z : ◌≡◌ {A = ℕ} 0 1 = cc in omega arith)
child_begins at (b ∷ bs) e = omega arith

pub deep_begins : (at : ℕ) (bs : List ℕ) → token_at at bs ≡ deep → 1 < length bs
deep_begins at [] e = absurd (let z : ◌≡◌ {A = ℕ} 0 1 = cc in omega arith)
deep_begins at (b ∷ []) e = grind (arith, nat_tests)
deep_begins at (b ∷ d ∷ bs) e = omega arith

module _ (c : Classes) where
  -- the bytes before the first slash are passed over
  pub passes_piece : (n at : ℕ) (bs : List ℕ) → steps_after c n at bs ≡ steps_after c n (at + length (piece bs)) (drop (length (piece bs)) bs)
  passes_piece n at [] = refl
  passes_piece n at (b ∷ []) = let z : at + 0 ≡ at = omega arith in grind (arith, nat_tests)
  passes_piece n at (b ∷ d ∷ bs) =
      let t = passes_piece n (at + 1) (d ∷ bs) in
      let z : at + 0 ≡ at = omega arith in
      let s : at + suc (length (piece (d ∷ bs))) ≡ at + 1 + length (piece (d ∷ bs)) = omega arith in
      grind (arith, nat_tests)

  -- the three ways on: at two slashes, at one, and at a byte of a step
  module _ (n at b x : ℕ) (bs : List ℕ) where
    pub at_two : eqb b 47 ≡ true → eqb x 47 ≡ true → steps_after c n at (b ∷ x ∷ bs) ≡ add_step c n true (at + 2) bs (steps_after c (suc n) (at + 2) bs)
    at_two h k = cond-true _ _ _ h ∙ cond-true _ _ _ k

    pub at_one : eqb b 47 ≡ true → eqb x 47 ≡ false → steps_after c n at (b ∷ x ∷ bs) ≡ add_step c n false (at + 1) (x ∷ bs) (steps_after c (suc n) (at + 1) (x ∷ bs))
    at_one h k = cond-true _ _ _ h ∙ cond-false _ _ _ k

    pub at_none : eqb b 47 ≡ false → steps_after c n at (b ∷ x ∷ bs) ≡ steps_after c n (at + 1) (x ∷ bs)
    at_none h = cond-false _ _ _ h

  child_steps : (n at : ℕ) (bs : List ℕ) → token_at at bs ≡ child → steps_after c n at bs ≡ add_step c n false (at + 1) (drop 1 bs) (steps_after c (suc n) (at + 1) (drop 1 bs))
  child_steps n at [] e = absurd (let z : ◌≡◌ {A = ℕ} 0 1 = cc in omega arith)
  child_steps n at (b ∷ []) e = grind (arith, nat_tests)
  child_steps n at (b ∷ d ∷ bs) e = at_one n at b d bs (grind (arith, nat_tests)) (grind (arith, nat_tests))

  deep_steps : (n at : ℕ) (bs : List ℕ) → token_at at bs ≡ deep → steps_after c n at bs ≡ add_step c n true (at + 2) (drop 2 bs) (steps_after c (suc n) (at + 2) (drop 2 bs))
  deep_steps n at [] e = absurd (let z : ◌≡◌ {A = ℕ} 0 1 = cc in omega arith)
  deep_steps n at (b ∷ []) e = grind (arith, nat_tests)
  deep_steps n at (b ∷ d ∷ bs) e = at_two n at b d bs (grind (arith, nat_tests)) (grind (arith, nat_tests))

  -- S are the steps of a text from `place` on, where n are read already
  abbrev pub StepsFrom : ℕ → Bool → ℕ → List ℕ → Result (List (Step Spot)) PathFault → Type 0
  StepsFrom n d place text S = S ≡ add_step c n d place (drop place text) (steps_after c (suc n) place (drop place text))

  pub next_is_child : (n at : ℕ) (text : List ℕ) → token_at at (drop at text) ≡ child → StepsFrom n false (at + 1) text (steps_after c n at (drop at text))
  next_is_child n at text e =
      child_steps n at (drop at text) e ∙ ap (λ (bs : List ℕ). add_step c n false (at + 1) bs (steps_after c (suc n) (at + 1) bs)) (drop-drop 1 at text)

  pub next_is_deep : (n at : ℕ) (text : List ℕ) → token_at at (drop at text) ≡ deep → StepsFrom n true (at + 2) text (steps_after c n at (drop at text))
  next_is_deep n at text e =
      deep_steps n at (drop at text) e ∙ ap (λ (bs : List ℕ). add_step c n true (at + 2) bs (steps_after c (suc n) (at + 2) bs)) (drop-drop 2 at text)

  module _ (n place : ℕ) (d : Bool) (text : List ℕ) where
    -- where the step at `place` ends
    abbrev stop : ℕ
    stop = place + length (piece (drop place text))

    behind_stop : steps_after c (suc n) place (drop place text) ≡ steps_after c (suc n) stop (drop stop text)
    behind_stop = passes_piece (suc n) place (drop place text) ∙ ap (steps_after c (suc n) stop) (drop-drop (length (piece (drop place text))) place text)

    -- a step that is read there, and then the steps behind its end
    pub goes_on_behind : (S : Result (List (Step Spot)) PathFault) → StepsFrom n d place text S
        → (s : Step Spot) (end : ℕ) → Ok (s, end) ≡ read_behind c n d place (drop place text)
        → S ≡ onward (steps_after c (suc n) end (drop end text)) (λ ss. Ok (s ∷ ss))
    goes_on_behind S next s end e =
        item_goes_on (step d) stop (next_test c n place (piece (drop place text))) S (steps_after c (suc n) place (drop place text)) (λ end. steps_after c (suc n) end (drop end text)) next behind_stop s end e

    pub faults_behind : (S : Result (List (Step Spot)) PathFault) → StepsFrom n d place text S
        → (f : PathFault) → Err f ≡ read_behind c n d place (drop place text) → S ≡ Err f
    faults_behind S next f e = item_faults (step d) stop (next_test c n place (piece (drop place text))) S (steps_after c (suc n) place (drop place text)) next f e

    -- it is no ninth one, is deep as it was asked for, and ends within the text, at a slash or the text's end
    pub ends_behind : (s : Step Spot) (end : ℕ) → Ok (s, end) ≡ read_behind c n d place (drop place text)
        → (n < 8) × (s.deep ≡ d) × (place ≤ end) × (end ≤ length text) × (at_slash (drop end text) ≡ true)
    ends_behind s end e =
        let rest = drop place text in
        let (t, reads, is, stop_is) = item_ends (step d) stop (next_test c n place (piece rest)) s end e in
        let few = not_ninth (piece rest) t reads in
        let some = not_empty (piece rest) t reads in
        let size = length-drop place text in
        let within = before_within 47 rest in
        let slash = ap at_slash (ap (λ (k : ℕ). drop k text) stop_is ∙ sym (drop-drop (length (piece rest)) place text)) in
        (few, ap (λ (x : Step Spot). x.deep) is, omega arith, omega arith, slash ∙ piece_stops rest)
      where
        not_ninth : (p : List ℕ) (t : Test Spot) → next_test c n place p ≡ Ok t → n < 8
        not_ninth p t e = ⊎_elim (λ lt. lt) (λ ge. absurd (let z : ◌≡◌ {A = ℕ} 0 1 = grind (arith, nat_tests) in omega arith)) (cases_lt n 8)

        not_empty : (p : List ℕ) (t : Test Spot) → next_test c n place p ≡ Ok t → 0 < length p
        not_empty [] t e = absurd (let z : ◌≡◌ {A = ℕ} 0 1 = grind (arith, nat_tests) in omega arith)
        not_empty (b ∷ bs) t e = omega arith
