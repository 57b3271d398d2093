-- What reading accepts, the grammar derives.
-- Assumes nothing.
use Rattle.std.proofs.Common.{◌≡◌, ℕ, zero, suc, ◌+◌, ◌≤◌, Bool, true, false, eqb, List, [], ◌∷◌, ◌++◌, length, drop, Ok, sym, ap, ◌∙◌, subst, ⊎_elim, arith, length-drop}
use Rattle.std.proofs.lemmas.List.{append_assoc, append-nil}
use Rattle.std.proofs.lemmas.Bool.{cases_Bool, eqb-true}
use Rattle.byte_classes.specs.declared.classes.Classes.{Classes}
use Rattle.name.specs.Names.{Spot}
use Rattle.path.specs.declared.step.Step.{Step}
use Rattle.path.specs.declared.step.Test.{Test}
use Rattle.path.specs.Grammar.{PathText, one, child, deep, written}
use Rattle.path.specs.Pieces.{piece, at_slash}
use Rattle.path.specs.Reading.{add_step, read_path, step, step_test, steps_after}
use Rattle.path.proofs.Pieces.{piece_and_rest, piece_stops}
use Rattle.path.proofs.Slashes.{at_one, at_two, passes_piece}
use Rattle.path.proofs.Steps.{add_step_parts, by_bytes, step_derived}

module _ (c : Classes) where
  -- the text p may go on with bs, which say the steps ss
  abbrev Goes_on : ℕ → Type 0
  Goes_on k = (n at : ℕ) (bs : List ℕ) (ss : List (Step Spot)) → length bs ≤ k → at_slash bs ≡ true → steps_after c n at bs ≡ Ok ss
      → (p : List ℕ) (qs : List (Step (List ℕ))) → PathText c p qs → PathText c (p ++ bs) (qs ++ written ss)

  -- one step more, read from the bytes r behind `slashes`, and then the others
  step_more : (k : ℕ) → Goes_on k → (n at : ℕ) (d : Bool) (r : List ℕ) (ss : List (Step Spot)) → length r ≤ k → add_step c n d at r (steps_after c (suc n) at r) ≡ Ok ss
      → (p : List ℕ) (qs : List (Step (List ℕ))) → ((t : Test Spot) → step_test c at (piece r) ≡ Ok t → PathText c (p ++ piece r) (qs ++ step d (by_bytes t) ∷ []))
      → PathText c (p ++ r) (qs ++ written ss)
  step_more k go n at d r ss le e p qs derived =
      let (t, rest, few, reads, behind, is) = add_step_parts c n at d r (steps_after c (suc n) at r) ss e in
      let end = at + length (piece r) in
      let left = drop (length (piece r)) r in
      let more = go (suc n) end left rest (omega (arith, length-drop (length (piece r)) r)) (piece_stops r) (sym (passes_piece c (suc n) at r) ∙ behind) (p ++ piece r) (qs ++ step d (by_bytes t) ∷ []) (derived t reads) in
      let text : (p ++ piece r) ++ left ≡ p ++ r = append_assoc p (piece r) left ∙ ap (λ (bs : List ℕ). p ++ bs) (piece_and_rest r) in
      let steps : (qs ++ step d (by_bytes t) ∷ []) ++ written rest ≡ qs ++ written ss = append_assoc qs (step d (by_bytes t) ∷ []) (written rest) ∙ ap (λ (us : List (Step Spot)). qs ++ written us) (sym is) in
      subst (λ (us : List (Step (List ℕ))). PathText c (p ++ r) us) steps (subst (λ (bs : List ℕ). PathText c bs ((qs ++ step d (by_bytes t) ∷ []) ++ written rest)) text more)

  -- k bounds the length of what is left
  goes_on : (k : ℕ) → Goes_on k
  goes_on k n at [] ss le h e p qs d =
      let none : [] ≡ ss = cc in
      subst (λ (us : List (Step Spot)). PathText c (p ++ []) (qs ++ written us)) none
      (subst (λ (bs : List ℕ). PathText c bs (qs ++ [])) (sym (append-nil p)) (subst (λ (us : List (Step (List ℕ))). PathText c p us) (sym (append-nil qs)) d))
  goes_on zero n at (b ∷ bs) ss le h e p qs d = absurd (omega arith)
  goes_on (suc k) n at (b ∷ []) ss le h e p qs d =
      let parts = add_step_parts c n (at + 1) false [] (Ok []) ss (rw h at e) in
      let nothing = parts.3 in
      absurd (let z : ◌≡◌ {A = ℕ} 0 1 = cc in omega arith)
  goes_on (suc k) n at (b ∷ x ∷ bs) ss le h e p qs d = ⊎_elim (two_slashes (goes_on k)) (one_slash (goes_on k)) (cases_Bool (eqb x 47))
    where
      two_slashes : Goes_on k → eqb x 47 ≡ true → PathText c (p ++ b ∷ x ∷ bs) (qs ++ written ss)
      two_slashes go hit =
          let more = step_more k go n (at + 2) true bs ss (omega arith) (sym (at_two c n at b x bs h hit) ∙ e) (p ++ 47 ∷ 47 ∷ []) qs
          (λ t reads. subst (λ (xs : List ℕ). PathText c xs (qs ++ step true (by_bytes t) ∷ [])) (sym (append_assoc p (47 ∷ 47 ∷ []) (piece bs))) (deep d (step_derived c (at + 2) (piece bs) t reads))) in
          let text : (p ++ 47 ∷ 47 ∷ []) ++ bs ≡ p ++ b ∷ x ∷ bs = append_assoc p (47 ∷ 47 ∷ []) bs ∙ (ap (λ (y : ℕ). p ++ y ∷ 47 ∷ bs) (sym (eqb-true b 47 h)) ∙ ap (λ (y : ℕ). p ++ b ∷ y ∷ bs) (sym (eqb-true x 47 hit))) in
          subst (λ (xs : List ℕ). PathText c xs (qs ++ written ss)) text more

      one_slash : Goes_on k → eqb x 47 ≡ false → PathText c (p ++ b ∷ x ∷ bs) (qs ++ written ss)
      one_slash go miss =
          let more = step_more k go n (at + 1) false (x ∷ bs) ss (omega arith) (sym (at_one c n at b x bs h miss) ∙ e) (p ++ 47 ∷ []) qs
          (λ t reads. subst (λ (xs : List ℕ). PathText c xs (qs ++ step false (by_bytes t) ∷ [])) (sym (append_assoc p (47 ∷ []) (piece (x ∷ bs)))) (child d (step_derived c (at + 1) (piece (x ∷ bs)) t reads))) in
          let text : (p ++ 47 ∷ []) ++ x ∷ bs ≡ p ++ b ∷ x ∷ bs = append_assoc p (47 ∷ []) (x ∷ bs) ∙ ap (λ (y : ℕ). p ++ y ∷ x ∷ bs) (sym (eqb-true b 47 h)) in
          subst (λ (xs : List ℕ). PathText c xs (qs ++ written ss)) text more

  pub path_derived : (at : ℕ) (bs : List ℕ) (ss : List (Step Spot)) → read_path c at bs ≡ Ok ss → PathText c bs (written ss)
  path_derived at bs ss e = step_more (length bs) (goes_on (length bs)) 0 at false bs ss (omega arith) e [] [] (λ t reads. one (step_derived c at (piece bs) t reads))
