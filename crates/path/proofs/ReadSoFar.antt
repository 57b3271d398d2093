-- A path that is read step after step: the steps read so far and those to come.
-- Assumes nothing.
use Rattle.std.proofs.Common.{◌≡◌, ℕ, suc, ◌≤◌, Bool, true, false, List, [], ◌∷◌, ◌++◌, length, drop, Ok, Err, Result, sym, refl, ap, ◌∙◌, subst, arith, length-append}
use Rattle.std.proofs.lemmas.List.{append-nil, map_push}
use Rattle.byte_classes.specs.declared.classes.Classes.{Classes}
use Rattle.name.specs.declared.name.Name.{Name}
use Rattle.name.specs.Names.{Spot, spot}
use Rattle.path.specs.declared.fault.PathFault.{PathFault}
use Rattle.path.specs.declared.step.Step.{Step}
use Rattle.path.specs.Pieces.{at_slash}
use Rattle.path.specs.Reading.{onward, read_behind, read_path, spelled, step, step_named, steps_after}
use Rattle.path.proofs.Onward.{push_on}
use Rattle.path.proofs.Slashes.{ends_behind, goes_on_behind}

module _ (c : Classes) (text : List ℕ) where
  -- S are the steps qs, and then those behind the offset `at`
  abbrev pub ReadTo : Result (List (Step Spot)) PathFault → List (Step Name) → ℕ → Type 0
  ReadTo S qs at = S ≡ onward (steps_after c (length qs) at (drop at text)) (λ ss. Ok (spelled qs ++ ss))

  pub first_read : (at : ℕ) (first : Step Name) (end : ℕ) (qs : List (Step Name)) → Ok (step_named spot first, end) ≡ read_behind c 0 false at (drop at text)
      → qs ≡ step false first.test ∷ [] → ReadTo (read_path c at (drop at text)) qs end × (end ≤ length text) × (at_slash (drop end text) ≡ true)
  first_read at first end qs e is =
      let well = ends_behind c 0 at false text (step_named spot first) end e in
      let next = goes_on_behind c 0 at false text (read_path c at (drop at text)) refl (step_named spot first) end e in
      let plain = ap (λ (d : Bool). step d (step_named spot first).test) well.1 in
      let S = read_path c at (drop at text) in
      let here : ReadTo S (step false first.test ∷ []) end = next ∙ ap (λ (s : Step Spot). onward (steps_after c 1 end (drop end text)) (λ ss. Ok (s ∷ ss))) plain in
      (subst (λ (us : List (Step Name)). ReadTo S us end) (sym is) here, well.3, well.4)

  pub next_read : (S : Result (List (Step Spot)) PathFault) (qs : List (Step Name)) (at : ℕ) (s : Step Name) (end : ℕ) → ReadTo S qs at
      → steps_after c (length qs) at (drop at text) ≡ onward (steps_after c (suc (length qs)) end (drop end text)) (λ ss. Ok (step_named spot s ∷ ss))
      → ReadTo S (qs ++ s ∷ []) end
  next_read S qs at s end e next =
      let more = steps_after c (suc (length qs)) end (drop end text) in
      let count : suc (length qs) ≡ length (qs ++ s ∷ []) = omega (arith, length-append qs (s ∷ [])) in
      e ∙ (ap (λ r. onward r (λ ss. Ok (spelled qs ++ ss))) next
      ∙ (push_on (step_named spot s) (spelled qs) more
      ∙ (ap (λ (n : ℕ). onward (steps_after c n end (drop end text)) (λ ss. Ok ((spelled qs ++ step_named spot s ∷ []) ++ ss))) count
      ∙ ap (λ (us : List (Step Spot)). onward (steps_after c (length (qs ++ s ∷ [])) end (drop end text)) (λ ss. Ok (us ++ ss))) (sym (map_push (step_named spot) qs s)))))

  pub all_read : (S : Result (List (Step Spot)) PathFault) (qs : List (Step Name)) (at : ℕ) → ReadTo S qs at → steps_after c (length qs) at (drop at text) ≡ Ok [] → Ok (spelled qs) ≡ S
  all_read S qs at e none = sym (e ∙ (ap (λ r. onward r (λ ss. Ok (spelled qs ++ ss))) none ∙ ap (λ (us : List (Step Spot)). Ok us) (append-nil (spelled qs))))

  pub fault_read : (S : Result (List (Step Spot)) PathFault) (qs : List (Step Name)) (at : ℕ) (f : PathFault) → ReadTo S qs at → steps_after c (length qs) at (drop at text) ≡ Err f → Err f ≡ S
  fault_read S qs at f e fault = sym (e ∙ ap (λ r. onward r (λ ss. Ok (spelled qs ++ ss))) fault)
