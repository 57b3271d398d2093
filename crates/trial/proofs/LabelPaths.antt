-- Reading a label path label after label.
-- Assumes nothing.
use Rattle.std.proofs.Common.{◌≡◌, ℕ, suc, ◌+◌, ◌<◌, ◌≤◌, true, eqb, List, [], ◌∷◌, ◌++◌, map, length, get_or, drop, Ok, Err, Result, sym, refl, ap, ◌∙◌, ⊎_elim, arith, length-append, length-drop}
use Rattle.std.proofs.lemmas.List.{append-nil, drop_all, drop-drop, drop_more, map_push}
use Rattle.std.proofs.lemmas.Bool.{cases_lt, cond-true}
use Rattle.std.proofs.lemmas.Bool.Decides.{nat_tests}
use Rattle.byte_classes.specs.declared.classes.Classes.{Classes}
use Rattle.name.specs.declared.name.Name.{Name}
use Rattle.name.specs.Names.{Spot, spot}
use Rattle.name.proofs.Fronts.{before_within}
use Rattle.path.specs.declared.fault.PathFault.{PathFault}
use Rattle.path.specs.Pieces.{piece, at_slash}
use Rattle.path.specs.Reading.{onward}
use Rattle.path.proofs.Onward.{item_ends, item_faults, item_goes_on, push_on}
use Rattle.path.proofs.Pieces.{piece_stops}
use Rattle.trial.specs.Labels.{add_label, labels_after, next_label, read_label}

module _ (c : Classes) where
  -- the bytes before the first slash are passed over
  pub passes_label : (n at : ℕ) (bs : List ℕ) → labels_after c n at bs ≡ labels_after c n (at + length (piece bs)) (drop (length (piece bs)) bs)
  passes_label n at [] = refl
  passes_label n at (b ∷ bs) =
      let t = passes_label n (at + 1) bs in
      let z : at + 0 ≡ at = omega arith in
      let s : at + suc (length (piece bs)) ≡ at + 1 + length (piece bs) = omega arith in
      grind (arith, nat_tests)

  module _ (n place : ℕ) (text : List ℕ) where
    -- where the label at `place` ends
    abbrev stop : ℕ
    stop = place + length (piece (drop place text))

    -- S are the labels of a text from `place` on, where n are read already
    abbrev pub LabelsFrom : Result (List Spot) PathFault → Type 0
    LabelsFrom S = S ≡ add_label c n place (drop place text) (labels_after c (suc n) place (drop place text))

    behind_stop : labels_after c (suc n) place (drop place text) ≡ labels_after c (suc n) stop (drop stop text)
    behind_stop = passes_label (suc n) place (drop place text) ∙ ap (labels_after c (suc n) stop) (drop-drop (length (piece (drop place text))) place text)

    pub goes_on_behind : (S : Result (List Spot) PathFault) → LabelsFrom S → (l : Spot) (end : ℕ) → Ok (l, end) ≡ read_label c n place (drop place text)
        → S ≡ onward (labels_after c (suc n) end (drop end text)) (λ ls. Ok (l ∷ ls))
    goes_on_behind S next l end e =
        item_goes_on (λ l. l) stop (next_label c n place (piece (drop place text))) S (labels_after c (suc n) place (drop place text)) (λ end. labels_after c (suc n) end (drop end text)) next behind_stop l end e

    pub faults_behind : (S : Result (List Spot) PathFault) → LabelsFrom S → (f : PathFault) → Err f ≡ read_label c n place (drop place text) → S ≡ Err f
    faults_behind S next f e = item_faults (λ l. l) stop (next_label c n place (piece (drop place text))) S (labels_after c (suc n) place (drop place text)) next f e

    -- a label that is read is no seventeenth one, and ends within the text, at a slash or the text's end
    pub ends_behind : (l : Spot) (end : ℕ) → Ok (l, end) ≡ read_label c n place (drop place text) → (n < 16) × (place ≤ end) × (end ≤ length text) × (at_slash (drop end text) ≡ true)
    ends_behind l end e =
        let rest = drop place text in
        let (t, reads, is, stop_is) = item_ends (λ l. l) stop (next_label c n place (piece rest)) l end e in
        let some = not_empty (piece rest) t reads in
        let few = not_many (piece rest) t reads in
        let size = length-drop place text in
        let within = before_within 47 rest in
        let slash = ap at_slash (ap (λ (k : ℕ). drop k text) stop_is ∙ sym (drop-drop (length (piece rest)) place text)) in
        (few, omega arith, omega arith, slash ∙ piece_stops rest)
      where
        not_empty : (p : List ℕ) (t : Spot) → next_label c n place p ≡ Ok t → 0 < length p
        not_empty [] t e = absurd (let z : ◌≡◌ {A = ℕ} 0 1 = cc in omega arith)
        not_empty (b ∷ bs) t e = omega arith

        not_many : (p : List ℕ) (t : Spot) → next_label c n place p ≡ Ok t → n < 16
        not_many [] t e = absurd (let z : ◌≡◌ {A = ℕ} 0 1 = cc in omega arith)
        not_many (b ∷ bs) t e = ⊎_elim (λ lt. lt) (λ ge. absurd (let z : ◌≡◌ {A = ℕ} 0 1 = grind (arith, nat_tests) in omega arith)) (cases_lt n 16)

  -- at a slash, a label more follows
  pub next_at_slash : (n at : ℕ) (text : List ℕ) → at < length text → at_slash (drop at text) ≡ true → LabelsFrom n (at + 1) text (labels_after c n at (drop at text))
  next_at_slash n at text lt h =
      let split = drop_more text at 0 lt in
      let hit : eqb (get_or text at 0) 47 ≡ true = sym (ap at_slash split) ∙ h in
      ap (labels_after c n at) split ∙ cond-true _ _ _ hit

  module _ (text : List ℕ) where
    -- S are the labels qs, and then those behind the offset `at`
    abbrev pub ReadTo : Result (List Spot) PathFault → List Name → ℕ → Type 0
    ReadTo S qs at = S ≡ onward (labels_after c (length qs) at (drop at text)) (λ ls. Ok (map spot qs ++ ls))

    pub next_read : (S : Result (List Spot) PathFault) (qs : List Name) (at : ℕ) (l : Name) (end : ℕ) → ReadTo S qs at
        → labels_after c (length qs) at (drop at text) ≡ onward (labels_after c (suc (length qs)) end (drop end text)) (λ ls. Ok (spot l ∷ ls)) → ReadTo S (qs ++ l ∷ []) end
    next_read S qs at l end e next =
        let count : suc (length qs) ≡ length (qs ++ l ∷ []) = omega (arith, length-append qs (l ∷ [])) in
        e ∙ (ap (λ r. onward r (λ ls. Ok (map spot qs ++ ls))) next
        ∙ (push_on (spot l) (map spot qs) (labels_after c (suc (length qs)) end (drop end text))
        ∙ (ap (λ (n : ℕ). onward (labels_after c n end (drop end text)) (λ ls. Ok ((map spot qs ++ spot l ∷ []) ++ ls))) count
        ∙ ap (λ (us : List Spot). onward (labels_after c (length (qs ++ l ∷ [])) end (drop end text)) (λ ls. Ok (us ++ ls))) (sym (map_push spot qs l)))))

    pub all_read : (S : Result (List Spot) PathFault) (qs : List Name) (at : ℕ) → ReadTo S qs at → length text ≤ at → Ok (map spot qs) ≡ S
    all_read S qs at e end =
        sym (e ∙ (ap (λ (bs : List ℕ). onward (labels_after c (length qs) at bs) (λ ls. Ok (map spot qs ++ ls))) (drop_all at text end) ∙ ap (λ (us : List Spot). Ok us) (append-nil (map spot qs))))
