-- Reading accepts exactly the names joined by slashes.
-- Assumes nothing.
use Rattle.std.proofs.Common.{◌≡◌, ℕ, zero, suc, ◌+◌, ◌<◌, ◌≤◌, true, ltb, List, [], ◌∷◌, ◌++◌, length, drop, Ok, Err, Result, sym, refl, ap, ◌∙◌, subst, ⊎_elim, arith, length-drop}
use Rattle.std.proofs.lemmas.List.{append-nil, drop_at, length-map}
use Rattle.std.proofs.lemmas.Bool.{cases_Bool, cond-true, eqb-true, false≢true, ltb-true}
use Rattle.std.proofs.lemmas.Bool.Decides.{nat_tests}
use Rattle.byte_classes.specs.declared.classes.Classes.{Classes}
use Rattle.name.specs.declared.fault.NameFault.{NameFault}
use Rattle.name.specs.Names.{IsName, Spot, read_name}
use Rattle.name.proofs.Judged.{name_reads, read_gives}
use Rattle.path.specs.declared.fault.PathFault.{PathFault}
use Rattle.path.specs.Pieces.{piece, at_slash}
use Rattle.path.specs.Reading.{in_path, onward}
use Rattle.path.proofs.Pieces.{piece_and_rest, piece_stops, slash_free}
use Rattle.path.proofs.Steps.{name_slash_free}
use Rattle.trial.specs.Labels.{AcceptsLabels, AllNames, IsLabelPath, add_label, excess, joined, labels_after, next_label, read_labels, written}
use Rattle.trial.proofs.LabelPaths.{passes_label}

-- the names, each behind a slash
abbrev slashed : List (List ℕ) → List ℕ
slashed [] = []
slashed (l ∷ ls) = 47 ∷ l ++ slashed ls

joined_slashed : (l : List ℕ) (ls : List (List ℕ)) → joined (l ∷ ls) ≡ l ++ slashed ls
joined_slashed l [] = sym (append-nil l)
joined_slashed l (k ∷ ls) = ap (λ (bs : List ℕ). l ++ 47 ∷ bs) (joined_slashed k ls)

slashed_stops : (ls : List (List ℕ)) → at_slash (slashed ls) ≡ true
slashed_stops [] = refl
slashed_stops (l ∷ ls) = refl

-- a piece ends at the first slash behind it
piece_of : (k rest : List ℕ) → slash_free k ≡ true → at_slash rest ≡ true → piece (k ++ rest) ≡ k
piece_of [] [] h s = refl
piece_of [] (b ∷ bs) h s = grind (arith, nat_tests)
piece_of (b ∷ bs) rest h s = let t : slash_free bs ≡ true → piece (bs ++ rest) ≡ bs = λ f. piece_of bs rest f s in grind (arith, nat_tests)

-- what a label that is accepted says, and the labels behind it
record LabelParts (c : Classes) (n : ℕ) (p : List ℕ) (r : Result (List Spot) PathFault) (ls : List Spot) : Type 0 where
  pub label : Spot
  pub rest : List Spot
  pub few : n < 16
  pub bytes : label.bytes ≡ p
  pub named : IsName c p
  pub behind : r ≡ Ok rest
  pub is : ls ≡ label ∷ rest

label_parts : (c : Classes) (n at : ℕ) (p : List ℕ) (r : Result (List Spot) PathFault) (ls : List Spot) → onward (next_label c n at p) (λ l. onward r (λ ls. Ok (l ∷ ls))) ≡ Ok ls → LabelParts c n p r ls
label_parts c n at [] r ls e = absurd (let z : ◌≡◌ {A = ℕ} 0 1 = cc in omega arith)
label_parts c n at (b ∷ bs) r ls e =
    ⊎_elim (λ lt. as_name lt (read_name c at (b ∷ bs)) refl r refl (rw lt at e)) (λ ge. absurd (never (rw ge at e))) (cases_Bool (ltb n 16))
  where
    never : Err (excess c at b) ≡ Ok ls → ⊥
    never e = let z : ◌≡◌ {A = ℕ} 0 1 = cc in omega arith

    as_name : ltb n 16 ≡ true → (q : Result Spot NameFault) → read_name c at (b ∷ bs) ≡ q → (r' : Result (List Spot) PathFault) → r ≡ r'
        → onward (in_path q) (λ l. onward r' (λ ls. Ok (l ∷ ls))) ≡ Ok ls → LabelParts c n (b ∷ bs) r ls
    as_name lt (Ok l) a (Ok rest) b' e =
        let g = read_gives c at (b ∷ bs) l a in
        record { label = l; rest = rest; few = ltb-true n 16 lt; bytes = g.0; named = g.1; behind = b'; is = cc }
    as_name lt (Ok l) a (Err f) b' e = absurd (let z : ◌≡◌ {A = ℕ} 0 1 = cc in omega arith)
    as_name lt (Err f) a r' b' e = absurd (let z : ◌≡◌ {A = ℕ} 0 1 = cc in omega arith)

module _ (c : Classes) where
  -- labels that are read from a slash on: k bounds the length of what is left
  abbrev ReadsNames : ℕ → Type 0
  ReadsNames k = (n at : ℕ) (bs : List ℕ) (ls : List Spot) → length bs ≤ k → n ≤ 16 → at_slash bs ≡ true → labels_after c n at bs ≡ Ok ls
      → (slashed (written ls) ≡ bs) × AllNames c (written ls) × (n + length ls ≤ 16)

  -- the same from a label on
  first_then : (k : ℕ) → ReadsNames k → (n at : ℕ) (r : List ℕ) (ls : List Spot) → length r ≤ k → add_label c n at r (labels_after c (suc n) at r) ≡ Ok ls
      → (l : List ℕ) × (rest : List Spot) × (written ls ≡ l ∷ written rest) × (l ++ slashed (written rest) ≡ r) × AllNames c (written ls) × (n + length ls ≤ 16)
  first_then k go n at r ls le e =
      let p = label_parts c n at (piece r) (labels_after c (suc n) at r) ls e in
      let left = drop (length (piece r)) r in
      let few = p.few in
      let q = go (suc n) (at + length (piece r)) left p.rest (omega (arith, length-drop (length (piece r)) r)) (omega arith) (piece_stops r) (sym (passes_label c (suc n) at r) ∙ p.behind) in
      let is : written ls ≡ piece r ∷ written p.rest = ap written p.is ∙ ap (λ (bs : List ℕ). bs ∷ written p.rest) p.bytes in
      (piece r, p.rest, is, ap (λ (bs : List ℕ). piece r ++ bs) q.0 ∙ piece_and_rest r, subst (AllNames c) (sym is) (p.named, q.1), omega (arith, ap length p.is, q.2))

  reads_names : (k : ℕ) → ReadsNames k
  reads_names k n at [] ls le few h e = let none : [] ≡ ls = cc in (ap (λ (us : List Spot). slashed (written us)) (sym none), subst (λ (us : List Spot). AllNames c (written us)) none tt, omega (arith, ap length none))
  reads_names zero n at (b ∷ bs) ls le few h e = absurd (omega arith)
  reads_names (suc k) n at (b ∷ bs) ls le few h e =
      let (l, rest, is, text, names, size) = first_then k (reads_names k) n (at + 1) bs ls (omega arith) (sym (cond-true _ _ _ h) ∙ e) in
      (ap slashed is ∙ (ap (λ (xs : List ℕ). 47 ∷ xs) text ∙ ap (λ (x : ℕ). x ∷ bs) (sym (eqb-true b 47 h))), names, size)

  -- one label more in front of those that are read
  one_more : (n at : ℕ) (k rest : List ℕ) (ls : List Spot) → n < 16 → IsName c k → at_slash rest ≡ true → labels_after c (suc n) (at + length k) rest ≡ Ok ls
      → add_label c n at (k ++ rest) (labels_after c (suc n) at (k ++ rest)) ≡ Ok (record { bytes = k; at = at } ∷ ls)
  one_more n at k rest ls lt name stops e =
      let p = piece_of k rest (name_slash_free c k name) stops in
      let behind : labels_after c (suc n) at (k ++ rest) ≡ Ok ls =
      passes_label c (suc n) at (k ++ rest) ∙ (ap (λ (q : List ℕ). labels_after c (suc n) (at + length q) (drop (length q) (k ++ rest))) p
      ∙ (ap (labels_after c (suc n) (at + length k)) (drop_at k rest (length k) refl) ∙ e)) in
      let label : next_label c n at (piece (k ++ rest)) ≡ Ok (record { bytes = k; at = at }) = ap (next_label c n at) p ∙ read k name in
      ap (λ r. onward r (λ l. onward (labels_after c (suc n) at (k ++ rest)) (λ ls. Ok (l ∷ ls)))) label ∙ ap (λ r. onward r (λ ls. Ok (record { bytes = k; at = at } ∷ ls))) behind
    where
      read : (k : List ℕ) → IsName c k → next_label c n at k ≡ Ok (record { bytes = k; at = at })
      read [] (a, le) = absurd (false≢true a)
      read (b ∷ bs) h = let r = name_reads c at (b ∷ bs) h in grind (arith, nat_tests)

  record LabelsRead (r : Result (List Spot) PathFault) (ks : List (List ℕ)) : Type 0 where
    pub said : List Spot
    pub reads : r ≡ Ok said
    pub says : written said ≡ ks

  names_read : (n at : ℕ) (ks : List (List ℕ)) → AllNames c ks → n + length ks ≤ 16 → LabelsRead (labels_after c n at (slashed ks)) ks
  names_read n at [] names few = record { said = []; reads = refl; says = refl }
  names_read n at (k ∷ ks) (name, names) few =
      let r = names_read (suc n) (at + 1 + length k) ks names (omega arith) in
      record {
        said = record { bytes = k; at = at + 1 } ∷ r.said;
        reads = one_more n (at + 1) k (slashed ks) r.said (omega arith) name (slashed_stops ks) r.reads;
        says = ap (λ (xs : List (List ℕ)). k ∷ xs) r.says;
      }

  path_read : (at : ℕ) (ks : List (List ℕ)) → IsLabelPath c ks → LabelsRead (read_labels c at (joined ks)) ks
  path_read at [] (names, some, few) = absurd (omega arith)
  path_read at (k ∷ ks) ((name, names), some, few) =
      let r = names_read 1 (at + length k) ks names (omega arith) in
      record {
        said = record { bytes = k; at = at } ∷ r.said;
        reads = ap (read_labels c at) (joined_slashed k ks) ∙ one_more 0 at k (slashed ks) r.said (omega arith) name (slashed_stops ks) r.reads;
        says = ap (λ (xs : List (List ℕ)). k ∷ xs) r.says;
      }

  pub accepts_labels : (at : ℕ) (bs : List ℕ) → AcceptsLabels c bs (read_labels c at bs)
  accepts_labels at bs = (accepted, λ ks text h. let r = path_read at ks h in (r.said, ap (read_labels c at) (sym text) ∙ r.reads, r.says))
    where
      accepted : (ls : List Spot) → read_labels c at bs ≡ Ok ls → (joined (written ls) ≡ bs) × IsLabelPath c (written ls)
      accepted ls e =
          let (l, rest, is, text, names, size) = first_then (length bs) (reads_names (length bs)) 0 at bs ls (omega arith) e in
          let count = length-map ls (λ (s : Spot). s.bytes) in
          (ap joined is ∙ (joined_slashed l (written rest) ∙ text), (names, omega (arith, ap length is), omega arith))
