-- What a store promises of its records is kept by each call.
use Rattle.std.proofs.Common.{◌≡◌, ℕ, ◌≤◌, true, false, not, ◌&&◌, ◌||◌, eqb, ltb, ◌≢◌, ◌⊎◌, List, [], ◌∷◌, length, sym, refl, ◌∙◌, subst, inl, inr, arith}
use mathlib.Core.Logic.{∥∥₁_map}
use Rattle.std.proofs.lemmas.Bool.{and_parts, eqb-true, eqb-false, not-true, cond_both, or_cases}
use Rattle.std.proofs.lemmas.Bool.Decides.{nat_tests}
use Rattle.tree.specs.declared.record.Record.{Record}
use Rattle.tree.specs.Records.{rises, labelled, has, is_parent, fresh, placed, tagged, without}
use Rattle.tree.specs.Trees.{nodes, IsTree}
use Rattle.tree.specs.Calls.{first_root, may_place, place_after, may_tag, tag_after, may_discard, discard_after}
use Rattle.tree.proofs.Look.{length_placed, length_tagged, length_without}
use Rattle.tree.proofs.Rising.{rises_distinct, rises_placed, rises_tagged, rises_without}
use Rattle.tree.proofs.Trees.{tree_empty, tree_first, tree_placed, tree_tagged, tree_without}

-- the laws of a store with the limit most and the records rs
pub record Sound (most : ℕ) (rs : List Record) : Type 0 where
  pub rising : rises rs ≡ true
  pub tree : ∥ IsTree (nodes rs) ∥₁
  pub labels : labelled rs ≡ true
  pub within : length rs ≤ most

pub sound_empty : (most : ℕ) → Sound most []
sound_empty most = record { rising = refl; tree = ∣ tree_empty ∣₁; labels = refl; within = omega arith }

-- ── labels ──
labelled_placed : (r : Record) (rs : List Record) → r.label ≢ 0 → labelled rs ≡ true → labelled (placed r rs) ≡ true
labelled_placed r [] ne l = grind (arith, nat_tests)
labelled_placed r (x ∷ xs) ne l =
    let p = and_parts (ltb 0 x.label) (labelled xs) l in
    let t : labelled (placed r xs) ≡ true = labelled_placed r xs ne p.1 in
    grind (arith, nat_tests)

labelled_tagged : (n m w : ℕ) (rs : List Record) → labelled (tagged n m w rs) ≡ labelled rs
labelled_tagged n m w [] = refl
labelled_tagged n m w (x ∷ xs) = let t : labelled (tagged n m w xs) ≡ labelled xs = labelled_tagged n m w xs in grind (arith, nat_tests)

labelled_without : (n : ℕ) (rs : List Record) → labelled rs ≡ true → labelled (without n rs) ≡ true
labelled_without n [] l = refl
labelled_without n (x ∷ xs) l =
    let p = and_parts (ltb 0 x.label) (labelled xs) l in
    let t : labelled (without n xs) ≡ true = labelled_without n xs p.1 in
    grind (arith, nat_tests)

-- ── place ──
-- what a placing that is not refused knows
pub record Placeable (most n p a : ℕ) (rs : List Record) : Type 0 where
  pub new : has n rs ≡ false
  pub label : a ≢ 0
  pub room : length rs ≢ most
  pub parent : (has p rs ≡ true) ⊎ ((rs ≡ []) × (n ≡ 0) × (p ≡ 0))

pub placeable : (most n p a : ℕ) (rs : List Record) → may_place most n p a rs ≡ true → Placeable most n p a rs
placeable most n p a rs h =
    let u = and_parts (not (has n rs)) (not (eqb a 0) && (not (eqb (length rs) most) && (has p rs || first_root n p rs))) h in
    let v = and_parts (not (eqb a 0)) (not (eqb (length rs) most) && (has p rs || first_root n p rs)) u.1 in
    let w = and_parts (not (eqb (length rs) most)) (has p rs || first_root n p rs) v.1 in
    record {
      new = not-true (has n rs) u.0;
      label = eqb-false a 0 (not-true (eqb a 0) v.0);
      room = eqb-false (length rs) most (not-true (eqb (length rs) most) w.0);
      parent = elim (or_cases (has p rs) (first_root n p rs) w.1) [ inl e ↦ inl e | inr e ↦ inr (first e) ];
    }
  where
    none : (xs : List Record) → length xs ≡ 0 → xs ≡ []
    none [] e = refl
    none (x ∷ xs) e = absurd (omega arith)

    first : first_root n p rs ≡ true → (rs ≡ []) × (n ≡ 0) × (p ≡ 0)
    first e =
        let u = and_parts (eqb (length rs) 0) (eqb n 0 && eqb p 0) e in
        let v = and_parts (eqb n 0) (eqb p 0) u.1 in
        (none rs (eqb-true (length rs) 0 u.0), eqb-true n 0 v.0, eqb-true p 0 v.1)

tree_of_placed : (most n p a : ℕ) (rs : List Record) → Placeable most n p a rs → IsTree (nodes rs) → IsTree (nodes (placed (fresh n p a) rs))
tree_of_placed most n p a rs k t = go k.parent
  where
    go : (has p rs ≡ true) ⊎ ((rs ≡ []) × (n ≡ 0) × (p ≡ 0)) → IsTree (nodes (placed (fresh n p a) rs))
    go (inl e) = tree_placed (fresh n p a) rs t k.new e
    go (inr (none, n0, p0)) = subst (λ (xs : List Record). IsTree (nodes (placed (fresh n p a) xs))) (sym none) (tree_first (fresh n p a) n0 p0)

pub place_sound : (most n p a : ℕ) (rs : List Record) → Sound most rs → Sound most (place_after most n p a rs)
place_sound most n p a rs s = cond_both (may_place most n p a rs) (placed (fresh n p a) rs) rs (Sound most) done (λ _. s)
  where
    done : may_place most n p a rs ≡ true → Sound most (placed (fresh n p a) rs)
    done h =
        let k = placeable most n p a rs h in
        let w = s.within in
        let f = k.room in
        let e = length_placed (fresh n p a) rs in
        record {
          rising = rises_placed (fresh n p a) rs s.rising k.new;
          tree = ∥∥₁_map s.tree (tree_of_placed most n p a rs k);
          labels = labelled_placed (fresh n p a) rs k.label s.labels;
          within = omega arith;
        }

-- ── tag ──
pub tag_sound : (most n m w : ℕ) (rs : List Record) → Sound most rs → Sound most (tag_after n m w rs)
tag_sound most n m w rs s = cond_both (may_tag n rs) (tagged n m w rs) rs (Sound most) (λ _. done) (λ _. s)
  where
    done : Sound most (tagged n m w rs)
    done =
        let b = s.within in
        let e = length_tagged n m w rs in
        record {
          rising = rises_tagged n m w rs ∙ s.rising;
          tree = ∥∥₁_map s.tree (tree_tagged n m w rs);
          labels = labelled_tagged n m w rs ∙ s.labels;
          within = omega arith;
        }

-- ── discard ──
pub discard_sound : (most n : ℕ) (rs : List Record) → Sound most rs → Sound most (discard_after n rs)
discard_sound most n rs s = cond_both (may_discard n rs) (without n rs) rs (Sound most) done (λ _. s)
  where
    done : may_discard n rs ≡ true → Sound most (without n rs)
    done h =
        let k = and_parts (has n rs) (not (is_parent n rs)) h in
        let b = s.within in
        let e = length_without n rs (rises_distinct rs s.rising) k.0 in
        record {
          rising = rises_without n rs s.rising;
          tree = ∥∥₁_map s.tree (λ t. tree_without n rs t (not-true (is_parent n rs) k.1));
          labels = labelled_without n rs s.labels;
          within = omega arith;
        }
