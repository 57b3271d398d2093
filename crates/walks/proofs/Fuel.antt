-- A way takes no more steps than there are nodes in the tree that it goes through, where this is part of a tree.
use Rattle.std.proofs.Common.{◌≡◌, ℕ, zero, suc, ◌≤◌, cond, eqb, ◌≢◌, List, [], ◌∷◌, map, length, Some, None, Option, sym, refl, ap, ◌∙◌, subst, inl, inr, arith}
use lib.ListN.{length-map}
use Rattle.std.proofs.lemmas.Bool.{cond-false, ne_eqb}
use Rattle.tree.specs.Lists.{In}
use Rattle.tree.specs.Trees.{Node, Depth, down, top}
use Rattle.model.specs.Ways.{find, longer, step_up, way_from}
use Rattle.model.proofs.Keys.{key_one, map_to, fits_in, Distinct, Rising}
use Rattle.model.proofs.Ways.{depth_one, find_in}

-- a part ys of a tree zs
module _ (ys zs : List Node) (part : (y : Node) → In y ys → In y zs) (up : Rising zs) where
  abbrev Names : List ℕ
  Names = map (λ (y : Node). y.name) ys

  -- the names cs are met on the way up from m at depth d, and more steps than these change nothing
  record Climb (m d : ℕ) : Type 0 where
    met : List ℕ
    apart : Distinct met
    there : (c : ℕ) → In c met → In c Names × (e : ℕ) × Depth zs c e × (e ≤ d)
    enough : (k n : ℕ) → length met ≤ k → way_from k ys n m ≡ way_from (length met) ys n m

  stuck : (m : ℕ) → ((k n : ℕ) → way_from (suc k) ys n m ≡ cond (eqb m n) (Some []) None) → (k n : ℕ) → way_from k ys n m ≡ way_from 0 ys n m
  stuck m h zero n = refl
  stuck m h (suc k) n = h k n

  absent : (m : ℕ) → m ≢ 0 → find ys m ≡ None → (k n : ℕ) → way_from (suc k) ys n m ≡ cond (eqb m n) (Some []) None
  absent m nz f k n =
      ap (λ (o : Option (List ℕ)). cond (eqb m n) (Some []) o)
      (cond-false (eqb m 0) None (step_up (find ys m) (way_from k ys n)) (ne_eqb m 0 nz) ∙ ap (λ (o : Option Node). step_up o (way_from k ys n)) f)

  one_up : (y z : Node) → y.name ≢ 0 → find ys y.name ≡ Some z → z.parent ≡ y.parent → (k n : ℕ) → way_from (suc k) ys n y.name ≡ cond (eqb y.name n) (Some []) (longer (way_from k ys n y.parent) z.label)
  one_up y z nz f e k n =
      ap (λ (o : Option (List ℕ)). cond (eqb y.name n) (Some []) o)
      (cond-false (eqb y.name 0) None (step_up (find ys y.name) (way_from k ys n)) (ne_eqb y.name 0 nz)
      ∙ ap (λ (o : Option Node). step_up o (way_from k ys n)) f
      ∙ ap (λ (x : ℕ). longer (way_from k ys n x) z.label) e)

  climbs : {m d : ℕ} → Depth zs m d → Climb m d
  climbs top = record { met = []; apart = tt; there = λ c i. elim i [ ]; enough = λ k n h. stuck 0 (λ j n. refl) k n }
  climbs (down {d} y i nz up_y) = go (find ys y.name) refl (climbs up_y)
    where
      go : (o : Option Node) → find ys y.name ≡ o → Climb y.parent d → Climb y.name (suc d)
      go None f w = record {
        met = [];
        apart = tt;
        there = λ c j. elim j [ ];
        enough = λ k n h. stuck y.name (absent y.name nz f) k n;
      }
      go (Some z) f w =
          let r = find_in ys y.name z f in
          let same : z ≡ y = key_one (λ (v : Node). v.name) zs up z y (part z r.0) i r.1 in
          let par : z.parent ≡ y.parent = ap (λ (v : Node). v.parent) same in
          record {
            met = y.name ∷ w.met;
            apart = ((λ j. let q = w.there y.name j in let e = q.1 in let le = q.3 in let s : suc d ≡ e = depth_one zs up (down y i nz up_y) q.2 refl in omega arith), w.apart);
            there = λ c j. elim j [
              | inl p ↦ (subst (λ (n : ℕ). In n Names) (r.1 ∙ sym p) (map_to (λ (v : Node). v.name) ys z r.0), suc d, subst (λ (n : ℕ). Depth zs n (suc d)) (sym p) (down y i nz up_y), omega arith)
              | inr l ↦ (let q = w.there c l in let le = q.3 in (q.0, q.1, q.2, omega arith))
            ];
            enough = more z f par w;
          }
        where
          more : (z : Node) → find ys y.name ≡ Some z → z.parent ≡ y.parent → (w : Climb y.parent d) → (k n : ℕ) → suc (length w.met) ≤ k → way_from k ys n y.name ≡ way_from (suc (length w.met)) ys n y.name
          more z f par w zero n h = absurd (omega arith)
          more z f par w (suc k) n h =
              one_up y z nz f par k n
              ∙ ap (λ (o : Option (List ℕ)). cond (eqb y.name n) (Some []) (longer o z.label)) (w.enough k n (omega arith))
              ∙ sym (one_up y z nz f par (length w.met) n)

  -- nor can a node that is not there be left
  pub absent_enough : (n m k : ℕ) → m ≢ 0 → find ys m ≡ None → way_from k ys n m ≡ way_from 0 ys n m
  absent_enough n m k nz f = stuck m (absent m nz f) k n

  -- so no step is missed with as many as there are nodes
  pub steps_enough : (n m d k : ℕ) → Depth zs m d → length ys ≤ k → way_from k ys n m ≡ way_from (length ys) ys n m
  steps_enough n m d k dp h =
      let w = climbs dp in
      let few = fits_in w.met Names w.apart (λ c i. (w.there c i).0) in
      let size : length Names ≡ length ys = length-map ys (λ (y : Node). y.name) in
      w.enough k n (omega arith) ∙ sym (w.enough (length ys) n (omega arith))
