-- Where what is left is a tree, the children of what is chosen are chosen.
use Rattle.std.proofs.Common.{◌≡◌, ℕ, Bool, true, false, not, eqb, ◌≢◌, List, sym, refl, ap, ◌∙◌, subst, ⊎_elim}
use Rattle.std.proofs.lemmas.Bool.{true≢false, both_ways, cases_Bool, and_parts, eqb-true, eq-eqb}
use Rattle.tree.specs.declared.record.Record.{Record}
use Rattle.tree.specs.Lists.{In}
use Rattle.tree.specs.Records.{rises}
use Rattle.tree.specs.Trees.{Node, node_of, Depth, top, down, bare, nodes, IsTree}
use Rattle.tree.proofs.Members.{keep_from, keep_to, map_to, map_from}
use Rattle.tree.proofs.Rising.{rises_distinct}
use Rattle.tree.proofs.Leaves.{record_one}
use Rattle.drops.specs.Doomed.{left_by, Downward}

module _ (f : Record → Bool) (rs : List Record) (u : rises rs ≡ true) (is : IsTree (nodes (left_by f rs))) where
  -- a node that is left is that of the record with its name
  left_node : (y : Node) → In y (nodes (left_by f rs)) → (r : Record) → In r rs → y.name ≡ r.name → (y ≡ bare r) × (f r ≡ false)
  left_node y i r j e =
      let q = map_from bare (left_by f rs) y i in
      let k = keep_from (λ (z : Record). not (f z)) rs q.0 q.1 in
      let same : q.0 ≡ r = record_one rs q.0 r (rises_distinct rs u) k.0 j (sym (ap (λ (z : Node). z.name) q.2) ∙ e) in
      (q.2 ∙ ap bare same, stays (f r) (subst (λ (z : Record). not (f z) ≡ true) same k.1))
    where
      stays : (b : Bool) → not b ≡ true → b ≡ false
      stays true h = absurd (true≢false (sym h))
      stays false h = refl

  -- a node that is left has its parent left
  parent_left : (c r : Record) → In c rs → In r rs → f c ≡ false → c.name ≢ r.name → c.parent ≡ r.name → f r ≡ false
  parent_left c r i j e ne p = go (is.leads (bare c) here).1 refl
    where
      here : In (bare c) (nodes (left_by f rs))
      here = map_to bare (left_by f rs) c (keep_to (λ (z : Record). not (f z)) rs c i (ap not e))

      own : (a : ℕ) → In (node_of 0 0 a) (nodes (left_by f rs)) → c.name ≡ 0 → f r ≡ false
      own a k z = absurd (ne (z ∙ (ap (λ (y : Node). y.parent) (left_node (node_of 0 0 a) k c i (sym z)).0 ∙ p)))

      up : {n d : ℕ} → Depth (nodes (left_by f rs)) n d → n ≡ r.name → f r ≡ false
      up top e0 = ⊎_elim (λ n. absurd (subst (λ (ys : List Node). In (bare c) ys) n here)) (λ a. (left_node (node_of 0 0 a.0) a.1 r j e0).1) is.root
      up (down y k nz d) e0 = (left_node y k r j e0).1

      go : {n d : ℕ} → Depth (nodes (left_by f rs)) n d → n ≡ c.name → f r ≡ false
      go top e0 = ⊎_elim (λ n. absurd (subst (λ (ys : List Node). In (bare c) ys) n here)) (λ a. own a.0 a.1 (sym e0)) is.root
      go (down y k nz d) e0 = up d (ap (λ (z : Node). z.parent) (left_node y k c i e0).0 ∙ p)

  pub downward : Downward f rs
  downward r c i j h k = ⊎_elim (λ t. t) (λ e. absurd (both_ways (f r) (parent_left c r j i e (λ q. differs c.name r.name parts.0 q) (eqb-true c.parent r.name parts.1)) h)) (cases_Bool (f c))
    where
      parts : (not (eqb c.name r.name) ≡ true) × (eqb c.parent r.name ≡ true)
      parts = and_parts (not (eqb c.name r.name)) (eqb c.parent r.name) k

      differs : (a b : ℕ) → not (eqb a b) ≡ true → a ≢ b
      differs a b n q = true≢false (sym n ∙ ap not (eq-eqb a b q))
