-- Whether records are a tree can be decided, so that a store that is known to hold one gives it.
use Rattle.std.proofs.Common.{◌≡◌, ℕ, zero, suc, ◌≤◌, ◌≢◌, List, [], ◌∷◌, length, Some, None, Option, sym, refl, ap, ◌∙◌, subst, inl, inr, arith}
use mathlib.Core.Logic.{∥∥₁_elim}
use native.Mathlib.Decide.{ℕ_discrete}
use Rattle.tree.specs.Lists.{In}
use Rattle.tree.specs.Trees.{Node, node_of, Depth, top, down, IsTree, nodes}
use Rattle.model.specs.Ways.{find}
use Rattle.model.specs.Scheduler.{Making}
use Rattle.model.specs.Law.{Kept}
use Rattle.model.proofs.Keys.{Rising}
use Rattle.model.proofs.Ways.{some_one, none≢some, find_in, in_find, depth_bound}
use Rattle.model.proofs.Turn.{rises_up}

module _ (ys : List Node) (up : Rising ys) where
  -- a node other than the root, whose parents lead to the root, is found, and so do its own parent's
  parent_of : {n d : ℕ} → Depth ys n d → n ≢ 0 → (y : Node) × (find ys n ≡ Some y) × (e : ℕ) × (d ≡ suc e) × Depth ys y.parent e
  parent_of top nz = absurd (nz refl)
  parent_of (down {d = e} y i nz k) n0 = (y, in_find ys up y i, e, refl, k)

  Near : ℕ → ℕ → Type 0
  Near k n = (d : ℕ) × Depth ys n d × (d ≤ k)

  near : (k n : ℕ) → Dec (Near k n)
  unfolding Near
  near zero n = at (ℕ_discrete n 0)
    where
      at : Dec (n ≡ 0) → Dec (Near zero n)
      at (yes z) = yes (0, subst (λ v. Depth ys v 0) (sym z) top, omega arith)
      at (no nz) = no (λ x. let q = parent_of x.1 nz in let e = q.3 in let le = x.2 in omega arith)
  near (suc k) n = at (ℕ_discrete n 0) (find ys n) refl (near k)
    where
      step : (y : Node) → find ys n ≡ Some y → n ≢ 0 → Dec (Near k y.parent) → Dec (Near (suc k) n)
      step y f nz (yes x) =
          let q = find_in ys n y f in
          let le = x.2 in
          yes (suc x.0, subst (λ v. Depth ys v (suc x.0)) q.1 (down y q.0 (λ z. nz (sym q.1 ∙ z)) x.1), omega arith)
      step y f nz (no far) = no (λ x. let q = parent_of x.1 nz in let e = q.3 in let le = x.2 in
          let same : q.0 ≡ y = some_one q.0 y (sym q.1 ∙ f) in
          far (q.2, subst (λ (v : Node). Depth ys v.parent q.2) same q.4, omega arith))

      at : Dec (n ≡ 0) → (o : Option Node) → find ys n ≡ o → ((m : ℕ) → Dec (Near k m)) → Dec (Near (suc k) n)
      at (yes z) o f ih = yes (0, subst (λ v. Depth ys v 0) (sym z) top, omega arith)
      at (no nz) None f ih = no (λ x. let q = parent_of x.1 nz in none≢some q.0 (sym f ∙ q.1))
      at (no nz) (Some y) f ih = step y f nz (ih y.parent)

  Leads : List Node → Type 0
  Leads zs = (y : Node) → In y zs → (d : ℕ) × Depth ys y.name d

  leads : (zs : List Node) → Dec (Leads zs)
  unfolding Leads Near
  leads [] = yes (λ y i. elim i [ ])
  leads (z ∷ zs) = both (near (length ys) z.name) (leads zs)
    where
      both : Dec (Near (length ys) z.name) → Dec (Leads zs) → Dec (Leads (z ∷ zs))
      both (no far) d = no (λ h. let q = h z (inl refl) in far (q.0, q.1, depth_bound ys up q.1))
      both (yes x) (no k) = no (λ h. k (λ y i. h y (inr i)))
      both (yes x) (yes k) = yes (λ y i. elim i [ inl e ↦ subst (λ (v : Node). (d : ℕ) × Depth ys v.name d) (sym e) (x.0, x.1) | inr j ↦ k y j ])

  root : Dec ((a : ℕ) × In (node_of 0 0 a) ys)
  root = at (find ys 0) refl
    where
      at : (o : Option Node) → find ys 0 ≡ o → Dec ((a : ℕ) × In (node_of 0 0 a) ys)
      at None f = no (λ x. none≢some (node_of 0 0 x.0) (sym f ∙ in_find ys up (node_of 0 0 x.0) x.1))
      at (Some y) f = own (ℕ_discrete y.parent 0)
        where
          own : Dec (y.parent ≡ 0) → Dec ((a : ℕ) × In (node_of 0 0 a) ys)
          own (yes p) =
              let q = find_in ys 0 y f in
              yes (y.label, subst (λ v. In (node_of 0 v y.label) ys) p (subst (λ v. In (node_of v y.parent y.label) ys) q.1 q.0))
          own (no np) = no (λ x. np (ap (λ (v : Node). v.parent) (some_one y (node_of 0 0 x.0) (sym f ∙ in_find ys up (node_of 0 0 x.0) x.1))))

  decided : Dec (IsTree ys)
  unfolding Leads
  decided = all ys refl root (leads ys)
    where
      all : (zs : List Node) → ys ≡ zs → Dec ((a : ℕ) × In (node_of 0 0 a) ys) → Dec (Leads ys) → Dec (IsTree ys)
      all zs e r (no k) = no (λ t. k t.leads)
      all zs e (yes r) (yes k) = yes (record { root = inr r; leads = k })
      all [] e (no r) (yes k) = yes (record { root = inl e; leads = k })
      all (z ∷ zs) e (no r) (yes k) = no (λ t. elim t.root [ inl n ↦ subst (λ xs. In z xs) (sym e ∙ n) (inl refl) | inr a ↦ r a ])

pub kept_tree : (mk : Making) → Kept mk → IsTree (nodes mk.store)
kept_tree mk kept = give (decided (nodes mk.store) (rises_up mk.store kept.rising))
  where
    give : Dec (IsTree (nodes mk.store)) → IsTree (nodes mk.store)
    give (yes t) = t
    give (no n) = absurd (∥∥₁_elim kept.tree (λ a b. absurd a) n)
