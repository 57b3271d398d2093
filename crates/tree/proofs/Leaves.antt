-- A set of records that holds the children of its members has a member that is no other record's parent. So such a set can be
-- taken out of a tree one record at a time, whatever the order of the names.
use Rattle.std.proofs.Common.{◌≡◌, ℕ, suc, ◌≤◌, Bool, true, false, not, eqb, ◌≢◌, ◌⊎◌, List, [], ◌∷◌, Some, sym, refl, ap, ◌∙◌, subst, inl, inr, arith}
use Rattle.std.proofs.lemmas.Bool.{true≢false, cases_Bool, cases_lt, and_parts, or_from, not-true, eqb-true, eqb-false}
use Rattle.tree.specs.declared.record.Record.{Record}
use Rattle.tree.specs.Lists.{In, some_of}
use Rattle.tree.specs.Records.{look, distinct, child_of, is_parent}
use Rattle.tree.specs.Trees.{Node, node_of, bare, nodes, Depth, top, down, IsTree}
use Rattle.tree.proofs.Members.{map_to, map_from, some_true, some_false}
use Rattle.tree.proofs.Look.{in_look}

-- ── one record to a name, and one depth ──
pub record_one : (rs : List Record) (x y : Record) → distinct rs ≡ true → In x rs → In y rs → x.name ≡ y.name → x ≡ y
record_one rs x y d i j e =
    let a : look x.name rs ≡ Some x = in_look rs x d i in
    let b : look y.name rs ≡ Some y = in_look rs y d j in
    let c : look x.name rs ≡ look y.name rs = ap (λ (n : ℕ). look n rs) e in
    cc

node_one : (rs : List Record) (x y : Node) → distinct rs ≡ true → In x (nodes rs) → In y (nodes rs) → x.name ≡ y.name → x ≡ y
node_one rs x y d i j e =
    let p = map_from bare rs x i in
    let q = map_from bare rs y j in
    let n : p.0.name ≡ q.0.name = ap (λ (z : Node). z.name) (sym p.2) ∙ e ∙ ap (λ (z : Node). z.name) q.2 in
    p.2 ∙ ap bare (record_one rs p.0 q.0 d p.1 q.1 n) ∙ sym q.2

pub depth_one : (rs : List Record) → distinct rs ≡ true → {m n d e : ℕ} → Depth (nodes rs) m d → Depth (nodes rs) n e → m ≡ n → d ≡ e
depth_one rs u top top q = refl
depth_one rs u top (down z j nz up) q = absurd (nz (sym q))
depth_one rs u (down y i nz up) top q = absurd (nz q)
depth_one rs u (down y i nz up) (down z j mz uq) q =
    ap suc (depth_one rs u up uq (ap (λ (x : Node). x.parent) (node_one rs y z u i j q)))

-- ── a deepest one of those that pass a test ──
pub record Deepest (rs : List Record) (f : Record → Bool) (xs : List Record) : Type 0 where
  pub it : Record
  pub depth : ℕ
  pub member : In it xs
  pub passes : f it ≡ true
  pub at : Depth (nodes rs) it.name depth
  pub most : (c : Record) (e : ℕ) → In c xs → f c ≡ true → Depth (nodes rs) c.name e → e ≤ depth

deepest : (rs : List Record) (f : Record → Bool) → distinct rs ≡ true → IsTree (nodes rs) → (xs : List Record) → ((x : Record) → In x xs → In x rs) → some_of f xs ≡ true → Deepest rs f xs
deepest rs f u t [] sub h = absurd (true≢false (sym h))
deepest rs f u t (x ∷ xs) sub h = go (cases_Bool (f x)) (cases_Bool (some_of f xs)) (deepest rs f u t xs (λ y i. sub y (inr i)))
  where
    l : (d : ℕ) × Depth (nodes rs) x.name d
    l = t.leads (bare x) (map_to bare rs x (sub x (inl refl)))

    -- the first one is at its depth
    first : (c : Record) (e : ℕ) → c ≡ x → Depth (nodes rs) c.name e → e ≤ l.0
    first c e q dp = let same = depth_one rs u dp l.1 (ap (λ (y : Record). y.name) q) in omega arith

    alone : f x ≡ true → some_of f xs ≡ false → Deepest rs f (x ∷ xs)
    alone p none = record {
      it = x;
      depth = l.0;
      member = inl refl;
      passes = p;
      at = l.1;
      most = λ c e i q dp. elim i [ inl s ↦ first c e s dp | inr j ↦ absurd (true≢false (sym q ∙ some_false f xs none c j)) ];
    }

    later : f x ≡ false → Deepest rs f xs → Deepest rs f (x ∷ xs)
    later p w = record {
      it = w.it;
      depth = w.depth;
      member = inr w.member;
      passes = w.passes;
      at = w.at;
      most = λ c e i q dp. elim i [ inl s ↦ absurd (true≢false (sym q ∙ ap f s ∙ p)) | inr j ↦ w.most c e j q dp ];
    }

    deeper : f x ≡ true → (w : Deepest rs f xs) → w.depth ≤ l.0 → Deepest rs f (x ∷ xs)
    deeper p w le = record {
      it = x;
      depth = l.0;
      member = inl refl;
      passes = p;
      at = l.1;
      most = λ c e i q dp. elim i [ inl s ↦ first c e s dp | inr j ↦ let b = w.most c e j q dp in omega arith ];
    }

    not_deeper : (w : Deepest rs f xs) → l.0 ≤ w.depth → Deepest rs f (x ∷ xs)
    not_deeper w le = record {
      it = w.it;
      depth = w.depth;
      member = inr w.member;
      passes = w.passes;
      at = w.at;
      most = λ c e i q dp. elim i [ inl s ↦ (let b = first c e s dp in omega arith) | inr j ↦ w.most c e j q dp ];
    }

    both : f x ≡ true → Deepest rs f xs → Deepest rs f (x ∷ xs)
    both p w = elim (cases_lt l.0 w.depth) [ inl lt ↦ not_deeper w (omega arith) | inr le ↦ deeper p w le ]

    go : (f x ≡ true) ⊎ (f x ≡ false) → (some_of f xs ≡ true) ⊎ (some_of f xs ≡ false) → (some_of f xs ≡ true → Deepest rs f xs) → Deepest rs f (x ∷ xs)
    go (inl p) (inl q) ih = both p (ih q)
    go (inl p) (inr q) ih = alone p q
    go (inr p) (inl q) ih = later p (ih q)
    go (inr p) (inr q) ih = absurd (true≢false (sym h ∙ or_from (f x) (some_of f xs) p q))

-- ── a leaf of the set ──
pub leaf : (rs : List Record) (f : Record → Bool) → distinct rs ≡ true → IsTree (nodes rs) → some_of f rs ≡ true →
    ((r c : Record) → In r rs → In c rs → f r ≡ true → child_of r.name c ≡ true → f c ≡ true) → (r : Record) × In r rs × (f r ≡ true) × (is_parent r.name rs ≡ false)
leaf rs f u t h down_closed = (w.it, w.member, w.passes, no_child (cases_Bool (is_parent w.it.name rs)))
  where
    w : Deepest rs f rs
    w = deepest rs f u t rs (λ x i. i) h

    -- the root is its own parent, so it is no other's child
    root_alone : (c : Record) → In c rs → c.name ≡ 0 → c.parent ≡ 0
    root_alone c i z = go t.root
      where
        go : (nodes rs ≡ []) ⊎ ((a : ℕ) × In (node_of 0 0 a) (nodes rs)) → c.parent ≡ 0
        go (inl e) = absurd (subst (λ (ys : List Node). In (bare c) ys) e (map_to bare rs c i))
        go (inr (a, j)) = ap (λ (y : Node). y.parent) (node_one rs (bare c) (node_of 0 0 a) u (map_to bare rs c i) j z)

    no_child : (is_parent w.it.name rs ≡ true) ⊎ (is_parent w.it.name rs ≡ false) → is_parent w.it.name rs ≡ false
    no_child (inr e) = e
    no_child (inl e) =
        let k = some_true (child_of w.it.name) rs e in
        let c = k.0 in
        let p = and_parts (not (eqb c.name w.it.name)) (eqb c.parent w.it.name) k.2 in
        let ne = eqb-false c.name w.it.name (not-true _ p.0) in
        let par : c.parent ≡ w.it.name = eqb-true c.parent w.it.name p.1 in
        let nz : c.name ≢ 0 = λ z. ne (z ∙ sym (root_alone c k.1 z) ∙ par) in
        let dp : Depth (nodes rs) c.name (suc w.depth) = down (bare c) (map_to bare rs c k.1) nz (subst (λ (n : ℕ). Depth (nodes rs) n w.depth) (sym par) w.at) in
        let le = w.most c (suc w.depth) k.1 (down_closed w.it c w.member k.1 w.passes k.2) dp in
        absurd (omega arith)
