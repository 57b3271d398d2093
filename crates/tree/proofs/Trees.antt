-- Trees: a tree is known by its members, and stays one when a record is placed, tagged or taken out.
use Rattle.std.proofs.Common.{◌≡◌, ℕ, suc, true, false, ◌≢◌, ◌⊎◌, List, [], ◌∷◌, map, sym, refl, ap, ◌∙◌, subst, inl, inr, arith}
use mathlib.Core.Logic.{∥∥₁_elim}
use mathlib.Core.Bool.{Bool-set}
use Rattle.std.proofs.lemmas.Bool.{eq-eqb, ne_eqb, both_ways}
use Rattle.std.proofs.lemmas.Bool.Decides.{nat_tests}
use Rattle.tree.specs.declared.record.Record.{Record}
use Rattle.tree.specs.Lists.{In}
use Rattle.tree.specs.Records.{has, is_parent, child_of, placed, tagged, without}
use Rattle.tree.specs.Trees.{Node, node_of, bare, nodes, Depth, top, down, IsTree}
use Rattle.tree.proofs.Members.{map_to, map_from, some_false}
use Rattle.tree.proofs.Look.{look_in, look_name, has_look, in_has, in_placed, placed_in, in_without, without_in}

-- a change that leaves each node
pub nodes_same : (g : Record → Record) → ((r : Record) → bare (g r) ≡ bare r) → (rs : List Record) → nodes (map g rs) ≡ nodes rs
nodes_same g h [] = refl
nodes_same g h (r ∷ rs) = λ x. h r x ∷ nodes_same g h rs x

-- ── members ──
pub depth_among : (ys zs : List Node) → ((y : Node) → In y ys → In y zs) → {n d : ℕ} → Depth ys n d → Depth zs n d
depth_among ys zs to top = top
depth_among ys zs to (down y i nz up) = down y (to y i) nz (depth_among ys zs to up)

pub tree_members : (ys zs : List Node) → ((y : Node) → In y ys → In y zs) → ((y : Node) → In y zs → In y ys) → IsTree ys → IsTree zs
tree_members ys zs to from t = record {
  root = root_of t.root;
  leads = λ z i. let l = t.leads z (from z i) in (l.0, depth_among ys zs to l.1);
}
  where
    none_left : (xs : List Node) → ((y : Node) → In y xs → In y []) → xs ≡ []
    none_left [] h = refl
    none_left (x ∷ xs) h = absurd (h x (inl refl))

    root_of : (ys ≡ []) ⊎ ((a : ℕ) × In (node_of 0 0 a) ys) → (zs ≡ []) ⊎ ((a : ℕ) × In (node_of 0 0 a) zs)
    root_of (inl e) = inl (none_left zs (λ z i. subst (λ (xs : List Node). In z xs) e (from z i)))
    root_of (inr (a, i)) = inr (a, to (node_of 0 0 a) i)

pub nodes_among : (rs ss : List Record) → ((r : Record) → In r rs → In r ss) → (y : Node) → In y (nodes rs) → In y (nodes ss)
nodes_among rs ss to y i =
    let r = map_from bare rs y i in
    subst (λ (z : Node). In z (nodes ss)) (sym r.2) (map_to bare ss r.0 (to r.0 r.1))

pub tree_records : (rs ss : List Record) → ((r : Record) → In r rs → In r ss) → ((r : Record) → In r ss → In r rs) → IsTree (nodes rs) → IsTree (nodes ss)
tree_records rs ss to from t = tree_members (nodes rs) (nodes ss) (nodes_among rs ss to) (nodes_among ss rs from) t

-- ── the root ──
pub tree_empty : IsTree []
tree_empty = record { root = inl refl; leads = λ y i. absurd i }

-- where there is a record, there is the root
pub tree_root : (rs : List Record) (r : Record) → IsTree (nodes rs) → In r rs → has 0 rs ≡ true
tree_root rs r t i = go t.root
  where
    go : (nodes rs ≡ []) ⊎ ((a : ℕ) × In (node_of 0 0 a) (nodes rs)) → has 0 rs ≡ true
    go (inl e) = absurd (subst (λ (ys : List Node). In (bare r) ys) e (map_to bare rs r i))
    go (inr (a, j)) =
        let m = map_from bare rs (node_of 0 0 a) j in
        let z : m.0.name ≡ 0 = ap (λ (y : Node). y.name) (sym m.2) in
        subst (λ (n : ℕ). has n rs ≡ true) z (in_has rs m.0 m.1)

-- the same of what a store promises
pub root_there : (n : ℕ) (rs : List Record) → ∥ IsTree (nodes rs) ∥₁ → has n rs ≡ true → has 0 rs ≡ true
root_there n rs t h =
    let r = has_look n rs h in
    ∥∥₁_elim t (Bool-set (has 0 rs) true) (λ u. tree_root rs r.0 u (look_in n rs r.0 r.1))

-- ── a record is placed ──
pub tree_first : (r : Record) → r.name ≡ 0 → r.parent ≡ 0 → IsTree (nodes (r ∷ []))
tree_first r n p = record {
  root = inr (r.label, inl (sym is));
  leads = λ y i. elim i [ inl e ↦ (0, subst (λ (m : ℕ). Depth (nodes (r ∷ [])) m 0) (sym (ap (λ (z : Node). z.name) e ∙ n)) top) | inr j ↦ absurd j ];
}
  where
    is : bare r ≡ node_of 0 0 r.label
    is = ap (λ (m : ℕ). node_of m r.parent r.label) n ∙ ap (λ (m : ℕ). node_of 0 m r.label) p

-- a node below one that is there
tree_grows : (y p : Node) (ys : List Node) → IsTree ys → y.name ≢ 0 → In p ys → p.name ≡ y.parent → IsTree (y ∷ ys)
tree_grows y p ys t nz i e = record { root = root_of t.root; leads = leads_of }
  where
    root_of : (ys ≡ []) ⊎ ((a : ℕ) × In (node_of 0 0 a) ys) → (y ∷ ys ≡ []) ⊎ ((a : ℕ) × In (node_of 0 0 a) (y ∷ ys))
    root_of (inl none) = absurd (subst (λ (zs : List Node). In p zs) none i)
    root_of (inr (a, j)) = inr (a, inr j)

    old : {n d : ℕ} → Depth ys n d → Depth (y ∷ ys) n d
    old = depth_among ys (y ∷ ys) (λ z j. inr j)

    leads_of : (z : Node) → In z (y ∷ ys) → (d : ℕ) × Depth (y ∷ ys) z.name d
    leads_of z (inl q) =
        let up = t.leads p i in
        let dp : Depth (y ∷ ys) y.parent up.0 = subst (λ (n : ℕ). Depth (y ∷ ys) n up.0) e (old up.1) in
        (suc up.0, subst (λ (n : ℕ). Depth (y ∷ ys) n (suc up.0)) (ap (λ (x : Node). x.name) (sym q)) (down y (inl refl) nz dp))
    leads_of z (inr j) = let l = t.leads z j in (l.0, old l.1)

pub tree_placed : (r : Record) (rs : List Record) → IsTree (nodes rs) → has r.name rs ≡ false → has r.parent rs ≡ true → IsTree (nodes (placed r rs))
tree_placed r rs t new there =
    let p = has_look r.parent rs there in
    let i = look_in r.parent rs p.0 p.1 in
    let nz : r.name ≢ 0 = λ z. both_ways (has 0 rs) (subst (λ (n : ℕ). has n rs ≡ false) z new) (tree_root rs p.0 t i) in
    tree_records (r ∷ rs) (placed r rs) (placed_in r rs) (in_placed r rs)
    (tree_grows (bare r) (bare p.0) (nodes rs) t nz (map_to bare rs p.0 i) (look_name r.parent rs p.0 p.1))

-- ── a record is tagged ──
pub nodes_tagged : (n m w : ℕ) (rs : List Record) → nodes (tagged n m w rs) ≡ nodes rs
nodes_tagged n m w [] = refl
nodes_tagged n m w (x ∷ xs) = let t : nodes (tagged n m w xs) ≡ nodes xs = nodes_tagged n m w xs in grind (arith, nat_tests)

pub tree_tagged : (n m w : ℕ) (rs : List Record) → IsTree (nodes rs) → IsTree (nodes (tagged n m w rs))
tree_tagged n m w rs t = subst IsTree (sym (nodes_tagged n m w rs)) t

-- ── a record is taken out ──
-- no other node has n as its parent
abbrev Childless : ℕ → List Record → Type 0
Childless n rs = (y : Node) → In y (nodes rs) → y.name ≢ n → y.parent ≢ n

childless : (n : ℕ) (rs : List Record) → is_parent n rs ≡ false → Childless n rs
childless n rs h y i ne e =
    let m = map_from bare rs y i in
    let f : child_of n m.0 ≡ false = some_false (child_of n) rs h m.0 m.1 in
    let a : m.0.name ≢ n = λ z. ne (ap (λ (x : Node). x.name) m.2 ∙ z) in
    let b : m.0.parent ≡ n = ap (λ (x : Node). x.parent) (sym m.2) ∙ e in
    let u = ne_eqb m.0.name n a in
    let v = eq-eqb m.0.parent n b in
    both_ways (child_of n m.0) f (grind arith)

node_without : (n : ℕ) (rs : List Record) (y : Node) → In y (nodes rs) → y.name ≢ n → In y (nodes (without n rs))
node_without n rs y i ne =
    let m = map_from bare rs y i in
    let w = without_in n rs m.0 m.1 (λ e. ne (ap (λ (x : Node). x.name) m.2 ∙ e)) in
    subst (λ (z : Node). In z (nodes (without n rs))) (sym m.2) (map_to bare (without n rs) m.0 w)

-- the way to the root does not go through a childless node
depth_without : (n : ℕ) (rs : List Record) → Childless n rs → {x d : ℕ} → Depth (nodes rs) x d → x ≢ n → Depth (nodes (without n rs)) x d × (n ≢ 0)
depth_without n rs c top ne = (top, λ e. ne (sym e))
depth_without n rs c (down y i nz up) ne =
    let r = depth_without n rs c up (c y i ne) in
    (down y (node_without n rs y i ne) nz r.0, r.1)

pub tree_without : (n : ℕ) (rs : List Record) → IsTree (nodes rs) → is_parent n rs ≡ false → IsTree (nodes (without n rs))
tree_without n rs t h = record { root = root_of (nodes (without n rs)) refl t.root; leads = λ y i. let l = left y i in (l.0, l.1) }
  where
    c : Childless n rs
    c = childless n rs h

    left : (y : Node) → In y (nodes (without n rs)) → (d : ℕ) × Depth (nodes (without n rs)) y.name d × (n ≢ 0)
    left y i =
        let m = map_from bare (without n rs) y i in
        let w = in_without n rs m.0 m.1 in
        let e : y.name ≡ m.0.name = ap (λ (x : Node). x.name) m.2 in
        let l = t.leads (bare m.0) (map_to bare rs m.0 w.0) in
        let r = depth_without n rs c l.1 w.1 in
        (l.0, subst (λ (x : ℕ). Depth (nodes (without n rs)) x l.0) (sym e) r.0, r.1)

    root_of : (zs : List Node) → nodes (without n rs) ≡ zs → (nodes rs ≡ []) ⊎ ((a : ℕ) × In (node_of 0 0 a) (nodes rs)) → (nodes (without n rs) ≡ []) ⊎ ((a : ℕ) × In (node_of 0 0 a) (nodes (without n rs)))
    root_of [] e o = inl e
    root_of (z ∷ zs) e (inl none) =
        let i = subst (λ (xs : List Node). In z xs) (sym e) (inl refl) in
        let j = nodes_among (without n rs) rs (λ r k. (in_without n rs r k).0) z i in
        absurd (subst (λ (xs : List Node). In z xs) none j)
    root_of (z ∷ zs) e (inr (a, i)) =
        let nz = (left z (subst (λ (xs : List Node). In z xs) (sym e) (inl refl))).2 in
        inr (a, node_without n rs (node_of 0 0 a) i (λ q. nz (sym q)))
