-- Records in any order, and the rising list of them: what is asked of one is answered by the other, and each change
-- of one is a change of the other. A store that keeps its rows in an order of its own means the rising list.
use Rattle.std.proofs.Common.{◌≡◌, ℕ, zero, suc, ◌<◌, Bool, true, false, cond, not, ◌&&◌, ◌||◌, eqb, ltb, List, [], ◌∷◌, ◌++◌, length, get_or, set, is_some, Some, None, Option, sym, refl, ap, ◌∙◌, subst, inl, inr, arith}
use Rattle.std.proofs.lemmas.Bool.{and_parts, and_from, not-true, not_from_false}
use Rattle.std.proofs.lemmas.Bool.Decides.{nat_tests}
use Rattle.tree.specs.declared.record.Record.{Record}
use Rattle.tree.specs.Lists.{In, some_of, all_of}
use Rattle.std.specs.List.{insert, remove}
use Rattle.tree.specs.Records.{next_name, rises, look, has, distinct, placed, tagged, without, with_tag, sorted}
use Rattle.tree.specs.Trees.{nodes, IsTree}
use Rattle.tree.proofs.Look.{look_placed, look_without, look_sorted, has_without, has_tagged, in_placed, placed_in, has_at, without_absent, tagged_absent}
use Rattle.tree.proofs.Rising.{rises_parts, rises_distinct, rises_placed, rises_sorted, rises_without, same_look}
use Rattle.tree.proofs.Trees.{tree_records}

-- ── questions ──
pub has_sorted : (n : ℕ) (rs : List Record) → has n (sorted rs) ≡ has n rs
has_sorted n rs = ap is_some (look_sorted n rs)

pub in_sorted : (rs : List Record) (y : Record) → In y (sorted rs) → In y rs
in_sorted [] y i = i
in_sorted (r ∷ rs) y i = elim (in_placed r (sorted rs) y i) [ inl e ↦ inl e | inr j ↦ inr (in_sorted rs y j) ]

pub sorted_in : (rs : List Record) (y : Record) → In y rs → In y (sorted rs)
sorted_in [] y i = i
sorted_in (r ∷ rs) y (inl e) = placed_in r (sorted rs) y (inl e)
sorted_in (r ∷ rs) y (inr i) = placed_in r (sorted rs) y (inr (sorted_in rs y i))

some_placed : (f : Record → Bool) (r : Record) (rs : List Record) → some_of f (placed r rs) ≡ (f r || some_of f rs)
some_placed f r [] = refl
some_placed f r (x ∷ xs) = let t = some_placed f r xs in grind (arith, nat_tests)

pub some_sorted : (f : Record → Bool) (rs : List Record) → some_of f (sorted rs) ≡ some_of f rs
some_sorted f [] = refl
some_sorted f (r ∷ rs) = some_placed f r (sorted rs) ∙ ap (λ (b : Bool). f r || b) (some_sorted f rs)

all_placed : (f : Record → Bool) (r : Record) (rs : List Record) → all_of f (placed r rs) ≡ (f r && all_of f rs)
all_placed f r [] = refl
all_placed f r (x ∷ xs) = let t = all_placed f r xs in grind (arith, nat_tests)

pub all_sorted : (f : Record → Bool) (rs : List Record) → all_of f (sorted rs) ≡ all_of f rs
all_sorted f [] = refl
all_sorted f (r ∷ rs) = all_placed f r (sorted rs) ∙ ap (λ (b : Bool). f r && b) (all_sorted f rs)

pub tree_sorted : (rs : List Record) → IsTree (nodes rs) → IsTree (nodes (sorted rs))
tree_sorted rs t = tree_records rs (sorted rs) (sorted_in rs) (in_sorted rs) t

pub sorted_tree : (rs : List Record) → IsTree (nodes (sorted rs)) → IsTree (nodes rs)
sorted_tree rs t = tree_records (sorted rs) rs (in_sorted rs) (sorted_in rs) t

pub sorted_rising : (rs : List Record) → rises rs ≡ true → sorted rs ≡ rs
sorted_rising rs r = same_look (sorted rs) rs (rises_sorted rs (rises_distinct rs r)) r (λ n. look_sorted n rs)

-- ── the least name above, by going over the rows in any order ──
-- the nearer to n of the name k and what is held, of the names greater than n
abbrev pub nearer : ℕ → ℕ → Option ℕ → Option ℕ
nearer n k None = cond (ltb n k) (Some k) None
nearer n k (Some j) = cond (ltb n k && ltb k j) (Some k) (Some j)

abbrev pub nearest : ℕ → List Record → Option ℕ
nearest n [] = None
nearest n (r ∷ rs) = nearer n r.name (nearest n rs)

next_placed : (n : ℕ) (r : Record) (rs : List Record) → rises rs ≡ true → next_name n (placed r rs) ≡ nearer n r.name (next_name n rs)
next_placed n r [] u = refl
next_placed n r (x ∷ xs) u =
    let t : next_name n (placed r xs) ≡ nearer n r.name (next_name n xs) = next_placed n r xs (rises_parts x xs u).1 in
    grind (arith, nat_tests)

pub next_sorted : (n : ℕ) (rs : List Record) → distinct rs ≡ true → next_name n (sorted rs) ≡ nearest n rs
next_sorted n [] d = refl
next_sorted n (r ∷ rs) d =
    let p = and_parts (not (has r.name rs)) (distinct rs) d in
    next_placed n r (sorted rs) (rises_sorted rs p.1) ∙ ap (λ (o : Option ℕ). nearer n r.name o) (next_sorted n rs p.1)

nearer_swap : (n k j : ℕ) (o : Option ℕ) → nearer n k (nearer n j o) ≡ nearer n j (nearer n k o)
nearer_swap n k j None = grind (arith, nat_tests)
nearer_swap n k j (Some i) = grind (arith, nat_tests)

-- one more row
pub nearest_push : (n : ℕ) (rs : List Record) (r : Record) → nearest n (rs ++ (r ∷ [])) ≡ nearer n r.name (nearest n rs)
nearest_push n [] r = refl
nearest_push n (x ∷ xs) r = ap (λ (o : Option ℕ). nearer n x.name o) (nearest_push n xs r) ∙ nearer_swap n x.name r.name (nearest n xs)

-- ── a row put in anywhere ──
pub look_inserted : (n : ℕ) (rs : List Record) (i : ℕ) (r : Record) → has r.name rs ≡ false → look n (insert rs i r) ≡ cond (eqb r.name n) (Some r) (look n rs)
look_inserted n [] zero r h = refl
look_inserted n [] (suc i) r h = refl
look_inserted n (x ∷ xs) zero r h = refl
look_inserted n (x ∷ xs) (suc i) r h =
    let t : has r.name xs ≡ false → look n (insert xs i r) ≡ cond (eqb r.name n) (Some r) (look n xs) = look_inserted n xs i r in
    grind (arith, nat_tests)

pub distinct_inserted : (rs : List Record) (i : ℕ) (r : Record) → distinct rs ≡ true → has r.name rs ≡ false → distinct (insert rs i r) ≡ true
distinct_inserted [] zero r d h = refl
distinct_inserted [] (suc i) r d h = refl
distinct_inserted (x ∷ xs) zero r d h = and_from _ _ (not_from_false _ h) d
distinct_inserted (x ∷ xs) (suc i) r d h =
    let p = and_parts (not (has x.name xs)) (distinct xs) d in
    let g : has r.name xs ≡ false = grind (arith, nat_tests) in
    let t : distinct (insert xs i r) ≡ true = distinct_inserted xs i r p.1 g in
    let u : look x.name (insert xs i r) ≡ cond (eqb r.name x.name) (Some r) (look x.name xs) = look_inserted x.name xs i r g in
    grind (arith, nat_tests)

pub sorted_inserted : (rs : List Record) (i : ℕ) (r : Record) → distinct rs ≡ true → has r.name rs ≡ false → sorted (insert rs i r) ≡ placed r (sorted rs)
sorted_inserted rs i r d h =
    same_look (sorted (insert rs i r)) (placed r (sorted rs))
    (rises_sorted (insert rs i r) (distinct_inserted rs i r d h))
    (rises_placed r (sorted rs) (rises_sorted rs d) (has_sorted r.name rs ∙ h))
    (λ n. look_sorted n (insert rs i r) ∙ look_inserted n rs i r h ∙ sym (look_placed n r (sorted rs) ∙ ap (λ (o : Option Record). cond (eqb r.name n) (Some r) o) (look_sorted n rs)))

-- ── a row taken out ──
pub distinct_without : (n : ℕ) (rs : List Record) → distinct rs ≡ true → distinct (without n rs) ≡ true
distinct_without n [] d = refl
distinct_without n (x ∷ xs) d =
    let p = and_parts (not (has x.name xs)) (distinct xs) d in
    let t : distinct (without n xs) ≡ true = distinct_without n xs p.1 in
    let u = has_without x.name n xs in
    grind (arith, nat_tests)

pub sorted_without : (n : ℕ) (rs : List Record) → distinct rs ≡ true → sorted (without n rs) ≡ without n (sorted rs)
sorted_without n rs d =
    same_look (sorted (without n rs)) (without n (sorted rs))
    (rises_sorted (without n rs) (distinct_without n rs d))
    (rises_without n (sorted rs) (rises_sorted rs d))
    (λ k. look_sorted k (without n rs) ∙ look_without k n rs ∙ sym (look_without k n (sorted rs) ∙ ap (λ (o : Option Record). cond (eqb k n) None o) (look_sorted k rs)))

pub without_at : (n : ℕ) (rs : List Record) (i : ℕ) (d : Record) → distinct rs ≡ true → i < length rs → (get_or rs i d).name ≡ n → without n rs ≡ remove rs i
without_at n [] i d u h e = absurd (omega arith)
without_at n (x ∷ xs) zero d u h e =
    let p = and_parts (not (has x.name xs)) (distinct xs) u in
    let a : has n xs ≡ false = subst (λ (m : ℕ). has m xs ≡ false) e (not-true _ p.0) in
    let t : without n xs ≡ xs = without_absent n xs a in
    grind (arith, nat_tests)
without_at n (x ∷ xs) (suc i) d u h e =
    let p = and_parts (not (has x.name xs)) (distinct xs) u in
    let a = has_at xs i d (omega arith) in
    let t : without n xs ≡ remove xs i = without_at n xs i d p.1 (omega arith) e in
    grind (arith, nat_tests)

-- ── a row tagged ──
pub distinct_tagged : (n m w : ℕ) (rs : List Record) → distinct (tagged n m w rs) ≡ distinct rs
distinct_tagged n m w [] = refl
distinct_tagged n m w (x ∷ xs) =
    let t : distinct (tagged n m w xs) ≡ distinct xs = distinct_tagged n m w xs in
    let u : has x.name (tagged n m w xs) ≡ has x.name xs = has_tagged x.name n m w xs in
    grind (arith, nat_tests)

placed_tagged : (n m w : ℕ) (r : Record) (rs : List Record) → placed (cond (eqb r.name n) (with_tag m w r) r) (tagged n m w rs) ≡ tagged n m w (placed r rs)
placed_tagged n m w r [] = refl
placed_tagged n m w r (x ∷ xs) = let t = placed_tagged n m w r xs in grind (arith, nat_tests)

pub sorted_tagged : (n m w : ℕ) (rs : List Record) → sorted (tagged n m w rs) ≡ tagged n m w (sorted rs)
sorted_tagged n m w [] = refl
sorted_tagged n m w (r ∷ rs) =
    ap (λ (xs : List Record). placed (cond (eqb r.name n) (with_tag m w r) r) xs) (sorted_tagged n m w rs) ∙ placed_tagged n m w r (sorted rs)

pub tagged_at : (n m w : ℕ) (rs : List Record) (i : ℕ) (d : Record) → distinct rs ≡ true → i < length rs → (get_or rs i d).name ≡ n → tagged n m w rs ≡ set rs i (with_tag m w (get_or rs i d))
tagged_at n m w [] i d u h e = absurd (omega arith)
tagged_at n m w (x ∷ xs) zero d u h e =
    let p = and_parts (not (has x.name xs)) (distinct xs) u in
    let a : has n xs ≡ false = subst (λ (m : ℕ). has m xs ≡ false) e (not-true _ p.0) in
    let t : tagged n m w xs ≡ xs = tagged_absent n m w xs a in
    grind (arith, nat_tests)
tagged_at n m w (x ∷ xs) (suc i) d u h e =
    let p = and_parts (not (has x.name xs)) (distinct xs) u in
    let a = has_at xs i d (omega arith) in
    let t : tagged n m w xs ≡ set xs i (with_tag m w (get_or xs i d)) = tagged_at n m w xs i d p.1 (omega arith) e in
    grind (arith, nat_tests)
