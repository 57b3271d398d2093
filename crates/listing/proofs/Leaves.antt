-- A row is a leaf, by its depth and that of the next row, exactly if no other record has it as its parent.
use Rattle.std.proofs.Common.{◌≡◌, ℕ, zero, suc, ◌+◌, ◌-◌, ◌<◌, ◌≤◌, true, false, not, leb, ◌≢◌, List, [], ◌∷◌, length, get_or, sym, refl, ap, ◌∙◌, subst, add-one, arith}
use Rattle.std.proofs.lemmas.Bool.{true≢false, both_ways, and_parts, or_right, not-true, leb-false, eqb-true, eq-eqb}
use Rattle.std.proofs.lemmas.Bool.Decides.{nat_tests}
use Rattle.tree.specs.declared.record.Record.{Record}
use Rattle.tree.specs.Records.{has, distinct, is_parent, fresh}
use Rattle.tree.proofs.Look.{has_at}
use Rattle.listing.specs.declared.row.Row.{Row}
use Rattle.listing.specs.Rows.{noted, records_on, listed, nested, rooted, flat, leaf_at}
use Rattle.listing.specs.RowsLemmas.{length_records, record_at, nested_parts, nested_flat, noted_above}

-- ── the test by depths ──
pub leaf_last : (rows : List Row) (i : ℕ) → i + 1 ≡ length rows → leaf_at rows i ≡ true
leaf_last [] i e = refl
leaf_last (x ∷ []) zero e = refl
leaf_last (x ∷ y ∷ ys) zero e = absurd (omega arith)
leaf_last (x ∷ xs) (suc i) e = leaf_last xs i (omega arith)

-- from the two rows that were read
pub leaf_next : (rows : List Row) (i : ℕ) (r s : Row) → i + 1 < length rows → r ≡ get_or rows (i + 1) r → s ≡ get_or rows i s → leaf_at rows i ≡ leb r.depth s.depth
leaf_next rows i r s h er es =
    let e : r ≡ get_or rows (suc i) r = rw add-one at er in
    next rows i (omega arith) ∙ ap (λ (y : Row). leb y.depth (get_or rows i s).depth) (sym e) ∙ ap (λ (y : Row). leb r.depth y.depth) (sym es)
  where
    next : (xs : List Row) (j : ℕ) → suc j < length xs → leaf_at xs j ≡ leb (get_or xs (suc j) r).depth (get_or xs j s).depth
    next [] j h = absurd (omega arith)
    next (x ∷ []) zero h = absurd (omega arith)
    next (x ∷ y ∷ ys) zero h = refl
    next (x ∷ xs) (suc j) h = next xs j (omega arith)

-- ── a leaf is no other row's parent ──
-- a name that is not on the path and not the row's is not on the path with the row
noted_apart : (n : ℕ) (path : ℕ → ℕ) (r : Row) (top : ℕ) → r.depth ≤ top → r.name ≢ n → ((k : ℕ) → k < top → path k ≢ n) → (k : ℕ) → k < suc r.depth → noted path r k ≢ n
noted_apart n path r top le ne f k h e =
    let t : k ≢ r.depth → path k ≢ n = λ z. f k (omega arith) in
    grind (arith, nat_tests)

-- a name that is not on the path and not among the rows is no row's parent
absent_childless : (n : ℕ) (path : ℕ → ℕ) (top : ℕ) (rows : List Row) → nested 1 top rows ≡ true → ((k : ℕ) → k < top → path k ≢ n) → has n (records_on path rows) ≡ false → is_parent n (records_on path rows) ≡ false
absent_childless n path top [] b f h = refl
absent_childless n path top (x ∷ xs) b f h =
    let p = nested_parts 1 top x xs b in
    let ne : x.name ≢ n = λ e. let t = eq-eqb x.name n e in grind (arith, nat_tests) in
    let g : has n (records_on (noted path x) xs) ≡ false = grind (arith, nat_tests) in
    let u : path (x.depth - 1) ≢ n = f (x.depth - 1) (omega arith) in
    let t : is_parent n (records_on (noted path x) xs) ≡ false = absent_childless n (noted path x) (suc x.depth) xs p.2 (noted_apart n path x top p.1 ne f) g in
    grind (arith, nat_tests)

-- a name that the rows lack is not that of a row
later_apart : (path : ℕ → ℕ) (rows : List Row) (i : ℕ) (r : Row) (n : ℕ) → has n (records_on path rows) ≡ false → i < length rows → (get_or rows i r).name ≢ n
later_apart path rows i r n a h e =
    let d = fresh 0 0 0 in
    let t = has_at (records_on path rows) i d (subst (λ (k : ℕ). i < k) (sym (length_records path rows)) h) in
    let u : (get_or (records_on path rows) i d).name ≡ n = ap (λ (y : Record). y.name) (record_at path rows i r d h) ∙ e in
    both_ways (has n (records_on path rows)) a (subst (λ (k : ℕ). has k (records_on path rows) ≡ true) u t)

-- the first row is a leaf
leaf_first : (n : ℕ) (path : ℕ → ℕ) (x : Row) (xs : List Row) → nested 1 (suc x.depth) xs ≡ true → ((k : ℕ) → k < x.depth → path k ≢ n) → distinct (records_on path (x ∷ xs)) ≡ true → x.name ≡ n → flat x.depth xs ≡ true → is_parent n (records_on path (x ∷ xs)) ≡ false
leaf_first n path x xs b f d e l =
    let q = and_parts (not (has x.name (records_on (noted path x) xs))) (distinct (records_on (noted path x) xs)) d in
    let a : has n (records_on (noted path x) xs) ≡ false = subst (λ (k : ℕ). has k (records_on (noted path x) xs) ≡ false) e (not-true _ q.0) in
    let t : is_parent n (records_on (noted path x) xs) ≡ false = absent_childless n (noted path x) x.depth xs (nested_flat 1 (suc x.depth) x.depth xs b l) (λ k lt z. f k lt (sym (noted_above path x k lt) ∙ z)) a in
    grind (arith, nat_tests)

leaf_below : (n : ℕ) (path : ℕ → ℕ) (top : ℕ) (rows : List Row) (i : ℕ) (r : Row) → nested 1 top rows ≡ true → ((k : ℕ) → k < top → path k ≢ n) → distinct (records_on path rows) ≡ true → i < length rows → (get_or rows i r).name ≡ n → leaf_at rows i ≡ true → is_parent n (records_on path rows) ≡ false
leaf_below n path top [] i r b f d h e l = absurd (omega arith)
leaf_below n path top (x ∷ xs) zero r b f d h e l =
    let p = nested_parts 1 top x xs b in
    leaf_first n path x xs p.2 (λ k lt. f k (omega arith)) d e l
leaf_below n path top (x ∷ xs) (suc i) r b f d h e l =
    let p = nested_parts 1 top x xs b in
    let q = and_parts (not (has x.name (records_on (noted path x) xs))) (distinct (records_on (noted path x) xs)) d in
    let ne : x.name ≢ n = λ z. later_apart (noted path x) xs i r x.name (not-true _ q.0) (omega arith) (e ∙ sym z) in
    let u : path (x.depth - 1) ≢ n = f (x.depth - 1) (omega arith) in
    let t : is_parent n (records_on (noted path x) xs) ≡ false = leaf_below n (noted path x) (suc x.depth) xs i r p.2 (noted_apart n path x top p.1 ne f) q.1 (omega arith) e l in
    grind (arith, nat_tests)

pub leaf_childless : (rows : List Row) (i : ℕ) (r : Row) → nested 0 0 rows ≡ true → rooted rows ≡ true → distinct (listed rows) ≡ true → i < length rows → leaf_at rows i ≡ true → is_parent (get_or rows i r).name (listed rows) ≡ false
leaf_childless [] i r b o d h l = absurd (omega arith)
leaf_childless (x ∷ xs) zero r b o d h l =
    let p = nested_parts 0 0 x xs b in
    leaf_first x.name (λ _. 0) x xs p.2 (λ k lt. absurd (omega arith)) d refl l
leaf_childless (x ∷ xs) (suc i) r b o d h l =
    let n = (get_or xs i r).name in
    let path = noted (λ _. 0) x in
    let p = nested_parts 0 0 x xs b in
    let q = and_parts (not (has x.name (records_on path xs))) (distinct (records_on path xs)) d in
    let ne : x.name ≢ n = λ z. later_apart path xs i r x.name (not-true _ q.0) (omega arith) (sym z) in
    let z : x.name ≡ 0 = eqb-true x.name 0 o in
    let t : is_parent n (records_on path xs) ≡ false = leaf_below n path (suc x.depth) xs i r p.2 (noted_apart n (λ _. 0) x 0 p.1 ne (λ k lt. absurd (omega arith))) q.1 (omega arith) refl l in
    grind (arith, nat_tests)

-- ── and any other row is one ──
pub inner_parent : (path : ℕ → ℕ) (low top : ℕ) (rows : List Row) (i : ℕ) (r : Row) → nested low top rows ≡ true → distinct (records_on path rows) ≡ true → i < length rows → leaf_at rows i ≡ false → is_parent (get_or rows i r).name (records_on path rows) ≡ true
inner_parent path low top [] i r b d h l = absurd (omega arith)
inner_parent path low top (x ∷ []) zero r b d h l = absurd (true≢false l)
inner_parent path low top (x ∷ y ∷ ys) zero r b d h l =
    let p = nested_parts low top x (y ∷ ys) b in
    let q = nested_parts 1 (suc x.depth) y ys p.2 in
    let deep = leb-false y.depth x.depth l in
    let e : y.depth - 1 ≡ x.depth = omega arith in
    let v : noted path x (y.depth - 1) ≡ x.name = grind (arith, nat_tests) in
    let ne : y.name ≢ x.name = λ z. grind (arith, nat_tests) in
    grind (arith, nat_tests)
inner_parent path low top (x ∷ xs) (suc i) r b d h l =
    let p = nested_parts low top x xs b in
    let q = and_parts (not (has x.name (records_on (noted path x) xs))) (distinct (records_on (noted path x) xs)) d in
    or_right _ _ (inner_parent (noted path x) 1 (suc x.depth) xs i r p.2 q.1 (omega arith) l)
