-- Rows in preorder: which record a row is, how deep it can be, and on which part of the path its meaning rests.
use Rattle.std.specs.Prelude.{◌≡◌, ℕ, zero, suc, ◌+◌, ◌-◌, ◌<◌, ◌≤◌, Bool, true, ◌&&◌, ◌≢◌, List, [], ◌∷◌, ◌++◌, length, get_or, take, ◌==◌, nat_le, slice_index_or, refl}
use Rattle.std.proofs.Common.{sym, ap, ◌∙◌, arith}
use Rattle.std.proofs.lemmas.List.{take_more}
use Rattle.std.proofs.lemmas.Bool.{and_parts, and_from, leb-true, le-leb}
use Rattle.std.proofs.lemmas.Bool.Decides.{nat_tests}
use Rattle.tree.specs.declared.record.Record.{Record}
use Rattle.tree.specs.Lists.{some_of}
use Rattle.tree.specs.Records.{has}
use Rattle.listing.specs.declared.row.Row.{Row}
use Rattle.listing.specs.Rows.{record_of, noted, path_on, records_on, nested, flat}

-- ── the record of a row ──
pub length_records : (path : ℕ → ℕ) (rows : List Row) → length (records_on path rows) ≡ length rows
length_records path [] = refl
length_records path (r ∷ rs) = ap suc (length_records (noted path r) rs)

pub record_at : (path : ℕ → ℕ) (rows : List Row) (i : ℕ) (r : Row) (d : Record) → i < length rows → slice_index_or (records_on path rows) i d ≡ record_of (path_on path (take i rows) ((get_or rows i r).depth - 1)) (slice_index_or rows i r)
record_at path [] i r d h = absurd (omega arith)
record_at path (x ∷ xs) zero r d h = refl
record_at path (x ∷ xs) (suc i) r d h = record_at (noted path x) xs i r d (omega arith)

-- from the row that was read there
pub record_read : (path : ℕ → ℕ) (rows : List Row) (i : ℕ) (r : Row) (d : Record) → i < length rows → r ≡ slice_index_or rows i r → record_of (path_on path (take i rows) (r.depth - 1)) r ≡ slice_index_or (records_on path rows) i d
record_read path rows i r d h is = ap (λ (y : Row). record_of (path_on path (take i rows) (y.depth - 1)) y) is ∙ sym (record_at path rows i r d h)

path_push : (path : ℕ → ℕ) (rows : List Row) (r : Row) (k : ℕ) → path_on path (rows ++ (r ∷ [])) k ≡ noted (path_on path rows) r k
path_push path [] r k = refl
path_push path (x ∷ xs) r k = path_push (noted path x) xs r k

-- one row back on the path, from the row that was read there
pub path_back : (path : ℕ → ℕ) (rows : List Row) (i : ℕ) (r : Row) (k : ℕ) → 0 < i → i ≤ length rows → r ≡ slice_index_or rows (i - 1) r → path_on path (take i rows) k ≡ noted (path_on path (take (i - 1) rows)) r k
path_back path rows i r k z h is =
    let e : i ≡ (i - 1) + 1 = omega arith in
    let t : take i rows ≡ take (i - 1) rows ++ (r ∷ []) = ap (λ (j : ℕ). take j rows) e ∙ take_more rows (i - 1) r (omega arith) ∙ ap (λ (y : Row). take (i - 1) rows ++ (y ∷ [])) (sym is) in
    ap (λ (rs : List Row). path_on path rs k) t ∙ path_push path (take (i - 1) rows) r k

pub name_read : (rows : List Row) (i n : ℕ) (r : Row) → r ≡ slice_index_or rows i r → (get_or rows i r).name ≡ n → r.name ≡ n
name_read rows i n r is e = ap (λ (y : Row). y.name) is ∙ e

-- the row has this name
abbrev pub named : ℕ → Row → Bool
named n r = r.name == n

pub has_named : (n : ℕ) (path : ℕ → ℕ) (rows : List Row) → has n (records_on path rows) ≡ some_of (named n) rows
has_named n path [] = refl
has_named n path (r ∷ rs) = let t = has_named n (noted path r) rs in grind (arith, nat_tests)

-- ── depths ──
pub nested_parts : (low top : ℕ) (r : Row) (rs : List Row) → nested low top (r ∷ rs) ≡ true → (low ≤ r.depth) × (r.depth ≤ top) × (nested 1 (suc r.depth) rs ≡ true)
nested_parts low top r rs n =
    let p = and_parts (nat_le low r.depth && nat_le r.depth top) (nested 1 (suc r.depth) rs) n in
    let q = and_parts (nat_le low r.depth) (nat_le r.depth top) p.0 in
    (leb-true low r.depth q.0, leb-true r.depth top q.1, p.1)

pub nested_from : (low top : ℕ) (r : Row) (rs : List Row) → low ≤ r.depth → r.depth ≤ top → nested 1 (suc r.depth) rs ≡ true → nested low top (r ∷ rs) ≡ true
nested_from low top r rs a b n =
    and_from (nat_le low r.depth && nat_le r.depth top) (nested 1 (suc r.depth) rs) (and_from (nat_le low r.depth) (nat_le r.depth top) (le-leb low r.depth a) (le-leb r.depth top b)) n

-- wider bounds on the first row
pub nested_wider : (low top low' top' : ℕ) (rows : List Row) → low' ≤ low → top ≤ top' → nested low top rows ≡ true → nested low' top' rows ≡ true
nested_wider low top low' top' [] a b n = refl
nested_wider low top low' top' (r ∷ rs) a b n =
    let p = nested_parts low top r rs n in
    nested_from low' top' r rs (omega arith) (omega arith) p.2

pub nested_flat : (low top d : ℕ) (rows : List Row) → nested low top rows ≡ true → flat d rows ≡ true → nested low d rows ≡ true
nested_flat low top d [] n f = refl
nested_flat low top d (r ∷ rs) n f =
    let p = nested_parts low top r rs n in
    nested_from low d r rs p.0 (leb-true r.depth d f) p.2

depth_at : (low top : ℕ) (rows : List Row) (i : ℕ) (r : Row) → nested low top rows ≡ true → i < length rows → (get_or rows i r).depth ≤ top + i
depth_at low top [] i r n h = absurd (omega arith)
depth_at low top (x ∷ xs) zero r n h = let p = nested_parts low top x xs n in omega arith
depth_at low top (x ∷ xs) (suc i) r n h =
    let p = nested_parts low top x xs n in
    let t = depth_at 1 (suc x.depth) xs i r p.2 (omega arith) in
    omega arith

-- a row is at most as deep as there are rows before it
pub depth_bound : (rows : List Row) (i : ℕ) (r : Row) → nested 0 0 rows ≡ true → i < length rows → r ≡ slice_index_or rows i r → r.depth ≤ i
depth_bound rows i r n h is =
    let t = depth_at 0 0 rows i r n h in
    let e = ap (λ (y : Row). y.depth) is in
    omega arith

-- ── the path is read only above the rows ──
noted_agree : (p q : ℕ → ℕ) (r : Row) (top : ℕ) → r.depth ≤ top → ((k : ℕ) → k < top → p k ≡ q k) → (k : ℕ) → k < suc r.depth → noted p r k ≡ noted q r k
noted_agree p q r top le e k h =
    let t : k ≢ r.depth → p k ≡ q k = λ ne. e k (omega arith) in
    grind (arith, nat_tests)

-- rows that begin at the depth top or above it are the same records on two paths that agree above top
pub same_records : (p q : ℕ → ℕ) (top : ℕ) (rows : List Row) → nested 1 top rows ≡ true → ((k : ℕ) → k < top → p k ≡ q k) → records_on p rows ≡ records_on q rows
same_records p q top [] n e = refl
same_records p q top (r ∷ rs) n e =
    let b = nested_parts 1 top r rs n in
    let t : records_on (noted p r) rs ≡ records_on (noted q r) rs = same_records (noted p r) (noted q r) (suc r.depth) rs b.2 (noted_agree p q r top b.1 e) in
    let u : p (r.depth - 1) ≡ q (r.depth - 1) = e (r.depth - 1) (omega arith) in
    cc

-- a row is not seen above its depth
pub noted_above : (path : ℕ → ℕ) (r : Row) (k : ℕ) → k < r.depth → noted path r k ≡ path k
noted_above path r k h = grind (arith, nat_tests)
