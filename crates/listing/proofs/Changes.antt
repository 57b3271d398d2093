-- What a row that is put in, taken out or tagged changes: the other rows are the records that they were, and the rows stay in preorder.
use Rattle.std.proofs.Common.{◌≡◌, ℕ, zero, suc, ◌-◌, ◌<◌, ◌≤◌, Bool, true, ◌&&◌, leb, List, [], ◌∷◌, length, get_or, set, sym, refl, ap, arith}
use Rattle.std.specs.List.{insert, remove}
use Rattle.std.proofs.lemmas.Bool.{leb-true}
use Rattle.std.proofs.lemmas.Bool.Decides.{nat_tests}
use Rattle.tree.specs.declared.record.Record.{Record}
use Rattle.tree.specs.Records.{fresh, with_tag}
use Rattle.listing.specs.declared.row.Row.{Row}
use Rattle.listing.specs.Rows.{record_of, noted, records_on, nested, rooted, leaf_at, new_row}
use Rattle.listing.specs.RowsLemmas.{nested_parts, nested_from, nested_wider, nested_flat, same_records, noted_above}

-- ── a row put in right behind its parent ──
pub records_below : (path : ℕ → ℕ) (low top : ℕ) (rows : List Row) (i n a : ℕ) (r : Row) → nested low top rows ≡ true → i < length rows → records_on path (insert rows (suc i) (new_row n (suc (get_or rows i r).depth) a)) ≡ insert (records_on path rows) (suc i) (fresh n (get_or rows i r).name a)
records_below path low top [] i n a r b h = absurd (omega arith)
records_below path low top (x ∷ xs) zero n a r b h =
    let p = nested_parts low top x xs b in
    let y = new_row n (suc x.depth) a in
    let e : suc x.depth - 1 ≡ x.depth = omega arith in
    let v : noted path x (suc x.depth - 1) ≡ x.name = grind (arith, nat_tests) in
    let t : records_on (noted (noted path x) y) xs ≡ records_on (noted path x) xs = same_records (noted (noted path x) y) (noted path x) (suc x.depth) xs p.2 (noted_above (noted path x) y) in
    cc
records_below path low top (x ∷ xs) (suc i) n a r b h =
    let p = nested_parts low top x xs b in
    ap (λ (rs : List Record). record_of (path (x.depth - 1)) x ∷ rs) (records_below (noted path x) 1 (suc x.depth) xs i n a r p.2 (omega arith))

pub nested_below : (low top : ℕ) (rows : List Row) (i n a : ℕ) (r : Row) → nested low top rows ≡ true → i < length rows → nested low top (insert rows (suc i) (new_row n (suc (get_or rows i r).depth) a)) ≡ true
nested_below low top [] i n a r b h = absurd (omega arith)
nested_below low top (x ∷ xs) zero n a r b h =
    let p = nested_parts low top x xs b in
    let y = new_row n (suc x.depth) a in
    nested_from low top x (y ∷ xs) p.0 p.1
    (nested_from 1 (suc x.depth) y xs (omega arith) (omega arith) (nested_wider 1 (suc x.depth) 1 (suc (suc x.depth)) xs (omega arith) (omega arith) p.2))
nested_below low top (x ∷ xs) (suc i) n a r b h =
    let p = nested_parts low top x xs b in
    nested_from low top x (insert xs (suc i) (new_row n (suc (get_or xs i r).depth) a)) p.0 p.1 (nested_below 1 (suc x.depth) xs i n a r p.2 (omega arith))

pub rooted_below : (rows : List Row) (i : ℕ) (y : Row) → i < length rows → rooted rows ≡ true → rooted (insert rows (suc i) y) ≡ true
rooted_below [] i y h e = absurd (omega arith)
rooted_below (x ∷ xs) i y h e = e

-- ── a leaf taken out ──
pub records_removed : (path : ℕ → ℕ) (low top : ℕ) (rows : List Row) (i : ℕ) → nested low top rows ≡ true → i < length rows → leaf_at rows i ≡ true → records_on path (remove rows i) ≡ remove (records_on path rows) i
records_removed path low top [] i n h l = absurd (omega arith)
records_removed path low top (x ∷ xs) zero n h l =
    let p = nested_parts low top x xs n in
    sym (same_records (noted path x) path x.depth xs (nested_flat 1 (suc x.depth) x.depth xs p.2 l) (noted_above path x))
records_removed path low top (x ∷ xs) (suc i) n h l =
    let p = nested_parts low top x xs n in
    ap (λ (rs : List Record). record_of (path (x.depth - 1)) x ∷ rs) (records_removed (noted path x) 1 (suc x.depth) xs i p.2 (omega arith) l)

pub nested_removed : (low top : ℕ) (rows : List Row) (i : ℕ) → low ≤ 1 → nested low top rows ≡ true → i < length rows → leaf_at rows i ≡ true → nested low top (remove rows i) ≡ true
nested_removed low top [] i o n h l = absurd (omega arith)
nested_removed low top (x ∷ xs) zero o n h l =
    let p = nested_parts low top x xs n in
    nested_wider 1 x.depth low top xs o p.1 (nested_flat 1 (suc x.depth) x.depth xs p.2 l)
nested_removed low top (x ∷ xs) (suc i) o n h l =
    let p = nested_parts low top x xs n in
    nested_from low top x (remove xs i) p.0 p.1 (nested_removed 1 (suc x.depth) xs i (omega arith) p.2 (omega arith) l)

-- the root is a leaf only if it is alone
pub rooted_removed : (rows : List Row) (i : ℕ) → nested 0 0 rows ≡ true → i < length rows → leaf_at rows i ≡ true → rooted rows ≡ true → rooted (remove rows i) ≡ true
rooted_removed [] i n h l e = absurd (omega arith)
rooted_removed (x ∷ []) zero n h l e = refl
rooted_removed (x ∷ y ∷ ys) zero n h l e =
    let p = nested_parts 0 0 x (y ∷ ys) n in
    let q = nested_parts 1 (suc x.depth) y ys p.2 in
    let f = leb-true y.depth x.depth l in
    absurd (omega arith)
rooted_removed (x ∷ xs) (suc i) n h l e = e

-- ── a row tagged ──
-- r with the mark m and the note w
abbrev pub marked : ℕ → ℕ → Row → Row
marked m w r = record { name = r.name; depth = r.depth; label = r.label; mark = m; note = w }

pub records_marked : (path : ℕ → ℕ) (rows : List Row) (i m w : ℕ) (r : Row) (d : Record) → records_on path (set rows i (marked m w (get_or rows i r))) ≡ set (records_on path rows) i (with_tag m w (get_or (records_on path rows) i d))
records_marked path [] i m w r d = refl
records_marked path (x ∷ xs) zero m w r d = refl
records_marked path (x ∷ xs) (suc i) m w r d = ap (λ (rs : List Record). record_of (path (x.depth - 1)) x ∷ rs) (records_marked (noted path x) xs i m w r d)

pub nested_marked : (low top : ℕ) (rows : List Row) (i m w : ℕ) (r : Row) → nested low top (set rows i (marked m w (get_or rows i r))) ≡ nested low top rows
nested_marked low top [] i m w r = refl
nested_marked low top (x ∷ xs) zero m w r = refl
nested_marked low top (x ∷ xs) (suc i) m w r = ap (λ (b : Bool). (leb low x.depth && leb x.depth top) && b) (nested_marked 1 (suc x.depth) xs i m w r)

pub rooted_marked : (rows : List Row) (i m w : ℕ) (r : Row) → rooted (set rows i (marked m w (get_or rows i r))) ≡ rooted rows
rooted_marked [] i m w r = refl
rooted_marked (x ∷ xs) zero m w r = refl
rooted_marked (x ∷ xs) (suc i) m w r = refl
