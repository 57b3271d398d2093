-- Rows in preorder with their depths, and the records that they are. A path gives for each depth the name of the last row so far
-- at that depth. Assumes nothing.
--     record_of p r           the record of the row r, with the parent p
--     noted path r            the path with the row r: at r's depth it has r's name
--     path_on path rows       the path with each of rows, in their order
--     records_on path rows    the records of rows on that path: a row's parent is the nearest earlier row one level up
--     listed rows             the records of all rows, in their order; the first row, at depth 0, is the root 0, its own parent
--     records_of rows         what rows mean: their records, rising by name
--     nested low top rows     the first depth is between low and top, and each later one between 1 and one more than that before it
--     rooted rows             the first row is the root 0
--     flat d rows             the first row is not deeper than d
--     leaf_at rows i          the row i is the last, or the next one is not deeper
--     new_row n d a           a row as it is placed: name n, depth d, label a, mark 0, note 0
--     Found rows n o          o is the place of the row n, or none where no record has the name n
--     Seated rows n p i d     i is the place and d the depth of a new row n below p: right behind p's row and one level down,
--                             or first of all, where n and p are the root 0
--     SeatFor rows n p o      o is that seat, or none where p is not there and n is not the first root
use Rattle.std.specs.Prelude.{◌≡◌, ℕ, zero, suc, ◌+◌, ◌-◌, ◌<◌, Bool, true, false, cond, ◌&&◌, ◌||◌, List, [], ◌∷◌, length, get_or, Option, MatchOption, ◌==◌, nat_le, slice_index_or}
use Rattle.tree.specs.declared.record.Record.{Record}
use Rattle.tree.specs.Records.{has, sorted}
use Rattle.tree.specs.Calls.{first_root}
use Rattle.listing.specs.declared.row.Row.{Row}
use Rattle.listing.specs.declared.row.Seat.{Seat}

abbrev pub record_of : ℕ → Row → Record
record_of p r = record { name = r.name; parent = p; label = r.label; mark = r.mark; note = r.note }

abbrev pub noted : (ℕ → ℕ) → Row → ℕ → ℕ
noted path r d = cond (d == r.depth) r.name (path d)

abbrev pub path_on : (ℕ → ℕ) → List Row → ℕ → ℕ
path_on path [] = path
path_on path (r ∷ rs) = path_on (noted path r) rs

abbrev pub records_on : (ℕ → ℕ) → List Row → List Record
records_on path [] = []
records_on path (r ∷ rs) = record_of (path (r.depth - 1)) r ∷ records_on (noted path r) rs

abbrev pub listed : List Row → List Record
listed rows = records_on (λ _. 0) rows

abbrev pub records_of : List Row → List Record
records_of rows = sorted (listed rows)

abbrev pub nested : ℕ → ℕ → List Row → Bool
nested low top [] = true
nested low top (r ∷ rs) = (nat_le low r.depth && nat_le r.depth top) && nested 1 (suc r.depth) rs

abbrev pub rooted : List Row → Bool
rooted [] = true
rooted (r ∷ rs) = r.name == 0

abbrev pub flat : ℕ → List Row → Bool
flat d [] = true
flat d (r ∷ rs) = nat_le r.depth d

abbrev pub leaf_at : List Row → ℕ → Bool
leaf_at [] i = true
leaf_at (r ∷ rs) zero = flat r.depth rs
leaf_at (r ∷ rs) (suc i) = leaf_at rs i

abbrev pub new_row : ℕ → ℕ → ℕ → Row
new_row n d a = record { name = n; depth = d; label = a; mark = 0; note = 0 }

abbrev pub Found : List Row → ℕ → Option ℕ → Type 0
Found rows n o = MatchOption o (has n (listed rows) ≡ false) (λ i. (i < length rows) × ((r : Row) → (get_or rows i r).name ≡ n))

pub data Seated (rows : List Row) (n p : ℕ) : ℕ → ℕ → Type 0 where
  first : rows ≡ [] → n ≡ 0 → p ≡ 0 → Seated rows n p 0 0
  behind : (k : ℕ) (r : Row) → k < length rows → r ≡ slice_index_or rows k r → r.name ≡ p → Seated rows n p (k + 1) (r.depth + 1)

abbrev pub SeatFor : List Row → ℕ → ℕ → Option Seat → Type 0
SeatFor rows n p o = MatchOption o ((has p (listed rows) || first_root n p (listed rows)) ≡ false) (λ s. Seated rows n p s.index s.depth)
