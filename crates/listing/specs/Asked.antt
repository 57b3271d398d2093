-- What is asked of the rising records is answered by the rows.
use Rattle.std.specs.Prelude.{◌≡◌, ℕ, ◌+◌, ◌<◌, true, List, length, get_or, take, is_some, Some, None, Option, slice_index_or}
use Rattle.std.proofs.Common.{ap, subst, ◌∙◌, arith}
use Rattle.std.proofs.lemmas.List.{take_more}
use Rattle.tree.specs.declared.record.Record.{Record}
use Rattle.tree.specs.Records.{has, look, distinct, fresh}
use Rattle.tree.specs.Calls.{may_place}
use Rattle.tree.proofs.Look.{look_sorted, look_at, has_at, length_sorted}
use Rattle.tree.proofs.Sorting.{has_sorted, nearer, nearest, nearest_push}
use Rattle.listing.specs.declared.row.Row.{Row}
use Rattle.listing.specs.Rows.{listed, records_of, new_row, Found}
use Rattle.listing.specs.RowsLemmas.{length_records, record_at}

pub length_records_of : (rows : List Row) → length (records_of rows) ≡ length rows
length_records_of rows = length_sorted (listed rows) ∙ length_records (λ _. 0) rows

pub may_place_listed : (most n p a : ℕ) (rows : List Row) → may_place most n p a (records_of rows) ≡ may_place most n p a (listed rows)
may_place_listed most n p a rows =
    let u = has_sorted n (listed rows) in
    let v = has_sorted p (listed rows) in
    let w = length_sorted (listed rows) in
    cc

-- the row i, with the name n
module _ (rows : List Row) (i n : ℕ) (r : Row) (d : Record) (h : i < length rows) (e : (get_or rows i r).name ≡ n) where
  pub within_listed : i < length (listed rows)
  within_listed = let t = length_records (λ _. 0) rows in omega arith

  pub name_listed : (get_or (listed rows) i d).name ≡ n
  name_listed = ap (λ (y : Record). y.name) (record_at (λ _. 0) rows i r d h) ∙ e

  pub has_listed : has n (listed rows) ≡ true
  has_listed = subst (λ (k : ℕ). has k (listed rows) ≡ true) name_listed (has_at (listed rows) i d within_listed)

  pub has_row : has n (records_of rows) ≡ true
  has_row = has_sorted n (listed rows) ∙ has_listed

  pub look_row : distinct (listed rows) ≡ true → look n (records_of rows) ≡ Some (slice_index_or (listed rows) i d)
  look_row u =
      look_sorted n (listed rows)
      ∙ subst (λ (k : ℕ). look k (listed rows) ≡ Some (slice_index_or (listed rows) i d)) name_listed (look_at (listed rows) i d u within_listed)

  -- a pass over the rows, one row on
  pub nearest_more : (m : ℕ) → nearest m (take (i + 1) (listed rows)) ≡ nearer m n (nearest m (take i (listed rows)))
  nearest_more m =
      ap (nearest m) (take_more (listed rows) i d within_listed)
      ∙ nearest_push m (take i (listed rows)) (slice_index_or (listed rows) i d)
      ∙ ap (λ (k : ℕ). nearer m k (nearest m (take i (listed rows)))) name_listed

-- what a search by name tells
pub found_has : (rows : List Row) (n : ℕ) (o : Option ℕ) → Found rows n o → has n (listed rows) ≡ is_some o
found_has rows n None f = f
found_has rows n (Some i) f = has_listed rows i n (new_row 0 0 0) (fresh 0 0 0) f.0 (f.1 (new_row 0 0 0))
