-- Dropping what is chosen. Assumes nothing.
--     left_by f rs        the records that the choice f leaves
--     Downward f rs       where a record is chosen, so are its children
--     may_drop f n rs     the record n is there, it is chosen, and no other record has it as its parent
--     Dropped f rs ss b   what is dropped from rs to leave ss was chosen; b says whether any was, and where none was,
--                         each chosen record is another's parent
--     Drops f m n         of a store that meant m and then means n, what is chosen is dropped, where the children of a chosen record
--                         are chosen; the limit stays in any case
use Rattle.std.specs.Prelude.{◌≡◌, ℕ, ◌<◌, Bool, true, false, not, ◌&&◌, List, length}
use Rattle.tree.specs.declared.record.Record.{Record}
use Rattle.tree.specs.Lists.{In, keep}
use Rattle.tree.specs.Records.{look, child_of, is_parent}
use Rattle.tree.specs.Stores.{Meaning, holding}
use Rattle.walks.specs.Choices.{chosen_at}

abbrev pub left_by : (Record → Bool) → List Record → List Record
left_by f rs = keep (λ r. not (f r)) rs

abbrev pub Downward : (Record → Bool) → List Record → Type 0
Downward f rs = (r c : Record) → In r rs → In c rs → f r ≡ true → child_of r.name c ≡ true → f c ≡ true

abbrev pub may_drop : (Record → Bool) → ℕ → List Record → Bool
may_drop f n rs = chosen_at f (look n rs) && not (is_parent n rs)

pub record Dropped (f : Record → Bool) (rs ss : List Record) (b : Bool) : Type 0 where
  pub left : left_by f ss ≡ left_by f rs
  pub from : (r : Record) → In r ss → In r rs
  pub fewer : b ≡ true → length ss < length rs
  pub none : b ≡ false → (r : Record) → In r ss → f r ≡ true → is_parent r.name ss ≡ true

pub record Drops (f : Record → Bool) (m n : Meaning) : Type 0 where
  pub left : Downward f m.records → n ≡ holding m (left_by f m.records)
  pub same : n.most ≡ m.most
