-- The walk over all records in rising order. Assumes nothing.
--     passed last r           the walk has come past the record r: its name is at most last; None: the walk has not begun
--     first_name rs           the least name of all, or none, where rs rises
--     name_after last rs      the least name that the walk has not come past
--     visited last rs         the records that it has come past
--     ahead last rs           those that it has not
use Rattle.std.specs.Prelude.{ℕ, Bool, false, not, List, [], ◌∷◌, Some, None, Option, nat_le}
use Rattle.tree.specs.declared.record.Record.{Record}
use Rattle.tree.specs.Lists.{keep}
use Rattle.tree.specs.Records.{next_name}

abbrev pub first_name : List Record → Option ℕ
first_name [] = None
first_name (r ∷ rs) = Some r.name

abbrev pub name_after : Option ℕ → List Record → Option ℕ
name_after None rs = first_name rs
name_after (Some n) rs = next_name n rs

abbrev pub passed : Option ℕ → Record → Bool
passed None r = false
passed (Some n) r = nat_le r.name n

abbrev pub visited : Option ℕ → List Record → List Record
visited last rs = keep (passed last) rs

abbrev pub ahead : Option ℕ → List Record → List Record
ahead last rs = keep (λ r. not (passed last r)) rs
