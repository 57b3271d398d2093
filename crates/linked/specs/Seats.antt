-- Where a name is found in rows that rise by name. Assumes nothing.
--     found n rs      Ok: the seat of the record n; Err: the seat that it would take
use Rattle.std.specs.Prelude.{ℕ, cond, List, Ok, Err, Result}
use Rattle.tree.specs.declared.record.Record.{Record}
use Rattle.tree.specs.Records.{has, seat}

abbrev pub found : ℕ → List Record → Result ℕ ℕ
found n rs = cond (has n rs) (Ok (seat n rs)) (Err (seat n rs))
