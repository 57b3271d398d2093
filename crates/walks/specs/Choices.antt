-- Choices of records. Assumes nothing.
--     chosen_at f o       a record is found, and chosen
use Rattle.std.specs.Prelude.{Bool, false, Some, None, Option}
use Rattle.tree.specs.declared.record.Record.{Record}

abbrev pub chosen_at : (Record → Bool) → Option Record → Bool
chosen_at f None = false
chosen_at f (Some r) = f r
