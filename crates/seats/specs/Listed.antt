-- The tickets of a list.
--
--   listed t    the tickets of the list t, in their order
--
-- Assumes nothing.
use Rattle.std.specs.Prelude.{ℕ, List}
use Rattle.seats.specs.declared.tickets.Tickets.{Tickets}
use Rattle.bounded.specs.Items.{items_of}

abbrev pub listed : Tickets → List ℕ
listed t = items_of t.list
