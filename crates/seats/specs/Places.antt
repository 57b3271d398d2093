-- What the places hold.
--
--   free_seat        what stands at a free place
--   seat_at s i      what stands at the place i; no place is as a free one
--   ticket_at s i    the ticket at the place i, 0 where it is free or no place
--   added_at s i     how many additions were accepted of the ticket at the place i
--   counted_up x     the seat x after one accepted addition more, up to 65535
--
-- Assumes nothing.
use Rattle.std.specs.Prelude.{ℕ, suc, cond, nat_lt, slice_index_or}
use Rattle.seats.specs.declared.seats.Seat.{Seat}
use Rattle.seats.specs.declared.seats.Seats.{Seats}

abbrev pub free_seat : Seat
free_seat = record { ticket = 0; added = 0 }

abbrev pub seat_at : Seats → ℕ → Seat
seat_at s i = slice_index_or s.places i free_seat

abbrev pub ticket_at : Seats → ℕ → ℕ
ticket_at s i = (seat_at s i).ticket

abbrev pub added_at : Seats → ℕ → ℕ
added_at s i = (seat_at s i).added

abbrev pub counted_up : Seat → Seat
counted_up x = record x { added = cond (nat_lt x.added 65535) (suc x.added) x.added }
