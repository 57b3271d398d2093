use Rattle.std.proofs.Common.{◌≡◌, ℕ, cond, ◌&&◌, ltb, length, slice_index_or}
use Rattle.words.specs.Words.{bit}
use Rattle.seats.specs.Places.{free_seat, seat_at}
use Rattle.seats.proofs.seats.Seats.vacate.Given as goal

abbrev pub invariant-loop-place : goal.invariant-loop-place
invariant-loop-place l =
    (length l.seat-items ≡ 32)
    × ((i : ℕ) → slice_index_or l.seat-items i free_seat ≡ cond (ltb i l.place && bit l.places i) free_seat (seat_at l.fn.self i))
