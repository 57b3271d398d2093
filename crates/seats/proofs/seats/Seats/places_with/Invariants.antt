use Rattle.std.proofs.Common.{◌≡◌, ℕ, ◌&&◌, eqb, ltb}
use Rattle.words.specs.Words.{bit}
use Rattle.seats.specs.Places.{ticket_at}
use Rattle.seats.proofs.seats.Seats.places_with.Given as goal

abbrev pub invariant-loop-place : goal.invariant-loop-place
invariant-loop-place l = (i : ℕ) → bit l.word i ≡ (ltb i l.place && eqb (ticket_at l.self i) l.ticket)
