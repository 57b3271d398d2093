-- The place of a ticket that sits at one place.
-- Assumes nothing.
use Rattle.std.proofs.Common.{◌≡◌, ℕ, ◌<◌, eqb, sym, refl, ap, ⊎_elim, arith}
use Rattle.std.proofs.lemmas.List.{get_or_past}
use Rattle.std.proofs.lemmas.Bool.{both_ways, cases_lt, eq-eqb, eqb-true}
use Rattle.model.proofs.Tied.{lowest_hit, lowest_miss}
use Rattle.seats.specs.declared.seats.Seat.{Seat}
use Rattle.seats.specs.declared.seats.Seats.{Seats}
use Rattle.seats.specs.Places.{free_seat, ticket_at}
use Rattle.orders.specs.Opened.{OnePlace, place_in}

pub seat_low : (s : Seats) (i : ℕ) → ¬ (ticket_at s i ≡ 0) → i < 32
seat_low s i nz = ⊎_elim (λ lt. lt) (λ ge. let long = s.full in absurd (nz (ap (λ (x : Seat). x.ticket) (get_or_past s.places i free_seat (omega arith))))) (cases_lt i 32)

pub place_back : (s : Seats) → OnePlace s → (i : ℕ) → ¬ (ticket_at s i ≡ 0) → place_in s (ticket_at s i) ≡ i
place_back s one i nz =
    let t = ticket_at s i in
    let hit = lowest_hit (λ j. eqb (ticket_at s j) t) (λ none. both_ways (eqb t t) (lowest_miss (λ j. eqb (ticket_at s j) t) none i (seat_low s i nz)) (eq-eqb t t refl)) in
    sym (one i (place_in s t) (sym (eqb-true (ticket_at s (place_in s t)) t hit.0)) nz)
