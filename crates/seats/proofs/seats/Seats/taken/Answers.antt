use Rattle.std.proofs.Common.{◌-◌, Bool, not, ◌&&◌, eqb, sym, ap, ◌∙◌, ⊎_elim, arith}
use Rattle.std.proofs.lemmas.List.{get_or_past}
use Rattle.std.proofs.lemmas.Bool.{cases_lt, lt-ltb}
use Rattle.words.proofs.Bits.{bit_flip, bit_past}
use Rattle.seats.specs.declared.seats.Seat.{Seat}
use Rattle.seats.specs.Places.{free_seat, ticket_at}
use Rattle.seats.proofs.seats.Seats.taken.Goals as goal

pub returns : goal.returns
returns c i =
    let s = c.args.self.now in
    let long = s.full in
    let free = c.places_with.result in
    ⊎_elim
    (λ low. bit_flip free i (omega arith) low ∙ ap not (c.places_with.ensures i ∙ ap (λ (b : Bool). b && eqb (ticket_at s i) 0) (lt-ltb i 32 low)))
    (λ high. bit_past (4294967295 - free) 32 i (omega arith) high ∙ sym (ap (λ (x : Seat). not (eqb x.ticket 0)) (get_or_past s.places i free_seat (omega arith))))
    (cases_lt i 32)
