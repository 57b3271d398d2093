use Rattle.std.proofs.Common.{replicate, ⊎_elim, arith}
use Rattle.std.proofs.lemmas.List.{get_or-replicate, get_or_past}
use Rattle.std.proofs.lemmas.Bool.{cases_lt}
use Rattle.seats.specs.Places.{free_seat}
use Rattle.seats.proofs.seats.Seats.new.Goals as goal

pub returns : goal.returns
returns c i =
    ⊎_elim (λ lt. get_or-replicate 32 i free_seat free_seat lt) (λ ge. get_or_past (replicate 32 free_seat) i free_seat (omega arith)) (cases_lt i 32)
