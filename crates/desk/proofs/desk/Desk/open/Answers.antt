use Rattle.std.proofs.Common.{ℕ, None, sym, refl, ap, ◌∙◌, ◌<◌, rules, arith}
use Rattle.std.specs.Int.NonZero.{non_zero_u32_get}
use Rattle.model.specs.Rules.{ticket}
use Rattle.model.specs.Changes.{open_at, opened, next_ticket}
use Rattle.model.specs.Scheduler.{free_place}
use Rattle.model.specs.Refusals.{open_rows}
use Rattle.seats.specs.Places.{seat_at}
use Rattle.desk.specs.States.{state, next_of}
use Rattle.desk.proofs.States.{same_state}
use Rattle.desk.proofs.Rows.{judged}
use Rattle.desk.proofs.Places.{put, next_after}
use Rattle.desk.proofs.desk.Desk.open.Goals as goal

pub returns : goal.returns
returns c rs limit =
    let d = c.args.self.now in
    let m = state rs limit d in
    let p = c.in_ok-place.place in
    let t = non_zero_u32_get c.in_ok-place.ticket in
    let free = c.in_ok-place.ensures.place.0 rs limit in
    let given = c.in_ok-place.ensures.ticket rs limit in
    let fits : next_of c.checked_add-self.result < 4294967296 = search rules in
    let seat = λ (i : ℕ). put (seat_at c.take.new.self i) (seat_at d.seats i) p (free_place m) i c.get.result m.next c.in_ok-place.ensures.place.1 (c.take.ensures i) free (c.get.ensures.value ∙ given) in
    let after = same_state (open_at m (free_place m)) (state rs limit (record d { seats = c.take.new.self; next = c.checked_add-self.result })) refl refl refl
    (ap next_ticket (sym given) ∙ next_after c.checked_add-self.result t (omega arith) fits c.checked_add-self.ensures)
    (λ i. (seat i).0) (λ i. (seat i).1) refl (λ i j. refl) refl in
    let gave = ap ticket (sym given) ∙ ap ticket (sym c.get-2.ensures.value) in
    judged (open_rows m) None m (opened m) (c.in_ok-place.ensures.rows rs limit) ∙ (λ x. (after x, gave x))
