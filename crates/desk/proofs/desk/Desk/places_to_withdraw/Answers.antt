use Rattle.std.proofs.Common.{◌≡◌, ℕ, ◌<◌, ◌≤◌, ltb, List, [], ◌∷◌, map, length, sym, ap, ◌∙◌, arith}
use Rattle.std.proofs.lemmas.Bool.{lt-ltb, le-ltb}
use Rattle.words.specs.Words.{bit}
use Rattle.tree.specs.declared.record.Record.{Record}
use Rattle.model.specs.Numbers.{member}
use Rattle.model.specs.Arrows.{reached}
use Rattle.model.specs.Scheduler.{place_of}
use Rattle.model.specs.Changes.{falling, fallen}
use Rattle.model.specs.Refusals.{ticket_rows}
use Rattle.model.proofs.Lists.{map_length}
use Rattle.model.proofs.Order.{sorted_length}
use Rattle.seats.proofs.Reach.{reached_distinct}
use Rattle.desk.specs.States.{state}
use Rattle.desk.proofs.States.{low_and}
use Rattle.desk.proofs.Rows.{row_here, row_past, rows_past}
use Rattle.desk.proofs.desk.Desk.places_to_withdraw.Goals.{After-count}
use Rattle.desk.proofs.desk.Desk.places_to_withdraw.Goals as goal

-- as many tickets fall as places are counted
counted : (c : After-count) (rs : List Record) (limit : ℕ) → c.count.result ≡ length (fallen (state rs limit c.args.self.now) c.args.ticket)
counted c rs limit =
    let m = state rs limit c.args.self.now in
    let p = c.in_ok-place.place in
    let at = c.in_ok-place.ensures.place in
    let bits : (q : ℕ) → bit c.reach-places.result q ≡ member q (falling m c.args.ticket) =
    λ q. c.reach-places.ensures q ∙ (low_and p (member q (reached m.arrows p)) at.1 ∙ ap (λ (i : ℕ). member q (reached m.arrows i)) (at.0 rs limit)) in
    c.count.ensures (falling m c.args.ticket) (reached_distinct m.arrows (place_of m c.args.ticket)) bits
    ∙ sym (sorted_length (map m.tickets (falling m c.args.ticket)) ∙ map_length m.tickets (falling m c.args.ticket))

pub returns-then-room-count-clause-rows : goal.returns-then-room-count-clause-rows
returns-then-room-count-clause-rows c rs limit =
    let m = state rs limit c.args.self.now in
    let t = c.args.ticket in
    let count = counted (goal.at.returns-then-room-count-clause-rows c).After-count rs limit in
    let less = c.if-room-count.true in
    let short : c.args.room < length (fallen m t) = omega arith in
    rows_past (ticket_rows m t) ((ltb c.args.room (length (fallen m t)), 8) ∷ []) (c.in_ok-place.ensures.rows rs limit)
    ∙ row_here (ltb c.args.room (length (fallen m t))) 8 [] (lt-ltb c.args.room (length (fallen m t)) short)

pub returns-clause-rows : goal.returns-clause-rows
returns-clause-rows c rs limit =
    let m = state rs limit c.args.self.now in
    let t = c.args.ticket in
    let count = counted (goal.at.returns-clause-rows c).After-count rs limit in
    let enough = c.if-room-count.false in
    let fits : length (fallen m t) ≤ c.args.room = omega arith in
    rows_past (ticket_rows m t) ((ltb c.args.room (length (fallen m t)), 8) ∷ []) (c.in_ok-place.ensures.rows rs limit)
    ∙ row_past (ltb c.args.room (length (fallen m t))) 8 [] (le-ltb c.args.room (length (fallen m t)) fits)
