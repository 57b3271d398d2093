use Rattle.std.proofs.Common.{rules, vec_items}
use Rattle.tree.proofs.Seats.{next_at_seat, next_past_seat}
use Rattle.linked.proofs.store.LinkedStore.next_above.Goals as goal

pub returns : goal.returns
returns c =
    let rs = vec_items c.args.self.now.rows in
    let a = next_at_seat c.args.name rs in
    let b = next_past_seat c.args.name rs in
    search rules
