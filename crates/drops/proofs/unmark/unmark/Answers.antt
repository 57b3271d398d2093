use Rattle.std.proofs.Common.{map, ap, ◌∙◌}
use Rattle.tree.specs.declared.record.Record.{Record}
use Rattle.tree.specs.Stores.{holding}
use Rattle.drops.proofs.Changing.{unmarked_is}
use Rattle.drops.proofs.unmark.unmark.Goals as goal

pub returns : goal.returns
returns g c =
    let m = g.S.Store.meaning c.args.store.now in
    record { after = c.retag_all.ensures.after ∙ ap (λ (f : Record → Record). holding m (map f m.records)) (unmarked_is c.args.tickets.now) }
