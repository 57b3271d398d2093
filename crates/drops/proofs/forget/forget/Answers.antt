use Rattle.std.proofs.Common.{map, ap, ◌∙◌}
use Rattle.tree.specs.declared.record.Record.{Record}
use Rattle.tree.specs.Stores.{holding}
use Rattle.drops.proofs.Forgotten.{forgets_listed}
use Rattle.drops.proofs.forget.forget.Goals as goal

pub returns : goal.returns
returns g c =
    let m = g.S.Store.meaning c.args.store.now in
    let all = c.retag_all.ensures.after in
    record { after = all; listed = λ ps h. all ∙ ap (λ (f : Record → Record). holding m (map f m.records)) (forgets_listed c.args.places ps h) }
