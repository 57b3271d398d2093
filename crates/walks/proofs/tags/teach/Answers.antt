use Rattle.std.proofs.Common.{ℕ, List, get_or, refl, ap, ◌∙◌, take, take_all}
use Rattle.tree.specs.Stores.{holding}
use Rattle.walks.specs.Changes.{learns_at}
use Rattle.walks.proofs.Tagged.{changed_at, holding_on, changed_in, changed_in_none, changed_in_more, learns_twice}
use Rattle.walks.proofs.tags.teach.Goals as goal

pub loop-name-init : goal.loop-name-init
loop-name-init g c =
    let m = g.S.Store.meaning c.args.store.now in
    ap (holding m) (changed_in_none (learns_at c.args.place) m.records)

pub loop-name-preserved : goal.loop-name-preserved
loop-name-preserved g c =
    let m = g.S.Store.meaning c.args.store.now in
    let f = learns_at c.args.place in
    let names = c.args.names.now in
    let k = c.loop-name.name-index in
    holding_on m (g.S.Store.meaning c.loop-name.store) (g.S.Store.meaning c.retag.new.store) (changed_in (take k names) f m.records) (changed_at (get_or names k 0) f) c.loop-name.invariant c.retag.ensures.after
    ∙ ap (holding m) (changed_in_more f (λ r. refl) (learns_twice c.args.place) k names m.records c.loop-name-test.true)

pub returns : goal.returns
returns g c =
    let m = g.S.Store.meaning c.args.store.now in
    record { after = c.loop-name.invariant ∙ ap (λ (ns : List ℕ). holding m (changed_in ns (learns_at c.args.place) m.records)) (take_all c.loop-name.name-index c.args.names.now c.loop-name-test.false) }
