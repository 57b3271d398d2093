use Rattle.std.proofs.Common.{sym, ap, ◌∙◌}
use Rattle.tree.specs.Stores.{holding}
use Rattle.tree.proofs.Visits.{ahead_falls}
use Rattle.walks.proofs.Tagged.{changed_at, holding_on}
use Rattle.drops.proofs.Changing.{changed, changed_none, changed_next, changed_step, changed_all}
use Rattle.drops.proofs.retag.retag_all.Goals as goal

pub loop-name-init : goal.loop-name-init
loop-name-init g c =
    let m = g.S.Store.meaning c.args.store.now in
    let f = g.C.Change.changed c.args.change.now in
    ap (holding m) (changed_none f (g.met.C.Change.keeps c.args.change.now) m.records)

pub loop-name-smaller : goal.loop-name-smaller
loop-name-smaller g c =
    let s = c.args.store.now in
    let m = g.S.Store.meaning s in
    let f = g.C.Change.changed c.args.change.now in
    let keeps = g.met.C.Change.keeps c.args.change.now in
    let last = c.loop-name.last in
    ahead_falls last c.in-Some.name m.records (g.met.S.Store.rising s)
    (changed_next f keeps last m (g.S.Store.meaning c.loop-name.store) c.loop-name.invariant ∙ (sym c.following.ensures.answer ∙ c.in-Some.is))

pub loop-name-preserved : goal.loop-name-preserved
loop-name-preserved g c =
    let s = c.args.store.now in
    let m = g.S.Store.meaning s in
    let t = g.S.Store.meaning c.loop-name.store in
    let f = g.C.Change.changed c.args.change.now in
    let keeps = g.met.C.Change.keeps c.args.change.now in
    let last = c.loop-name.last in
    let k = c.in-Some.name in
    holding_on m t (g.S.Store.meaning c.retag.new.store) (changed last f m.records) (changed_at k f) c.loop-name.invariant c.retag.ensures.after
    ∙ ap (holding m) (changed_step f keeps last k m.records (g.met.S.Store.rising s) (changed_next f keeps last m t c.loop-name.invariant ∙ (sym c.following.ensures.answer ∙ c.in-Some.is)))

pub returns : goal.returns
returns g c =
    let m = g.S.Store.meaning c.args.store.now in
    let t = g.S.Store.meaning c.loop-name.store in
    let f = g.C.Change.changed c.args.change.now in
    let keeps = g.met.C.Change.keeps c.args.change.now in
    let last = c.loop-name.last in
    record { after = c.loop-name.invariant ∙ ap (holding m) (changed_all f keeps last m.records (changed_next f keeps last m t c.loop-name.invariant ∙ (sym c.following.ensures.answer ∙ c.in_default.is))) }
