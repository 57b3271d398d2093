use Rattle.std.proofs.Common.{refl, ◌∙◌}
use Rattle.drops.specs.Doomed.{left_by}
use Rattle.drops.proofs.Dropping.{held, all_dropped}
use Rattle.drops.proofs.passes.drop_all.Goals as goal

pub loop-init : goal.loop-init
loop-init g c = (refl, (λ r i. i), refl)

pub loop-smaller : goal.loop-smaller
loop-smaller g c = c.drop_leaves.ensures.after.fewer c.loop-test.true

pub loop-preserved : goal.loop-preserved
loop-preserved g c = (
  c.drop_leaves.ensures.after.left ∙ c.loop.invariant.0,
  (λ r i. c.loop.invariant.1 r (c.drop_leaves.ensures.after.from r i)),
  c.drop_leaves.ensures.same ∙ c.loop.invariant.2,
)

pub returns : goal.returns
returns g c =
    let f = g.C.Choice.chosen c.args.choice.now in
    let m = g.S.Store.meaning c.args.store.now in
    let t = c.drop_leaves.new.store in
    let n = g.S.Store.meaning t in
    let d = c.drop_leaves.ensures.after in
    let most = c.drop_leaves.ensures.same ∙ c.loop.invariant.2 in
    let all = all_dropped f m.records n.records (g.met.S.Store.rising t) (g.met.S.Store.tree t) (d.left ∙ c.loop.invariant.0) (λ r i. c.loop.invariant.1 r (d.from r i)) (d.none c.loop-test.false) in
    record { left = λ down. held m n (left_by f m.records) (all down) most; same = most }
