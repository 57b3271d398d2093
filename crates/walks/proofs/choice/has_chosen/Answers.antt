use Rattle.std.proofs.Common.{sym, ap, ◌∙◌}
use Rattle.tree.specs.Lists.{some_of}
use Rattle.tree.proofs.Visits.{visited_none, visited_end, ahead_falls}
use Rattle.walks.proofs.Chosen.{chosen_some, none_step}
use Rattle.walks.proofs.choice.has_chosen.Goals as goal

pub loop-name-init : goal.loop-name-init
loop-name-init g c = ap (some_of (g.C.Choice.chosen c.args.choice.now)) (visited_none ((g.S.Store.meaning c.args.store.now).records))

pub returns-then-chosen_at : goal.returns-then-chosen_at
returns-then-chosen_at g c = sym (chosen_some (g.C.Choice.chosen c.args.choice.now) c.in-Some.name ((g.S.Store.meaning c.args.store.now).records) (sym c.chosen_at.ensures ∙ c.if-chosen_at.true))

pub loop-name-smaller : goal.loop-name-smaller
loop-name-smaller g c =
    let s = c.args.store.now in
    ahead_falls c.loop-name.last c.in-Some.name ((g.S.Store.meaning s).records) (g.met.S.Store.rising s) (sym c.following.ensures.answer ∙ c.in-Some.is)

pub loop-name-preserved : goal.loop-name-preserved
loop-name-preserved g c =
    let s = c.args.store.now in
    none_step (g.C.Choice.chosen c.args.choice.now) c.loop-name.last c.in-Some.name ((g.S.Store.meaning s).records) (g.met.S.Store.rising s) (sym c.following.ensures.answer ∙ c.in-Some.is) c.loop-name.invariant (sym c.chosen_at.ensures ∙ c.if-chosen_at.false)

pub returns : goal.returns
returns g c =
    let s = c.args.store.now in
    sym (sym (ap (some_of (g.C.Choice.chosen c.args.choice.now)) (visited_end c.loop-name.last ((g.S.Store.meaning s).records) (sym c.following.ensures.answer ∙ c.in_default.is))) ∙ c.loop-name.invariant)
