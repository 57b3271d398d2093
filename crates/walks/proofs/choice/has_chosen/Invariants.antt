use Rattle.std.proofs.Common.{◌≡◌, false, length}
use Rattle.tree.specs.Lists.{some_of}
use Rattle.tree.specs.Walk.{visited, ahead}
use Rattle.walks.proofs.choice.has_chosen.Given as goal

abbrev pub invariant-loop-name : goal.invariant-loop-name
invariant-loop-name g l = some_of (g.C.Choice.chosen l.choice) (visited l.last ((g.S.Store.meaning l.store).records)) ≡ false

abbrev pub decreases-loop-name : goal.decreases-loop-name
decreases-loop-name g l = length (ahead l.last ((g.S.Store.meaning l.store).records))
