use Rattle.std.proofs.Common.{◌≡◌, length}
use Rattle.tree.specs.Walk.{ahead}
use Rattle.drops.proofs.Dropping.{Dropping}
use Rattle.drops.proofs.passes.drop_leaves.Given as goal

abbrev pub invariant-loop-name : goal.invariant-loop-name
invariant-loop-name g l =
    Dropping (g.C.Choice.chosen l.choice) (g.S.Store.meaning l.initial.store).records (g.S.Store.meaning l.store).records l.last l.any
    × ((g.S.Store.meaning l.store).most ≡ (g.S.Store.meaning l.initial.store).most)

abbrev pub decreases-loop-name : goal.decreases-loop-name
decreases-loop-name g l = length (ahead l.last (g.S.Store.meaning l.store).records)
