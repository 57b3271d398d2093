use Rattle.std.proofs.Common.{◌≡◌, length}
use Rattle.tree.specs.declared.record.Record.{Record}
use Rattle.tree.specs.Lists.{In}
use Rattle.drops.specs.Doomed.{left_by}
use Rattle.drops.proofs.passes.drop_all.Given as goal

abbrev pub invariant-loop : goal.invariant-loop
invariant-loop g l =
    (left_by (g.C.Choice.chosen l.choice) (g.S.Store.meaning l.store).records ≡ left_by (g.C.Choice.chosen l.choice) (g.S.Store.meaning l.initial.store).records)
    × ((r : Record) → In r (g.S.Store.meaning l.store).records → In r (g.S.Store.meaning l.initial.store).records)
    × ((g.S.Store.meaning l.store).most ≡ (g.S.Store.meaning l.initial.store).most)

abbrev pub decreases-loop : goal.decreases-loop
decreases-loop g l = length (g.S.Store.meaning l.store).records
