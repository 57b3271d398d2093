use Rattle.std.proofs.Common.{◌≡◌, length}
use Rattle.tree.specs.Stores.{holding}
use Rattle.tree.specs.Walk.{ahead}
use Rattle.drops.proofs.Changing.{changed}
use Rattle.drops.proofs.retag.retag_all.Given as goal

abbrev pub invariant-loop-name : goal.invariant-loop-name
invariant-loop-name g l =
    let m = g.S.Store.meaning l.initial.store in
    g.S.Store.meaning l.store ≡ holding m (changed l.last (g.C.Change.changed l.change) m.records)

abbrev pub decreases-loop-name : goal.decreases-loop-name
decreases-loop-name g l = length (ahead l.last (g.S.Store.meaning l.initial.store).records)
