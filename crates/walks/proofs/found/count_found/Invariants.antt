use Rattle.std.proofs.Common.{◌≡◌, length}
use Rattle.tree.specs.Walk.{visited, ahead}
use Rattle.walks.proofs.Queries.{names_of, finds}
use Rattle.walks.proofs.found.count_found.Given as goal

abbrev pub invariant-loop-name : goal.invariant-loop-name
invariant-loop-name g l =
    let rs = (g.S.Store.meaning l.store).records in
    l.count ≡ length (names_of (finds rs l.query.top l.query.path) (visited l.last rs))

abbrev pub decreases-loop-name : goal.decreases-loop-name
decreases-loop-name g l = length (ahead l.last (g.S.Store.meaning l.store).records)
