use Rattle.std.proofs.Common.{length}
use Rattle.tree.specs.Walk.{ahead}
use Rattle.walks.specs.Hits.{hit_names}
use Rattle.walks.proofs.FoundSoFar.{Found}
use Rattle.walks.proofs.hits.Hits.find.Given as goal

abbrev pub invariant-loop-name : goal.invariant-loop-name
invariant-loop-name g l = Found ((g.S.Store.meaning l.store).records) l.query.top l.query.path l.last (hit_names l.self)

abbrev pub decreases-loop-name : goal.decreases-loop-name
decreases-loop-name g l = length (ahead l.last ((g.S.Store.meaning l.store).records))
