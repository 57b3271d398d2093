use Rattle.std.proofs.Common.{map}
use Rattle.tree.specs.Trees.{nodes}
use Rattle.book.specs.Rows.{lock_of}
use Rattle.rivals.proofs.Rows.{Rivals}
use Rattle.rivals.proofs.rivals.Given as goal

abbrev pub invariant-loop-row : goal.invariant-loop-row
invariant-loop-row g l = Rivals (nodes (g.S.Store.meaning l.store).records) l.claim.place (map lock_of l.claim.locks.now) l.row-items l.row-index l.word
