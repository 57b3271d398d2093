use Rattle.std.proofs.Common.{◌∙◌, rules, tests}
use Rattle.std.proofs.lemmas.Iterator.{YieldsList-from_slice}
use Rattle.std.proofs.lemmas.Iterator.Search.{any_from_yields_List}
use Rattle.tree.specs.Trees.{nodes}
use Rattle.model.specs.Locks.{conflict}
use Rattle.book.specs.Rows.{lock_of}
use Rattle.rivals.proofs.Mapped.{any_mapped}
use Rattle.rivals.proofs.meets.Goals as goal

pub returns : goal.returns
returns g c =
    let f = conflict (nodes (g.S.Store.meaning c.args.store.now).records) (lock_of c.args.held.now) in
    let locks = c.args.locks.now in
    any_from_yields_List (λ l. f (lock_of l)) _ _ _ c.any.ensures.ran (YieldsList-from_slice locks cc) (λ x b q k. search (rules, tests)) ∙ any_mapped f lock_of locks
