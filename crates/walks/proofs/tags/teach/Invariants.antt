use Rattle.std.proofs.Common.{◌≡◌, take}
use Rattle.tree.specs.Stores.{holding}
use Rattle.walks.specs.Changes.{learns_at}
use Rattle.walks.proofs.Tagged.{changed_in}
use Rattle.walks.proofs.tags.teach.Given as goal

abbrev pub invariant-loop-name : goal.invariant-loop-name
invariant-loop-name g l =
    let m = g.S.Store.meaning l.initial.store in
    g.S.Store.meaning l.store ≡ holding m (changed_in (take l.name-index l.names) (learns_at l.place) m.records)
