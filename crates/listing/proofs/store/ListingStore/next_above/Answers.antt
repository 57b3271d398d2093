use Rattle.std.proofs.Common.{rules, vec_items}
use Rattle.listing.proofs.Searched.{next_least}
use Rattle.listing.proofs.store.ListingStore.next_above.Goals as goal

pub returns : goal.returns
returns c =
    let s = c.args.self.now in
    let t = next_least c.args.name (vec_items s.rows) s.apart in
    search rules
