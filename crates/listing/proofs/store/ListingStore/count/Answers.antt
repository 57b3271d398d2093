use Rattle.std.proofs.Common.{vec_items, arith}
use Rattle.listing.specs.Asked.{length_records_of}
use Rattle.listing.proofs.store.ListingStore.count.Goals as goal

pub returns : goal.returns
returns c =
    let s = c.args.self.now in
    let e = s.rows.ok.0 in
    let l = length_records_of (vec_items s.rows) in
    record { answer = omega arith }
