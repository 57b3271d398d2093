use Rattle.std.proofs.Common.{vec_items, arith}
use Rattle.listing.proofs.Kept.{well_empty}
use Rattle.listing.proofs.make.ListingMade.new.Goals as goal

pub invariant_of-result : goal.invariant_of-result
invariant_of-result c =
    let k = c.in_ok-rows.ensures in
    let w = well_empty c.min-limit.result (vec_items c.in_ok-rows.rows) k.items in
    let l = c.min-limit.ensures in
    record { nests = w.nests; roots = w.roots; apart = w.apart; tree = w.sound.tree; labels = w.sound.labels; within = omega arith; room = omega arith; small = omega arith }
