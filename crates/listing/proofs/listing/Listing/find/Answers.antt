use Rattle.std.proofs.Common.{rules, tests, ◌≡◌, ◌≢◌, vec_items}
use Rattle.std.proofs.lemmas.Iterator.{YieldsList-from_slice, IsFirst-from_position}
use Rattle.listing.proofs.Searched.{found_first}
use Rattle.listing.proofs.listing.Listing.find.Goals as goal

pub returns : goal.returns
returns c =
    let n = c.args.name in
    let rows = vec_items c.args.self.now.rows in
    record { answer = found_first rows n c.position.result (IsFirst-from_position _ _ _ (λ y. y.name ≡ n) (λ y. y.name ≢ n) c.position.ensures.ran (YieldsList-from_slice rows (cc)) (λ x q k. search (rules, tests)) (λ x q k. search (rules, tests))) }
