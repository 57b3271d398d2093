use Rattle.std.proofs.Common.{rules, tests, eqb, take, ◌-◌, vec_items}
use Rattle.std.proofs.lemmas.Iterator.Adapters.{YieldsList-from_rev_slice}
use Rattle.std.proofs.lemmas.Iterator.Search.{find_from_yields_List}
use Rattle.listing.proofs.Searched.{path_found}
use Rattle.listing.proofs.listing.Listing.parent_of.Goals as goal

pub returns : goal.returns
returns c =
    let rows = take c.args.index (vec_items c.args.self.now.rows) in
    let d = c.args.depth - 1 in
    let f = find_from_yields_List (λ r. eqb r.depth d) _ _ _ c.find.ensures.ran (YieldsList-from_rev_slice rows (cc)) (λ x b q k. search (rules, tests)) in
    let t = path_found (λ _. 0) rows d in
    search rules
