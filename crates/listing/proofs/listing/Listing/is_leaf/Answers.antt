use Rattle.std.proofs.Common.{vec_items, sym, ◌∙◌, arith}
use Rattle.std.proofs.lemmas.Bool.{eq-eqb}
use Rattle.listing.proofs.Leaves.{leaf_last, leaf_next}
use Rattle.listing.proofs.listing.Listing.is_leaf.Goals as goal

pub returns-then-index-len : goal.returns-then-index-len
returns-then-index-len c =
    let v = c.args.self.now.rows in
    let e = v.ok.0 in
    record { answer = eq-eqb _ _ c.if-index-len.true ∙ sym (leaf_last (vec_items v) c.args.index (omega arith)) }

pub returns-else-index-len : goal.returns-else-index-len
returns-else-index-len c =
    let v = c.args.self.now.rows in
    let e = v.ok.0 in
    record { answer = sym (leaf_next (vec_items v) c.args.index c.index.result.now c.index-else-index-len.result.now (omega arith) c.index.ensures c.index-else-index-len.ensures) }
