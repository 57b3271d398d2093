use Rattle.std.proofs.Common.{ℕ, vec_items, ap, ◌∙◌, arith}
use Rattle.listing.specs.Rows.{record_of}
use Rattle.listing.specs.RowsLemmas.{record_read}
use Rattle.listing.proofs.listing.Listing.record_at.Goals as goal

pub returns : goal.returns
returns c =
    let v = c.args.self.now.rows in
    let e = v.ok.0 in
    let r = c.index-row.result.now in
    record { answer = λ d. ap (λ (p : ℕ). record_of p r) c.parent_of-parent.ensures.answer ∙ record_read (λ _. 0) (vec_items v) c.args.index r d (omega arith) c.index-row.ensures }
