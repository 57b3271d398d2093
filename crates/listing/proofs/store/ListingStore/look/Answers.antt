use Rattle.std.proofs.Common.{Some, vec_items, sym, ap, ◌∙◌}
use Rattle.tree.specs.declared.record.Record.{Record}
use Rattle.tree.specs.Records.{fresh}
use Rattle.tree.proofs.Look.{look_absent}
use Rattle.tree.proofs.Sorting.{has_sorted}
use Rattle.listing.specs.Rows.{listed, records_of, new_row}
use Rattle.listing.specs.Asked.{look_row}
use Rattle.listing.proofs.store.ListingStore.look.Goals as goal

pub returns : goal.returns
returns c =
    let s = c.args.self.now in
    let f = c.in_ok-i.ensures.answer in
    let t = look_row (vec_items s.rows) c.in_ok-i.i c.args.name (new_row 0 0 0) (fresh 0 0 0) f.0 (f.1 (new_row 0 0 0)) s.apart in
    record { answer = ap (λ (r : Record). Some r) (c.record_at.ensures.answer (fresh 0 0 0)) ∙ sym t }

pub returns-in_err-i : goal.returns-in_err-i
returns-in_err-i c =
    let rows = vec_items c.args.self.now.rows in
    record { answer = c.from_residual.ensures ∙ sym (look_absent c.args.name (records_of rows) (has_sorted c.args.name (listed rows) ∙ c.in_err-i.ensures.answer)) }
