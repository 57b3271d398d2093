use Rattle.std.proofs.Common.{◌≡◌, false, vec_items, sym, ap, ◌∙◌}
use Rattle.std.proofs.lemmas.Bool.{cond-false}
use Rattle.tree.specs.Records.{has, fresh}
use Rattle.tree.specs.Calls.{answer_of}
use Rattle.tree.proofs.Sorting.{has_sorted}
use Rattle.listing.specs.Rows.{listed, records_of}
use Rattle.listing.specs.Asked.{has_row}
use Rattle.listing.proofs.Kept.{with_limit, well, records_tagged, well_tagged}
use Rattle.listing.proofs.store.ListingStore.tag.Goals as goal

pub returns-in_default : goal.returns-in_default
returns-in_default c =
    let rows = vec_items c.args.self.now.rows in
    let f : has c.args.name (records_of rows) ≡ false = has_sorted c.args.name (listed rows) ∙ c.in_default.ensures.answer in
    record { answer = sym (ap answer_of f); after = ap (with_limit c.args.self.now.limit) (sym (cond-false _ _ _ f)) }

pub invariant_of-self : goal.invariant_of-self
invariant_of-self c =
    let s = c.args.self.now in
    let f = c.in-Some.ensures.answer in
    let r = c.index-row.result.now in
    let w = well_tagged s.limit c.args.name c.args.mark c.args.note c.in-Some.i (vec_items s.rows) r (well s) f.0 c.index-row.ensures (f.1 r) in
    record { nests = w.nests; roots = w.roots; apart = w.apart; tree = w.sound.tree; labels = w.sound.labels; within = s.within; room = s.room; small = s.small }

pub returns : goal.returns
returns c =
    let s = c.args.self.now in
    let rows = vec_items s.rows in
    let f = c.in-Some.ensures.answer in
    let r = c.index-row.result.now in
    let there = has_row rows c.in-Some.i c.args.name r (fresh 0 0 0) f.0 (f.1 r) in
    record {
      answer = sym (ap answer_of there);
      after = ap (with_limit s.limit) (records_tagged s.limit c.args.name c.args.mark c.args.note c.in-Some.i rows r (well s) f.0 c.index-row.ensures (f.1 r));
    }
