use Rattle.std.proofs.Common.{◌≡◌, true, false, not, vec_items, sym, ap, ◌∙◌, arith}
use Rattle.std.proofs.lemmas.Bool.{cond-false, and_left}
use Rattle.tree.specs.Records.{has, is_parent}
use Rattle.tree.specs.Calls.{answer_of, may_discard}
use Rattle.tree.proofs.Sorting.{has_sorted}
use Rattle.listing.specs.Rows.{listed, records_of, leaf_at, new_row}
use Rattle.listing.proofs.Kept.{with_limit, well, may_discard_leaf, records_without, well_without}
use Rattle.listing.proofs.store.ListingStore.discard.Goals as goal

pub returns-in_default : goal.returns-in_default
returns-in_default c =
    let rows = vec_items c.args.self.now.rows in
    let n = c.args.name in
    let f : may_discard n (records_of rows) ≡ false = and_left (has n (records_of rows)) (not (is_parent n (records_of rows))) (has_sorted n (listed rows) ∙ c.in_default.ensures.answer) in
    record { answer = sym (ap answer_of f); after = ap (with_limit c.args.self.now.limit) (sym (cond-false _ _ _ f)) }

pub returns-then-not-is_leaf : goal.returns-then-not-is_leaf
returns-then-not-is_leaf c =
    let s = c.args.self.now in
    let rows = vec_items s.rows in
    let f = c.in-Some.ensures.answer in
    let t = may_discard_leaf s.limit c.args.name c.in-Some.i rows (new_row 0 0 0) (well s) f.0 (f.1 (new_row 0 0 0)) in
    let g : may_discard c.args.name (records_of rows) ≡ false = cc in
    record { answer = sym (ap answer_of g); after = ap (with_limit c.args.self.now.limit) (sym (cond-false _ _ _ g)) }

pub invariant_of-self : goal.invariant_of-self
invariant_of-self c =
    let s = c.args.self.now in
    let rows = vec_items s.rows in
    let i = c.in-Some.i in
    let e = s.rows.ok.0 in
    let f = c.in-Some.ensures.answer in
    let leaf : leaf_at rows i ≡ true = cc in
    let w = well_without s.limit c.args.name i rows (new_row 0 0 0) (well s) f.0 (f.1 (new_row 0 0 0)) (vec_items c.remove.new.self) leaf c.remove.ensures.items in
    record { nests = w.nests; roots = w.roots; apart = w.apart; tree = w.sound.tree; labels = w.sound.labels; within = omega arith; room = omega arith; small = s.small }

pub returns : goal.returns
returns c =
    let s = c.args.self.now in
    let rows = vec_items s.rows in
    let i = c.in-Some.i in
    let f = c.in-Some.ensures.answer in
    let leaf : leaf_at rows i ≡ true = cc in
    let t = may_discard_leaf s.limit c.args.name i rows (new_row 0 0 0) (well s) f.0 (f.1 (new_row 0 0 0)) in
    record {
      answer = sym (ap answer_of (t ∙ leaf));
      after = ap (with_limit s.limit) (records_without s.limit c.args.name i rows (new_row 0 0 0) (well s) f.0 (f.1 (new_row 0 0 0)) (vec_items c.remove.new.self) leaf c.remove.ensures.items);
    }
