use Rattle.std.proofs.Common.{◌≡◌, true, false, ◌≢◌, length, is_ok, vec_items, sym, ap, ◌∙◌, arith}
use Rattle.std.specs.List.{insert}
use Rattle.std.proofs.lemmas.Bool.{cond-false}
use Rattle.std.proofs.lemmas.Bool.Decides.{nat_tests}
use Rattle.tree.specs.Records.{has}
use Rattle.tree.specs.Calls.{answer_of, may_place}
use Rattle.listing.specs.Rows.{listed, records_of, new_row}
use Rattle.listing.specs.RowsLemmas.{length_records}
use Rattle.listing.specs.Asked.{found_has, may_place_listed}
use Rattle.listing.proofs.Kept.{with_limit, well, seat_within, may_placed, records_placed, well_placed}
use Rattle.listing.proofs.store.ListingStore.place.Goals as goal
use Rattle.listing.proofs.store.ListingStore.place.Goals.{After-insert, then-label-eq0-via-then-label-eq0, then-label-eq0-via-else-label-eq0+then-len-self, then-label-eq0-via-else-label-eq0+else-len-self+then-is_some}

pub returns-then-label-eq0 : goal.returns-then-label-eq0
returns-then-label-eq0 c =
    let s = c.args.self.now in
    let rows = vec_items s.rows in
    let e = s.rows.ok.0 in
    let l = length_records (λ _. 0) rows in
    let m = may_place_listed s.limit c.args.name c.args.parent c.args.label rows in
    let f : may_place s.limit c.args.name c.args.parent c.args.label (records_of rows) ≡ false =
    elim c.then-label-eq0.branch [
      | then-label-eq0-via-then-label-eq0 w ↦ grind (arith, nat_tests)
      | then-label-eq0-via-else-label-eq0+then-len-self w ↦ grind (arith, nat_tests)
      | then-label-eq0-via-else-label-eq0+else-len-self+then-is_some w ↦
          (let h = found_has rows c.args.name w.find.result w.find.ensures.answer in grind (arith, nat_tests))
    ] in
    record { answer = sym (ap answer_of f); after = ap (with_limit c.args.self.now.limit) (sym (cond-false _ _ _ f)) }

pub returns-in_default : goal.returns-in_default
returns-in_default c =
    let s = c.args.self.now in
    let rows = vec_items s.rows in
    let m = may_place_listed s.limit c.args.name c.args.parent c.args.label rows in
    let g = c.in_default.ensures.answer in
    let f : may_place s.limit c.args.name c.args.parent c.args.label (records_of rows) ≡ false = m ∙ grind (arith, nat_tests) in
    record { answer = sym (ap answer_of f); after = ap (with_limit c.args.self.now.limit) (sym (cond-false _ _ _ f)) }

pub insert-requires : goal.insert-requires
insert-requires c =
    let v = c.args.self.now.rows in
    let e = v.ok.0 in
    let h = seat_within (vec_items v) c.args.name c.args.parent c.in-Some.ensures.answer in
    omega arith

-- what the tests have shown, and the rows with the new one
record Put (c : goal.After-insert) : Type 0 where
  new : has c.args.name (listed (vec_items c.args.self.now.rows)) ≡ false
  label : c.args.label ≢ 0
  room : length (vec_items c.args.self.now.rows) ≢ c.args.self.now.limit
  items : vec_items c.insert.new.self ≡ insert (vec_items c.args.self.now.rows) c.in-Some.seat.index (new_row c.args.name c.in-Some.seat.depth c.args.label)

put : (c : goal.After-insert) → Put c
put c =
    let s = c.args.self.now in
    let e = s.rows.ok.0 in
    let ok : is_ok c.insert.result ≡ true = c.insert.ensures.succeeds (omega arith) in
    let h = found_has (vec_items s.rows) c.args.name c.find.result c.find.ensures.answer in
    let f = c.if-is_some.ensures in
    record { new = cc; label = c.if-label-eq0.false; room = omega arith; items = grind arith }

pub invariant_of-self : goal.invariant_of-self
invariant_of-self c =
    let s = c.args.self.now in
    let e = s.rows.ok.0 in
    let k = put c in
    let full = k.room in
    let w = well_placed s.limit c.args.name c.args.parent c.args.label (vec_items s.rows) (vec_items c.insert.new.self) (well s) k.new k.label k.room c.in-Some.ensures.answer k.items in
    let cap = c.insert.ensures.capacity in
    record { nests = w.nests; roots = w.roots; apart = w.apart; tree = w.sound.tree; labels = w.sound.labels; within = grind arith; room = omega arith; small = s.small }

pub returns : goal.returns
returns c =
    let s = c.args.self.now in
    let rows = vec_items s.rows in
    let k = put (goal.at.returns c).After-insert in
    let seat = c.in-Some.ensures.answer in
    record {
      answer = sym (ap answer_of (may_placed s.limit c.args.name c.args.parent c.args.label rows (vec_items c.insert.new.self) (well s) k.new k.label k.room seat k.items));
      after = ap (with_limit s.limit) (records_placed s.limit c.args.name c.args.parent c.args.label rows (vec_items c.insert.new.self) (well s) k.new k.label k.room seat k.items);
    }
