use Rattle.std.proofs.Common.{◌≡◌, true, List, is_ok, vec_items, sym, ap, ◌∙◌, subst, arith}
use Rattle.std.proofs.lemmas.Bool.{cond-true}
use Rattle.std.proofs.lemmas.Bool.Decides.{nat_tests}
use Rattle.tree.specs.declared.record.Record.{Record}
use Rattle.tree.specs.Records.{fresh, placed}
use Rattle.tree.specs.Calls.{may_place, place_after, answer_of}
use Rattle.tree.proofs.Seats.{seat_bound, placed_at_seat}
use Rattle.tree.proofs.Kept.{Sound, place_sound}
use Rattle.linked.proofs.Rows.{rows_sound, with_limit, found_absent}
use Rattle.linked.proofs.store.LinkedStore.place.Goals as goal
use Rattle.linked.proofs.store.LinkedStore.place.Goals.{After-insert}

pub insert-requires : goal.insert-requires
insert-requires c =
    let v = c.args.self.now.rows in
    let e = v.ok.0 in
    let f = found_absent c.args.name c.in-Err.seat (vec_items v) c.in-Err.ensures.answer in
    let h = seat_bound c.args.name (vec_items v) in
    omega arith

-- no test refused it, and the row went in, since its memory is reserved
went_in : (c : After-insert) → (may_place c.args.self.now.limit c.args.name c.args.parent c.args.label (vec_items c.args.self.now.rows) ≡ true) × (vec_items c.insert.new.self ≡ placed (fresh c.args.name c.args.parent c.args.label) (vec_items c.args.self.now.rows))
went_in c =
    let s = c.args.self.now in
    let rs = vec_items s.rows in
    let e = s.rows.ok.0 in
    let f = found_absent c.args.name c.in-Err.seat rs c.in-Err.ensures.answer in
    let ok : is_ok c.insert.result ≡ true = c.insert.ensures.succeeds (omega arith) in
    let p = placed_at_seat (fresh c.args.name c.args.parent c.args.label) rs in
    (grind (arith, nat_tests), grind arith)

pub invariant_of-self : goal.invariant_of-self
invariant_of-self c =
    let s = c.args.self.now in
    let rs = vec_items s.rows in
    let w = went_in c in
    let after : place_after s.limit c.args.name c.args.parent c.args.label rs ≡ vec_items c.insert.new.self = cond-true _ _ _ w.0 ∙ sym w.1 in
    let k = subst (λ (xs : List Record). Sound s.limit xs) after (place_sound s.limit c.args.name c.args.parent c.args.label rs (rows_sound s)) in
    let few = k.within in
    let e = c.insert.new.self.ok.0 in
    let cap = c.insert.ensures.capacity in
    record { rising = k.rising; tree = k.tree; labels = k.labels; within = omega arith; room = omega arith; small = s.small }

pub returns : goal.returns
returns c =
    let s = c.args.self.now in
    let w = went_in (goal.at.returns c).After-insert in
    record { answer = sym (ap answer_of w.0); after = ap (with_limit s.limit) (w.1 ∙ sym (cond-true _ _ _ w.0)) }
