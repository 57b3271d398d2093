use Rattle.std.proofs.Common.{◌≡◌, true, false, List, vec_items, sym, ap, ◌∙◌, subst, arith}
use Rattle.std.proofs.lemmas.Bool.{cond-true}
use Rattle.tree.specs.declared.record.Record.{Record}
use Rattle.tree.specs.Records.{is_parent, without}
use Rattle.tree.specs.Calls.{may_discard, discard_after, answer_of}
use Rattle.tree.proofs.Seats.{without_at_seat}
use Rattle.tree.proofs.Kept.{Sound, discard_sound}
use Rattle.linked.proofs.Rows.{rows_sound, with_limit, found_there}
use Rattle.linked.proofs.store.LinkedStore.discard.Goals as goal
use Rattle.linked.proofs.store.LinkedStore.discard.Goals.{After-remove}

pub remove-requires : goal.remove-requires
remove-requires c =
    let s = c.args.self.now in
    let e = s.rows.ok.0 in
    let f = found_there c.args.name c.in-Ok.seat (vec_items s.rows) s.rising c.in-Ok.ensures.answer in
    omega arith

-- no test refused it, and the row went out
went_out : (c : After-remove) → (may_discard c.args.name (vec_items c.args.self.now.rows) ≡ true) × (vec_items c.remove.new.self ≡ without c.args.name (vec_items c.args.self.now.rows))
went_out c =
    let s = c.args.self.now in
    let rs = vec_items s.rows in
    let f = found_there c.args.name c.in-Ok.seat rs s.rising c.in-Ok.ensures.answer in
    let childless : is_parent c.args.name rs ≡ false = cc in
    let w = without_at_seat c.args.name rs s.rising f.0 in
    (grind arith, grind arith)

pub invariant_of-self : goal.invariant_of-self
invariant_of-self c =
    let s = c.args.self.now in
    let rs = vec_items s.rows in
    let w = went_out c in
    let after : discard_after c.args.name rs ≡ vec_items c.remove.new.self = cond-true _ _ _ w.0 ∙ sym w.1 in
    let k = subst (λ (xs : List Record). Sound s.limit xs) after (discard_sound s.limit c.args.name rs (rows_sound s)) in
    record { rising = k.rising; tree = k.tree; labels = k.labels; within = omega arith; room = omega arith; small = s.small }

pub returns : goal.returns
returns c =
    let s = c.args.self.now in
    let w = went_out (goal.at.returns c).After-remove in
    record { answer = sym (ap answer_of w.0); after = ap (with_limit s.limit) (w.1 ∙ sym (cond-true _ _ _ w.0)) }
