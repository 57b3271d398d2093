use Rattle.std.proofs.Common.{◌≡◌, true, List, set, vec_items, sym, ap, ◌∙◌, subst, arith}
use Rattle.std.proofs.lemmas.Bool.{cond-true}
use Rattle.std.proofs.lemmas.Bool.Decides.{nat_tests}
use Rattle.tree.specs.declared.record.Record.{Record}
use Rattle.tree.specs.Records.{has, with_tag}
use Rattle.tree.specs.Calls.{tag_after, answer_of}
use Rattle.tree.proofs.Seats.{look_at_seat, tagged_at_seat}
use Rattle.tree.proofs.Kept.{Sound, tag_sound}
use Rattle.linked.proofs.Rows.{rows_sound, with_limit, found_there}
use Rattle.linked.proofs.store.LinkedStore.tag.Goals as goal
use Rattle.linked.proofs.store.LinkedStore.tag.Goals.{After-index-row}

pub index-row-requires : goal.index-row-requires
index-row-requires c =
    let s = c.args.self.now in
    let e = s.rows.ok.0 in
    let f = found_there c.args.name c.in-Ok.seat (vec_items s.rows) s.rising c.in-Ok.ensures.answer in
    omega arith

pub index_mut-requires : goal.index_mut-requires
index_mut-requires c =
    let s = c.args.self.now in
    let e = s.rows.ok.0 in
    let f = found_there c.args.name c.in-Ok.seat (vec_items s.rows) s.rising c.in-Ok.ensures.answer in
    omega arith

-- the row at the seat is the one with the name
tagged_there : (c : After-index-row) → (has c.args.name (vec_items c.args.self.now.rows) ≡ true) × (tag_after c.args.name c.args.mark c.args.note (vec_items c.args.self.now.rows) ≡ set (vec_items c.args.self.now.rows) c.in-Ok.seat (with_tag c.args.mark c.args.note c.index-row.result.now))
tagged_there c =
    let s = c.args.self.now in
    let rs = vec_items s.rows in
    let x = c.index-row.result.now in
    let f = found_there c.args.name c.in-Ok.seat rs s.rising c.in-Ok.ensures.answer in
    let l = look_at_seat c.args.name rs x s.rising f.2 in
    let t = tagged_at_seat c.args.name c.args.mark c.args.note rs x s.rising f.2 (grind (arith, nat_tests)) in
    (f.0, cond-true _ _ _ f.0 ∙ grind arith)

pub invariant_of-self : goal.invariant_of-self
invariant_of-self c =
    let s = c.args.self.now in
    let t = tagged_there (goal.at.invariant_of-self c).After-index-row in
    let k = subst (λ (xs : List Record). Sound s.limit xs) t.1 (tag_sound s.limit c.args.name c.args.mark c.args.note (vec_items s.rows) (rows_sound s)) in
    record { rising = k.rising; tree = k.tree; labels = k.labels; within = s.within; room = s.room; small = s.small }

pub returns : goal.returns
returns c =
    let s = c.args.self.now in
    let t = tagged_there (goal.at.returns c).After-index-row in
    record { answer = sym (ap answer_of t.0); after = ap (with_limit s.limit) (sym t.1) }
