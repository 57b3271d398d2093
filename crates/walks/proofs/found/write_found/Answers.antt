use Rattle.std.proofs.Common.{◌≡◌, ℕ, ◌+◌, List, length, set, sym, ap, ◌∙◌, arith}
use Rattle.std.proofs.lemmas.List.{length_push}
use Rattle.tree.specs.declared.record.Record.{Record}
use Rattle.tree.specs.Walk.{visited}
use Rattle.tree.proofs.Visits.{visited_none, ahead_falls}
use Rattle.walks.specs.Buffers.{filled}
use Rattle.walks.proofs.Queries.{names_of, finds, found_hit, found_miss, found_all, found_few}
use Rattle.walks.proofs.Buffers.{filled_more}
use Rattle.walks.proofs.found.write_found.Goals as goal

pub loop-name-init : goal.loop-name-init
loop-name-init g c =
    let rs = (g.S.Store.meaning c.args.store.now).records in
    let f = finds rs c.args.query.now.top c.args.query.now.path in
    (sym (ap (λ (vs : List Record). length (names_of f vs)) (visited_none rs)), sym (ap (λ (vs : List Record). filled (names_of f vs) c.args.buffer.now) (visited_none rs)))

pub overflow_add-written : goal.overflow_add-written
overflow_add-written g c =
    let s = c.args.store.now in
    let rs = (g.S.Store.meaning s).records in
    let f = finds rs c.args.query.now.top c.args.query.now.path in
    let i : c.loop-name.written ≡ length (names_of f (visited c.loop-name.last rs)) = c.loop-name.invariant.0 in
    let few = found_few f c.loop-name.last rs in
    let within = g.met.S.Store.within s in
    let bounded = g.met.S.Store.bounded s in
    let small = g.met.S.Store.small in
    omega arith

pub loop-name-smaller : goal.loop-name-smaller
loop-name-smaller g c =
    let s = c.args.store.now in
    ahead_falls c.loop-name.last c.in-Some.name ((g.S.Store.meaning s).records) (g.met.S.Store.rising s) (sym c.following.ensures.answer ∙ c.in-Some.is)

pub loop-name-smaller-then-is_found : goal.loop-name-smaller-then-is_found
loop-name-smaller-then-is_found g c =
    let s = c.args.store.now in
    ahead_falls c.loop-name.last c.in-Some.name ((g.S.Store.meaning s).records) (g.met.S.Store.rising s) (sym c.following.ensures.answer ∙ c.in-Some.is)

pub loop-name-preserved : goal.loop-name-preserved
loop-name-preserved g c =
    let s = c.args.store.now in
    let rs = (g.S.Store.meaning s).records in
    let f = finds rs c.args.query.now.top c.args.query.now.path in
    let miss = found_miss f c.loop-name.last c.in-Some.name rs (g.met.S.Store.rising s) (sym c.following.ensures.answer ∙ c.in-Some.is) (sym c.is_found.ensures.answer ∙ c.if-is_found.false) in
    (c.loop-name.invariant.0 ∙ sym (ap (length {A = ℕ}) miss), c.loop-name.invariant.1 ∙ sym (ap (λ (ns : List ℕ). filled ns c.args.buffer.now) miss))

pub loop-name-preserved-then-is_found : goal.loop-name-preserved-then-is_found
loop-name-preserved-then-is_found g c =
    let s = c.args.store.now in
    let rs = (g.S.Store.meaning s).records in
    let xs = c.args.buffer.now in
    let f = finds rs c.args.query.now.top c.args.query.now.path in
    let ns = names_of f (visited c.loop-name.last rs) in
    let hit = found_hit f c.loop-name.last c.in-Some.name rs (g.met.S.Store.rising s) (sym c.following.ensures.answer ∙ c.in-Some.is) (sym c.is_found.ensures.answer ∙ c.if-is_found.true) in (
      ap (λ (n : ℕ). n + 1) c.loop-name.invariant.0 ∙ sym (ap (length {A = ℕ}) hit ∙ length_push ns c.in-Some.name),
      c.put.ensures
          ∙ (ap (λ (ys : List ℕ). set ys c.loop-name.written c.in-Some.name) c.loop-name.invariant.1
          ∙ (ap (λ (n : ℕ). set (filled ns xs) n c.in-Some.name) c.loop-name.invariant.0
          ∙ (filled_more ns xs c.in-Some.name ∙ sym (ap (λ (ms : List ℕ). filled ms xs) hit)))),
    )

pub returns : goal.returns
returns g c =
    let s = c.args.store.now in
    let rs = (g.S.Store.meaning s).records in
    let all = found_all rs c.args.query.now.top c.args.query.now.path c.loop-name.last (g.met.S.Store.rising s) (sym c.following.ensures.answer ∙ c.in_default.is) in
    record { buffer = c.loop-name.invariant.1 ∙ ap (λ (ns : List ℕ). filled ns c.args.buffer.now) all }
