use Rattle.std.proofs.Common.{◌≡◌, ℕ, ◌+◌, List, length, sym, ap, ◌∙◌, arith}
use Rattle.std.proofs.lemmas.List.{length_push}
use Rattle.tree.specs.declared.record.Record.{Record}
use Rattle.tree.specs.Walk.{visited}
use Rattle.tree.proofs.Visits.{visited_none, ahead_falls}
use Rattle.walks.proofs.Queries.{names_of, finds, found_hit, found_miss, found_all, found_few}
use Rattle.walks.proofs.found.count_found.Goals as goal

pub loop-name-init : goal.loop-name-init
loop-name-init g c =
    let rs = (g.S.Store.meaning c.args.store.now).records in
    sym (ap (λ (vs : List Record). length (names_of (finds rs c.args.query.now.top c.args.query.now.path) vs)) (visited_none rs))

pub overflow_add-count : goal.overflow_add-count
overflow_add-count g c =
    let s = c.args.store.now in
    let rs = (g.S.Store.meaning s).records in
    let f = finds rs c.args.query.now.top c.args.query.now.path in
    let i : c.loop-name.count ≡ length (names_of f (visited c.loop-name.last rs)) = c.loop-name.invariant in
    let few = found_few f c.loop-name.last rs in
    let within = g.met.S.Store.within s in
    let bounded = g.met.S.Store.bounded s in
    let small = g.met.S.Store.small in
    omega arith

pub loop-name-smaller : goal.loop-name-smaller
loop-name-smaller g c =
    let s = c.args.store.now in
    ahead_falls c.loop-name.last c.in-Some.name ((g.S.Store.meaning s).records) (g.met.S.Store.rising s) (sym c.following.ensures.answer ∙ c.in-Some.is)

pub loop-name-smaller-then-is_found : goal.loop-name-smaller-then-is_found
loop-name-smaller-then-is_found g c =
    let s = c.args.store.now in
    ahead_falls c.loop-name.last c.in-Some.name ((g.S.Store.meaning s).records) (g.met.S.Store.rising s) (sym c.following.ensures.answer ∙ c.in-Some.is)

pub loop-name-preserved : goal.loop-name-preserved
loop-name-preserved g c =
    let s = c.args.store.now in
    let rs = (g.S.Store.meaning s).records in
    let f = finds rs c.args.query.now.top c.args.query.now.path in
    let miss = found_miss f c.loop-name.last c.in-Some.name rs (g.met.S.Store.rising s) (sym c.following.ensures.answer ∙ c.in-Some.is) (sym c.is_found.ensures.answer ∙ c.if-is_found.false) in
    c.loop-name.invariant ∙ sym (ap (length {A = ℕ}) miss)

pub loop-name-preserved-then-is_found : goal.loop-name-preserved-then-is_found
loop-name-preserved-then-is_found g c =
    let s = c.args.store.now in
    let rs = (g.S.Store.meaning s).records in
    let f = finds rs c.args.query.now.top c.args.query.now.path in
    let hit = found_hit f c.loop-name.last c.in-Some.name rs (g.met.S.Store.rising s) (sym c.following.ensures.answer ∙ c.in-Some.is) (sym c.is_found.ensures.answer ∙ c.if-is_found.true) in
    ap (λ (n : ℕ). n + 1) c.loop-name.invariant ∙ sym (ap (length {A = ℕ}) hit ∙ length_push (names_of f (visited c.loop-name.last rs)) c.in-Some.name)

pub returns : goal.returns
returns g c =
    let s = c.args.store.now in
    let rs = (g.S.Store.meaning s).records in
    let all = found_all rs c.args.query.now.top c.args.query.now.path c.loop-name.last (g.met.S.Store.rising s) (sym c.following.ensures.answer ∙ c.in_default.is) in
    record { answer = c.loop-name.invariant ∙ ap (length {A = ℕ}) all }
