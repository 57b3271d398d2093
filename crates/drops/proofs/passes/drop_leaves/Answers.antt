use Rattle.std.proofs.Common.{◌≡◌, ◌<◌, Bool, true, cond, List, length, Some, sym, refl, ap, ◌∙◌, subst, arith}
use Rattle.tree.specs.declared.record.Record.{Record}
use Rattle.tree.specs.Records.{without}
use Rattle.tree.specs.Stores.{Meaning}
use Rattle.tree.specs.Walk.{ahead}
use Rattle.tree.proofs.Visits.{ahead_falls, ahead_without}
use Rattle.drops.proofs.Dropping.{Dropping, dropping_begins, dropping_one, dropping_none, dropped, passed_all}
use Rattle.drops.proofs.passes.drop_leaves.Goals as goal

pub loop-name-init : goal.loop-name-init
loop-name-init g c = (dropping_begins (g.C.Choice.chosen c.args.choice.now) (g.S.Store.meaning c.args.store.now).records, refl)

pub loop-name-smaller-then-drop_leaf : goal.loop-name-smaller-then-drop_leaf
loop-name-smaller-then-drop_leaf g c =
    let t = c.loop-name.store in
    let ss = (g.S.Store.meaning t).records in
    let k = c.in-Some.name in
    let falls = ahead_falls c.loop-name.last k ss (g.met.S.Store.rising t) (sym c.following.ensures.answer ∙ c.in-Some.is) in
    let after = ap (λ (m : Meaning). m.records) c.drop_leaf.ensures.after ∙ ap (λ (b : Bool). cond b (without k ss) ss) c.if-drop_leaf.true in
    let same : length (ahead (Some k) (g.S.Store.meaning c.drop_leaf.new.store).records) ≡ length (ahead (Some k) ss) = ap (λ (xs : List Record). length (ahead (Some k) xs)) after ∙ ap (length {A = Record}) (ahead_without k k ss (omega arith)) in
    let less : length (ahead (Some k) (g.S.Store.meaning c.drop_leaf.new.store).records) < length (ahead c.loop-name.last ss) = omega arith in
    less

pub loop-name-smaller : goal.loop-name-smaller
loop-name-smaller g c =
    let t = c.loop-name.store in
    let ss = (g.S.Store.meaning t).records in
    let k = c.in-Some.name in
    let falls = ahead_falls c.loop-name.last k ss (g.met.S.Store.rising t) (sym c.following.ensures.answer ∙ c.in-Some.is) in
    let after = ap (λ (m : Meaning). m.records) c.drop_leaf.ensures.after ∙ ap (λ (b : Bool). cond b (without k ss) ss) c.if-drop_leaf.false in
    let same : length (ahead (Some k) (g.S.Store.meaning c.drop_leaf.new.store).records) ≡ length (ahead (Some k) ss) = ap (λ (xs : List Record). length (ahead (Some k) xs)) after in
    let less : length (ahead (Some k) (g.S.Store.meaning c.drop_leaf.new.store).records) < length (ahead c.loop-name.last ss) = omega arith in
    less

pub loop-name-preserved-then-drop_leaf : goal.loop-name-preserved-then-drop_leaf
loop-name-preserved-then-drop_leaf g c =
    let f = g.C.Choice.chosen c.args.choice.now in
    let rs = (g.S.Store.meaning c.args.store.now).records in
    let t = c.loop-name.store in
    let ss = (g.S.Store.meaning t).records in
    let k = c.in-Some.name in
    let after = ap (λ (m : Meaning). m.records) c.drop_leaf.ensures.after ∙ ap (λ (b : Bool). cond b (without k ss) ss) c.if-drop_leaf.true in
    let one = dropping_one f rs ss c.loop-name.last c.loop-name.any k (g.met.S.Store.rising t) (sym c.following.ensures.answer ∙ c.in-Some.is) c.loop-name.invariant.0 (sym c.drop_leaf.ensures.answer ∙ c.if-drop_leaf.true) in
    (subst (λ (xs : List Record). Dropping f rs xs (Some k) true) (sym after) one, ap (λ (m : Meaning). m.most) c.drop_leaf.ensures.after ∙ c.loop-name.invariant.1)

pub loop-name-preserved : goal.loop-name-preserved
loop-name-preserved g c =
    let f = g.C.Choice.chosen c.args.choice.now in
    let rs = (g.S.Store.meaning c.args.store.now).records in
    let t = c.loop-name.store in
    let ss = (g.S.Store.meaning t).records in
    let k = c.in-Some.name in
    let after = ap (λ (m : Meaning). m.records) c.drop_leaf.ensures.after ∙ ap (λ (b : Bool). cond b (without k ss) ss) c.if-drop_leaf.false in
    let none = dropping_none f rs ss c.loop-name.last c.loop-name.any k (g.met.S.Store.rising t) (sym c.following.ensures.answer ∙ c.in-Some.is) c.loop-name.invariant.0 (sym c.drop_leaf.ensures.answer ∙ c.if-drop_leaf.false) in
    (subst (λ (xs : List Record). Dropping f rs xs (Some k) c.loop-name.any) (sym after) none, ap (λ (m : Meaning). m.most) c.drop_leaf.ensures.after ∙ c.loop-name.invariant.1)

pub returns : goal.returns
returns g c =
    let t = c.loop-name.store in
    let ss = (g.S.Store.meaning t).records in
    record {
      after = dropped (g.C.Choice.chosen c.args.choice.now) (g.S.Store.meaning c.args.store.now).records ss c.loop-name.last c.loop-name.any (passed_all c.loop-name.last ss (sym c.following.ensures.answer ∙ c.in_default.is)) c.loop-name.invariant.0;
      same = c.loop-name.invariant.1;
    }
