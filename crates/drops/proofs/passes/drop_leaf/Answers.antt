use Rattle.std.proofs.Common.{Bool, cond, not, is_ok, Result, sym, ap, ◌∙◌}
use Rattle.std.proofs.lemmas.Bool.{and_left}
use Rattle.tree.specs.declared.record.Refused.{Refused}
use Rattle.tree.specs.Records.{look, is_parent, without}
use Rattle.tree.specs.Stores.{holding}
use Rattle.tree.specs.Calls.{may_discard}
use Rattle.walks.specs.Choices.{chosen_at}
use Rattle.drops.proofs.Dropping.{drop_is, answers_ok}
use Rattle.drops.proofs.passes.drop_leaf.Goals as goal

pub returns-else-chosen_at : goal.returns-else-chosen_at
returns-else-chosen_at g c =
    let m = g.S.Store.meaning c.args.store.now in
    let rs = m.records in
    let n = c.args.name in
    let f = g.C.Choice.chosen c.args.choice.now in
    record {
      answer = c.if-chosen_at.false ∙ sym (and_left (chosen_at f (look n rs)) (not (is_parent n rs)) (sym c.chosen_at.ensures ∙ c.if-chosen_at.false));
      after = sym (ap (λ (b : Bool). holding m (cond b (without n rs) rs)) c.if-chosen_at.false);
    }

pub returns-then-chosen_at : goal.returns-then-chosen_at
returns-then-chosen_at g c =
    let m = g.S.Store.meaning c.args.store.now in
    let rs = m.records in
    let n = c.args.name in
    let f = g.C.Choice.chosen c.args.choice.now in
    let ok = c.is_ok.ensures.value ∙ (ap (λ (r : Result (Unit {0}) Refused). is_ok r) c.discard.ensures.answer ∙ answers_ok (may_discard n rs)) in
    record {
      answer = ok ∙ drop_is f n rs (sym c.chosen_at.ensures ∙ c.if-chosen_at.true);
      after = c.discard.ensures.after ∙ sym (ap (λ (b : Bool). holding m (cond b (without n rs) rs)) ok);
    }
