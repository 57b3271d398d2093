use Rattle.std.proofs.Common.{◌≡◌, ◌≤◌, List, [], ◌∷◌, map, length, sym, ap, ◌∙◌, subst, arith}
use Rattle.calls.specs.declared.call.Turn.{Turn}
use Rattle.calls.specs.Answers.{call_of, turn_of}
use Rattle.model.specs.Calls.{step}
use Rattle.model.proofs.Lists.{map_length, append_length}
use Rattle.sched.specs.Whole.{state_of}
use Rattle.sched.specs.Runs.{Owned, answer_in, turns_of}
use Rattle.sched.proofs.Playing.{Playing, none_made, turn_more, all_made}
use Rattle.sched.proofs.run.play.Goals as goal

pub loop-turn-init : goal.loop-turn-init
loop-turn-init g c =
    let none = c.new-outcomes.ensures.items in
    record { each = ap (λ (os : List Owned). length os) none; so_far = none_made _ _ _ (ap (λ (os : List Owned). map answer_in os) none) }

pub loop-turn-preserved : goal.loop-turn-preserved
loop-turn-preserved g c =
    let before = c.loop-turn in
    let n = length c.args.names.now in
    let k = length c.args.tickets.now in
    let u = c.turn-item.result in
    let o = c.in_ok-owned.field-0 in
    let more = c.in_ok-push.ensures.items in
    let own = c.in_ok-owned.ensures in
    let answered : step (state_of before.scheduler) (call_of u.call n k) ≡ (state_of c.turn-answer.new.self, answer_in o) =
    (λ z. step (state_of before.scheduler) (call_of u.call (sym before.auto.names z) (sym before.auto.tickets z)))
    ∙ (c.turn-answer.ensures.step ∙ (λ z. (state_of c.turn-answer.new.self, sym own z))) in
    record {
      each = (let a = ap (λ (os : List Owned). length os) more in let b = append_length before.outcomes.items (o ∷ []) in let e = before.invariant.each in omega arith);
      so_far = subst (λ (os : List Owned). Playing (state_of c.args.scheduler.now) (turns_of c.args.turns.now n k) (map answer_in os) (state_of c.turn-answer.new.self)) (sym more)
          (turn_more (state_of c.args.scheduler.now) (state_of before.scheduler) (state_of c.turn-answer.new.self) c.args.turns.now n k before.outcomes.items before.turn-index u o
          before.invariant.each c.loop-turn-test.true c.turn-item.is answered before.invariant.so_far);
    }

pub returns-clause-play : goal.returns-clause-play
returns-clause-play g c =
    let us = turns_of c.args.turns.now (length c.args.names.now) (length c.args.tickets.now) in
    let xs = map answer_in c.loop-turn.outcomes.items in
    let done : length us ≤ length xs =
    (let a = map_length (λ (u : Turn). turn_of u (length c.args.names.now) (length c.args.tickets.now)) c.args.turns.now in
    let b = map_length answer_in c.loop-turn.outcomes.items in
    let e = c.loop-turn.invariant.each in
    let end = c.loop-turn-test.false in
    omega arith) in
    all_made _ _ us xs done c.loop-turn.invariant.so_far
