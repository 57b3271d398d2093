use Rattle.std.proofs.Common.{◌≡◌, map, ◌∙◌}
use Rattle.model.specs.History as history
use Rattle.sched.specs.Whole.{state_of, making}
use Rattle.sched.specs.Runs.{answer_in, turns_of, happened}
use Rattle.sched.proofs.Playing.{run_is, agreed}
use Rattle.sched.proofs.run.run.Given.{Over}
use Rattle.sched.proofs.run.run.Goals as goal

whole : (g : Over) (c : goal.After-drop-names-2 g) →
    let us = turns_of c.args.turns.now c.args.names c.args.tickets in
    history.run (making (g.S.Store.meaning c.args.store) c.args.first) us ≡ (happened us (map answer_in c.in_ok-outcomes.outcomes.items), state_of c.play.new.scheduler)
whole g c =
    run_is (making (g.S.Store.meaning c.args.store) c.args.first) _ _ c.args.turns.now _ _ c.args.names c.args.tickets (map answer_in c.in_ok-outcomes.outcomes.items)
    c.in_ok-scheduler.ensures.state (c.deref_mut.ensures.len ∙ c.in_ok-names.ensures.len) (c.deref_mut-2.ensures.len ∙ c.in_ok-tickets.ensures.len) c.in_ok-outcomes.ensures.play

pub returns-clause-run : goal.returns-clause-run
returns-clause-run g c = whole g c

pub returns-clause-law : goal.returns-clause-law
returns-clause-law g c =
    agreed (making (g.S.Store.meaning c.args.store) c.args.first) c.in_ok-scheduler.ensures.kept (turns_of c.args.turns.now c.args.names c.args.tickets) _ _ (whole g c)
