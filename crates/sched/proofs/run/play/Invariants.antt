use Rattle.std.proofs.Common.{◌≡◌, map, length}
use Rattle.sched.specs.Whole.{state_of}
use Rattle.sched.specs.Runs.{answer_in, turns_of}
use Rattle.sched.proofs.Playing.{Playing}
use Rattle.sched.proofs.run.play.Given as goal

abbrev pub invariant-loop-turn : goal.invariant-loop-turn
invariant-loop-turn g l = record {
  each : length l.outcomes.items ≡ l.turn-index;
  so_far : Playing (state_of l.initial.scheduler) (turns_of l.turns (length l.initial.names) (length l.initial.tickets)) (map answer_in l.outcomes.items) (state_of l.scheduler);
}
