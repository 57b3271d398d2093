use Rattle.std.proofs.Common.{◌≡◌, ℕ, ◌+◌, ◌&&◌, ltb, get_or}
use Rattle.words.specs.Words.{bit}
use Rattle.path.specs.declared.step.Step.{Step}
use Rattle.fitting.specs.Fitting.{takes}
use Rattle.fitting.proofs.backward.back.Given as goal

abbrev pub invariant-loop-k : goal.invariant-loop-k
invariant-loop-k g l = (j : ℕ) (d : Step _) → bit l.next j ≡ (ltb j l.k && takes g.L.Label.same (get_or l.step-items j d) l.label (bit l.places (j + 1)) (bit l.places j))
