use Rattle.std.proofs.Common.{◌≡◌, ℕ, [], ◌∷◌}
use Rattle.words.specs.Words.{bit}
use Rattle.model.specs.Numbers.{member}
use Rattle.model.specs.Arrows.{widen}
use Rattle.arrows.specs.Between.{between}
use Rattle.arrows.proofs.arrows.Arrows.reach.Given as goal

abbrev pub invariant-loop : goal.invariant-loop
invariant-loop l = (q : ℕ) → bit l.seen q ≡ member q (widen l.counter (between l.self) (l.place ∷ []))
