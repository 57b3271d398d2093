use Rattle.arrows.proofs.Cuts.{Cut}
use Rattle.arrows.proofs.arrows.Arrows.cut.Given as goal

abbrev pub invariant-loop-place : goal.invariant-loop-place
invariant-loop-place l = Cut l.places l.fn.self.into l.sources-items l.place
