use Rattle.std.proofs.Common.{◌≡◌, ℕ, not, ◌&&◌, ◌||◌, eqb, ltb, get_or}
use lib.Bits.{bit_and}
use Rattle.words.specs.Words.{bit}
use Rattle.arrows.proofs.arrows.Arrows.widen.Given as goal

abbrev pub invariant-loop-place : goal.invariant-loop-place
invariant-loop-place l = (p : ℕ) → bit l.next p ≡ (bit l.seen p || (ltb p l.place && not (eqb (bit_and (get_or l.self.into p 0) l.seen) 0)))
