use Rattle.std.proofs.Common.{◌≡◌, ℕ, not, ◌&&◌, eqb, ltb, get_or}
use lib.Bits.{bit_and}
use Rattle.words.specs.Words.{bit}
use Rattle.arrows.proofs.arrows.Arrows.clear_of.Given as goal

abbrev pub invariant-loop-place : goal.invariant-loop-place
invariant-loop-place l = (i : ℕ) → bit l.clear i ≡ (bit l.among i && not (ltb i l.place && not (eqb (bit_and (get_or l.self.into i 0) l.among) 0)))
