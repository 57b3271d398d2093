use Rattle.std.proofs.Common.{◌≡◌, ℕ, ◌*◌, ◌%◌, ◌^◌, ◌≤◌, Bool, false, not, ◌&&◌, eqb, ap, ◌∙◌, arith}
use Rattle.std.proofs.lemmas.Bool.Decides.{nat_tests}
use Rattle.words.specs.Words.{bit}
use Rattle.words.proofs.Bits.{bit_past, bit_shifted, bit_without}
use Rattle.words.proofs.without.Goals as goal

pub returns-then-place-lt32 : goal.returns-then-place-lt32
returns-then-place-lt32 c k =
    let w = c.args.word in
    let p = c.args.place in
    bit_without w (1 * 2 ^ p % 4294967296) k (omega arith) (omega arith) ∙ ap (λ (b : Bool). bit w k && not b) (bit_shifted p k (omega arith))

-- no place from 32 on is in the word
past : (b : Bool) (k p : ℕ) → 32 ≤ p → (32 ≤ k → b ≡ false) → b ≡ (b && not (eqb k p))
past b k p le h = grind (arith, nat_tests)

pub returns-else-place-lt32 : goal.returns-else-place-lt32
returns-else-place-lt32 c k = past (bit c.args.word k) k c.args.place (omega arith) (λ le. bit_past c.args.word 32 k (omega arith) le)
