use Rattle.std.proofs.Common.{◌≡◌, ℕ, ◌≤◌, Bool, false, not, ◌&&◌, ltb, sym, ◌∙◌, arith}
use Rattle.std.proofs.lemmas.Bool.Decides.{nat_tests}
use Rattle.words.specs.Words.{bit}
use Rattle.words.proofs.Bits.{bit_past, bit_without}
use Rattle.words.proofs.Sets.{bit_word, word_same}
use Rattle.words.proofs.minus.Goals as goal

-- no place from 32 on is in the word
cut : (b g : Bool) (k : ℕ) → (32 ≤ k → b ≡ false) → (b && not g) ≡ (ltb k 32 && (b && not g))
cut b g k h = grind (arith, nat_tests)

pub returns-clause-places : goal.returns-clause-places
returns-clause-places c k = bit_without c.args.word c.args.gone k (omega arith) (omega arith)

pub returns-clause-value : goal.returns-clause-value
returns-clause-value c =
    let v = c.args.word in
    let w = c.args.gone in
    word_same
    _
    _
    (λ k. bit_without v w k (omega arith) (omega arith)
    ∙ (cut (bit v k) (bit w k) k (λ le. bit_past v 32 k (omega arith) le) ∙ sym (bit_word (λ i. bit v i && not (bit w i)) k)))
