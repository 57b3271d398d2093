use Rattle.std.proofs.Common.{◌*◌, ◌%◌, ◌^◌, Bool, ◌||◌, ap, ◌∙◌, arith}
use Rattle.std.proofs.lemmas.Bool.Decides.{nat_tests}
use Rattle.words.specs.Words.{bit}
use Rattle.words.proofs.Bits.{bit-or, bit_shifted}
use Rattle.words.proofs.with.Goals as goal

pub returns-then-place-lt32 : goal.returns-then-place-lt32
returns-then-place-lt32 c k =
    let or = bit-or c.args.word (1 * 2 ^ c.args.place % 4294967296) k in
    let one = bit_shifted c.args.place k (omega arith) in
    let same = ap (λ (b : Bool). bit c.args.word k || b) one in
    or ∙ (same ∙ grind (arith, nat_tests))
