use Rattle.std.proofs.Common.{sym, ◌∙◌, arith}
use Rattle.std.proofs.lemmas.Bool.{le-ltb}
use Rattle.words.proofs.Bits.{bit_past}
use Rattle.words.proofs.has.Goals as goal

pub returns-else-place-lt32 : goal.returns-else-place-lt32
returns-else-place-lt32 c = le-ltb _ _ (omega arith) ∙ sym (bit_past c.args.word 32 c.args.place (omega arith) (omega arith))
