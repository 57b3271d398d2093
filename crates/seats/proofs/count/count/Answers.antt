use Rattle.std.proofs.Common.{arith}
use Rattle.std.proofs.lemmas.Nat.{ones-le}
use Rattle.seats.proofs.Counted.{ones_count}
use Rattle.seats.proofs.count.count.Goals as goal

pub overflow_cast-result : goal.overflow_cast-result
overflow_cast-result c = omega (arith, ones-le 32 c.args.word (omega arith))

pub returns : goal.returns
returns c ps d same = ones_count c.args.word ps (omega arith) d same
