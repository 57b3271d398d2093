use Rattle.std.proofs.Common.{ℕ, ◌==◌, length, arith, rules}
use Rattle.std.proofs.lemmas.List.Sums.{position_or_len_is}
use Rattle.name.proofs.Fronts.{before_first}
use Rattle.name.proofs.name.Part.end_before.Goals as goal

pub returns-in-Some : goal.returns-in-Some
returns-in-Some c =
    let bs = c.bytes-bytes.result.now in
    let found = position_or_len_is (λ (b : ℕ). b == c.args.byte) bs c.in-Some.front 0 (search rules) (search rules) (search rules) in
    let first = before_first c.args.byte bs in
    grind arith

pub returns-in-None : goal.returns-in-None
returns-in-None c =
    let bs = c.bytes-bytes.result.now in
    let none = position_or_len_is (λ (b : ℕ). b == c.args.byte) bs (length bs) 0 (omega arith) (search rules) (search rules) in
    let first = before_first c.args.byte bs in
    grind arith
