use Rattle.std.proofs.Common.{arith}
use Rattle.std.proofs.lemmas.Bool.Decides.{nat_tests}
use Rattle.name.proofs.Judged.{judged_names}
use Rattle.name.proofs.name.Name.read.Goals as goal

pub returns-in_err-check_bytes-clause-accepts : goal.returns-in_err-check_bytes-clause-accepts
returns-in_err-check_bytes-clause-accepts c =
    let names = judged_names c.args.classes.now c.args.part.at c.bytes.result.now (grind (arith, nat_tests)) in
    grind (arith, names)

pub copied-requires : goal.copied-requires
copied-requires c =
    let names = judged_names c.args.classes.now c.args.part.at c.bytes.result.now (grind (arith, nat_tests)) in
    grind (arith, names)

pub returns-clause-accepts : goal.returns-clause-accepts
returns-clause-accepts c =
    let names = judged_names c.args.classes.now c.args.part.at c.bytes.result.now (grind (arith, nat_tests)) in
    grind (arith, names)
