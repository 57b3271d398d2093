use Rattle.std.proofs.Common.{arith}
use Rattle.name.proofs.Judged.{judges_next}
use Rattle.name.proofs.name.read.check_bytes.Goals as goal

pub loop-before-preserved : goal.loop-before-preserved
loop-before-preserved c =
    let next = judges_next c.args.classes.now c.args.part.at c.loop-before.before c.bytes-byte-items.result.now c.loop-before-test.true in
    let passed = c.in_ok-check_byte.ensures in
    grind arith

pub returns-in_err-check_byte : goal.returns-in_err-check_byte
returns-in_err-check_byte c =
    let next = judges_next c.args.classes.now c.args.part.at c.loop-before.before c.bytes-byte-items.result.now c.loop-before-test.true in
    let fault = c.in_err-check_byte.ensures in
    grind arith
