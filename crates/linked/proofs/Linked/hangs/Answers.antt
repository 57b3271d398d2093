use Rattle.std.proofs.Common.{◌≡◌, false, length, vec_items, arith}
use Rattle.std.proofs.lemmas.Bool.Decides.{nat_tests}
use Rattle.tree.specs.Records.{has}
use Rattle.tree.proofs.Look.{has_none}
use Rattle.linked.proofs.Linked.hangs.Goals as goal

pub returns-then-name-eq-ROOT : goal.returns-then-name-eq-ROOT
returns-then-name-eq-ROOT c =
    let v = c.args.self.now.rows in
    let e = v.ok.0 in
    let z : length (vec_items v) ≡ 0 = grind (arith, nat_tests) in
    let a : has c.args.parent (vec_items v) ≡ false = has_none c.args.parent (vec_items v) z in
    record { answer = grind (arith, nat_tests) }

pub returns-else-name-eq-ROOT : goal.returns-else-name-eq-ROOT
returns-else-name-eq-ROOT c =
    let v = c.args.self.now.rows in
    let e = v.ok.0 in
    let z : length (vec_items v) ≡ 0 = grind (arith, nat_tests) in
    let a : has c.args.parent (vec_items v) ≡ false = has_none c.args.parent (vec_items v) z in
    record { answer = grind (arith, nat_tests) }
