use Rattle.std.proofs.Common.{[], ◌∷◌, ◌++◌, arith, length-append}
use Rattle.std.proofs.lemmas.List.{length-take-le, take_all, take-append-le}
use Rattle.std.proofs.lemmas.Bool.Decides.{nat_tests}
use Rattle.lines.specs.Held.{held_bytes}
use Rattle.lines.proofs.line.Line.push.Goals as goal

pub returns : goal.returns
returns c =
    let s = c.args.self.now.held in
    let full = s.full in
    let within = s.within in
    let held = length-take-le s.len s.row (omega arith) in
    let bytes = held_bytes c.args.self.now in
    let more = length-append bytes (c.args.byte ∷ []) in
    let room = take_all 201 (bytes ++ c.args.byte ∷ []) in
    let none = take-append-le 201 bytes (c.args.byte ∷ []) in
    let all = take_all 201 bytes in
    grind (arith, nat_tests)
