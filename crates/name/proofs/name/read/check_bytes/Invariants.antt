use Rattle.std.proofs.Common.{◌≡◌, ◌+◌, drop}
use Rattle.name.specs.Names.{bytes_check}
use Rattle.name.proofs.name.read.check_bytes.Given as goal

-- what is left to judge gives the answer
abbrev pub invariant-loop-before : goal.invariant-loop-before
invariant-loop-before l =
    bytes_check l.classes 0 l.part.at l.byte-items ≡ bytes_check l.classes l.before (l.part.at + l.before) (drop l.before l.byte-items)
