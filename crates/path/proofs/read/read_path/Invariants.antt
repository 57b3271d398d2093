use Rattle.std.proofs.Common.{◌≡◌, ◌-◌, ◌≤◌, true, ◌++◌, length, drop, Ok}
use Rattle.path.specs.Paths.{steps_of}
use Rattle.path.specs.Pieces.{at_slash}
use Rattle.path.specs.Reading.{onward, read_path, spelled, steps_after}
use Rattle.path.proofs.read.read_path.Given as goal

-- the steps that are read and those to come are the path's; the last step ended at a slash or at the text's end
abbrev pub invariant-loop-next : goal.invariant-loop-next
invariant-loop-next l =
    (read_path l.classes l.part.at (drop l.part.at l.part.text.now)
    ≡ onward (steps_after l.classes (length (steps_of l.path)) l.at (drop l.at l.part.text.now)) (λ ss. Ok (spelled (steps_of l.path) ++ ss)))
    × (l.at ≤ length l.part.text.now)
    × (at_slash (drop l.at l.part.text.now) ≡ true)

abbrev pub decreases-loop-next : goal.decreases-loop-next
decreases-loop-next l = length l.part.text.now - l.at
