use Rattle.std.proofs.Common.{◌≡◌, ◌-◌, ◌≤◌, true, length, drop}
use Rattle.path.specs.Pieces.{at_slash}
use Rattle.trial.specs.Labels.{read_labels}
use Rattle.trial.specs.Rows.{names_of}
use Rattle.trial.proofs.LabelPaths.{ReadTo}
use Rattle.trial.proofs.labels.read.read_labels.Given as goal

-- the labels that are read and those to come are the text's; the last label ended at a slash or at the text's end
abbrev pub invariant-loop-at : goal.invariant-loop-at
invariant-loop-at l =
    ReadTo l.classes l.part.text.now (read_labels l.classes l.part.at (drop l.part.at l.part.text.now)) (names_of l.labels) l.at
    × (l.at ≤ length l.part.text.now)
    × (at_slash (drop l.at l.part.text.now) ≡ true)

abbrev pub decreases-loop-at : goal.decreases-loop-at
decreases-loop-at l = length l.part.text.now - l.at
