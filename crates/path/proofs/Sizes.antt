-- A path has one to eight steps.
-- Assumes nothing.
use Rattle.std.proofs.Common.{◌≤◌, length, arith, length-take}
use Rattle.path.specs.declared.path.Path.{Path}
use Rattle.path.specs.Paths.{steps_of}

pub has_step : {L : Type 0} (p : Path L) → 1 ≤ length (steps_of p)
has_step p = p.some

pub most_steps : {L : Type 0} (p : Path L) → length (steps_of p) ≤ 8
most_steps p = omega (arith, length-take p.steps.len p.steps.row, p.steps.within)
