-- The steps of a path over label codes.
--
--   code_steps p    the steps of the path p, in their order
--
-- Assumes nothing.
use Rattle.std.specs.Prelude.{ℕ, List}
use Rattle.path.specs.declared.coded.CodedPath.{CodedPath}
use Rattle.path.specs.declared.step.Step.{Step}
use Rattle.path.specs.Paths.{steps_of}

abbrev pub code_steps : CodedPath → List (Step ℕ)
code_steps p = steps_of p.path
