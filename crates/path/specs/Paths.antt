-- The steps of a path.
--
--   steps_of p    the steps of the path p, in their order
--
-- Assumes nothing.
use Rattle.std.specs.Prelude.{List}
use Rattle.bounded.specs.Items.{items_of}
use Rattle.path.specs.declared.step.Step.{Step}
use Rattle.path.specs.declared.path.Path.{Path}

abbrev pub steps_of : {L : Type 0} → Path L → List (Step L)
steps_of p = items_of p.steps
