-- Steps in a row.
--
--   begins_plain ss    the first step of the row, if any, does not leave labels out
--
-- Assumes nothing.
use Rattle.std.specs.Prelude.{Bool, true, not, List, [], ◌∷◌}
use Rattle.path.specs.declared.step.Step.{Step}

abbrev pub begins_plain : {L : Type 0} → List (Step L) → Bool
begins_plain [] = true
begins_plain (s ∷ ss) = not s.deep
