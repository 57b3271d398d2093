-- Steps over label codes.
--
--   is_coded t    the test t is `*`, or a label's code: at least 1
--   coded ss      each test of the steps ss is
--
-- Assumes nothing.
use Rattle.std.specs.Prelude.{ℕ, Bool, true, ◌&&◌, List, [], ◌∷◌, nat_lt}
use Rattle.path.specs.declared.step.Step.{Step}
use Rattle.path.specs.declared.step.Test.{Test}
use Rattle.path.specs.declared.step.Test.TheVariants.{Star, Name}

abbrev pub is_coded : Test ℕ → Bool
is_coded Star = true
is_coded (Name code) = nat_lt 0 code

abbrev pub coded : List (Step ℕ) → Bool
coded [] = true
coded (s ∷ ss) = is_coded s.test && coded ss
