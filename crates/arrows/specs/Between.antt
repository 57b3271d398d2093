-- Arrows kept by their target.
--
--   arrow_of into i j    the word at j has the place i: an arrow from i to j
--   between a i j        the arrows a have one from the place i to the place j
--
-- Assumes nothing.
use Rattle.std.specs.Prelude.{ℕ, Bool, List, slice_index}
use Rattle.words.specs.Words.{bit}
use Rattle.arrows.specs.declared.arrows.Arrows.{Arrows}

abbrev pub arrow_of : List ℕ → ℕ → ℕ → Bool
arrow_of into i j = bit (slice_index into j) i

abbrev pub between : Arrows → ℕ → ℕ → Bool
between a = arrow_of a.into
