-- A text and its slashes.
--
--   piece bs       the bytes of bs before its first slash, or all of them
--   at_slash bs    bs is empty or begins with a slash
--
-- Assumes nothing.
use Rattle.std.specs.Prelude.{ℕ, Bool, true, List, [], ◌∷◌, ◌==◌}
use Rattle.name.specs.Parts.{before}

abbrev pub piece : List ℕ → List ℕ
piece bs = before 47 bs

abbrev pub at_slash : List ℕ → Bool
at_slash [] = true
at_slash (b ∷ bs) = b == 47
