-- What a climb asks of a way. Assumes nothing.
--     fits_then w e p ls    there is a way w, and its labels, then ls, with the ending e fit the path p
use Rattle.std.specs.Prelude.{ℕ, Bool, false, List, ◌++◌, Some, None, Option, nat_eq}
use Rattle.path.specs.declared.coded.CodedPath.{CodedPath}
use Rattle.path.specs.CodedPaths.{code_steps}
use Rattle.fitting.specs.declared.fit.Ending.{Ending}
use Rattle.fitting.specs.Fitting as fitting

abbrev pub fits_then : Option (List ℕ) → Ending → CodedPath → List ℕ → Bool
fits_then None e p ls = false
fits_then (Some ks) e p ls = fitting.fits nat_eq e (code_steps p) (ks ++ ls)
