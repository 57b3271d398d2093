-- Which rows of labels fit a path. Assumes nothing.
--     fits ls p         the labels ls fit the path p
--     fits_any ls p     the labels ls and one label more, whichever serves, fit p
use Rattle.std.specs.Prelude.{ℕ, Bool, List, nat_eq}
use Rattle.path.specs.declared.coded.CodedPath.{CodedPath}
use Rattle.path.specs.CodedPaths.{code_steps}
use Rattle.fitting.specs.declared.fit.Ending.TheVariants.{Closed, Open}
use Rattle.fitting.specs.Fitting as fitting

abbrev pub fits : List ℕ → CodedPath → Bool
fits ls p = fitting.fits nat_eq Closed (code_steps p) ls

abbrev pub fits_any : List ℕ → CodedPath → Bool
fits_any ls p = fitting.fits nat_eq Open (code_steps p) ls
