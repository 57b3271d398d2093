-- The label paths that a path expression stands for. `Same` says which labels are the same.
--
--   Passes t a            the label a passes the test t
--   StandsFor ss ls       ls is one of the label paths that the steps ss stand for: each step passes one label, in their
--                         order, and only a deep step leaves labels out, any number of them, in front of the one that it passes
--   FitsPath e ss ls      the label path ls with the ending e fits ss: it is one of their label paths, or some last label
--                         makes it one
--   Says r P              the answer r says whether P holds
--
-- Assumes nothing.
use Rattle.std.specs.Prelude.{◌≡◌, false, List, [], ◌∷◌, ◌++◌}
use Rattle.path.specs.declared.step.Step.{Step}
use Rattle.path.specs.declared.step.Test.{Test}
use Rattle.path.specs.declared.step.Test.TheVariants.{Star, Name}
use Rattle.fitting.specs.declared.fit.Ending.{Ending}
use Rattle.fitting.specs.declared.fit.Ending.TheVariants.{Closed, Open}
use Rattle.fitting.specs.declared.fit.Fit.{Fit}
use Rattle.fitting.specs.declared.fit.Fit.TheVariants.{Yes, No}

abbrev pub Passes : {L : Type 0} → (L → L → Type 0) → Test L → L → Type 0
Passes Same Star a = Unit {0}
Passes Same (Name b) a = Same b a

abbrev pub StandsFor : {L : Type 0} → (L → L → Type 0) → List (Step L) → List L → Type 0
StandsFor Same [] ls = ls ≡ []
StandsFor {L} Same (s ∷ ss) ls =
    (between : List L) × (a : L) × (rest : List L) × (ls ≡ between ++ a ∷ rest) × (s.deep ≡ false → between ≡ []) × Passes Same s.test a × StandsFor Same ss rest

abbrev pub FitsPath : {L : Type 0} → (L → L → Type 0) → Ending → List (Step L) → List L → Type 0
FitsPath Same Closed ss ls = StandsFor Same ss ls
FitsPath {L} Same Open ss ls = (last : L) × StandsFor Same ss (ls ++ last ∷ [])

abbrev pub Says : Fit → Type 0 → Type 0
Says Yes P = P
Says No P = P → ⊥
