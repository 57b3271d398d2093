-- Fitting by computation, label by label. `same` tests which labels are the same.
--
--   passes t a       the label a passes the test t
--   takes s a o h    with the label a in front, the step s and those behind it fit: o says that those behind it fit what
--                    follows a, h that s and those behind it do
--   fits e ss ls     the label path ls with the ending e fits the steps ss
--   verdict b        the answer for a test
--   fit_text f       how the answer f is printed: `yes` or `no`
--   Reads e ss ls w  the word w has the places of ss from which on its steps fit ls with the ending e
--
-- Assumes nothing.
use Rattle.std.specs.Prelude.{◌≡◌, ℕ, ◌≤◌, Bool, true, false, ◌&&◌, ◌||◌, List, [], ◌∷◌, length, drop, codes}
use Rattle.words.specs.Words.{bit}
use Rattle.path.specs.declared.step.Step.{Step}
use Rattle.path.specs.declared.step.Test.{Test}
use Rattle.path.specs.declared.step.Test.TheVariants.{Star, Name}
use Rattle.fitting.specs.declared.fit.Ending.{Ending}
use Rattle.fitting.specs.declared.fit.Ending.TheVariants.{Closed, Open}
use Rattle.fitting.specs.declared.fit.Fit.{Fit}
use Rattle.fitting.specs.declared.fit.Fit.TheVariants.{Yes, No}

module _ {L : Type 0} (same : L → L → Bool) where
  abbrev pub passes : Test L → L → Bool
  passes Star a = true
  passes (Name b) a = same b a

  abbrev pub takes : Step L → L → Bool → Bool → Bool
  takes s a onward here = (passes s.test a && onward) || (s.deep && here)

  -- no label is left but the ending
  abbrev pub ends : Ending → List (Step L) → Bool
  ends Closed [] = true
  ends Closed (s ∷ ss) = false
  ends Open [] = false
  ends Open (s ∷ []) = true
  ends Open (s ∷ t ∷ ss) = false

  abbrev pub fits : Ending → List (Step L) → List L → Bool
  fits e ss [] = ends e ss
  fits e [] (a ∷ ls) = false
  fits e (s ∷ ss) (a ∷ ls) = takes s a (fits e ss ls) (fits e (s ∷ ss) ls)

  abbrev pub Reads : Ending → List (Step L) → List L → ℕ → Type 0
  Reads e ss ls w = (k : ℕ) → k ≤ length ss → bit w k ≡ fits e (drop k ss) ls

abbrev pub verdict : Bool → Fit
verdict true = Yes
verdict false = No

abbrev pub fit_text : Fit → List ℕ
fit_text Yes = codes "yes"
fit_text No = codes "no"
