-- The language of path expressions: P ::= F | P/F | P//F, F ::= name | *
--
--   StepText c bs t      F derives the bytes bs, which say the test t
--   PathText c bs ss     P derives the bytes bs, which say the steps ss
--   written ss           the steps ss by the bytes of their names
--   AcceptsPaths c bs r  the answer r to reading bs accepts exactly the paths of at most eight steps, each as its steps
--
-- Assumes nothing.
use Rattle.std.specs.Prelude.{◌≡◌, ℕ, ◌≤◌, true, false, List, [], ◌∷◌, ◌++◌, map, length, Ok, Result}
use Rattle.byte_classes.specs.declared.classes.Classes.{Classes}
use Rattle.name.specs.Names.{IsName, Spot}
use Rattle.path.specs.declared.fault.PathFault.{PathFault}
use Rattle.path.specs.declared.step.Step.{Step}
use Rattle.path.specs.declared.step.Test.{Test}
use Rattle.path.specs.declared.step.Test.TheVariants as test
use Rattle.path.specs.Reading.{step, step_named}

pub data StepText (c : Classes) : List ℕ → Test (List ℕ) → Type 0 where
  star : StepText c (42 ∷ []) test.Star
  name : {bs : List ℕ} → IsName c bs → StepText c bs (test.Name bs)

pub data PathText (c : Classes) : List ℕ → List (Step (List ℕ)) → Type 0 where
  one : {f : List ℕ} {t : Test (List ℕ)} → StepText c f t → PathText c f (step false t ∷ [])
  child : {p f : List ℕ} {ss : List (Step (List ℕ))} {t : Test (List ℕ)} → PathText c p ss → StepText c f t → PathText c (p ++ 47 ∷ f) (ss ++ step false t ∷ [])
  deep : {p f : List ℕ} {ss : List (Step (List ℕ))} {t : Test (List ℕ)} → PathText c p ss → StepText c f t → PathText c (p ++ 47 ∷ 47 ∷ f) (ss ++ step true t ∷ [])

abbrev pub written : List (Step Spot) → List (Step (List ℕ))
written ss = map (step_named (λ s. s.bytes)) ss

abbrev pub AcceptsPaths : Classes → List ℕ → Result (List (Step Spot)) PathFault → Type 0
AcceptsPaths c bs r =
    ((ss : List (Step Spot)) → r ≡ Ok ss → PathText c bs (written ss) × (length ss ≤ 8))
    × ((ts : List (Step (List ℕ))) → PathText c bs ts → length ts ≤ 8 → (ss : List (Step Spot)) × (r ≡ Ok ss) × (written ss ≡ ts))
