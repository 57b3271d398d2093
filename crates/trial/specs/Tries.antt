-- Trying a written label path against a written expression.
--
--   same_bytes x y            two names say the same, wherever they were written
--   try_answer c a ls b es    what trying the label path ls, at the offset a, against the expression es, at b, answers
--   Tries c ls es r           the answer r to trying ls against es accepts exactly a label path and an expression, and
--                             says whether the one is among the other's label paths
--
-- Assumes nothing.
use Rattle.std.specs.Prelude.{◌≡◌, ℕ, ◌≤◌, Bool, List, length, Ok, Result}
use Rattle.std.specs.Str.{bytes_eq}
use Rattle.byte_classes.specs.declared.classes.Classes.{Classes}
use Rattle.name.specs.Names.{Spot}
use Rattle.path.specs.declared.fault.PathFault.{PathFault}
use Rattle.path.specs.declared.step.Step.{Step}
use Rattle.path.specs.Grammar.{PathText}
use Rattle.path.specs.Reading.{onward, read_path}
use Rattle.fitting.specs.declared.fit.Ending.TheVariants.{Closed}
use Rattle.fitting.specs.declared.fit.Fit.{Fit}
use Rattle.fitting.specs.Fitting.{fits, verdict}
use Rattle.fitting.specs.Language.{Says, StandsFor}
use Rattle.trial.specs.Labels.{IsLabelPath, joined, read_labels}

abbrev pub same_bytes : Spot → Spot → Bool
same_bytes x y = bytes_eq x.bytes y.bytes

abbrev pub try_answer : Classes → ℕ → List ℕ → ℕ → List ℕ → Result Fit PathFault
try_answer c a ls b es = onward (read_labels c a ls) (λ labels. onward (read_path c b es) (λ ss. Ok (verdict (fits same_bytes Closed ss labels))))

-- the names ks joined are ls, and the steps ts are es, within their sizes
abbrev pub BothRead : Classes → List ℕ → List ℕ → List (List ℕ) → List (Step (List ℕ)) → Type 0
BothRead c ls es ks ts = (joined ks ≡ ls) × IsLabelPath c ks × PathText c es ts × (length ts ≤ 8)

abbrev pub Tries : Classes → List ℕ → List ℕ → Result Fit PathFault → Type 0
Tries c ls es r =
    ((ks : List (List ℕ)) (ts : List (Step (List ℕ))) → BothRead c ls es ks ts → (fit : Fit) × (r ≡ Ok fit) × Says fit (StandsFor ◌≡◌ ts ks))
    × ((fit : Fit) → r ≡ Ok fit → (ks : List (List ℕ)) × (ts : List (Step (List ℕ))) × BothRead c ls es ks ts × Says fit (StandsFor ◌≡◌ ts ks))
