-- Examples of fitting, by which a reader can try the definitions: they are computed.
--
--   Example          a label path by its names, its ending, an expression as it is written, and the answer
--   xml              the classes of XML 1.0 names, as a value
--   holds x          the expression of x is read, and its label path fits it as x says
--   examples         the list; the last four have an open ending
--   all_hold xs      each of them holds
--
-- Assumes nothing.
use Rattle.std.specs.Prelude.{ℕ, zero, suc, Bool, true, false, ◌&&◌, List, [], ◌∷◌, Ok, Err, codes, Result, refl}
use Rattle.std.specs.Str.{bytes_eq}
use Rattle.byte_classes.specs.declared.classes.Class.{Class}
use Rattle.byte_classes.specs.declared.classes.Classes.{Classes}
use Rattle.byte_classes.specs.Bytes.{xml_class}
use Rattle.name.specs.Names.{Spot}
use Rattle.path.specs.declared.fault.PathFault.{PathFault}
use Rattle.path.specs.declared.step.Step.{Step}
use Rattle.path.specs.Grammar.{written}
use Rattle.path.specs.Reading.{read_path}
use Rattle.fitting.specs.declared.fit.Ending.{Ending}
use Rattle.fitting.specs.declared.fit.Ending.TheVariants.{Closed, Open}
use Rattle.fitting.specs.declared.fit.Fit.{Fit}
use Rattle.fitting.specs.declared.fit.Fit.TheVariants.{Yes, No}
use Rattle.fitting.specs.Fitting.{fits, verdict}

pub record Example : Type 0 where
  pub labels : List (List ℕ)
  pub ending : Ending
  pub expression : List ℕ
  pub fit : Fit

abbrev rows : ℕ → ℕ → List Class
rows i zero = []
rows i (suc n) = xml_class i ∷ rows (suc i) n

abbrev pub xml : Classes
xml = record { table = rows 0 256; whole = refl; slash = refl; star = refl }

abbrev same_fit : Fit → Fit → Bool
same_fit Yes Yes = true
same_fit Yes No = false
same_fit No Yes = false
same_fit No No = true

abbrev holds_at : Example → Result (List (Step Spot)) PathFault → Bool
holds_at x (Ok ss) = same_fit (verdict (fits bytes_eq x.ending (written ss) x.labels)) x.fit
holds_at x (Err f) = false

abbrev pub holds : Example → Bool
holds x = holds_at x (read_path xml 0 x.expression)

abbrev pub all_hold : List Example → Bool
all_hold [] = true
all_hold (x ∷ xs) = holds x && all_hold xs

abbrev a : List ℕ
a = codes "a"

abbrev b : List ℕ
b = codes "b"

abbrev c : List ℕ
c = codes "c"

abbrev example : List (List ℕ) → Ending → List ℕ → Fit → Example
example labels ending expression fit = record { labels = labels; ending = ending; expression = expression; fit = fit }

abbrev pub examples : List Example
examples =
    example (a ∷ []) Closed (codes "a") Yes
    ∷ example (a ∷ b ∷ []) Closed (codes "a//b") Yes
    ∷ example (a ∷ c ∷ b ∷ []) Closed (codes "a//b") Yes
    ∷ example (a ∷ b ∷ []) Closed (codes "a/*") Yes
    ∷ example (a ∷ []) Closed (codes "a/*") No
    ∷ example (a ∷ b ∷ b ∷ []) Closed (codes "a//b") Yes
    ∷ example (b ∷ a ∷ []) Closed (codes "a//b") No
    ∷ example (a ∷ b ∷ c ∷ []) Closed (codes "*//c") Yes
    ∷ example (a ∷ b ∷ c ∷ []) Closed (codes "*/c") No
    ∷ example (a ∷ []) Open (codes "a/b") Yes
    ∷ example [] Open (codes "a/b") No
    ∷ example (a ∷ []) Open (codes "a//b") Yes
    ∷ example (b ∷ []) Open (codes "a//b") No
    ∷ []
