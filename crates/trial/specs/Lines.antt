-- What a line `LABELPATH EXPRESSION` is answered.
--
--   first line, second line    the first field, up to the first space, and the second, up to the next
--   second_at line             where the second field begins
--   in_line r                  a path's fault as a line's
--   fields_answer c line       what the fields are answered, judged from the left: a missing or empty expression after the
--                              label path is read, a surplus field after the expression is
--   line_answer c line         the same, where a line too long is told first
--   TriesFields c line r       two fields with one space between them, in at most 200 bytes, are answered as they are tried
--
-- Assumes nothing.
use Rattle.std.specs.Prelude.{◌≡◌, ℕ, ◌+◌, ◌<◌, ◌≤◌, min, Bool, true, false, cond, List, [], ◌∷◌, ◌++◌, length, drop, Ok, Err, Result, ◌==◌, nat_lt}
use Rattle.byte_classes.specs.declared.classes.Classes.{Classes}
use Rattle.name.specs.Parts.{before}
use Rattle.path.specs.declared.fault.PathFault.{PathFault}
use Rattle.path.specs.Reading.{onward}
use Rattle.fitting.specs.declared.fit.Fit.{Fit}
use Rattle.trial.specs.declared.fault.LineFault.{LineFault}
use Rattle.trial.specs.declared.fault.LineFault.TheVariants.{Path, Field, Long}
use Rattle.trial.specs.Labels.{read_labels}
use Rattle.trial.specs.Tries.{try_answer}

abbrev pub first : List ℕ → List ℕ
first line = before 32 line

abbrev pub second_at : List ℕ → ℕ
second_at line = length (first line) + 1

abbrev pub second : List ℕ → List ℕ
second line = before 32 (drop (second_at line) line)

abbrev pub in_line : {X : Type 0} → Result X PathFault → Result X LineFault
in_line (Ok x) = Ok x
in_line (Err e) = Err (Path e)

abbrev pub no_expression : Classes → List ℕ → Result Fit LineFault
no_expression c line = onward (in_line (read_labels c 0 (first line))) (λ ls. Err (Field (min (second_at line) (length line))))

abbrev pub both_fields : Classes → List ℕ → Result Fit LineFault
both_fields c line =
    onward (in_line (try_answer c 0 (first line) (second_at line) (second line)))
    (λ fit. cond (nat_lt (second_at line + length (second line)) (length line)) (Err (Field (second_at line + length (second line) + 1))) (Ok fit))

abbrev pub fields_answer : Classes → List ℕ → Result Fit LineFault
fields_answer c line = cond (length (first line) == 0) (Err (Field 0)) (cond (length (second line) == 0) (no_expression c line) (both_fields c line))

abbrev pub line_answer : Classes → List ℕ → Result Fit LineFault
line_answer c line = cond (nat_lt 200 (length line)) (Err Long) (fields_answer c line)

-- a field: not empty, and without a space
abbrev pub spaceless : List ℕ → Bool
spaceless [] = true
spaceless (b ∷ bs) = cond (b == 32) false (spaceless bs)

abbrev pub IsField : List ℕ → Type 0
IsField bs = (spaceless bs ≡ true) × (0 < length bs)

abbrev pub TriesFields : Classes → List ℕ → Result Fit LineFault → Type 0
TriesFields c line r = (ls es : List ℕ) → line ≡ ls ++ 32 ∷ es → IsField ls → IsField es → length line ≤ 200 → r ≡ in_line (try_answer c 0 ls (length ls + 1) es)
