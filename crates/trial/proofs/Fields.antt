-- The fields of a line, and which of them decides the answer.
-- Assumes nothing.
use Rattle.std.proofs.Common.{◌≡◌, ℕ, suc, ◌+◌, ◌≤◌, Bool, true, false, cond, ltb, List, [], ◌∷◌, ◌++◌, length, drop, Ok, Err, Result, refl, ap, ◌∙◌, arith, length-append}
use Rattle.std.proofs.lemmas.Bool.{cond-false, cond-true, eq-eqb, le-ltb, ne_eqb}
use Rattle.std.proofs.lemmas.Bool.Decides.{nat_tests}
use Rattle.byte_classes.specs.declared.classes.Classes.{Classes}
use Rattle.name.specs.Parts.{before}
use Rattle.path.specs.Reading.{onward}
use Rattle.fitting.specs.declared.fit.Fit.{Fit}
use Rattle.trial.specs.declared.fault.LineFault.{LineFault}
use Rattle.trial.specs.declared.fault.LineFault.TheVariants.{Field}
use Rattle.trial.specs.Lines.{TriesFields, both_fields, fields_answer, first, in_line, line_answer, no_expression, second, second_at, spaceless}
use Rattle.trial.specs.Tries.{try_answer}

module _ (c : Classes) (line : List ℕ) (short : length line ≤ 200) where
  judged : line_answer c line ≡ fields_answer c line
  judged = cond-false _ _ _ (le-ltb _ _ short)

  pub lacks_labels : length (first line) ≡ 0 → line_answer c line ≡ Err (Field 0)
  lacks_labels none = judged ∙ cond-true _ _ _ (eq-eqb _ _ none)

  pub lacks_expression : (length (first line) ≡ 0 → ⊥) → length (second line) ≡ 0 → line_answer c line ≡ no_expression c line
  lacks_expression some none = judged ∙ (cond-false _ _ _ (ne_eqb _ _ some) ∙ cond-true _ _ _ (eq-eqb _ _ none))

  pub has_both : (length (first line) ≡ 0 → ⊥) → (length (second line) ≡ 0 → ⊥) → line_answer c line ≡ both_fields c line
  has_both some more = judged ∙ (cond-false _ _ _ (ne_eqb _ _ some) ∙ cond-false _ _ _ (ne_eqb _ _ more))

-- a field is cut out whole
before_space : (ls es : List ℕ) → spaceless ls ≡ true → before 32 (ls ++ 32 ∷ es) ≡ ls
before_space [] es h = refl
before_space (b ∷ bs) es h = let t : spaceless bs ≡ true → before 32 (bs ++ 32 ∷ es) ≡ bs = before_space bs es in grind (arith, nat_tests)

before_end : (es : List ℕ) → spaceless es ≡ true → before 32 es ≡ es
before_end [] h = refl
before_end (b ∷ bs) h = let t : spaceless bs ≡ true → before 32 bs ≡ bs = before_end bs in grind (arith, nat_tests)

behind_space : (ls es : List ℕ) → drop (length ls + 1) (ls ++ 32 ∷ es) ≡ es
behind_space [] es = refl
behind_space (b ∷ bs) es = let n : suc (length bs) + 1 ≡ suc (length bs + 1) = omega arith in ap (λ (k : ℕ). drop k (b ∷ bs ++ 32 ∷ es)) n ∙ behind_space bs es

told_whole : (r : Result Fit LineFault) → onward r (λ fit. Ok fit) ≡ r
told_whole (Ok fit) = refl
told_whole (Err f) = refl

pub tries_fields : (c : Classes) (line : List ℕ) → TriesFields c line (line_answer c line)
tries_fields c line ls es whole (free, some) (clear, more) short =
    let one : first line ≡ ls = ap (before 32) whole ∙ before_space ls es free in
    let at : second_at line ≡ length ls + 1 = ap (λ (bs : List ℕ). length bs + 1) one in
    let two : second line ≡ es = ap (λ (bs : List ℕ). before 32 (drop (second_at line) bs)) whole ∙ (ap (λ (k : ℕ). before 32 (drop k (ls ++ 32 ∷ es))) at ∙ (ap (before 32) (behind_space ls es) ∙ before_end es clear)) in
    let size : length line ≡ length ls + 1 + length es = omega (arith, ap length whole, length-append ls (32 ∷ es)) in
    let end : ltb (second_at line + length (second line)) (length line) ≡ false = le-ltb _ _ (omega (arith, ap length two)) in
    let both = has_both c line short (λ z. omega (arith, ap length one)) (λ z. omega (arith, ap length two)) in
    let tried = in_line (try_answer c 0 (first line) (second_at line) (second line)) in
    both ∙ (ap (λ (b : Bool). onward tried (λ fit. cond b (Err (Field (second_at line + length (second line) + 1))) (Ok fit))) end
    ∙ (told_whole tried
    ∙ (ap (λ (bs : List ℕ). in_line (try_answer c 0 bs (second_at line) (second line))) one
    ∙ (ap (λ (k : ℕ). in_line (try_answer c 0 ls k (second line))) at ∙ ap (λ (bs : List ℕ). in_line (try_answer c 0 ls (length ls + 1) bs)) two))))
