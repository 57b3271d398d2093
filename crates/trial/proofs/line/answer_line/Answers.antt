use Rattle.std.proofs.Common.{◌≡◌, ℕ, ◌+◌, ◌-◌, min, cond, ltb, List, length, take, drop, Ok, Err, Result, sym, ap, ◌∙◌, subst, arith, length-drop, rules}
use Rattle.std.proofs.lemmas.Result.{err_from_is_err_and}
use Rattle.std.proofs.lemmas.Bool.{cond-false, cond-true, le-ltb, lt-ltb}
use Rattle.byte_classes.specs.declared.classes.Classes.{Classes}
use Rattle.name.specs.Names.{Spot}
use Rattle.name.specs.Parts.{before}
use Rattle.name.proofs.Fronts.{before_between, before_within}
use Rattle.path.specs.declared.fault.PathFault.{PathFault}
use Rattle.path.specs.Reading.{onward}
use Rattle.fitting.specs.declared.fit.Fit.{Fit}
use Rattle.trial.specs.declared.fault.LineFault.{LineFault}
use Rattle.trial.specs.declared.fault.LineFault.TheVariants.{Field}
use Rattle.trial.specs.Labels.{read_labels}
use Rattle.trial.specs.Lines.{TriesFields, first, in_line, line_answer, second, second_at}
use Rattle.trial.specs.Tries.{try_answer}
use Rattle.trial.proofs.Fields.{has_both, lacks_expression, lacks_labels, tries_fields}
use Rattle.trial.proofs.line.answer_line.Goals as goal

-- an answer that is the line's means what it says
told : (k : Classes) (line : List ℕ) (r : Result Fit LineFault) → r ≡ line_answer k line → TriesFields k line r
told k line r e = subst (TriesFields k line) (sym e) (tries_fields k line)

-- the second field, where the code finds it
second_is : (line : List ℕ) (end stop : ℕ) → end ≡ length (first line) → stop ≡ end + 1 + length (before 32 (drop (end + 1) line)) → (end + 1 ≡ second_at line) × (stop ≡ second_at line + length (second line)) × (drop (end + 1) (take (stop - 0) line) ≡ second line)
second_is line end stop e f =
    let at : end + 1 ≡ second_at line = omega arith in
    let same = ap (λ (k : ℕ). before 32 (drop k line)) at in
    (at, omega (arith, ap length same), before_between 32 line (end + 1) stop f ∙ same)

pub returns-then-end-eq0 : goal.returns-then-end-eq0
returns-then-end-eq0 c =
    let e = sym (lacks_labels c.args.classes.now c.args.line.now (omega arith) (omega (arith, c.end_before-end.ensures))) in
    record { answer = e; means = told c.args.classes.now c.args.line.now (Err (Field 0)) e }

pub slice_bounds-labels-end : goal.slice_bounds-labels-end
slice_bounds-labels-end c = let within = before_within 32 c.args.line.now in search rules

pub overflow_add-at : goal.overflow_add-at
overflow_add-at c = let within = before_within 32 c.args.line.now in omega (arith, c.end_before-end.ensures)

pub returns-in_err-read_labels : goal.returns-in_err-read_labels
returns-in_err-read_labels c =
    let k = c.args.classes.now in
    let line = c.args.line.now in
    let end : c.end_before-end.result ≡ length (first line) = omega (arith, c.end_before-end.ensures) in
    let two = second_is line c.end_before-end.result c.end_before-stop.result end c.end_before-stop.ensures in
    let bytes = before_between 32 line 0 c.end_before-end.result c.end_before-end.ensures in
    let read = ap (read_labels k 0) (sym bytes) ∙ sym c.in_err-read_labels.ensures.answer in
    let lacks = lacks_expression k line (omega arith) (λ z. omega arith) (omega (arith, two.0, two.1)) in
    let fault = lacks ∙ ap (λ (r : Result (List Spot) PathFault). onward (in_line r) (λ ls. Err (Field (min (second_at line) (length line))))) read in
    let q = err_from_is_err_and c.from_residual.result c.from_residual.ensures.1 in
    let e : c.from_residual.result ≡ line_answer k line = q.1 ∙ (ap (λ (f : LineFault). Err f) q.2 ∙ sym fault) in
    record { answer = e; means = told k line c.from_residual.result e }

pub returns-then-stop-at : goal.returns-then-stop-at
returns-then-stop-at c =
    let k = c.args.classes.now in
    let line = c.args.line.now in
    let end : c.end_before-end.result ≡ length (first line) = omega (arith, c.end_before-end.ensures) in
    let two = second_is line c.end_before-end.result c.end_before-stop.result end c.end_before-stop.ensures in
    let bytes = before_between 32 line 0 c.end_before-end.result c.end_before-end.ensures in
    let read = ap (read_labels k 0) (sym bytes) ∙ sym c.in_ok-read_labels.ensures.answer in
    let lacks = lacks_expression k line (omega arith) (λ z. omega arith) (omega (arith, two.0, two.1)) in
    let told_at : ℕ → Result Fit LineFault = λ n. Err (Field n) in
    let fault = lacks ∙ ap (λ (r : Result (List Spot) PathFault). onward (in_line r) (λ ls. Err (Field (min (second_at line) (length line))))) read in
    let place = ap told_at (c.min.ensures ∙ ap (λ (n : ℕ). min n (length line)) two.0) in
    let e = place ∙ sym fault in
    record { answer = e; means = told k line (Err (Field c.min.result)) e }

pub slice_bounds-expression-end : goal.slice_bounds-expression-end
slice_bounds-expression-end c =
    let line = c.args.line.now in
    let within = before_within 32 (drop (c.end_before-end.result + 1) line) in
    let size = length-drop (c.end_before-end.result + 1) line in
    let stop = c.end_before-stop.ensures in
    search rules

-- the answer of trying, as the line's: tried by what the code has cut out
tried_is : (k : Classes) (line labels expression : List ℕ) (at : ℕ) → labels ≡ first line → at ≡ second_at line → expression ≡ second line
    → try_answer k 0 labels at expression ≡ try_answer k 0 (first line) (second_at line) (second line)
tried_is k line labels expression at l a x =
    ap (λ (bs : List ℕ). try_answer k 0 bs at expression) l ∙ (ap (λ (n : ℕ). try_answer k 0 (first line) n expression) a ∙ ap (try_answer k 0 (first line) (second_at line)) x)

-- what follows once both fields are tried
abbrev after_both : List ℕ → Result Fit PathFault → Result Fit LineFault
after_both line r = onward (in_line r) (λ fit. cond (ltb (second_at line + length (second line)) (length line)) (Err (Field (second_at line + length (second line) + 1))) (Ok fit))

pub returns-in_err-fit : goal.returns-in_err-fit
returns-in_err-fit c =
    let k = c.args.classes.now in
    let line = c.args.line.now in
    let end : c.end_before-end.result ≡ length (first line) = omega (arith, c.end_before-end.ensures) in
    let two = second_is line c.end_before-end.result c.end_before-stop.result end c.end_before-stop.ensures in
    let one = before_between 32 line 0 c.end_before-end.result c.end_before-end.ensures in
    let tried = c.in_err-fit.ensures.answer ∙ tried_is k line _ _ _ one two.0 two.2 in
    let both = has_both k line (omega arith) (λ z. omega arith) (λ z. c.if-stop-at.false (omega (arith, two.0, two.1))) in
    let fault = both ∙ ap (after_both line) (sym tried) in
    let q = err_from_is_err_and c.from_residual-in_err-fit.result c.from_residual-in_err-fit.ensures.1 in
    let e : c.from_residual-in_err-fit.result ≡ line_answer k line = q.1 ∙ (ap (λ (f : LineFault). Err f) q.2 ∙ sym fault) in
    record { answer = e; means = told k line c.from_residual-in_err-fit.result e }

pub returns-then-stop-line : goal.returns-then-stop-line
returns-then-stop-line c =
    let k = c.args.classes.now in
    let line = c.args.line.now in
    let end : c.end_before-end.result ≡ length (first line) = omega (arith, c.end_before-end.ensures) in
    let two = second_is line c.end_before-end.result c.end_before-stop.result end c.end_before-stop.ensures in
    let one = before_between 32 line 0 c.end_before-end.result c.end_before-end.ensures in
    let tried = c.in_ok-fit.ensures.answer ∙ tried_is k line _ _ _ one two.0 two.2 in
    let both = has_both k line (omega arith) (λ z. omega arith) (λ z. c.if-stop-at.false (omega (arith, two.0, two.1))) in
    let told_at : ℕ → Result Fit LineFault = λ n. Err (Field n) in
    let surplus = cond-true _ _ _ (lt-ltb (second_at line + length (second line)) (length line) (omega (arith, two.1))) in
    let fault = both ∙ (ap (after_both line) (sym tried) ∙ surplus) in
    let e = ap told_at (ap (λ (n : ℕ). n + 1) two.1) ∙ sym fault in
    record { answer = e; means = told k line (Err (Field (c.end_before-stop.result + 1))) e }

pub returns : goal.returns
returns c =
    let k = c.args.classes.now in
    let line = c.args.line.now in
    let end : c.end_before-end.result ≡ length (first line) = omega (arith, c.end_before-end.ensures) in
    let two = second_is line c.end_before-end.result c.end_before-stop.result end c.end_before-stop.ensures in
    let one = before_between 32 line 0 c.end_before-end.result c.end_before-end.ensures in
    let tried = c.in_ok-fit.ensures.answer ∙ tried_is k line _ _ _ one two.0 two.2 in
    let both = has_both k line (omega arith) (λ z. omega arith) (λ z. c.if-stop-at.false (omega (arith, two.0, two.1))) in
    let whole = cond-false _ _ _ (le-ltb (second_at line + length (second line)) (length line) (omega (arith, two.1))) in
    let e = sym (both ∙ (ap (after_both line) (sym tried) ∙ whole)) in
    record { answer = e; means = told k line (Ok c.in_ok-fit.fit) e }
