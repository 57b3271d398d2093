use Rattle.std.proofs.Common.{◌≡◌, ℕ, ◌+◌, List, [], ◌∷◌, ◌++◌, map, length, drop, is_ok, Ok, Err, Result, sym, refl, ap, ◌∙◌, subst, arith}
use Rattle.std.proofs.lemmas.Result.{err_from_is_err_and}
use Rattle.std.proofs.lemmas.Bool.{cond-true, lt-ltb}
use Rattle.byte_classes.specs.declared.classes.Classes.{Classes}
use Rattle.name.specs.declared.name.Name.{Name}
use Rattle.name.specs.Names.{bytes_of, spot}
use Rattle.path.specs.declared.fault.PathFault.{PathFault}
use Rattle.path.specs.Reading.{onward}
use Rattle.trial.specs.declared.labels.Labels.{Labels}
use Rattle.trial.specs.Labels.{AcceptsLabels, labels_after, read_label, read_labels, seen_labels}
use Rattle.trial.specs.Rows.{names_of}
use Rattle.trial.proofs.Joined.{accepts_labels}
use Rattle.trial.proofs.Label.{Next}
use Rattle.trial.proofs.LabelPaths.{ReadTo, all_read, ends_behind, faults_behind, goes_on_behind, next_at_slash, next_read}
use Rattle.trial.proofs.labels.read.read_labels.Goals as goal

-- an answer that is the reading's accepts exactly the label paths
told : (k : Classes) (at : ℕ) (bs : List ℕ) (r : Result Labels PathFault) → seen_labels r ≡ read_labels k at bs → AcceptsLabels k bs (seen_labels r)
told k at bs r e = subst (AcceptsLabels k bs) (sym e) (accepts_labels k at bs)

pub returns-in_err-first : goal.returns-in_err-first
returns-in_err-first c =
    let p = c.args.part in
    let k = c.args.classes.now in
    let fault = faults_behind k 0 p.at p.text.now (read_labels k p.at (bytes_of p)) refl c.in_err-first.field-0.0 c.in_err-first.ensures in
    let q = err_from_is_err_and c.from_residual.result c.from_residual.ensures.1 in
    let e : seen_labels c.from_residual.result ≡ read_labels k p.at (bytes_of p) = ap seen_labels (q.1 ∙ ap (λ (f : PathFault). Err f) q.2) ∙ sym fault in
    record { answer = e; accepts = told k p.at (bytes_of p) c.from_residual.result e }

pub loop-at-init : goal.loop-at-init
loop-at-init c =
    let p = c.args.part in
    let k = c.args.classes.now in
    let l = c.in_ok-first.first in
    let end = c.in_ok-first.end in
    let S = read_labels k p.at (bytes_of p) in
    let well = ends_behind k 0 p.at p.text.now (spot l) end c.in_ok-first.ensures in
    let first : ReadTo k p.text.now S (l ∷ []) end = goes_on_behind k 0 p.at p.text.now S refl (spot l) end c.in_ok-first.ensures in
    (subst (λ (qs : List Name). ReadTo k p.text.now S qs end) (sym c.one-labels.ensures) first, well.2, well.3)

pub loop-at-preserved : goal.loop-at-preserved
loop-at-preserved c =
    let p = c.args.part in
    let k = c.args.classes.now in
    let text = p.text.now in
    let at = c.loop-at.at in
    let qs = names_of c.loop-at.labels in
    let l = c.in-Ok.next.0 in
    let end = c.in-Ok.next.1 in
    let S = read_labels k p.at (bytes_of p) in
    let count : c.len.result ≡ length qs = c.len.ensures in
    let read : ◌≡◌ {A = Next} (Ok (spot l, end)) (read_label k (length qs) (at + 1) (drop (at + 1) text)) =
    subst (λ (n : ℕ). ◌≡◌ {A = Next} (Ok (spot l, end)) (read_label k n (at + 1) (drop (at + 1) text))) count c.in-Ok.ensures in
    let well = ends_behind k (length qs) (at + 1) text (spot l) end read in
    let next = goes_on_behind k (length qs) (at + 1) text (labels_after k (length qs) at (drop at text)) (next_at_slash k (length qs) at text (omega arith) c.loop-at.invariant.2) (spot l) end read in
    let pushed : names_of c.push.new.self ≡ qs ++ l ∷ [] = c.push.ensures.after ∙ cond-true _ _ _ (ap is_ok (c.push.ensures.answer ∙ cond-true _ _ _ (lt-ltb _ _ well.0))) in
    (subst (λ (us : List Name). ReadTo k text S us end) (sym pushed) (next_read k text S qs at l end c.loop-at.invariant.0 next), well.2, well.3)

pub returns-then-at-part : goal.returns-then-at-part
returns-then-at-part c =
    let p = c.args.part in
    let k = c.args.classes.now in
    let e = all_read k p.text.now (read_labels k p.at (bytes_of p)) (names_of c.loop-at.labels) c.loop-at.at c.loop-at.invariant.0 (omega arith) in
    record { answer = e; accepts = told k p.at (bytes_of p) (Ok c.loop-at.labels) e }

pub returns-in-Err : goal.returns-in-Err
returns-in-Err c =
    let p = c.args.part in
    let k = c.args.classes.now in
    let text = p.text.now in
    let at = c.loop-at.at in
    let qs = names_of c.loop-at.labels in
    let S = read_labels k p.at (bytes_of p) in
    let count : c.len.result ≡ length qs = c.len.ensures in
    let read : ◌≡◌ {A = Next} (Err c.in-Err.fault) (read_label k (length qs) (at + 1) (drop (at + 1) text)) =
    subst (λ (n : ℕ). ◌≡◌ {A = Next} (Err c.in-Err.fault) (read_label k n (at + 1) (drop (at + 1) text))) count c.in-Err.ensures in
    let fault = faults_behind k (length qs) (at + 1) text (labels_after k (length qs) at (drop at text)) (next_at_slash k (length qs) at text (omega arith) c.loop-at.invariant.2) c.in-Err.fault read in
    let e = sym (c.loop-at.invariant.0 ∙ ap (λ r. onward r (λ ls. Ok (map spot qs ++ ls))) fault) in
    record { answer = e; accepts = told k p.at (bytes_of p) (Err c.in-Err.fault) e }
