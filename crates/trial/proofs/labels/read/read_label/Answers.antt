use Rattle.std.proofs.Common.{Err, ap, ◌∙◌, arith, length-drop, rules}
use Rattle.std.proofs.lemmas.Result.{err_from_is_err_and}
use Rattle.name.specs.Names.{bytes_of, read_name, spot}
use Rattle.name.proofs.Fronts.{before_between, before_within}
use Rattle.path.specs.declared.fault.PathFault.{PathFault}
use Rattle.trial.specs.Labels.{seen_label}
use Rattle.trial.proofs.Label.{Next, bad_label, begins_within, good_label, one_too_many}
use Rattle.trial.proofs.labels.read.read_label.Goals as goal

pub bounds-part-part : goal.bounds-part-part
bounds-part-part c = begins_within c.args.classes.now c.args.part.text.now c.args.part.at (omega (arith, c.end_before-end.ensures))

pub returns-then-count-ge-MOST : goal.returns-then-count-ge-MOST
returns-then-count-ge-MOST c =
    let fault : PathFault → Next = λ f. Err f in
    ap fault c.surplus.ensures ∙ one_too_many c.args.classes.now c.args.part.text.now c.args.part.at (omega (arith, c.end_before-end.ensures)) c.args.count c.if-count-ge-MOST.true

pub slice_bounds-read-end : goal.slice_bounds-read-end
slice_bounds-read-end c =
    let p = c.args.part in
    let within = before_within 47 (bytes_of p) in
    let size = length-drop p.at p.text.now in
    search rules

pub returns-in_err-name : goal.returns-in_err-name
returns-in_err-name c =
    let p = c.args.part in
    let k = c.args.classes.now in
    let bytes = ap (read_name k p.at) (before_between 47 p.text.now p.at c.end_before-end.result c.end_before-end.ensures) in
    let bad = bad_label k p.text.now p.at (omega (arith, c.end_before-end.ensures)) c.args.count c.in_err-name.field-0.0 (omega arith) (c.in_err-name.ensures.answer ∙ bytes) in
    let q = err_from_is_err_and c.from_residual.result c.from_residual.ensures.1 in
    ap seen_label (q.1 ∙ ap (λ (f : PathFault). Err f) q.2) ∙ bad

pub returns : goal.returns
returns c =
    let p = c.args.part in
    let k = c.args.classes.now in
    let bytes = ap (read_name k p.at) (before_between 47 p.text.now p.at c.end_before-end.result c.end_before-end.ensures) in
    good_label k p.text.now p.at (omega (arith, c.end_before-end.ensures)) c.args.count (spot c.in_ok-name.name) c.end_before-end.result (omega arith) (c.in_ok-name.ensures.answer ∙ bytes) c.end_before-end.ensures
