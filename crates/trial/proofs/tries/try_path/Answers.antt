use Rattle.std.proofs.Common.{List, sym, ap, ◌∙◌, subst}
use Rattle.std.specs.Str.{bytes_eq}
use Rattle.name.specs.declared.name.Name.{Name}
use Rattle.name.specs.Names.{bytes_of, spot}
use Rattle.path.specs.Paths.{steps_of}
use Rattle.fitting.specs.declared.fit.Ending.TheVariants.{Closed}
use Rattle.fitting.specs.Fitting.{fits, verdict}
use Rattle.trial.specs.Rows.{names_of}
use Rattle.trial.specs.Tries.{Tries}
use Rattle.trial.proofs.Tried.{tried_at_names, tries}
use Rattle.trial.proofs.tries.try_path.Goals as goal

pub returns : goal.returns
returns c =
    let k = c.args.classes.now in
    let l = c.args.labels in
    let x = c.args.expression in
    let labels = c.in_ok-labels.labels in
    let path = c.in_ok-path.path in
    let fit = c.fits.ensures.answer ∙ ap (λ (ns : List Name). verdict (fits (λ x y. bytes_eq (spot x).bytes (spot y).bytes) Closed (steps_of path) ns)) c.names.ensures in
    let e = tried_at_names k l.at x.at (bytes_of l) (bytes_of x) (names_of labels) (steps_of path) c.fits.result
    c.in_ok-labels.ensures.answer c.in_ok-path.ensures.answer fit in
    record { answer = e; means = subst (Tries k (bytes_of l) (bytes_of x)) (sym e) (tries k l.at x.at (bytes_of l) (bytes_of x)) }
