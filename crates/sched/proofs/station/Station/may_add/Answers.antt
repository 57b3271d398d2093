use Rattle.std.proofs.Common.{eqb, leb, [], ◌∷◌, length, ◌∙◌}
use Rattle.std.proofs.lemmas.Bool.{ne_eqb}
use Rattle.std.proofs.lemmas.Result.{err_from_is_err_and}
use Rattle.model.specs.Refusals.{book_row}
use Rattle.desk.proofs.Rows.{row_past, rows_here, rows_past}
use Rattle.desk.specs.States.{state}
use Rattle.sched.specs.Judging.{head_rows}
use Rattle.sched.proofs.station.Station.may_add.Goals as goal

pub returns-in_err-has_rows-clause-rows : goal.returns-in_err-has_rows-clause-rows
returns-in_err-has_rows-clause-rows g c =
    let s = c.args.self.now in
    let m = state (g.S.Store.meaning s.store).records (g.S.Store.meaning s.store).most s.desk in
    let full = (leb m.limit (length m.records), 10) ∷ [] in
    let p = err_from_is_err_and c.from_residual-in_err-has_rows.result c.from_residual-in_err-has_rows.ensures.1 in
    let begun = c.in_ok-place.ensures.rows in
    rw (p.1, p.2) (rows_past (head_rows m c.args.ticket c.args.node) ((eqb c.args.label 0, 5) ∷ book_row m 1 ∷ full) begun
    ∙ (row_past (eqb c.args.label 0) 5 (book_row m 1 ∷ full) (ne_eqb c.args.label 0 c.if-label-eq0.false)
    ∙ rows_here (book_row m 1 ∷ []) full _ (c.in_err-has_rows.ensures.rows m.records m.limit)))
