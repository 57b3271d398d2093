use Rattle.std.proofs.Common.{eqb, [], ◌∷◌, sym, ◌∙◌}
use Rattle.std.proofs.lemmas.Bool.{ne_eqb}
use Rattle.std.proofs.lemmas.Result.{err_from_is_err_and}
use Rattle.tree.specs.Lists.{some_of}
use Rattle.tree.specs.Trees.{actual}
use Rattle.model.specs.Ways.{child_of}
use Rattle.model.specs.Refusals.{book_row}
use Rattle.desk.proofs.Rows.{row_past, rows_past}
use Rattle.desk.specs.States.{state}
use Rattle.sched.specs.Judging.{head_rows}
use Rattle.sched.proofs.station.Station.may_remove.Goals as goal

pub returns-in_err-has_rows-clause-rows : goal.returns-in_err-has_rows-clause-rows
returns-in_err-has_rows-clause-rows g c =
    let s = c.args.self.now in
    let m = state (g.S.Store.meaning s.store).records (g.S.Store.meaning s.store).most s.desk in
    let child = some_of (child_of c.args.node) (actual m.records) in
    let p = err_from_is_err_and c.from_residual-in_err-has_rows.result c.from_residual-in_err-has_rows.ensures.1 in
    let begun = c.in_ok-begun.ensures.rows in
    rw (p.1, p.2) (rows_past (head_rows m c.args.ticket c.args.node) ((eqb c.args.node 0, 6) ∷ (child, 7) ∷ book_row m 2 ∷ []) begun
    ∙ (row_past (eqb c.args.node 0) 6 ((child, 7) ∷ book_row m 2 ∷ []) (ne_eqb c.args.node 0 c.if-node-eq-ROOT.false)
    ∙ (row_past child 7 (book_row m 2 ∷ []) (sym c.has_live_child.ensures.answer ∙ c.if-has_live_child.false)
    ∙ c.in_err-has_rows.ensures.rows m.records m.limit)))
