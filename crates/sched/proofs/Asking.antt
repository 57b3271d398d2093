-- An ask: the row of its buffer, and what an accepted one leaves and answers.
use Rattle.std.proofs.Common.{◌≡◌, ℕ, ◌≤◌, cond, ltb, List, [], ◌∷◌, ◌++◌, map, length, None, sym, ap, ◌∙◌}
use Rattle.std.proofs.lemmas.Bool.{le-ltb}
use Rattle.path.specs.declared.coded.CodedPath.{CodedPath}
use Rattle.tree.specs.Trees.{actual}
use Rattle.model.specs.Numbers.{member}
use Rattle.model.specs.Rules.{found, query}
use Rattle.model.specs.Scheduler.{Model, place_of}
use Rattle.model.specs.Locks.{read}
use Rattle.model.specs.Changes.{learns, grant, asked}
use Rattle.model.specs.Refusals.{Rows, first_row}
use Rattle.desk.proofs.Rows.{row_past, rows_past}
use Rattle.sched.specs.Judging.{head_rows}

module _ (m : Model) (t n : ℕ) (path : CodedPath) where
  -- where the head does not apply, and there is room for the k names that were found, the rows behind decide
  pub past_short : (room k : ℕ) (more : Rows) →
      let names = query (actual m.records) n path in
      first_row (head_rows m t n) ≡ None → k ≡ length names → k ≤ room → first_row (head_rows m t n ++ ((ltb room (length names), 8) ∷ more)) ≡ first_row more
  past_short room k more begun count fits =
      let names = query (actual m.records) n path in
      rows_past (head_rows m t n) ((ltb room (length names), 8) ∷ more) begun ∙ row_past (ltb room (length names)) 8 more (ap (ltb room) (sym count) ∙ le-ltb room k fits)

  -- what an ask leaves, where the ticket's place is p, and answers, where ns are the names
  pub asked_at : (m' : Model) (p : ℕ) (ns : List ℕ) →
      let names = query (actual m.records) n path in
      p ≡ place_of m t → ns ≡ names → m' ≡ grant m p (read n path ∷ []) (map (λ r. cond (member r.name names) (learns p r) r) m.records) m.added
      → asked m t n path ≡ (m', found ns)
  asked_at m' p ns at same after = sym (λ x. (left (at x), found (same x))) ∙ sym (ap (λ (k : Model). (k, found ns)) after)
    where
      left : ℕ → Model
      left i = grant m i (read n path ∷ []) (map (λ r. cond (member r.name (query (actual m.records) n path)) (learns i r) r) m.records) m.added
