-- An action that is accepted: the ring's row, which is tested last, and what is granted.
use Rattle.std.proofs.Common.{◌≡◌, ℕ, List, [], ◌∷◌, ◌++◌, None, sym, ◌∙◌}
use Rattle.path.specs.declared.coded.CodedPath.{CodedPath}
use Rattle.tree.specs.declared.record.Record.{Record}
use Rattle.model.specs.Rules.{Action}
use Rattle.model.specs.Locks.{Lock, locks_of}
use Rattle.model.specs.Arrows.{ring}
use Rattle.model.specs.Scheduler.{Model, place_of}
use Rattle.model.specs.Changes.{rivals, grant}
use Rattle.model.specs.Refusals.{Rows, first_row, ring_row}
use Rattle.desk.proofs.Rows.{rows_past}

module _ (m : Model) (t : ℕ) (b : Action) (p : ℕ) (ls : List (Lock CodedPath)) (at : p ≡ place_of m t) (own : ls ≡ locks_of m.records b) where
  pub no_row : (front : Rows) → first_row front ≡ None → first_row ((ring m.arrows p (rivals m p ls), 11) ∷ []) ≡ None → first_row (front ++ (ring_row m (place_of m t) b ∷ [])) ≡ None
  no_row front h r = rows_past front (ring_row m (place_of m t) b ∷ []) h ∙ (sym (λ x. first_row ((ring m.arrows (at x) (rivals m (at x) (own x)), 11) ∷ [])) ∙ r)

  pub granted : (n : Model) (ss : List Record) (counts : ℕ → ℕ) → n ≡ grant m p ls ss counts → grant m (place_of m t) (locks_of m.records b) ss counts ≡ n
  granted n ss counts e = sym (e ∙ λ x. grant m (at x) (own x) ss counts)
