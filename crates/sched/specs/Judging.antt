-- The rows of an action, which are tested in two parts: all but the last, and the last, which is the ring's. Assumes nothing.
--     head_rows m t n     the rows that every action begins with: 1 to 4
--     but_last xs         all of xs but the last
--     At m t p            the ticket t is open, at the place p
use Rattle.std.specs.Prelude.{◌≡◌, ℕ, ◌<◌, List, [], ◌∷◌, ◌++◌}
use Rattle.model.specs.Scheduler.{Model, place_of}
use Rattle.model.specs.Refusals.{Rows, ticket_rows, node_rows}

abbrev pub head_rows : Model → ℕ → ℕ → Rows
head_rows m t n = ticket_rows m t ++ node_rows m (place_of m t) n

abbrev pub but_last : {A : Type 0} → List A → List A
but_last [] = []
but_last (x ∷ []) = []
but_last (x ∷ (y ∷ ys)) = x ∷ but_last (y ∷ ys)

pub record At (m : Model) (t p : ℕ) : Type 0 where
  pub place : p ≡ place_of m t
  pub low : p < 32
