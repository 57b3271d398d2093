-- The open tickets of seats, and the arrows between them.
--
--   OnePlace s           no ticket sits at two places
--   place_in s t         the place of the ticket t, 32 where it has none
--   open_at s            the open tickets, rising
--   arrow_at s a u v     there is an arrow from the ticket u to the ticket v
--
-- Assumes nothing.
use Rattle.std.specs.Prelude.{◌≡◌, ℕ, Bool, not, List, map, ◌==◌, nat_eq}
use Rattle.tree.specs.Lists.{keep}
use Rattle.model.specs.Numbers.{places, lowest, sorted}
use Rattle.arrows.specs.declared.arrows.Arrows.{Arrows}
use Rattle.arrows.specs.Between.{between}
use Rattle.seats.specs.declared.seats.Seats.{Seats}
use Rattle.seats.specs.Places.{ticket_at}

abbrev pub OnePlace : Seats → Type 0
OnePlace s = (i j : ℕ) → ticket_at s i ≡ ticket_at s j → ¬ (ticket_at s i ≡ 0) → i ≡ j

abbrev pub place_in : Seats → ℕ → ℕ
place_in s t = lowest (λ i. nat_eq (ticket_at s i) t)

abbrev pub open_at : Seats → List ℕ
open_at s = sorted (map (ticket_at s) (keep (λ i. not (ticket_at s i == 0)) places))

abbrev pub arrow_at : Seats → Arrows → ℕ → ℕ → Bool
arrow_at s a u v = between a (place_in s u) (place_in s v)
