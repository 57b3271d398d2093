-- The items of a bounded list.
--
--   items_of b    the items of the list b, in their order
--
-- Assumes nothing.
use Rattle.std.specs.Prelude.{ℕ, List, take}
use Rattle.bounded.specs.declared.bounded.Bounded.{Bounded}

abbrev pub items_of : {T : Type 0} {n : ℕ} → Bounded T n → List T
items_of b = take b.len b.row
