-- Arrows between places, or between tickets: `arrow i j` says that there is one from i to j. Assumes nothing.
--     reached arrow p        p, and every place that is reached from it along arrows
--     ring arrow p us        new arrows to p from the places us would close a ring
--     arrow_into arrow p     an arrow comes to p
--     order_of arrow ts      the tickets ts: repeatedly the first one that no remaining one has an arrow to
use Rattle.std.specs.Prelude.{ℕ, zero, suc, Bool, cond, not, ◌&&◌, List, [], ◌∷◌, ◌++◌, Some, None, Option, ◌==◌}
use Rattle.tree.specs.Lists.{keep, some_of}
use Rattle.model.specs.Numbers.{member, places}

-- the places ps, and those that an arrow leads to from one of them
abbrev pub wider : (ℕ → ℕ → Bool) → List ℕ → List ℕ
wider arrow ps = ps ++ keep (λ i. not (member i ps) && some_of (λ j. arrow j i) ps) places

abbrev pub widen : ℕ → (ℕ → ℕ → Bool) → List ℕ → List ℕ
widen zero arrow ps = ps
widen (suc k) arrow ps = widen k arrow (wider arrow ps)

unfoldable pub reached : (ℕ → ℕ → Bool) → ℕ → List ℕ
reached arrow p = widen 32 arrow (p ∷ [])

abbrev pub ring : (ℕ → ℕ → Bool) → ℕ → (ℕ → Bool) → Bool
ring arrow p us = some_of us (reached arrow p)

abbrev pub arrow_into : (ℕ → ℕ → Bool) → ℕ → Bool
arrow_into arrow p = some_of (λ i. arrow i p) places

-- the first of ts that no one of xs has an arrow to
abbrev pub first_free : (ℕ → ℕ → Bool) → List ℕ → List ℕ → Option ℕ
first_free arrow xs [] = None
first_free arrow xs (t ∷ ts) = cond (some_of (λ u. arrow u t) xs) (first_free arrow xs ts) (Some t)

abbrev pub and_then : Option ℕ → (ℕ → List ℕ) → List ℕ
and_then None f = []
and_then (Some t) f = t ∷ f t

abbrev pub order_from : ℕ → (ℕ → ℕ → Bool) → List ℕ → List ℕ
order_from zero arrow ts = []
order_from (suc k) arrow ts = and_then (first_free arrow ts ts) (λ t. order_from k arrow (keep (λ u. not (u == t)) ts))

-- of at most 32 tickets
unfoldable pub order_of : (ℕ → ℕ → Bool) → List ℕ → List ℕ
order_of arrow ts = order_from 32 arrow ts
