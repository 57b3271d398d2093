-- What a query has found. Assumes nothing.
--     hit_names h       the names that h has
use Rattle.std.specs.Prelude.{ℕ, List, vec_items}
use Rattle.walks.specs.declared.hits.Hits.{Hits}

abbrev pub hit_names : Hits → List ℕ
hit_names h = vec_items h.names
