-- What a store means, and what it means after a change. Assumes nothing.
--     Meaning           what a store holds: its records, rising by name, and how many it may hold
--     holding m rs      the store that meant m, with the records rs: the limit stays
--     each_changed f m  the store that meant m, with each record r as f r
use Rattle.std.specs.Prelude.{ℕ, List, map}
use Rattle.tree.specs.declared.record.Record.{Record}

pub record Meaning : Type 0 where
  pub records : List Record
  pub most : ℕ

abbrev pub holding : Meaning → List Record → Meaning
holding m rs = record { records = rs; most = m.most }

abbrev pub each_changed : (Record → Record) → Meaning → Meaning
each_changed f m = holding m (map f m.records)
