-- Changes of notes, at any place. Assumes nothing.
--     learns_at i r       the ticket at the place i knows the node of the record r; from 32 on there is no place, and r stays
use Rattle.std.specs.Prelude.{ℕ, ◌^◌, cond, bit_or, nat_lt}
use Rattle.tree.specs.declared.record.Record.{Record}
use Rattle.model.specs.Changes.{with_note}

abbrev pub learns_at : ℕ → Record → Record
learns_at i r = with_note r (cond (nat_lt i 32) (bit_or (2 ^ i) r.note) r.note)
