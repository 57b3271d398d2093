-- What is kept of a line.
--
--   held_bytes l    the bytes of the line l, up to the 201st
--
-- Assumes nothing.
use Rattle.std.specs.Prelude.{ℕ, List}
use Rattle.bounded.specs.Items.{items_of}
use Rattle.lines.specs.declared.line.Line.{Line}

abbrev pub held_bytes : Line → List ℕ
held_bytes l = items_of l.held
