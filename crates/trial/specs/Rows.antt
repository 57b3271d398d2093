-- The names of a label path.
--
--   names_of p    the names of the label path p, in their order
--
-- Assumes nothing.
use Rattle.std.specs.Prelude.{List}
use Rattle.bounded.specs.Items.{items_of}
use Rattle.name.specs.declared.name.Name.{Name}
use Rattle.trial.specs.declared.labels.Labels.{Labels}

abbrev pub names_of : Labels → List Name
names_of p = items_of p.names
