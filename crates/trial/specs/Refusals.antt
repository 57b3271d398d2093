-- What is told of a line's fault; a path's or a name's fault in it is told as theirs.
--
--   line_refusal f    the number, the place and the layer of the fault f
--
-- Assumes nothing.
use Rattle.refusal.specs.declared.refusal.Layer.TheVariants as layer
use Rattle.refusal.specs.declared.refusal.Refusal.{Refusal}
use Rattle.path.specs.Refusals.{path_refusal}
use Rattle.trial.specs.declared.fault.LineFault.{LineFault}
use Rattle.trial.specs.declared.fault.LineFault.TheVariants.{Path, Field, Long}

abbrev pub line_refusal : LineFault → Refusal
line_refusal (Path f) = path_refusal f
line_refusal (Field at) = record { number = 41; place = at; layer = layer.Line }
line_refusal Long = record { number = 43; place = 200; layer = layer.Line }
