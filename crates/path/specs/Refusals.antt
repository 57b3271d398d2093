-- What is told of a path's fault; a name's fault in it is told as the name's.
--
--   path_refusal f    the number, the place and the layer of the fault f
--
-- Assumes nothing.
use Rattle.refusal.specs.declared.refusal.Layer.TheVariants as layer
use Rattle.refusal.specs.declared.refusal.Refusal.{Refusal}
use Rattle.name.specs.Refusals.{name_refusal}
use Rattle.path.specs.declared.fault.PathFault.{PathFault}
use Rattle.path.specs.declared.fault.PathFault.TheVariants.{Name, Empty, Many}

abbrev pub path_refusal : PathFault → Refusal
path_refusal (Name f) = name_refusal f
path_refusal (Empty at) = record { number = 31; place = at; layer = layer.Path }
path_refusal (Many at) = record { number = 34; place = at; layer = layer.Path }
