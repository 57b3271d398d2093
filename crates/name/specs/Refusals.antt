-- What is told of a name's fault.
--
--   name_refusal f    the number, the place and the layer of the fault f
--
-- Assumes nothing.
use Rattle.std.specs.Prelude.{ℕ}
use Rattle.refusal.specs.declared.refusal.Layer.TheVariants as layer
use Rattle.refusal.specs.declared.refusal.Refusal.{Refusal}
use Rattle.name.specs.declared.fault.NameCause.{NameCause}
use Rattle.name.specs.declared.fault.NameCause.TheVariants.{Empty, Byte, Long}
use Rattle.name.specs.declared.fault.NameFault.{NameFault}

abbrev pub name_number : NameCause → ℕ
name_number Empty = 31
name_number Byte = 32
name_number Long = 33

abbrev pub name_refusal : NameFault → Refusal
name_refusal f = record { number = name_number f.cause; place = f.at; layer = layer.Name }
