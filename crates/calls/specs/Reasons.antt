-- The numbers of refusals. Assumes nothing.
--     number_of r       the number of the reason r
use Rattle.std.specs.Prelude.{ℕ}
use Rattle.calls.specs.declared.reason.Reason.{Reason}
use Rattle.calls.specs.declared.reason.Reason.TheVariants.{Unfit, NotOpen, Unknown, Marked, NoLabel, Root, Parent, Short, Locks, Full, Ring, Later, Crowded, Spent}

abbrev pub number_of : Reason → ℕ
number_of Unfit = 1
number_of NotOpen = 2
number_of Unknown = 3
number_of Marked = 4
number_of NoLabel = 5
number_of Root = 6
number_of Parent = 7
number_of Short = 8
number_of Locks = 9
number_of Full = 10
number_of Ring = 11
number_of Later = 12
number_of Crowded = 13
number_of Spent = 14
