use Rattle.std.proofs.Common.{◌≡◌, List, [], ◌++◌}
use Rattle.std.specs.Slice.Iter.{iter_rest}
use Rattle.std.specs.Iterator.Adapters.{rev_source}
use Rattle.path.specs.Paths.{steps_of}
use Rattle.fitting.specs.declared.fit.Ending.{Ending}
use Rattle.fitting.specs.Fitting.{Reads}
use Rattle.fitting.proofs.fits.fits.Given as goal

-- the labels behind those that are left are read, whichever ending the first word was for
abbrev pub invariant-loop-label : goal.invariant-loop-label
invariant-loop-label g l =
    (behind : List _)
    × (l.labels ≡ iter_rest (rev_source l.label-iterator) ++ behind)
    × ((e : Ending) → Reads g.L.Label.same e (steps_of l.path) [] l.initial.places → Reads g.L.Label.same e (steps_of l.path) behind l.places)
