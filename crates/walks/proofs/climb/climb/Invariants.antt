use Rattle.std.proofs.Common.{ℕ, ◌-◌, eqb, List, length}
use Rattle.path.specs.CodedPaths.{code_steps}
use Rattle.fitting.specs.declared.fit.Ending.{Ending}
use Rattle.fitting.specs.Fitting.{Reads}
use Rattle.walks.proofs.Climbs.{Climbing}
use Rattle.walks.proofs.climb.climb.Given as goal

abbrev pub invariant-loop : goal.invariant-loop
invariant-loop g l =
    let rs = (g.S.Store.meaning l.store).records in
    (e : Ending) (ls : List ℕ) → Reads eqb e (code_steps l.query.path) ls l.initial.left → Climbing (g.C.Choice.chosen l.choice) rs l.query.path e ls l.query.top l.at (length rs - l.counter) l.node l.left
