use Rattle.std.proofs.Common.{◌-◌, ◌*◌, ◌%◌, ◌^◌, [], sym, subst, arith}
use Rattle.path.specs.Paths.{steps_of}
use Rattle.fitting.specs.declared.fit.Ending.{Ending}
use Rattle.fitting.specs.Fitting.{Reads}
use Rattle.fitting.proofs.Places.{begins_closed, begins_open}
use Rattle.fitting.proofs.backward.begin.Goals as goal

pub returns-in-Closed : goal.returns-in-Closed
returns-in-Closed g c =
    let ss = steps_of c.args.path.now in
    subst (λ (e : Ending). Reads g.L.Label.same e ss [] (1 * 2 ^ c.len.result % 4294967296)) (sym c.in-Closed.is) (begins_closed g.L.Label.same ss c.len.result c.len.ensures.value (omega arith))

pub returns-in-Open : goal.returns-in-Open
returns-in-Open g c =
    let ss = steps_of c.args.path.now in
    subst (λ (e : Ending). Reads g.L.Label.same e ss [] (1 * 2 ^ (c.len-in-Open.result - 1) % 4294967296)) (sym c.in-Open.is) (begins_open g.L.Label.same ss c.len-in-Open.result c.len-in-Open.ensures.value (omega arith) (omega arith))
