use Rattle.std.proofs.Common.{[], arith}
use Rattle.model.specs.Scheduler.{Making}
use Rattle.model.specs.Law.{Kept}
use Rattle.sched.proofs.scheduler.Scheduler.new.Goals as goal

pub invariant_of-result : goal.invariant_of-result
invariant_of-result g c =
    let s = c.args.store in
    let bounded = g.met.S.Store.bounded s in
    let small = g.met.S.Store.small in
    let mk : Making = record { store = (g.S.Store.meaning s).records; limit = (g.S.Store.meaning s).most; first = c.args.first } in
    let kept : Kept mk = record {
      rising = g.met.S.Store.rising s;
      tree = g.met.S.Store.tree s;
      count = g.met.S.Store.within s;
      most = omega arith;
      ticket = omega arith;
    } in
    ∣ (mk, kept, [], c.in_ok-desk.ensures (g.S.Store.meaning s).records (g.S.Store.meaning s).most c.fit_for-fit.ensures.answer) ∣₁
