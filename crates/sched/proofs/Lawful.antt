-- A turn that the model makes is lawful.
use Rattle.std.proofs.Common.{◌≡◌, ◌∷◌}
use Rattle.model.specs.Rules.{Answer}
use Rattle.model.specs.Scheduler.{Model}
use Rattle.model.specs.Calls.{step}
use Rattle.model.specs.History.{Turn, After}
use Rattle.model.proofs.Law.{agreement}
use Rattle.sched.specs.Turns.{Lawful}

pub lawful : (m : Model) (u : Turn) (a : Answer) (m' : Model) → step m u.call ≡ (m', a) → Lawful m u a m'
lawful m u a m' e mk kept h af =
    let next : After mk ((u, a) ∷ h) m' = (m, af, e) in
    let law = agreement mk kept ((u, a) ∷ h) m' next in
    record { after = next; agrees = law.0; order = law.1 }
