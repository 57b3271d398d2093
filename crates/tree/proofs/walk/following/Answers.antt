use Rattle.std.proofs.Common.{ℕ, ◌<◌, length, Option, sym, ap, ◌∙◌, arith}
use Rattle.tree.specs.Walk.{name_after}
use Rattle.tree.proofs.Visits.{first_is_root}
use Rattle.tree.proofs.walk.following.Goals as goal

pub returns-in-None : goal.returns-in-None
returns-in-None g c =
    let s = c.args.store.now in
    let rs = (g.S.Store.meaning s).records in
    let some : 0 < length rs = omega arith in
    let first = first_is_root rs (g.met.S.Store.rising s) (g.met.S.Store.tree s) some in
    record { answer = sym (ap (λ (last : Option ℕ). name_after last rs) c.in-None.is ∙ first) }
