use Rattle.std.proofs.Common.{Bool, cond, Some, None, sym, ap, ◌∙◌}
use Rattle.std.specs.Option.{option_map}
use Rattle.tree.specs.Trees.{bare}
use Rattle.walks.proofs.Climbs.{rung_is}
use Rattle.walks.proofs.climb.rung.Goals as goal

pub returns-in_err-record : goal.returns-in_err-record
returns-in_err-record g c =
    let s = c.args.store.now in
    ap (option_map bare) c.from_residual.ensures
    ∙ rung_is (g.C.Choice.chosen c.args.choice.now) (g.S.Store.meaning s).records c.args.name None (g.met.S.Store.rising s) c.if-name-eq-ROOT.false (sym c.look.ensures.answer ∙ c.in_err-record.was)

pub returns-then-is_chosen : goal.returns-then-is_chosen
returns-then-is_chosen g c =
    let s = c.args.store.now in
    let r = c.in_ok-record.record in
    sym (ap (λ (b : Bool). cond b (Some (bare r)) None) (sym c.is_chosen.ensures ∙ c.if-is_chosen.true))
    ∙ rung_is (g.C.Choice.chosen c.args.choice.now) (g.S.Store.meaning s).records c.args.name (Some r) (g.met.S.Store.rising s) c.if-name-eq-ROOT.false (sym c.look.ensures.answer ∙ c.in_ok-record.was)

pub returns-else-is_chosen : goal.returns-else-is_chosen
returns-else-is_chosen g c =
    let s = c.args.store.now in
    let r = c.in_ok-record.record in
    sym (ap (λ (b : Bool). cond b (Some (bare r)) None) (sym c.is_chosen.ensures ∙ c.if-is_chosen.false))
    ∙ rung_is (g.C.Choice.chosen c.args.choice.now) (g.S.Store.meaning s).records c.args.name (Some r) (g.met.S.Store.rising s) c.if-name-eq-ROOT.false (sym c.look.ensures.answer ∙ c.in_ok-record.was)
