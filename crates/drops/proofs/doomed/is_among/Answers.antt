use Rattle.std.proofs.Common.{eqb, sym, ◌∙◌, rules, tests}
use Rattle.std.proofs.lemmas.Iterator.{YieldsList-from_slice}
use Rattle.std.proofs.lemmas.Iterator.Search.{any_from_yields_List}
use Rattle.tree.proofs.Members.{some_any}
use Rattle.drops.proofs.doomed.is_among.Goals as goal

pub returns : goal.returns
returns c =
    any_from_yields_List (eqb c.args.ticket) _ _ _ c.any.ensures.ran (YieldsList-from_slice c.args.tickets.now c.iter.ensures.rest) (λ x b q k. search (rules, tests))
    ∙ sym (some_any (eqb c.args.ticket) c.args.tickets.now)
