use Rattle.std.proofs.Common.{rules, tests, vec_items, sym, ◌∙◌}
use Rattle.std.proofs.lemmas.Iterator.{YieldsList-from_slice}
use Rattle.std.proofs.lemmas.Iterator.Search.{any_from_yields_List}
use Rattle.tree.specs.Records.{child_of}
use Rattle.tree.proofs.Members.{some_any}
use Rattle.linked.proofs.Linked.is_parent.Goals as goal

pub returns : goal.returns
returns c =
    let f = child_of c.args.name in
    let rs = vec_items c.args.self.now.rows in
    record { answer = any_from_yields_List f _ _ _ c.any.ensures.ran (YieldsList-from_slice rs (cc)) (λ x b q k. search (rules, tests)) ∙ sym (some_any f rs) }
