use Rattle.std.proofs.Common.{rules, ap, ◌∙◌}
use Rattle.std.proofs.lemmas.List.Sorted.{answers_always}
use Rattle.tree.specs.Records.{rises}
use Rattle.linked.specs.Seats.{found}
use Rattle.linked.proofs.Rows.{searched}
use Rattle.linked.proofs.Linked.find.Goals as goal

pub returns : goal.returns
returns c =
    let n = c.args.name in
    let same = c.deref.ensures.value in
    let facts = c.binary_search_by_key.ensures in
    let by_name = facts.position (λ row. row.name) (answers_always _ _ _ (λ f a r g called. search rules)) in
    record { answer = searched n c.deref.result.now (ap rises same ∙ c.args.self.now.rising) _ facts.bound by_name ∙ ap (found n) same }
