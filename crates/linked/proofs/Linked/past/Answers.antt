use Rattle.std.proofs.Common.{rules, leb, ◌+◌, ap, ◌∙◌}
use Rattle.std.proofs.lemmas.List.Sorted.{IsPartitionPoint-from_clause}
use Rattle.tree.specs.Records.{rises, seat}
use Rattle.linked.proofs.Rows.{upto_parts, passed}
use Rattle.linked.proofs.Linked.past.Goals as goal

pub returns : goal.returns
returns c =
    let n = c.args.name in
    let same = c.deref.ensures.value in
    let facts = c.partition_point.ensures in
    let r = ap rises same ∙ c.args.self.now.rising in
    let parted = IsPartitionPoint-from_clause (λ y. leb y.name n) c.deref.result.now _ facts.partitioned (upto_parts n _ r) (λ a b q called. search rules) in
    record { answer = passed n _ c.deref.result.now r facts.bound parted ∙ ap (seat (n + 1)) same }
