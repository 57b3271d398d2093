use Rattle.std.proofs.Common.{List, sym, subst, arith}
use Rattle.tree.specs.declared.record.Record.{Record}
use Rattle.tree.proofs.Kept.{Sound, sound_empty}
use Rattle.linked.proofs.make.LinkedMade.new.Goals as goal

pub invariant_of-result : goal.invariant_of-result
invariant_of-result c =
    let limit = c.min-limit.result in
    let m = c.in_ok-rows.ensures in
    let s = subst (λ (rs : List Record). Sound limit rs) (sym m.items) (sound_empty limit) in
    record { rising = s.rising; tree = s.tree; labels = s.labels; within = omega arith; room = omega arith; small = omega arith }
