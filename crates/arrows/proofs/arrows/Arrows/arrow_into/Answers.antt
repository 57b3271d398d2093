use Rattle.std.proofs.Common.{◌≡◌, ℕ, get_or, sym, ap, ◌∙◌, arith}
use lib.ListN.{get_or-eq_default}
use Rattle.std.proofs.lemmas.Bool.{le-ltb}
use Rattle.words.specs.Words.{bit}
use Rattle.tree.specs.Lists.{some_of}
use Rattle.model.specs.Numbers.{places}
use Rattle.arrows.proofs.Widened.{some_bit}
use Rattle.arrows.proofs.arrows.Arrows.arrow_into.Goals as goal

pub returns-then-place-lt32 : goal.returns-then-place-lt32
returns-then-place-lt32 c = sym (some_bit (get_or c.args.self.now.into c.args.place 0) (omega arith))

pub returns-else-place-lt32 : goal.returns-else-place-lt32
returns-else-place-lt32 c =
    let into = c.args.self.now.into in
    let full = c.args.self.now.full in
    let d : get_or into c.args.place 0 ≡ 0 = get_or-eq_default into 0 (omega arith) in
    le-ltb _ _ c.if-place-lt32.false ∙ sym (ap (λ (w : ℕ). some_of (bit w) places) d ∙ some_bit 0 (omega arith))
