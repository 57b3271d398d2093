use Rattle.std.proofs.Common.{◌≡◌, ℕ, refl, arith}
use Rattle.words.specs.Words.{bit}
use Rattle.words.proofs.Bits.{bit_none}
use Rattle.arrows.proofs.Cuts.{cut_at, cut_none, cut_old, cut_more, cut_all}
use Rattle.arrows.proofs.arrows.Arrows.cut.Goals as goal
use Rattle.arrows.proofs.arrows.Arrows.cut.Goals.{then-has, else-has}

pub loop-place-init : goal.loop-place-init
loop-place-init c = cut_none c.args.places c.args.self.now.into c.args.self.now.full

pub loop-place-preserved : goal.loop-place-preserved
loop-place-preserved c =
    let gone = c.args.places in
    let q = c.loop-place.place in
    let xs = c.loop-place.sources-items in
    let first = c.args.self.now.into in
    let left : (i : ℕ) → bit c.if-has.sources i ≡ cut_at gone first i q = λ i.
    let old = cut_old gone first xs q i c.loop-place.invariant in
    elim c.if-has.branch [
      | then-has w ↦ rw w.sources-is (grind (arith, bit_none i, c.has.ensures, w.if-has.true))
      | else-has w ↦ rw w.sources-is (grind (arith, old, w.minus.ensures.places i, c.has.ensures, w.if-has.false))
    ] in
    cut_more gone first xs _ q c.if-has.sources c.loop-place-test.true refl left c.loop-place.invariant

pub returns : goal.returns
returns c = cut_all c.args.places c.args.self.now.into c.loop-place.sources-items c.loop-place.place c.loop-place-test.false c.args.self.now.full c.loop-place.invariant
