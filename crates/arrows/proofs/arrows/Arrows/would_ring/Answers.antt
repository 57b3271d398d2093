use Rattle.std.proofs.Common.{Bool, ◌&&◌, sym, ap, ◌∙◌, arith}
use Rattle.std.proofs.lemmas.Bool.{lt-ltb}
use Rattle.words.specs.Words.{bit}
use Rattle.model.specs.Numbers.{member}
use Rattle.model.specs.Arrows.{reached, ring}
use Rattle.arrows.specs.Between.{between}
use Rattle.arrows.proofs.Widened.{meets}
use Rattle.arrows.proofs.arrows.Arrows.would_ring.Goals as goal

pub returns-then-place-lt32 : goal.returns-then-place-lt32
returns-then-place-lt32 c =
    let arrow = between c.args.self.now in
    let p = c.args.place in
    let low = lt-ltb p 32 c.if-place-lt32.true in
    let m = meets c.args.rivals c.reach.result (reached arrow p) (omega arith) (λ j. c.reach.ensures j ∙ ap (λ (b : Bool). b && member j (reached arrow p)) low) in
    sym m ∙ ap (λ (b : Bool). b && ring arrow p (bit c.args.rivals)) (sym low)
