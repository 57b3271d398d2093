use Rattle.std.proofs.Common.{Bool, ◌&&◌, ◌||◌, eqb, sym, ap, ◌∙◌, arith}
use Rattle.std.proofs.lemmas.Bool.{lt-ltb}
use Rattle.words.specs.Words.{bit}
use Rattle.arrows.specs.Between.{arrow_of}
use Rattle.arrows.proofs.Cuts.{arrow_put}
use Rattle.arrows.proofs.arrows.Arrows.put.Goals as goal

pub returns-then-place-lt32 : goal.returns-then-place-lt32
returns-then-place-lt32 c i j =
    let a = c.args.self.now in
    let p = c.args.place in
    let us = c.args.rivals in
    let full = a.full in
    arrow_put a.into p us i j (omega arith)
    ∙ ap (λ (b : Bool). arrow_of a.into i j || (b && (eqb j p && bit us i))) (sym (lt-ltb p 32 c.if-place-lt32.true))
