use Rattle.std.proofs.Common.{◌≡◌, eqb, sym, ap, ◌∙◌, rules}
use mathlib.Core.Path.{fun_ext}
use Rattle.std.proofs.lemmas.Bool.{eqb-false, not-true}
use Rattle.words.specs.Words.{bit}
use Rattle.model.specs.Arrows.{order_from, order_of}
use Rattle.arrows.specs.Between.{between}
use Rattle.seats.specs.Places.{ticket_at}
use Rattle.seats.specs.Listed.{listed}
use Rattle.orders.specs.Opened.{place_in, open_at, arrow_at}
use Rattle.orders.proofs.Seated.{seat_low, place_back}
use Rattle.orders.proofs.Turns.{tickets_of, drawn_order}
use Rattle.orders.proofs.order.order.Goals as goal

pub returns : goal.returns
unfolding order_of
returns c one =
    let s = c.args.seats.now in
    let a = c.args.arrows.now in
    let f = ticket_at s in
    let w = c.taken.result in
    let all : open_at s ≡ tickets_of f (bit w) = ap (tickets_of f) (sym (fun_ext c.taken.ensures)) in
    drawn_order f (place_in s) (between a) (seat_low s) (place_back s one) _ (λ v w k q. search rules) 32 w (listed c.drawn.result) (λ i t. eqb-false (f i) 0 (not-true (eqb (f i) 0) (sym (c.taken.ensures i) ∙ t))) c.drawn.ensures
    ∙ sym (ap (order_from 32 (arrow_at s a)) all)
