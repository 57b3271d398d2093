use Rattle.std.proofs.Common.{◌≡◌, ℕ, ◌<◌, Bool, ◌&&◌, eqb, Option, MatchOption, sym, ap, ◌∙◌, subst}
use Rattle.std.proofs.lemmas.Bool.{lt-ltb}
use Rattle.words.specs.Words.{bit}
use Rattle.model.specs.Numbers.{lowest}
use Rattle.seats.specs.Places.{ticket_at}
use Rattle.seats.proofs.Lowest.{trailing_lowest, lowest_like, found}
use Rattle.seats.proofs.seats.Seats.place_of.Goals as goal

pub returns : goal.returns
returns c =
    let s = c.args.self.now in
    let t = c.args.ticket in
    let word = c.places_with.result in
    let f = λ (i : ℕ). eqb (ticket_at s i) t in
    let is = trailing_lowest word ∙ lowest_like (bit word) f (λ i lt. c.places_with.ensures i ∙ ap (λ (b : Bool). b && eqb (ticket_at s i) t) (lt-ltb i 32 lt)) in
    subst (λ (o : Option ℕ). MatchOption o (lowest f ≡ 32) (λ p. (p ≡ lowest f) × (p < 32))) (sym c.then_some.ensures) (found f _ is)
