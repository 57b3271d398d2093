-- A ticket that takes a place, one addition more of a ticket, and the next ticket.
use Rattle.std.proofs.Common.{◌≡◌, ℕ, suc, ◌+◌, ◌^◌, ◌<◌, ◌≤◌, Bool, true, false, cond, ◌&&◌, eqb, ltb, Some, None, Option, MatchOption, sym, ap, ◌∙◌, arith}
use Rattle.std.specs.Int.NonZero.{non_zero_u32_get}
use Rattle.std.specs.declared.num.NonZeroU32.{NonZeroU32}
use Rattle.std.proofs.lemmas.Bool.{cond-true, cond-false, eq-eqb, ne_eqb}
use Rattle.model.specs.Changes.{next_ticket}
use Rattle.seats.specs.declared.seats.Seat.{Seat}
use Rattle.seats.specs.Places.{counted_up}
use Rattle.desk.specs.States.{next_of}
use Rattle.desk.proofs.States.{low_and}

-- what stands at the place i after the ticket t took the place p
pub put : (x y : Seat) (p q i t n : ℕ) → p < 32 → x ≡ cond (ltb p 32 && eqb i p) (record { ticket = t; added = 0 }) y → p ≡ q → t ≡ n → (cond (eqb i q) n y.ticket ≡ x.ticket) × (cond (eqb i q) 0 y.added ≡ x.added)
put x y p q i t n low is at same = go (eqb i q) (is ∙ ap (λ (b : Bool). cond b (record { ticket = t; added = 0 }) y) (low_and p (eqb i p) low ∙ ap (eqb i) at))
  where
    go : (b : Bool) → x ≡ cond b (record { ticket = t; added = 0 }) y → (cond b n y.ticket ≡ x.ticket) × (cond b 0 y.added ≡ x.added)
    go true e = (sym (ap (λ (s : Seat). s.ticket) e ∙ same), sym (ap (λ (s : Seat). s.added) e))
    go false e = (sym (ap (λ (s : Seat). s.ticket) e), sym (ap (λ (s : Seat). s.added) e))

-- what stands at a place after one addition more, where b says that it is the ticket's place
pub counted_seat : (x y : Seat) (b : Bool) → x ≡ cond b (counted_up y) y → (x.ticket ≡ y.ticket) × (x.added ≡ cond (b && ltb y.added 65535) (suc y.added) y.added)
counted_seat x y true e = (ap (λ (s : Seat). s.ticket) e, ap (λ (s : Seat). s.added) e)
counted_seat x y false e = (ap (λ (s : Seat). s.ticket) e, ap (λ (s : Seat). s.added) e)

pub next_after : (o : Option NonZeroU32) (t : ℕ) → t < 4294967296 → next_of o < 4294967296 → MatchOption o (2 ^ 32 ≤ t + 1) (λ x. non_zero_u32_get x ≡ t + 1) → next_ticket t ≡ next_of o
next_after None t h fits le = cond-true (eqb t 4294967295) 0 (suc t) (eq-eqb t 4294967295 (omega arith))
next_after (Some x) t h fits e = cond-false (eqb t 4294967295) 0 (suc t) (ne_eqb t 4294967295 (λ z. omega arith)) ∙ omega arith
