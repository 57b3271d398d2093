-- What a desk says, over the records and the limit of a store. Assumes nothing.
--     state rs limit d      the scheduler's state
--     next_of o             the number of the ticket that o is, 0 for none
--     OverAnyStore d P      P holds of the scheduler's state, whatever the records and the limit of its store are
--     refusal r             the number of the refusal that r is, or none
--     Judges rows r         r is refused by the first of the rows that applies, and by none if it is Ok
--     Rivals m p ls w       the word w has the places whose locks conflict with the locks ls, which the ticket at p needs
--     forgotten ps rs       the records, where no ticket at the places ps knows a node any more
use Rattle.std.specs.Prelude.{◌≡◌, ℕ, List, map, Some, None, Ok, Err, Option, Result}
use Rattle.std.specs.Int.NonZero.{non_zero_u32_get}
use Rattle.std.specs.declared.num.NonZeroU32.{NonZeroU32}
use Rattle.words.specs.Words.{bit}
use Rattle.path.specs.declared.coded.CodedPath.{CodedPath}
use Rattle.tree.specs.declared.record.Record.{Record}
use Rattle.model.specs.Locks.{Lock}
use Rattle.model.specs.Scheduler.{Model}
use Rattle.model.specs.Changes.{rivals, forgets}
use Rattle.model.specs.Refusals.{Rows, first_row}
use Rattle.calls.specs.declared.reason.Reason.{Reason}
use Rattle.calls.specs.Reasons.{number_of}
use Rattle.seats.specs.Places.{ticket_at, added_at}
use Rattle.book.specs.Rows.{held_of}
use Rattle.arrows.specs.Between.{between}
use Rattle.desk.specs.declared.desk.Desk.{Desk}

abbrev pub next_of : Option NonZeroU32 → ℕ
next_of None = 0
next_of (Some t) = non_zero_u32_get t

abbrev pub state : List Record → ℕ → Desk → Model
state rs limit d = record {
  records = rs;
  limit = limit;
  fit = d.fit;
  next = next_of d.next;
  tickets = ticket_at d.seats;
  added = added_at d.seats;
  locks = held_of d.book;
  arrows = between d.arrows;
  done = d.done;
}

abbrev pub OverAnyStore : Desk → (Model → Type 0) → Type 0
OverAnyStore d P = (rs : List Record) (limit : ℕ) → P (state rs limit d)

abbrev pub refusal : {A : Type 0} → Result A Reason → Option ℕ
refusal (Ok x) = None
refusal (Err e) = Some (number_of e)

abbrev pub Judges : {A : Type 0} → Rows → Result A Reason → Type 0
Judges rows r = first_row rows ≡ refusal r

abbrev pub Rivals : Model → ℕ → List (Lock CodedPath) → ℕ → Type 0
Rivals m p ls w = (i : ℕ) → bit w i ≡ rivals m p ls i

abbrev pub forgotten : List ℕ → List Record → List Record
forgotten ps rs = map (forgets ps) rs
