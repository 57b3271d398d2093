-- The scheduler of a station: its state, how it is made, and the calls. Assumes nothing.
--     Model               the state. An open ticket has one of 32 places; notes, locks and arrows go by places
--     Call                the seven calls; `room` is the length of the buffer for the answer, which an add and a remove do not need
--     place_of m t        the place of the open ticket t, 32 where t is not open
--     free_place m        the lowest free place, 32 where there is none
--     not_open m t        the ticket t is not open
--     open_tickets m      the open tickets, rising
--     arrow_between m     the arrows, between tickets
--     order m             the open tickets: repeatedly the least one that no remaining one has an arrow to
--     Making              what a scheduler is made from: a store, its limit, the first ticket
--     untouched f r       the record r has mark 0 and note 0, and the ticket of its name is 0 or below the first ticket f
--     make mk             the scheduler as it is made; it is fit where every record is untouched
use Rattle.std.specs.Prelude.{ℕ, ◌*◌, Bool, false, not, ◌&&◌, ◌||◌, List, [], map, ◌==◌, nat_eq, nat_lt}
use Rattle.tree.specs.declared.record.Record.{Record}
use Rattle.tree.specs.Lists.{keep, all_of}
use Rattle.tree.specs.Trees.{live}
use Rattle.model.specs.Numbers.{places, lowest, sorted}
use Rattle.model.specs.Rules.{Action}
use Rattle.model.specs.Locks.{Held}
use Rattle.model.specs.Arrows.{order_of}

pub record Model : Type 0 where
  pub records : List Record
  pub limit : ℕ
  pub fit : Bool
  -- the ticket that the next open gives, 0 where none is left
  pub next : ℕ
  -- the ticket at a place, 0 where the place is free
  pub tickets : ℕ → ℕ
  -- the accepted additions of the ticket at a place
  pub added : ℕ → ℕ
  -- the lock book, in the sequence the locks were taken
  pub locks : List Held
  -- there is an arrow from the ticket at one place to the ticket at another
  pub arrows : ℕ → ℕ → Bool
  -- how many tickets are finished
  pub done : ℕ

pub data Call : Type 0 where
  opens : Call
  acts : (room : ℕ) (b : Action) → Call
  finishes : (t : ℕ) → Call
  withdraws : (room t : ℕ) → Call
  orders : (room : ℕ) → Call

abbrev pub place_of : Model → ℕ → ℕ
place_of m t = lowest (λ i. nat_eq (m.tickets i) t)

abbrev pub free_place : Model → ℕ
free_place m = lowest (λ i. nat_eq (m.tickets i) 0)

abbrev pub not_open : Model → ℕ → Bool
not_open m t = t == 0 || place_of m t == 32

abbrev pub open_tickets : Model → List ℕ
open_tickets m = sorted (map m.tickets (keep (λ i. not (m.tickets i == 0)) places))

abbrev pub arrow_between : Model → ℕ → ℕ → Bool
arrow_between m u v = m.arrows (place_of m u) (place_of m v)

abbrev pub order : Model → List ℕ
order m = order_of (arrow_between m) (open_tickets m)

pub record Making : Type 0 where
  pub store : List Record
  pub limit : ℕ
  pub first : ℕ

abbrev pub untouched : ℕ → Record → Bool
untouched f r = live r && r.note == 0 && (nat_lt r.name 65536 || nat_lt r.name (f * 65536))

abbrev pub make : Making → Model
make mk = record {
  records = mk.store;
  limit = mk.limit;
  fit = all_of (untouched mk.first) mk.store;
  next = mk.first;
  tickets = λ i. 0;
  added = λ i. 0;
  locks = [];
  arrows = λ i j. false;
  done = 0;
}
