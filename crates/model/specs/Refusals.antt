-- When a call is refused: rows with a test and a number. The first row that applies is given. Assumes nothing.
--     first_row rows        the number of the first row that applies, or none
--     unknown o n i         there is no record of n, or the ticket at i knows neither it nor n as the root
--     marked o              the record is of a removed node
--     ticket_rows t         1 unfit scheduler, 2 ticket not open
--     node_rows i n         3 node absent, or unknown to the ticket at i; 4 node marked
--     book_row k            9 fewer than k free rows in the lock book, which has 256
--     ring_row i b          11 the arrows of the action b of the ticket at i would close a ring
--     ask_rows .. order_rows   the refusals of each call, in the order of their numbers: 5 label code 0, 6 remove of the root,
--                           7 remove with a live child, 8 buffer shorter than the answer, 10 store full,
--                           12 an arrow comes to the ticket, 13 32 tickets open, 14 no ticket left
use Rattle.std.specs.Prelude.{ℕ, ◌+◌, Bool, true, false, cond, not, ◌||◌, List, [], ◌∷◌, ◌++◌, length, Some, None, Option, ◌==◌, nat_le, nat_lt}
use Rattle.words.specs.Words.{bit}
use Rattle.path.specs.declared.coded.CodedPath.{CodedPath}
use Rattle.tree.specs.declared.record.Record.{Record}
use Rattle.tree.specs.Lists.{some_of}
use Rattle.tree.specs.Records.{look}
use Rattle.tree.specs.Trees.{live, actual}
use Rattle.model.specs.Ways.{child_of}
use Rattle.model.specs.Rules.{Action, asks, adds, removes, query}
use Rattle.model.specs.Locks.{locks_of}
use Rattle.model.specs.Arrows.{ring, arrow_into}
use Rattle.model.specs.Scheduler.{Model, place_of, free_place, not_open, order}
use Rattle.model.specs.Changes.{rivals, fallen}

abbrev pub Rows : Type 0
Rows = List (Bool × ℕ)

abbrev pub first_row : Rows → Option ℕ
first_row [] = None
first_row ((applies, number) ∷ rows) = cond applies (Some number) (first_row rows)

abbrev pub unknown : Option Record → ℕ → ℕ → Bool
unknown None n i = true
unknown (Some r) n i = not (n == 0 || bit r.note i)

abbrev pub marked : Option Record → Bool
marked None = false
marked (Some r) = not (live r)

module _ (m : Model) where
  abbrev pub ticket_rows : ℕ → Rows
  ticket_rows t = (not m.fit, 1) ∷ (not_open m t, 2) ∷ []

  abbrev pub node_rows : ℕ → ℕ → Rows
  node_rows i n = (unknown (look n m.records) n i, 3) ∷ (marked (look n m.records), 4) ∷ []

  abbrev pub book_row : ℕ → Bool × ℕ
  book_row k = (nat_lt 256 (length m.locks + k), 9)

  abbrev pub ring_row : ℕ → Action → Bool × ℕ
  ring_row i b = (ring m.arrows i (rivals m i (locks_of m.records b)), 11)

  abbrev pub ask_rows : ℕ → ℕ → ℕ → CodedPath → Rows
  ask_rows room t n p =
      ticket_rows t ++ (node_rows (place_of m t) n
      ++ ((nat_lt room (length (query (actual m.records) n p)), 8) ∷ book_row 1 ∷ ring_row (place_of m t) (asks t n p) ∷ []))

  abbrev pub add_rows : ℕ → ℕ → ℕ → Rows
  add_rows t n a =
      ticket_rows t ++ (node_rows (place_of m t) n
      ++ (((a == 0), 5) ∷ book_row 1 ∷ (nat_le m.limit (length m.records), 10) ∷ ring_row (place_of m t) (adds t n a) ∷ []))

  abbrev pub remove_rows : ℕ → ℕ → Rows
  remove_rows t n =
      ticket_rows t ++ (node_rows (place_of m t) n
      ++ (((n == 0), 6) ∷ (some_of (child_of n) (actual m.records), 7) ∷ book_row 2 ∷ ring_row (place_of m t) (removes t n) ∷ []))

  abbrev pub rows : ℕ → Action → Rows
  rows room (asks t n p) = ask_rows room t n p
  rows room (adds t n a) = add_rows t n a
  rows room (removes t n) = remove_rows t n

  abbrev pub open_rows : Rows
  open_rows = (not m.fit, 1) ∷ ((free_place m == 32), 13) ∷ ((m.next == 0), 14) ∷ []

  abbrev pub finish_rows : ℕ → Rows
  finish_rows t = ticket_rows t ++ ((arrow_into m.arrows (place_of m t), 12) ∷ [])

  abbrev pub withdraw_rows : ℕ → ℕ → Rows
  withdraw_rows room t = ticket_rows t ++ ((nat_lt room (length (fallen m t)), 8) ∷ [])

  abbrev pub order_rows : ℕ → Rows
  order_rows room = (not m.fit, 1) ∷ (nat_lt room (length (order m)), 8) ∷ []
