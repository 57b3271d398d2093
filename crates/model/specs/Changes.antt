-- What an accepted call changes and answers. Assumes nothing.
--     learns i r            the ticket at the place i knows the node of the record r
--     new_record i x n a    the record of a node that the ticket at i makes
--     forgets ps r          no ticket at the places ps knows the node any more
--     rivals m i ls         the places whose locks conflict with the locks ls, which the ticket at i needs
--     grant m i ls rs ks    the ticket at i takes the locks ls, with an arrow from each rival; records and counts as given
--     free m ps rs d        the places ps are freed, with their note bits, locks and arrows; d tickets more are finished
--     opened                the next ticket, at the lowest free place
--     asked t n p           t knows what it is answered
--     grown t n a           the child `t.k` of n, where it is t's k-th addition; t knows it
--     taken t n             n is marked with t
--     ended t               what t marked is dropped, and t has the next place
--     falling t             the places that a withdrawal of t takes: t's, and all that are reached from it along arrows
--     fallen t              their tickets, rising
--     undone t              the records without what they made, and what they marked is live again
--     dropped t             the withdrawal
use Rattle.std.specs.Prelude.{ℕ, suc, ◌+◌, ◌^◌, Bool, cond, not, ◌&&◌, ◌||◌, List, [], ◌∷◌, ◌++◌, map, ◌==◌, bit_or}
use Rattle.words.specs.Words.{bit, word_of}
use Rattle.path.specs.declared.coded.CodedPath.{CodedPath}
use Rattle.tree.specs.declared.record.Record.{Record}
use Rattle.tree.specs.Names.{name_of, ticket_part}
use Rattle.tree.specs.Lists.{keep}
use Rattle.tree.specs.Records.{fresh, with_tag, placed}
use Rattle.tree.specs.Trees.{nodes, actual}
use Rattle.model.specs.Numbers.{member, sorted}
use Rattle.model.specs.Rules.{Action, asks, adds, removes, Answer, found, made, removed, ticket, finished, withdrawn, query}
use Rattle.model.specs.Locks.{Lock, locks_of, rival}
use Rattle.model.specs.Arrows.{reached}
use Rattle.model.specs.Scheduler.{Model, place_of, free_place}

abbrev pub with_note : Record → ℕ → Record
with_note r w = with_tag r.mark w r

abbrev pub with_mark : Record → ℕ → Record
with_mark r t = with_tag t r.note r

abbrev pub learns : ℕ → Record → Record
learns i r = with_note r (bit_or (2 ^ i) r.note)

abbrev pub new_record : ℕ → ℕ → ℕ → ℕ → Record
new_record i x n a = with_note (fresh x n a) (2 ^ i)

abbrev pub forgets : List ℕ → Record → Record
forgets ps r = with_note r (word_of (λ i. bit r.note i && not (member i ps)))

-- marked nodes count on the way of a conflict
abbrev pub rivals : Model → ℕ → List (Lock CodedPath) → ℕ → Bool
rivals m p ls i = rival (nodes m.records) m.locks p ls i

abbrev pub grant : Model → ℕ → List (Lock CodedPath) → List Record → (ℕ → ℕ) → Model
grant m p ls rs counts = record {
  records = rs;
  limit = m.limit;
  fit = m.fit;
  next = m.next;
  tickets = m.tickets;
  added = counts;
  locks = m.locks ++ map (λ l. record { holder = p; lock = l }) ls;
  arrows = λ i j. m.arrows i j || (j == p && rivals m p ls i);
  done = m.done;
}

abbrev pub free : Model → List ℕ → List Record → ℕ → Model
free m ps rs d = record {
  records = map (forgets ps) rs;
  limit = m.limit;
  fit = m.fit;
  next = m.next;
  tickets = λ i. cond (member i ps) 0 (m.tickets i);
  added = λ i. cond (member i ps) 0 (m.added i);
  locks = keep (λ h. not (member h.holder ps)) m.locks;
  arrows = λ i j. m.arrows i j && not (member i ps) && not (member j ps);
  done = m.done + d;
}

abbrev pub next_ticket : ℕ → ℕ
next_ticket t = cond (t == 4294967295) 0 (suc t)

abbrev pub open_at : Model → ℕ → Model
open_at m p = record {
  records = m.records;
  limit = m.limit;
  fit = m.fit;
  next = next_ticket m.next;
  tickets = λ i. cond (i == p) m.next (m.tickets i);
  added = λ i. cond (i == p) 0 (m.added i);
  locks = m.locks;
  arrows = m.arrows;
  done = m.done;
}

module _ (m : Model) where
  abbrev pub opened : Model × Answer
  opened = (open_at m (free_place m), ticket m.next)

  abbrev pub asked : ℕ → ℕ → CodedPath → Model × Answer
  asked t n p =
      let i = place_of m t in
      let names = query (actual m.records) n p in
      (grant m i (locks_of m.records (asks t n p)) (map (λ r. cond (member r.name names) (learns i r) r) m.records) m.added, found names)

  abbrev pub grown : ℕ → ℕ → ℕ → Model × Answer
  grown t n a =
      let i = place_of m t in
      let x = name_of t (suc (m.added i)) in
      (grant m i (locks_of m.records (adds t n a)) (placed (new_record i x n a) m.records) (λ j. cond (j == i) (suc (m.added i)) (m.added j)), made x)

  abbrev pub taken : ℕ → ℕ → Model × Answer
  taken t n =
      (grant m (place_of m t) (locks_of m.records (removes t n)) (map (λ r. cond (r.name == n) (with_mark r t) r) m.records) m.added, removed)

  abbrev pub change : Action → Model × Answer
  change (asks t n p) = asked t n p
  change (adds t n a) = grown t n a
  change (removes t n) = taken t n

  abbrev pub ended : ℕ → Model × Answer
  ended t = (free m (place_of m t ∷ []) (keep (λ r. not (r.mark == t)) m.records) 1, finished (m.done + 1))

  abbrev pub falling : ℕ → List ℕ
  falling t = reached m.arrows (place_of m t)

  abbrev pub fallen : ℕ → List ℕ
  fallen t = sorted (map m.tickets (falling t))

  abbrev pub undone : ℕ → List Record
  undone t =
      map (λ r. cond (member r.mark (fallen t)) (with_mark r 0) r)
      (keep (λ r. not (member (ticket_part r.name) (fallen t))) m.records)

  abbrev pub dropped : ℕ → Model × Answer
  dropped t = (free m (falling t) (undone t) 0, withdrawn (fallen t))
