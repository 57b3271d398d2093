-- What ties a state of the model to a mixed run: the invariant, and facts about places, rows of refusals and blocks.
use Rattle.std.proofs.Common.{◌≡◌, ℕ, zero, suc, ◌+◌, ◌*◌, ◌<◌, ◌≤◌, Bool, true, false, cond, eqb, ◌≢◌, ◌⊎◌, List, [], ◌∷◌, map, length, Some, None, sym, refl, ap, ◌∙◌, inl, inr, arith}
use native.Mathlib.Decide.{ℕ_discrete}
use Rattle.std.proofs.lemmas.Bool.{eqb-true, eqb-false, eq-eqb, ne_eqb, or_parts, and_from, and_right, cases_Bool, cond-true, cond-false}
use Rattle.words.specs.Words.{bit}
use Rattle.path.specs.declared.coded.CodedPath.{CodedPath}
use Rattle.tree.specs.Trees.{Depth, Node, bare, nodes}
use Rattle.tree.specs.declared.record.Record.{Record}
use Rattle.tree.specs.Records.{look}
use Rattle.tree.proofs.Look.{look_in as found_in, look_name}
use Rattle.model.specs.Numbers.{lowest, seek}
use Rattle.model.specs.Rules.{Action, Answer, adds, asks, finished, found, made, ordered, refused, removed, removes, ticket, withdrawn}
use Rattle.model.specs.Locks.{Held}
use Rattle.model.specs.Scheduler.{Model, acts, not_open, place_of}
use Rattle.model.specs.Refusals.{Rows}
use Rattle.model.specs.Calls.{judge}
use Rattle.model.specs.History.{Log, accepted, actor, block, past}
use Rattle.model.proofs.Events.{In, Event, ask, add, rem, read, write, who, Makes, Takes, Shows, count, State, All}
use Rattle.model.proofs.MixedRun.{Ground, Mix, Reach, Recorded}
use Rattle.model.proofs.PlainRules.{act_of, ans_of, Neat}
use Rattle.model.proofs.Replays.{history}
use Rattle.model.proofs.Keys.{Up}

-- ── events ──
abbrev pub names_in : Answer → List ℕ
names_in (found names) = names
names_in (made name) = []
names_in removed = []
names_in (ticket t) = []
names_in (finished placed) = []
names_in (withdrawn tickets) = []
names_in (ordered tickets) = []
names_in (refused number) = []

abbrev pub name_in : Answer → ℕ
name_in (found names) = 0
name_in (made name) = name
name_in removed = 0
name_in (ticket t) = 0
name_in (finished placed) = 0
name_in (withdrawn tickets) = 0
name_in (ordered tickets) = 0
name_in (refused number) = 0

abbrev pub event_of : Action → Answer → Event CodedPath
event_of (asks t n p) a = ask t n p (names_in a)
event_of (adds t n b) a = add t n b (name_in a)
event_of (removes t n) a = rem t n

abbrev pub event : Action × Answer → Event CodedPath
event x = event_of x.0 x.1

abbrev pub events : List (Action × Answer) → List (Event CodedPath)
events xs = map event xs

-- an event that says what was asked and answered
abbrev pub Told : Action × Answer → Type 0
Told x = (act_of (event x) ≡ x.0) × (ans_of (event x) ≡ x.1) × Neat (event x)

abbrev pub st : Log → Model → State CodedPath
st h m = record {
  fin = events (past h);
  Open = λ u. (u ≢ 0) × (i : ℕ) × (m.tickets i ≡ u);
  block = λ u. events (block u h);
  Arrow = λ u v. (i : ℕ) × (j : ℕ) × (m.tickets i ≡ u) × (m.tickets j ≡ v) × (m.arrows i j ≡ true);
}

abbrev pub mix : Log → Model → ℕ → Mix
mix h m nx = record { state = st h m; next = nx }

-- the locks of an event stand in the book, held by the place i
abbrev pub Booked : List Node → List Held → ℕ → Event CodedPath → Type 0
Booked hist locks i (ask t n p xs) = In (record { holder = i; lock = read n p }) locks
Booked hist locks i (add t n a x) = In (record { holder = i; lock = write n (Some a) }) locks
Booked hist locks i (rem t n) =
    In (record { holder = i; lock = write n None }) locks
    × ((y : Node) × In y hist × (y.name ≡ n) × In (record { holder = i; lock = write y.parent (Some y.label) }) locks)

-- the records against the events so far; hist lists every node that ever was
pub record Books (g : Ground) (S : State CodedPath) (hist : List Node) (tickets : ℕ → ℕ) (rs : List Record) : Type 0 where
  -- names rise, and parents lead to the root
  pub up : Up (map (λ r. r.name) rs)
  pub leads : (y : Node) → In y (nodes rs) → (d : ℕ) × Depth (nodes rs) y.name d
  -- the records are what was there or added, less what finished tickets removed
  pub from : (r : Record) → In r rs → Recorded g (All S) (bare r) × ¬ ((e : Event CodedPath) × In e S.fin × Takes e r.name)
  pub to : (y : Node) → Recorded g (All S) y → ¬ ((e : Event CodedPath) × In e S.fin × Takes e y.name) → In y (nodes rs)
  -- no name is ever given twice: what is there, and what finished tickets removed, is listed
  pub listed : (y : Node) → In y (nodes rs) → In y hist
  pub gone_listed : (e : Event CodedPath) → In e S.fin → (x : ℕ) → Takes e x → (y : Node) × In y hist × (y.name ≡ x)
  -- the mark is the one open ticket that removes the node
  pub mark_of : (r : Record) → In r rs → (u : ℕ) (e : Event CodedPath) → S.Open u → In e (S.block u) → Takes e r.name → r.mark ≡ u
  pub mark_by : (r : Record) → In r rs → r.mark ≢ 0 → S.Open r.mark × (e : Event CodedPath) × In e (S.block r.mark) × Takes e r.name
  -- a note bit says that the ticket made the node or was shown it; a free place has none
  pub note_known : (r : Record) → In r rs → (i : ℕ) → bit r.note i ≡ true → tickets i ≢ 0 → (e : Event CodedPath) × In e (S.block (tickets i)) × (Makes e r.name ⊎ Shows e r.name)
  pub note_free : (r : Record) → In r rs → (i : ℕ) → i < 32 → tickets i ≡ 0 → bit r.note i ≡ false

-- places, counts, locks and arrows against the events so far
pub record Seats (g : Ground) (S : State CodedPath) (hist : List Node) (m : Model) : Type 0 where
  -- a ticket sits at one of 32 places, and is none that stood at first
  pub place_one : (i j : ℕ) → m.tickets i ≡ m.tickets j → m.tickets i ≢ 0 → i ≡ j
  pub place_low : (i : ℕ) → m.tickets i ≢ 0 → i < 32
  pub first_low : (i : ℕ) → m.tickets i ≢ 0 → g.base ≤ m.tickets i
  -- the count at a place is the number of the ticket's additions, and each has its number
  pub added_count : (i : ℕ) → m.tickets i ≢ 0 → m.added i ≡ count (m.tickets i) (S.block (m.tickets i))
  pub numbers : (i : ℕ) → m.tickets i ≢ 0 → (j : ℕ) → 1 ≤ j → j ≤ m.added i → (e : Event CodedPath) × In e (S.block (m.tickets i)) × Makes e (m.tickets i * 65536 + j)
  -- locks and arrows are those of open tickets, and every lock of an open ticket's event is booked
  pub held : (k : Held) → In k m.locks → m.tickets k.holder ≢ 0
  pub booked : (i : ℕ) → m.tickets i ≢ 0 → (e : Event CodedPath) → In e (S.block (m.tickets i)) → Booked hist m.locks i e
  pub arrow_ends : (i j : ℕ) → m.arrows i j ≡ true → (m.tickets i ≢ 0) × (m.tickets j ≢ 0)

-- a state m of the model, its log h, and a mixed run that has come to the same point; nx is the ticket that the run opens next
pub record Tied (g : Ground) (h : Log) (m : Model) (nx : ℕ) : Type 1 where
  pub reach : Reach g (mix h m nx)
  pub books : Books g (st h m) (history g reach) m.tickets m.records
  pub seats : Seats g (st h m) (history g reach) m
  pub fit : m.fit ≡ true
  pub next : (m.next ≡ 0) ⊎ (m.next ≡ nx)
  pub base : g.base ≤ nx
  pub room : (length m.records ≤ m.limit) × (m.limit ≤ 1024)
  -- every event says what was asked and answered
  pub told : (u : ℕ) (x : Action × Answer) → In x (block u h) → Told x
  pub told_past : (x : Action × Answer) → In x (past h) → Told x
  -- a ticket that is still to come has no events, and finished ones lie before it
  pub new : (t : ℕ) → nx ≤ t → block t h ≡ []
  pub past_low : (e : Event CodedPath) → In e (events (past h)) → who e < nx

-- ── judgements ──
abbrev pub Passed : Rows → Type 0
Passed [] = Unit {0}
Passed ((b, k) ∷ rows) = (b ≡ false) × Passed rows

pub judged : (rows : Rows) (m : Model) (r : Model × Answer) → ((k : ℕ) × (judge rows m r ≡ (m, refused k))) ⊎ (Passed rows × (judge rows m r ≡ r))
judged [] m r = inr (tt, refl)
judged ((true, k) ∷ rows) m r = inl (k, refl)
judged ((false, k) ∷ rows) m r = elim (judged rows m r) [ inl q ↦ inl q | inr q ↦ inr ((refl, q.0), q.1) ]

-- ── the lowest place ──
abbrev Sought : (ℕ → Bool) → ℕ → ℕ → Type 0
Sought f k i = ((f (seek f k i) ≡ true) × (seek f k i < i + k)) ⊎ ((seek f k i ≡ i + k) × ((j : ℕ) → i ≤ j → j < i + k → f j ≡ false))

pub sought : (f : ℕ → Bool) (k i : ℕ) → Sought f k i
sought f zero i = inr (omega arith, λ j a b. absurd (omega arith))
sought f (suc k) i = go (cases_Bool (f i)) (sought f k (suc i))
  where
    go : (f i ≡ true) ⊎ (f i ≡ false) → Sought f k (suc i) → Sought f (suc k) i
    go (inl e) s =
        let c : seek f (suc k) i ≡ i = cond-true (f i) i (seek f k (suc i)) e in
        inl (ap f c ∙ e, omega arith)
    go (inr e) (inl q) =
        let c : seek f (suc k) i ≡ seek f k (suc i) = cond-false (f i) i (seek f k (suc i)) e in
        let lt = q.1 in
        inl (ap f c ∙ q.0, omega arith)
    go (inr e) (inr q) =
        let c : seek f (suc k) i ≡ seek f k (suc i) = cond-false (f i) i (seek f k (suc i)) e in
        let eq = q.0 in
        inr (omega arith, λ j a b. at j a b (ℕ_discrete j i))
      where
        at : (j : ℕ) → i ≤ j → j < i + suc k → Dec (j ≡ i) → f j ≡ false
        at j a b (yes p) = ap f p ∙ e
        at j a b (no ne) = q.1 j (omega arith) (omega arith)

pub lowest_hit : (f : ℕ → Bool) → lowest f ≢ 32 → (f (lowest f) ≡ true) × (lowest f < 32)
unfolding lowest
lowest_hit f ne = elim (sought f 32 0) [ inl q ↦ q | inr q ↦ absurd (ne q.0) ]

pub lowest_miss : (f : ℕ → Bool) → lowest f ≡ 32 → (j : ℕ) → j < 32 → f j ≡ false
unfolding lowest
lowest_miss f e j lt = elim (sought f 32 0) [ inl q ↦ absurd (let k = q.1 in omega arith) | inr q ↦ q.1 j (omega arith) lt ]

pub seat_of : (m : Model) (t : ℕ) → not_open m t ≡ false → (t ≢ 0) × (m.tickets (place_of m t) ≡ t) × (place_of m t < 32)
seat_of m t h =
    let q = or_parts (eqb t 0) (eqb (place_of m t) 32) h in
    let r = lowest_hit (λ i. eqb (m.tickets i) t) (eqb-false (place_of m t) 32 q.1) in
    (eqb-false t 0 q.0, eqb-true (m.tickets (place_of m t)) t r.0, r.1)

-- ── looking up a record ──
pub look_in : (rs : List Record) (n : ℕ) (r : Record) → look n rs ≡ Some r → In r rs × (r.name ≡ n)
look_in rs n r h = (found_in n rs r h, look_name n rs r h)

-- ── blocks ──
pub block_own : (room : ℕ) (b : Action) (a : Answer) (h : Log) → accepted a ≡ true → block (actor b) ((acts room b, a) ∷ h) ≡ (b, a) ∷ block (actor b) h
block_own room b a h ok = ap (λ c. cond c ((b, a) ∷ (block (actor b) h)) (block (actor b) h)) (and_from (accepted a) (eqb (actor b) (actor b)) ok (eq-eqb (actor b) (actor b) refl))

pub block_other : (room : ℕ) (b : Action) (a : Answer) (h : Log) (u : ℕ) → u ≢ actor b → block u ((acts room b, a) ∷ h) ≡ block u h
block_other room b a h u ne = ap (λ c. cond c ((b, a) ∷ (block u h)) (block u h)) (and_right (accepted a) (eqb (actor b) u) (ne_eqb (actor b) u (λ p. ne (sym p))))

-- what an event takes was listed, if its locks are booked
pub takes_listed : (hist : List Node) (locks : List Held) (i : ℕ) (d : Event CodedPath) (x : ℕ) → Booked hist locks i d → Takes d x → (y : Node) × In y hist × (y.name ≡ x)
takes_listed hist locks i (ask t n q xs) x bo k = elim k [ ]
takes_listed hist locks i (add t n c y) x bo k = elim k [ ]
takes_listed hist locks i (rem t n) x bo k = let z = bo.1 in (z.0, z.1, z.2 ∙ sym k)
