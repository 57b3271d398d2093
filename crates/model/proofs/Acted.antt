-- What ask, add and remove have in common: an accepted action keeps the tie. A ticket adds no more than there are records.
use Rattle.std.proofs.Common.{◌≡◌, ℕ, zero, suc, ◌+◌, ◌*◌, ◌≤◌, Bool, true, false, cond, ◌&&◌, eqb, ltb, ◌≢◌, ◌⊎◌, List, [], ◌∷◌, ◌++◌, map, length, Some, None, sym, refl, ap, ◌∙◌, subst, inl, inr, arith}
use native.Mathlib.Decide.{ℕ_discrete}
use Rattle.std.proofs.lemmas.Bool.{eqb-true, or_cases, and_parts}
use Rattle.path.specs.declared.coded.CodedPath.{CodedPath}
use Rattle.tree.specs.Trees.{Node, bare, nodes}
use Rattle.tree.specs.declared.record.Record.{Record}
use Rattle.tree.specs.Records.{placed}
use Rattle.model.specs.Paths.{fits, fits_any}
use Rattle.model.specs.Rules.{Action, Answer, insert}
use Rattle.model.specs.Locks.{Held, locks_of}
use Rattle.model.specs.Scheduler.{Model, acts, not_open, place_of}
use Rattle.model.specs.Changes.{grant, rivals}
use Rattle.model.specs.History.{Log, accepted, actor, block}
use Rattle.model.proofs.Events.{In, Event, ask, add, rem, read, write, Makes, count, State, All}
use Rattle.model.proofs.MixedRun.{Ground, Adds, act, Recorded, TakesTurn}
use Rattle.model.proofs.Lists.{in_append, in_left, map_length}
use Rattle.model.proofs.Keys.{map_to, map_from, Distinct, fits_in}
use Rattle.model.proofs.Tied.{event_of, events, Told, st, mix, Booked, Books, Seats, Tied, block_own, block_other}
use Rattle.model.proofs.Turn.{rival_open, seat, t0}
use Rattle.model.proofs.Replays.{history, history_act, reach_numbered, known_filed}

-- ── records ──
pub place_nodes : (x : Record) (rs : List Record) → nodes (placed x rs) ≡ insert (bare x) (nodes rs)
place_nodes x [] = refl
place_nodes x (r ∷ rs) = go (ltb r.name x.name) (place_nodes x rs)
  where
    go : (b : Bool) → nodes (placed x rs) ≡ insert (bare x) (nodes rs) → nodes (cond b (r ∷ placed x rs) (x ∷ r ∷ rs)) ≡ cond b (bare r ∷ insert (bare x) (nodes rs)) (bare x ∷ bare r ∷ nodes rs)
    go false ih = refl
    go true ih = ap (λ ys. bare r ∷ ys) ih

-- the names that the additions of u have had
abbrev tags : ℕ → ℕ → List ℕ
tags u zero = []
tags u (suc k) = (u * 65536 + suc k) ∷ tags u k

tags_in : (u k c : ℕ) → In c (tags u k) → (j : ℕ) × (1 ≤ j) × (j ≤ k) × (c ≡ u * 65536 + j)
tags_in u zero c i = elim i [ ]
tags_in u (suc k) c (inl p) = (suc k, omega arith, omega arith, p)
tags_in u (suc k) c (inr i) = let r = tags_in u k c i in let le = r.2 in (r.0, r.1, omega arith, r.3)

tags_distinct : (u k : ℕ) → Distinct (tags u k)
tags_distinct u zero = tt
tags_distinct u (suc k) = (λ i. let r = tags_in u k (u * 65536 + suc k) i in let j = r.0 in let le = r.2 in let e = r.3 in omega arith, tags_distinct u k)

tags_length : (u k : ℕ) → length (tags u k) ≡ k
tags_length u zero = refl
tags_length u (suc k) = ap suc (tags_length u k)

module _ (g : Ground) (gf : g.fits ≡ fits) (ga : g.fits_any ≡ fits_any) (h : Log) (m : Model) (nx : ℕ) (ti : Tied g h m nx) where
  abbrev S : State CodedPath
  S = st h m

  abbrev bk : Books g (st h m) (history g ti.reach) m.tickets m.records
  bk = ti.books

  abbrev sts : Seats g (st h m) (history g ti.reach) m
  sts = ti.seats

  -- an open ticket has no more additions than the store has records
  pub added_room : (i : ℕ) → m.tickets i ≢ 0 → m.added i ≤ length m.records
  added_room i t0 =
      let k = m.added i in
      let u = m.tickets i in
      let a = fits_in (tags u k) (map (λ (r : Record). r.name) m.records) (tags_distinct u k) there in
      let b = tags_length u k in
      let c = map_length (λ (r : Record). r.name) m.records in
      omega arith
    where
      there : (c : ℕ) → In c (tags (m.tickets i) (m.added i)) → In c (map (λ (r : Record). r.name) m.records)
      there c j =
          let r = tags_in (m.tickets i) (m.added i) c j in
          let q = sts.numbers i t0 r.0 r.1 r.2 in
          let f = known_filed g (mix h m nx) ti.reach (m.tickets i) (t0, i, refl) (m.tickets i * 65536 + r.0) (inr (q.0, q.1, inl q.2)) in
          let z = map_from bare m.records f.0 (bk.to f.0 f.1.0 f.1.1) in
          subst (λ v. In v (map (λ (r : Record). r.name) m.records)) (sym (ap (λ (y : Node). y.name) z.2) ∙ f.2 ∙ sym r.3) (map_to (λ (r : Record). r.name) m.records z.0 z.1)

  module _ (room : ℕ) (b : Action) (a : Answer) (rs : List Record) (added : ℕ → ℕ) (acc : accepted a ≡ true) (op : not_open m (actor b) ≡ false) where
    abbrev p : ℕ
    p = place_of m (actor b)

    abbrev m' : Model
    m' = grant m (place_of m (actor b)) (locks_of m.records b) rs added

    abbrev h' : Log
    h' = (acts room b, a) ∷ h

    abbrev S' : State CodedPath
    S' = st h' m'

    abbrev e : Event CodedPath
    e = event_of b a

    at_seat : m.tickets p ≡ actor b
    at_seat = seat g gf ga h m nx ti room b a rs added acc op

    not_0 : actor b ≢ 0
    not_0 = t0 g gf ga h m nx ti room b a rs added acc op

    pub own_in : In e (S'.block (actor b))
    own_in = subst (λ xs. In e (events xs)) (sym (block_own room b a h acc)) (inl refl)

    pub block_sub : (u : ℕ) (d : Event CodedPath) → In d (S.block u) → In d (S'.block u)
    block_sub u d i = go (ℕ_discrete u (actor b))
      where
        go : Dec (u ≡ actor b) → In d (S'.block u)
        go (yes q) = subst (λ v. In d (S'.block v)) (sym q) (subst (λ xs. In d (events xs)) (sym (block_own room b a h acc)) (inr (subst (λ v. In d (S.block v)) q i)))
        go (no ne) = subst (λ xs. In d (events xs)) (sym (block_other room b a h u ne)) i

    pub block_plus : (u : ℕ) (d : Event CodedPath) → In d (S'.block u) → In d (S.block u) ⊎ ((d ≡ e) × (u ≡ actor b))
    block_plus u d i = go (ℕ_discrete u (actor b))
      where
        own : u ≡ actor b → In d (e ∷ S.block (actor b)) → In d (S.block u) ⊎ ((d ≡ e) × (u ≡ actor b))
        own q (inl x) = inr (x, q)
        own q (inr j) = inl (subst (λ v. In d (S.block v)) (sym q) j)

        go : Dec (u ≡ actor b) → In d (S.block u) ⊎ ((d ≡ e) × (u ≡ actor b))
        go (yes q) = own q (subst (λ xs. In d (events xs)) (block_own room b a h acc) (subst (λ v. In d (S'.block v)) q i))
        go (no ne) = inl (subst (λ xs. In d (events xs)) (block_other room b a h u ne) i)

    pub rec_more : (y : Node) → Recorded g (All S) y → Recorded g (All S') y
    rec_more y (inl i) = inl i
    rec_more y (inr (d, inl i, ad)) = inr (d, inl i, ad)
    rec_more y (inr (d, inr (u, o, i), ad)) = inr (d, inr (u, o, block_sub u d i), ad)

    pub rec_less : (y : Node) → Recorded g (All S') y → Recorded g (All S) y ⊎ Adds e y
    rec_less y (inl i) = inl (inl i)
    rec_less y (inr (d, inl i, ad)) = inl (inr (d, inl i, ad))
    rec_less y (inr (d, inr (u, o, i), ad)) = elim (block_plus u d i) [ inl j ↦ inl (inr (d, inr (u, o, j), ad)) | inr q ↦ inr (subst (λ c. Adds c y) q.0 ad) ]

    module _ (tk : TakesTurn g (mix h m nx) e (mix h' m' nx)) where
      abbrev hist' : List Node
      hist' = history g (act ti.reach e (mix h' m' nx) tk)

      booked_more : (i : ℕ) (d : Event CodedPath) (more : List Held) → Booked (history g ti.reach) m.locks i d → Booked hist' (m.locks ++ more) i d
      booked_more i (ask t n q xs) more bo = in_left (record { holder = i; lock = read n q }) m.locks more bo
      booked_more i (add t n c x) more bo = in_left (record { holder = i; lock = write n (Some c) }) m.locks more bo
      booked_more i (rem t n) more bo =
          let z = bo.1 in (
            in_left (record { holder = i; lock = write n None }) m.locks more bo.0,
            (z.0, history_act g ti.reach e (mix h' m' nx) tk z.0 z.1, z.2, in_left (record { holder = i; lock = write z.0.parent (Some z.0.label) }) m.locks more z.3),
          )

      pub acted : Books g S' hist' m.tickets rs
          → ((i : ℕ) → m.tickets i ≢ 0 → added i ≡ count (m.tickets i) (S'.block (m.tickets i)))
          → ((i : ℕ) → m.tickets i ≢ 0 → (j : ℕ) → 1 ≤ j → j ≤ added i → (d : Event CodedPath) × In d (S'.block (m.tickets i)) × Makes d (m.tickets i * 65536 + j))
          → Booked hist' m'.locks p e → length rs ≤ m.limit → Told (b, a) → Tied g h' m' nx
      acted books counts nums new_booked fits_room new_told = record {
        reach = act ti.reach e (mix h' m' nx) tk;
        books = books;
        seats = record {
          place_one = sts.place_one;
          place_low = sts.place_low;
          first_low = sts.first_low;
          added_count = counts;
          numbers = nums;
          held = λ k i. held k (in_append k m.locks (map (λ l. record { holder = p; lock = l }) (locks_of m.records b)) i);
          booked = λ i i0 d j. booked i i0 d (block_plus (m.tickets i) d j);
          arrow_ends = λ i j x. ends i j (or_cases (m.arrows i j) (eqb j p && rivals m p (locks_of m.records b) i) x);
        };
        fit = ti.fit;
        next = ti.next;
        base = ti.base;
        room = (fits_room, ti.room.1);
        told = λ u x i. told u x i (ℕ_discrete u (actor b));
        told_past = ti.told_past;
        new = λ t le. block_other room b a h t (λ q. (let lo = (reach_numbered g ti.reach).low (actor b) (not_0, p, at_seat) in omega arith)) ∙ ti.new t le;
        past_low = ti.past_low;
      }
        where
          held : (k : Held) → In k m.locks ⊎ In k (map (λ l. record { holder = p; lock = l }) (locks_of m.records b)) → m.tickets k.holder ≢ 0
          held k (inl i) = sts.held k i
          held k (inr i) = let r = map_from {B = Held} (λ l. record { holder = p; lock = l }) (locks_of m.records b) k i in
              λ z. not_0 (sym at_seat ∙ ap m.tickets (sym (ap (λ (v : Held). v.holder) r.2)) ∙ z)

          booked : (i : ℕ) → m.tickets i ≢ 0 → (d : Event CodedPath) → In d (S.block (m.tickets i)) ⊎ ((d ≡ e) × (m.tickets i ≡ actor b)) → Booked hist' m'.locks i d
          booked i i0 d (inl j) = booked_more i d (map (λ l. record { holder = p; lock = l }) (locks_of m.records b)) (sts.booked i i0 d j)
          booked i i0 d (inr q) = subst (λ c. Booked hist' m'.locks i c) (sym q.0) (subst (λ v. Booked hist' m'.locks v e) (sym (sts.place_one i p (q.1 ∙ sym at_seat) i0)) new_booked)

          ends : (i j : ℕ) → (m.arrows i j ≡ true) ⊎ ((eqb j p && rivals m p (locks_of m.records b) i) ≡ true) → (m.tickets i ≢ 0) × (m.tickets j ≢ 0)
          ends i j (inl x) = sts.arrow_ends i j x
          ends i j (inr x) =
              let q = and_parts (eqb j p) (rivals m p (locks_of m.records b) i) x in
              ((rival_open g gf ga h m nx ti p (locks_of m.records b) i q.1).0, λ z. not_0 (sym at_seat ∙ ap m.tickets (sym (eqb-true j p q.0)) ∙ z))

          told : (u : ℕ) (x : Action × Answer) → In x (block u h') → Dec (u ≡ actor b) → Told x
          told u x i (no ne) = ti.told u x (subst (In x) (block_other room b a h u ne) i)
          told u x i (yes q) = own (subst (In x) (block_own room b a h acc) (subst (λ v. In x (block v h')) q i))
            where
              own : In x ((b, a) ∷ block (actor b) h) → Told x
              own (inl z) = subst Told (sym z) new_told
              own (inr j) = ti.told (actor b) x j
