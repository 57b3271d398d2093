-- Places, tickets, arrows and finishes go by rules of their own, whatever the tree is; arrows have no ring.
use Rattle.std.proofs.Common.{◌≡◌, ℕ, suc, ◌+◌, ◌<◌, ◌≤◌, true, false, cond, not, ◌&&◌, eqb, ltb, ◌≢◌, ◌⊎◌, List, [], ◌∷◌, map, length, Some, None, Option, sym, refl, ap, ◌∙◌, subst, inl, inr, arith}
use native.Mathlib.Decide.{ℕ_discrete}
use Rattle.std.proofs.lemmas.Bool.{true≢false, both_ways, eqb-true, eqb-false, eq-eqb, ne_eqb, or_cases, and_parts, cases_Bool, not-true, cond-true, cond-false, ltb-false}
use Rattle.path.specs.declared.coded.CodedPath.{CodedPath}
use Rattle.tree.specs.declared.record.Record.{Record}
use Rattle.tree.specs.Lists.{keep, some_of}
use Rattle.tree.specs.Records.{look}
use Rattle.tree.specs.Trees.{nodes}
use Rattle.model.specs.Numbers.{member}
use Rattle.model.specs.Rules.{Answer, adds, asks, finished, ordered, refused, removes, ticket, withdrawn}
use Rattle.model.specs.Locks.{Held, conflict, locks_of, removal_locks}
use Rattle.model.specs.Arrows.{reached, ring}
use Rattle.model.specs.Scheduler.{Call, Making, Model, acts, finishes, free_place, not_open, opens, order, orders, place_of, withdraws}
use Rattle.model.specs.Changes.{change, fallen, falling, free, grant, open_at, undone, rivals}
use Rattle.model.specs.Refusals.{Rows, finish_rows, open_rows, order_rows, rows, withdraw_rows}
use Rattle.model.specs.Calls.{judge, step}
use Rattle.model.specs.History.{Log, past_tickets}
use Rattle.model.proofs.Events.{In, Lock}
use Rattle.model.proofs.Lists.{in_append, append_length, map_length, keep_length}
use Rattle.model.proofs.Keys.{Distinct, some_true, some_false, keep_from, map_from, member_in, in_member, not_member}
use Rattle.model.proofs.Tied.{judged, Passed, seat_of, lowest_hit}
use Rattle.model.proofs.Reached.{reached_closed, reached_self}
use Rattle.model.proofs.Logs.{Went}

-- what holds of a state m with the log h, whatever the tree is
pub record Orderly (h : Log) (m : Model) : Type 0 where
  -- a ticket sits at one of 32 places, and was given before the next
  pub one : (i j : ℕ) → m.tickets i ≡ m.tickets j → m.tickets i ≢ 0 → i ≡ j
  pub low : (i : ℕ) → m.tickets i ≢ 0 → i < 32
  pub under : (i : ℕ) → m.tickets i ≢ 0 → m.next ≢ 0 → m.tickets i < m.next
  -- locks and arrows are those of open tickets
  pub held : (k : Held) → In k m.locks → m.tickets k.holder ≢ 0
  pub ends : (i j : ℕ) → m.arrows i j ≡ true → (m.tickets i ≢ 0) × (m.tickets j ≢ 0)
  -- arrows lead up in rank, so that they have no ring
  pub rank : ℕ → ℕ
  pub ceiling : ℕ
  pub rank_low : (i : ℕ) → rank i < ceiling
  pub rank_up : (i j : ℕ) → m.arrows i j ≡ true → rank i < rank j
  -- all fits its words and rows
  pub book : length m.locks ≤ 256
  pub top : (i : ℕ) → m.tickets i ≤ 4294967295
  pub next_top : m.next ≤ 4294967295
  -- finishes are counted, and a finished ticket is never open again
  pub done_is : m.done ≡ length (past_tickets h)
  pub past_distinct : Distinct (past_tickets h)
  pub past_top : (u : ℕ) → In u (past_tickets h) → u ≤ 4294967295
  pub past_off : (u : ℕ) → In u (past_tickets h) → (u ≢ 0) × ((i : ℕ) → m.tickets i ≢ u) × (m.next ≢ 0 → u < m.next)

two_locks : (r : Option Record) (n : ℕ) → length (removal_locks r n) ≤ 2
two_locks None n = omega arith
two_locks (Some r) n = omega arith

pub same_past : (c : Call) (k : ℕ) (h : Log) → past_tickets ((c, refused k) ∷ h) ≡ past_tickets h
same_past opens k h = refl
same_past (acts room b) k h = refl
same_past (finishes t) k h = refl
same_past (withdraws room t) k h = refl
same_past (orders room) k h = refl

carry : (h h' : Log) (m : Model) → past_tickets h' ≡ past_tickets h → Orderly h m → Orderly h' m
carry h h' m e o = record { one = o.one; low = o.low; under = o.under; held = o.held; ends = o.ends; rank = o.rank; ceiling = o.ceiling; rank_low = o.rank_low; rank_up = o.rank_up; book = o.book; top = o.top; next_top = o.next_top; done_is = o.done_is ∙ ap length (sym e); past_distinct = subst Distinct (sym e) o.past_distinct; past_top = λ u i. o.past_top u (subst (In u) e i); past_off = λ u i. o.past_off u (subst (In u) e i) }

module _ (h : Log) (m : Model) (o : Orderly h m) where
  -- ── an action ──
  module _ (h' : Log) (same : past_tickets h' ≡ past_tickets h) (t : ℕ) (ls : List (Lock CodedPath)) (rs : List Record) (added : ℕ → ℕ) (op : not_open m t ≡ false) (no_ring : ring m.arrows (place_of m t) (rivals m (place_of m t) ls) ≡ false) (k : ℕ) (rows_left : ltb 256 (length m.locks + k) ≡ false) (few : length ls ≤ k) where
    abbrev p : ℕ
    p = place_of m t

    abbrev D : List ℕ
    D = reached m.arrows (place_of m t)

    abbrev m' : Model
    m' = grant m (place_of m t) ls rs added

    seated : m.tickets p ≢ 0
    seated z = (seat_of m t op).0 (sym (seat_of m t op).1 ∙ z)

    riv : (i : ℕ) → rivals m p ls i ≡ true → (m.tickets i ≢ 0) × ¬ (In i D)
    riv i e =
        let r = some_true (λ k. eqb k.holder i && not (eqb i p) && some_of (conflict (nodes m.records) k.lock) ls) m.locks e in
        let k : Held = r.0 in
        let q = and_parts (eqb k.holder i && not (eqb i p)) (some_of (conflict (nodes m.records) k.lock) ls) r.2 in
        let s = and_parts (eqb k.holder i) (not (eqb i p)) q.0 in
        (subst (λ v. m.tickets v ≢ 0) (eqb-true k.holder i s.0) (o.held k r.1), λ j. both_ways (rivals m p ls i) (some_false (rivals m p ls) D no_ring i j) e)

    abbrev rank' : ℕ → ℕ
    rank' i = cond (member i D) (o.rank i + o.ceiling) (o.rank i)

    rank_in : (i : ℕ) → In i D → rank' i ≡ o.rank i + o.ceiling
    rank_in i j = cond-true (member i D) (o.rank i + o.ceiling) (o.rank i) (in_member i D j)

    rank_out : (i : ℕ) → member i D ≡ false → rank' i ≡ o.rank i
    rank_out i e = cond-false (member i D) (o.rank i + o.ceiling) (o.rank i) e

    up : (i j : ℕ) → (m.arrows i j ≡ true) ⊎ ((eqb j p && rivals m p ls i) ≡ true) → rank' i < rank' j
    up i j (inl x) = go (cases_Bool (member i D)) (cases_Bool (member j D))
      where
        go : (member i D ≡ true) ⊎ (member i D ≡ false) → (member j D ≡ true) ⊎ (member j D ≡ false) → rank' i < rank' j
        go (inl a) b =
            let jD = reached_closed m.arrows p (seat_of m t op).2 i j (member_in i D a) x (o.low j (o.ends i j x).1) in
            let e = rank_in i (member_in i D a) in let f = rank_in j jD in let lt = o.rank_up i j x in omega arith
        go (inr a) (inl b) = let e = rank_out i a in let f = rank_in j (member_in j D b) in let lt = o.rank_low i in omega arith
        go (inr a) (inr b) = let e = rank_out i a in let f = rank_out j b in let lt = o.rank_up i j x in omega arith
    up i j (inr x) =
        let q = and_parts (eqb j p) (rivals m p ls i) x in
        let r = riv i q.1 in
        let jp = eqb-true j p q.0 in
        let f = rank_in j (subst (λ v. In v D) (sym jp) (reached_self m.arrows p)) in
        let lt = o.rank_low i in
        elim (cases_Bool (member i D)) [ inl a ↦ absurd (r.1 (member_in i D a)) | inr a ↦ (let e = rank_out i a in omega arith) ]

    pub granted : Orderly h' m'
    granted = record {
      one = o.one;
      low = o.low;
      under = o.under;
      held = λ k i. elim (in_append k m.locks (map (λ l. record { holder = p; lock = l }) ls) i) [
        | inl j ↦ o.held k j
        | inr j ↦ (let r = map_from {B = Held} (λ l. record { holder = p; lock = l }) ls k j in λ z. seated (ap m.tickets (sym (ap (λ (v : Held). v.holder) r.2)) ∙ z))
      ];
      ends = λ i j x. elim (or_cases (m.arrows i j) (eqb j p && rivals m p ls i) x) [
        | inl y ↦ o.ends i j y
        | inr y ↦ (let q = and_parts (eqb j p) (rivals m p ls i) y in ((riv i q.1).0, λ z. seated (ap m.tickets (sym (eqb-true j p q.0)) ∙ z)))
      ];
      rank = rank';
      ceiling = o.ceiling + o.ceiling;
      rank_low = λ i. (let lt = o.rank_low i in elim (cases_Bool (member i D)) [ inl a ↦ (let e = rank_in i (member_in i D a) in omega arith) | inr a ↦ (let e = rank_out i a in omega arith) ]);
      rank_up = λ i j x. up i j (or_cases (m.arrows i j) (eqb j p && rivals m p ls i) x);
      book = (let a = ltb-false 256 (length m.locks + k) rows_left in let b = append_length m.locks (map {B = Held} (λ l. record { holder = p; lock = l }) ls) in let c = map_length {B = Held} (λ l. record { holder = p; lock = l }) ls in omega arith);
      top = o.top;
      next_top = o.next_top;
      done_is = o.done_is ∙ ap length (sym same);
      past_distinct = subst Distinct (sym same) o.past_distinct;
      past_top = λ u i. o.past_top u (subst (In u) same i);
      past_off = λ u i. o.past_off u (subst (In u) same i);
    }

  -- ── an open ──
  module _ (room : eqb (free_place m) 32 ≡ false) (left : eqb m.next 0 ≡ false) where
    abbrev q : ℕ
    q = free_place m

    abbrev mo : Model
    mo = open_at m (free_place m)

    hit : (eqb (m.tickets q) 0 ≡ true) × (q < 32)
    hit = lowest_hit (λ i. eqb (m.tickets i) 0) (eqb-false (free_place m) 32 room)

    n0 : m.next ≢ 0
    n0 = eqb-false m.next 0 left

    off : (i : ℕ) → m.tickets i ≢ 0 → i ≢ q
    off i nz e = nz (ap m.tickets e ∙ eqb-true (m.tickets q) 0 hit.0)

    Side : ℕ → Type 0
    Side i = ((i ≡ q) × (mo.tickets i ≡ m.next)) ⊎ ((i ≢ q) × (mo.tickets i ≡ m.tickets i))

    side : (i : ℕ) → Side i
    unfolding Side
    side i = go (ℕ_discrete i q)
      where
        go : Dec (i ≡ q) → ((i ≡ q) × (mo.tickets i ≡ m.next)) ⊎ ((i ≢ q) × (mo.tickets i ≡ m.tickets i))
        go (yes e) = inl (e, cond-true (eqb i q) m.next (m.tickets i) (eq-eqb i q e))
        go (no ne) = inr (ne, cond-false (eqb i q) m.next (m.tickets i) (ne_eqb i q ne))

    keeps : (i : ℕ) → m.tickets i ≢ 0 → mo.tickets i ≢ 0
    keeps i nz z = nz (sym (cond-false (eqb i q) m.next (m.tickets i) (ne_eqb i q (off i nz))) ∙ z)

    next_up : mo.next ≢ 0 → mo.next ≡ suc m.next
    next_up nz = elim (cases_Bool (eqb m.next 4294967295)) [ inl e ↦ absurd (nz (cond-true (eqb m.next 4294967295) 0 (suc m.next) e)) | inr e ↦ cond-false (eqb m.next 4294967295) 0 (suc m.next) e ]

    pub opened : Orderly ((opens, ticket m.next) ∷ h) mo
    unfolding Side
    opened = record {
      one = λ i j e nz. one i j e nz (side i) (side j);
      low = λ i nz. elim (side i) [ inl s ↦ subst (λ v. v < 32) (sym s.0) hit.1 | inr s ↦ o.low i (λ z. nz (s.1 ∙ z)) ];
      under = λ i nz n1. (let e = next_up n1 in elim (side i) [ inl s ↦ (let k = s.1 in omega arith) | inr s ↦ (let k = s.1 in let lt = o.under i (λ z. nz (k ∙ z)) n0 in omega arith) ]);
      held = λ k i. keeps k.holder (o.held k i);
      ends = λ i j x. let e = o.ends i j x in (keeps i e.0, keeps j e.1);
      rank = o.rank;
      ceiling = o.ceiling;
      rank_low = o.rank_low;
      rank_up = o.rank_up;
      book = o.book;
      top = λ i. elim (side i) [ inl s ↦ subst (λ v. v ≤ 4294967295) (sym s.1) o.next_top | inr s ↦ subst (λ v. v ≤ 4294967295) (sym s.1) (o.top i) ];
      next_top = elim (cases_Bool (eqb m.next 4294967295)) [ inl e ↦ subst (λ v. v ≤ 4294967295) (sym (cond-true (eqb m.next 4294967295) 0 (suc m.next) e)) (omega arith) | inr e ↦ subst (λ v. v ≤ 4294967295) (sym (cond-false (eqb m.next 4294967295) 0 (suc m.next) e)) (let a = o.next_top in let b = eqb-false m.next 4294967295 e in omega arith) ];
      done_is = o.done_is;
      past_distinct = o.past_distinct;
      past_top = o.past_top;
      past_off = λ u i. let k = o.past_off u i in (k.0, (λ j z. elim (side j) [ inl s ↦ (let lt = k.2 n0 in let w = s.1 in omega arith) | inr s ↦ k.1 j (sym s.1 ∙ z) ]), λ n1. (let e = next_up n1 in let lt = k.2 n0 in omega arith));
    }
      where
        one : (i j : ℕ) → mo.tickets i ≡ mo.tickets j → mo.tickets i ≢ 0 → ((i ≡ q) × (mo.tickets i ≡ m.next)) ⊎ ((i ≢ q) × (mo.tickets i ≡ m.tickets i)) → ((j ≡ q) × (mo.tickets j ≡ m.next)) ⊎ ((j ≢ q) × (mo.tickets j ≡ m.tickets j)) → i ≡ j
        one i j e nz (inl a) (inl b) = a.0 ∙ sym b.0
        one i j e nz (inl a) (inr b) = let k : m.tickets j ≡ m.next = sym b.1 ∙ sym e ∙ a.1 in let lt = o.under j (λ z. n0 (sym k ∙ z)) n0 in absurd (omega arith)
        one i j e nz (inr a) (inl b) = let k : m.tickets i ≡ m.next = sym a.1 ∙ e ∙ b.1 in let lt = o.under i (λ z. n0 (sym k ∙ z)) n0 in absurd (omega arith)
        one i j e nz (inr a) (inr b) = o.one i j (sym a.1 ∙ e ∙ b.1) (λ z. nz (a.1 ∙ z))

  -- ── freed places ──
  module _ (ps : List ℕ) (rs : List Record) (d : ℕ) where
    abbrev mf : Model
    mf = free m ps rs d

    pub was : (i : ℕ) → mf.tickets i ≢ 0 → ¬ (In i ps) × (mf.tickets i ≡ m.tickets i) × (m.tickets i ≢ 0)
    was i nz = elim (cases_Bool (member i ps)) [
      | inl e ↦ absurd (nz (cond-true (member i ps) 0 (m.tickets i) e))
      | inr e ↦ (let c = cond-false (member i ps) 0 (m.tickets i) e in (not_member i ps e, c, λ z. nz (c ∙ z)))
    ]

    stays : (i : ℕ) → member i ps ≡ false → m.tickets i ≢ 0 → mf.tickets i ≢ 0
    stays i e nz z = nz (sym (cond-false (member i ps) 0 (m.tickets i) e) ∙ z)

    pub freed : (h' : Log) → m.done + d ≡ length (past_tickets h') → Distinct (past_tickets h') → ((u : ℕ) → In u (past_tickets h') → u ≤ 4294967295) → ((u : ℕ) → In u (past_tickets h') → (u ≢ 0) × ((i : ℕ) → mf.tickets i ≢ u) × (m.next ≢ 0 → u < m.next)) → Orderly h' mf
    freed h' dn ds pt po = record {
      one = λ i j e nz. let a = was i nz in let b = was j (λ z. nz (e ∙ z)) in o.one i j (sym a.1 ∙ e ∙ b.1) a.2;
      low = λ i nz. o.low i (was i nz).2;
      under = λ i nz n1. let a = was i nz in subst (λ v. v < m.next) (sym a.1) (o.under i a.2 n1);
      held = λ k i. let r = keep_from (λ (v : Held). not (member v.holder ps)) m.locks k i in stays k.holder (not-true (member k.holder ps) r.1) (o.held k r.0);
      ends = λ i j x. let a = parts i j x in let e = o.ends i j a.0 in (stays i a.1 e.0, stays j a.2 e.1);
      rank = o.rank;
      ceiling = o.ceiling;
      rank_low = o.rank_low;
      rank_up = λ i j x. o.rank_up i j (parts i j x).0;
      book = (let a = o.book in let b = keep_length (λ (v : Held). not (member v.holder ps)) m.locks in omega arith);
      top = λ i. elim (cases_Bool (member i ps)) [ inl e ↦ subst (λ v. v ≤ 4294967295) (sym (cond-true (member i ps) 0 (m.tickets i) e)) (omega arith) | inr e ↦ subst (λ v. v ≤ 4294967295) (sym (cond-false (member i ps) 0 (m.tickets i) e)) (o.top i) ];
      next_top = o.next_top;
      done_is = dn;
      past_distinct = ds;
      past_top = pt;
      past_off = po;
    }
      where
        parts : (i j : ℕ) → mf.arrows i j ≡ true → (m.arrows i j ≡ true) × (member i ps ≡ false) × (member j ps ≡ false)
        parts i j x =
            let a = and_parts (m.arrows i j && not (member i ps)) (not (member j ps)) x in
            let b = and_parts (m.arrows i j) (not (member i ps)) a.0 in
            (b.0, not-true (member i ps) b.1, not-true (member j ps) a.1)

    pub freed_past : (u : ℕ) → In u (past_tickets h) → (u ≢ 0) × ((i : ℕ) → mf.tickets i ≢ u) × (m.next ≢ 0 → u < m.next)
    freed_past u i = let k = o.past_off u i in (k.0, (λ j z. let a = was j (λ w. k.0 (sym z ∙ w)) in k.1 j (sym a.1 ∙ z)), k.2)

  -- ── every call ──
  abbrev Goes : Call → Model × Answer → Type 0
  Goes c x = Orderly ((c, x.1) ∷ h) x.0

  either : (c : Call) (ts : Rows) (r : Model × Answer) → (Passed ts → Goes c r) → Goes c (judge ts m r)
  either c ts r f = elim (judged ts m r) [
    | inl k ↦ subst (Goes c) (sym k.1) (carry h ((c, refused k.0) ∷ h) m (same_past c k.0 h) o)
    | inr k ↦ subst (Goes c) (sym k.1) (f k.0)
  ]

  pub orderly_step : (c : Call) → Goes c (step m c)
  orderly_step opens = either opens (open_rows m) (open_at m (free_place m), ticket m.next) (λ k. opened k.1.0 k.1.1.0)
  orderly_step (acts room (asks t n a)) = either (acts room (asks t n a)) (rows m room (asks t n a)) (change m (asks t n a))
      (λ k. granted ((acts room (asks t n a), (change m (asks t n a)).1) ∷ h) refl t (locks_of m.records (asks t n a)) (change m (asks t n a)).0.records m.added k.1.0 k.1.1.1.1.1.1.0 1 k.1.1.1.1.1.0 (omega arith))
  orderly_step (acts room (adds t n a)) = either (acts room (adds t n a)) (rows m room (adds t n a)) (change m (adds t n a))
      (λ k. granted ((acts room (adds t n a), (change m (adds t n a)).1) ∷ h) refl t (locks_of m.records (adds t n a)) (change m (adds t n a)).0.records (change m (adds t n a)).0.added k.1.0 k.1.1.1.1.1.1.1.0 1 k.1.1.1.1.1.0 (omega arith))
  orderly_step (acts room (removes t n)) = either (acts room (removes t n)) (rows m room (removes t n)) (change m (removes t n))
      (λ k. granted ((acts room (removes t n), (change m (removes t n)).1) ∷ h) refl t (locks_of m.records (removes t n)) (change m (removes t n)).0.records m.added k.1.0 k.1.1.1.1.1.1.1.0 2 k.1.1.1.1.1.1.0 (two_locks (look n m.records) n))
  orderly_step (finishes t) = either (finishes t) (finish_rows m t)
      (free m (place_of m t ∷ []) (keep (λ r. not (eqb r.mark t)) m.records) 1, finished (m.done + 1))
      (λ k. freed (place_of m t ∷ []) (keep (λ r. not (eqb r.mark t)) m.records) 1 ((finishes t, finished (m.done + 1)) ∷ h) (let e = o.done_is in omega arith)
      ((λ i. (o.past_off t i).1 (place_of m t) (seat_of m t k.1.0).1), o.past_distinct) (λ u i. elim i [ inl e ↦ subst (λ v. v ≤ 4294967295) ((seat_of m t k.1.0).1 ∙ sym e) (o.top (place_of m t)) | inr j ↦ o.past_top u j ]) (λ u i. gone k.1.0 u i))
    where
      gone : not_open m t ≡ false → (u : ℕ) → In u (t ∷ past_tickets h) → (u ≢ 0) × ((i : ℕ) → (free m (place_of m t ∷ []) (keep (λ r. not (eqb r.mark t)) m.records) 1).tickets i ≢ u) × (m.next ≢ 0 → u < m.next)
      gone op u (inr i) = freed_past (place_of m t ∷ []) (keep (λ r. not (eqb r.mark t)) m.records) 1 u i
      gone op u (inl e) =
          let s = seat_of m t op in (
            (λ z. s.0 (sym e ∙ z)),
            (λ i z. let a = was (place_of m t ∷ []) (keep (λ r. not (eqb r.mark t)) m.records) 1 i (λ w. s.0 (sym e ∙ sym z ∙ w)) in a.0 (inl (o.one i (place_of m t) (sym a.1 ∙ z ∙ e ∙ sym s.1) a.2))),
            λ n1. subst (λ v. v < m.next) (s.1 ∙ sym e) (o.under (place_of m t) (λ w. s.0 (sym s.1 ∙ w)) n1),
          )
  orderly_step (withdraws room t) = either (withdraws room t) (withdraw_rows m room t)
      (free m (falling m t) (undone m t) 0, withdrawn (fallen m t)) (λ k. freed (falling m t) (undone m t) 0 ((withdraws room t, withdrawn (fallen m t)) ∷ h) (let e = o.done_is in omega arith) o.past_distinct o.past_top (freed_past (falling m t) (undone m t) 0))
  orderly_step (orders room) = either (orders room) (order_rows m room) (m, ordered (order m)) (λ k. carry h ((orders room, ordered (order m)) ∷ h) m refl o)

pub orderly : (mk : Making) → mk.first ≤ 4294967295 → (h : Log) (m : Model) → Went mk h m → Orderly h m
orderly mk fl [] m e = subst (Orderly []) (sym e) (record {
  one = λ i j q nz. absurd (nz refl);
  low = λ i nz. absurd (nz refl);
  under = λ i nz n1. absurd (nz refl);
  held = λ k i. absurd i;
  ends = λ i j x. absurd (true≢false (sym x));
  rank = λ i. 0;
  ceiling = 1;
  rank_low = λ i. omega arith;
  rank_up = λ i j x. absurd (true≢false (sym x));
  book = omega arith;
  top = λ i. omega arith;
  next_top = fl;
  done_is = refl;
  past_distinct = tt;
  past_top = λ u i. absurd i;
  past_off = λ u i. absurd i;
})
orderly mk fl ((c, a) ∷ h) m' (m, af, e) = subst (λ (x : Model × Answer). Orderly ((c, x.1) ∷ h) x.0) e (orderly_step h m (orderly mk fl h m af) c)
