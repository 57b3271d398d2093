-- Reached places are those that arrows lead to, and the test for a ring is exact.
use Rattle.std.proofs.Common.{◌≡◌, ℕ, ◌<◌, ◌≤◌, Bool, true, false, ◌&&◌, ◌||◌, eqb, leb, ◌≢◌, ◌⊎◌, [], ◌∷◌, map, Some, None, Option, sym, refl, ap, ◌∙◌, subst, inl, inr, arith}
use Rattle.std.proofs.lemmas.Bool.{true≢false, eqb-true, eq-eqb, or_cases, or_left, or_right, and_parts, and_from, leb-true}
use Rattle.tree.specs.Lists.{In}
use Rattle.model.specs.Rules.{Action, asks, adds, removes, Answer, found, made, removed, ticket, finished, withdrawn, ordered, refused}
use Rattle.model.specs.Locks.{locks_of}
use Rattle.model.specs.Arrows.{reached, ring}
use Rattle.model.specs.Scheduler.{Model, acts, place_of, not_open}
use Rattle.model.specs.Changes.{change, falling, fallen, rivals}
use Rattle.model.specs.Refusals.{Rows, first_row, rows}
use Rattle.model.specs.Calls.{given, judge, step}
use Rattle.model.specs.History.{Log, calls, actor}
use Rattle.model.specs.Meanings.{Leads, stay, along, Ring, ReachExact, RingExact, WithdrawExact}
use Rattle.model.proofs.Keys.{some_true, true_some, member_in, in_member, map_from, map_to}
use Rattle.model.proofs.Logs.{went}
use Rattle.model.proofs.Tied.{seat_of}
use Rattle.model.proofs.Reached.{reached_closed, reached_self, reached_all, sorted_from, sorted_to}
use Rattle.model.proofs.Orderly.{Orderly, orderly}
use Rattle.model.proofs.Ways.{some_one, none≢some}

-- ── arrows in a row ──
module _ (arrow : ℕ → ℕ → Bool) where
  leads_on : (i : ℕ) {j k : ℕ} → Leads arrow i j → Leads arrow j k → Leads arrow i k
  leads_on i l stay = l
  leads_on i l (along r k x) = along (leads_on i l r) k x

  leads_reached : (ends : (i j : ℕ) → arrow i j ≡ true → j < 32) (p : ℕ) → p < 32 → {j : ℕ} → Leads arrow p j → In j (reached arrow p)
  leads_reached ends p lt stay = reached_self arrow p
  leads_reached ends p lt (along {j} l k x) = reached_closed arrow p lt j k (leads_reached ends p lt l) x (ends j k x)

  reached_leads : (p j : ℕ) → In j (reached arrow p) → Leads arrow p j
  reached_leads p j i = reached_all arrow (Leads arrow p) (λ i j l x. along l j x) p stay j i

pub reach_exact : ReachExact
reach_exact arrow ends p lt j = ((λ h. reached_leads arrow p j (member_in j (reached arrow p) h)), λ l. in_member j (reached arrow p) (leads_reached arrow ends p lt l))

-- ── new arrows, from the places us to p ──
module _ (arrow : ℕ → ℕ → Bool) (p : ℕ) (us : ℕ → Bool) where
  abbrev more : ℕ → ℕ → Bool
  more i j = arrow i j || (eqb j p && us i)

  leads_more : {i j : ℕ} → Leads arrow i j → Leads more i j
  leads_more stay = stay
  leads_more (along {j} l k x) = along (leads_more l) k (or_left (arrow j k) (eqb k p && us j) x)

  -- a row of arrows is old, or begins with old ones up to a new one and ends with old ones from p on
  Parts : ℕ → ℕ → Type 0
  Parts i j = Leads arrow i j ⊎ ((x : ℕ) × (us x ≡ true) × Leads arrow i x × Leads arrow p j)

  parts : {i j : ℕ} → Leads more i j → Parts i j
  unfolding Parts
  parts stay = inl stay
  parts {i} (along {j} l k x) = go (parts l) (or_cases (arrow j k) (eqb k p && us j) x)
    where
      at_p : eqb k p ≡ true → Leads arrow p k
      at_p e = subst (Leads arrow p) (sym (eqb-true k p e)) stay

      go : Parts i j → (arrow j k ≡ true) ⊎ ((eqb k p && us j) ≡ true) → Parts i k
      go (inl r) (inl e) = inl (along r k e)
      go (inr r) (inl e) = inr (r.0, r.1, r.2, along r.3 k e)
      go (inl r) (inr e) = let q = and_parts (eqb k p) (us j) e in inr (j, q.1, r, at_p q.0)
      go (inr r) (inr e) = let q = and_parts (eqb k p) (us j) e in inr (r.0, r.1, r.2, at_p q.0)

  ring_made : ring arrow p us ≡ true → (i : ℕ) × Ring more i
  ring_made h =
      let q = some_true us (reached arrow p) h in
      (q.0, (p, or_right (arrow q.0 p) (eqb p p && us q.0) (and_from (eqb p p) (us q.0) (eq-eqb p p refl) q.2), leads_more (reached_leads arrow p q.0 q.1)))

  module _ (ends : (i j : ℕ) → arrow i j ≡ true → j < 32) (lt : p < 32) (no_ring : (i : ℕ) → ¬ (Ring arrow i)) where
    closes : (x : ℕ) → us x ≡ true → Leads arrow p x → ring arrow p us ≡ true
    closes x u l = true_some us (reached arrow p) x (leads_reached arrow ends p lt l) u

    made_ring : (i : ℕ) → Ring more i → ring arrow p us ≡ true
    unfolding Parts
    made_ring i (j, e, l) = go (or_cases (arrow i j) (eqb j p && us i) e) (parts l)
      where
        go : (arrow i j ≡ true) ⊎ ((eqb j p && us i) ≡ true) → Parts j i → ring arrow p us ≡ true
        go (inl old) (inl r) = absurd (no_ring i (j, old, r))
        go (inl old) (inr r) = closes r.0 r.1 (leads_on arrow p (leads_on arrow p r.3 (along stay j old)) r.2)
        go (inr new) (inl r) = let q = and_parts (eqb j p) (us i) new in closes i q.1 (subst (λ v. Leads arrow v i) (eqb-true j p q.0) r)
        go (inr new) (inr r) = let q = and_parts (eqb j p) (us i) new in closes r.0 r.1 (subst (λ v. Leads arrow v r.0) (eqb-true j p q.0) r.2)

-- ── the refusal ──
abbrev number : Answer → ℕ
number (found names) = 0
number (made name) = 0
number removed = 0
number (ticket t) = 0
number (finished place) = 0
number (withdrawn ts) = 0
number (ordered ts) = 0
number (refused k) = k

-- what is refused, is refused by a row that applies
row_of : (rs : Rows) (k : ℕ) → first_row rs ≡ Some k → In (true, k) rs
row_of [] k e = absurd (none≢some k e)
row_of ((true, j) ∷ rs) k e = inl (ap (λ (n : ℕ). (true, n)) (sym (some_one j k e)))
row_of ((false, j) ∷ rs) k e = inr (row_of rs k e)

refusal_row : (rs : Rows) (m : Model) (r : Model × Answer) (k : ℕ) → number r.1 ≡ 0 → k ≢ 0 → (judge rs m r).1 ≡ refused k → In (true, k) rs
refusal_row rs m r k z nz = go (first_row rs) refl
  where
    go : (o : Option ℕ) → first_row rs ≡ o → (given o m r).1 ≡ refused k → In (true, k) rs
    go None e h = absurd (nz (sym (ap number h) ∙ z))
    go (Some j) e h = row_of rs k (e ∙ ap Some (ap number h))

abbrev ring_test : Model → Action → Bool
ring_test m b = ring m.arrows (place_of m (actor b)) (rivals m (place_of m (actor b)) (locks_of m.records b))

other : (b : Bool) (j : ℕ) → j ≢ 11 → ◌≡◌ {A = Bool × ℕ} (true, 11) (b, j) → ⊥
other b j ne e = ne (sym (ap (λ (x : Bool × ℕ). x.1) e))

eleven : (m : Model) (room : ℕ) (b : Action) → (step m (acts room b)).1 ≡ refused 11 → ring_test m b ≡ true
eleven m room (asks t n p) h = go (refusal_row (rows m room (asks t n p)) m (change m (asks t n p)) 11 refl (λ z. omega arith) h)
  where
    go : In (true, 11) (rows m room (asks t n p)) → ring_test m (asks t n p) ≡ true
    go (inl e) = absurd (other _ 1 (λ z. omega arith) e)
    go (inr (inl e)) = absurd (other _ 2 (λ z. omega arith) e)
    go (inr (inr (inl e))) = absurd (other _ 3 (λ z. omega arith) e)
    go (inr (inr (inr (inl e)))) = absurd (other _ 4 (λ z. omega arith) e)
    go (inr (inr (inr (inr (inl e))))) = absurd (other _ 8 (λ z. omega arith) e)
    go (inr (inr (inr (inr (inr (inl e)))))) = absurd (other _ 9 (λ z. omega arith) e)
    go (inr (inr (inr (inr (inr (inr (inl e))))))) = sym (ap (λ (x : Bool × ℕ). x.0) e)
    go (inr (inr (inr (inr (inr (inr (inr e))))))) = absurd e
eleven m room (adds t n a) h = go (refusal_row (rows m room (adds t n a)) m (change m (adds t n a)) 11 refl (λ z. omega arith) h)
  where
    go : In (true, 11) (rows m room (adds t n a)) → ring_test m (adds t n a) ≡ true
    go (inl e) = absurd (other _ 1 (λ z. omega arith) e)
    go (inr (inl e)) = absurd (other _ 2 (λ z. omega arith) e)
    go (inr (inr (inl e))) = absurd (other _ 3 (λ z. omega arith) e)
    go (inr (inr (inr (inl e)))) = absurd (other _ 4 (λ z. omega arith) e)
    go (inr (inr (inr (inr (inl e))))) = absurd (other _ 5 (λ z. omega arith) e)
    go (inr (inr (inr (inr (inr (inl e)))))) = absurd (other _ 9 (λ z. omega arith) e)
    go (inr (inr (inr (inr (inr (inr (inl e))))))) = absurd (other _ 10 (λ z. omega arith) e)
    go (inr (inr (inr (inr (inr (inr (inr (inl e)))))))) = sym (ap (λ (x : Bool × ℕ). x.0) e)
    go (inr (inr (inr (inr (inr (inr (inr (inr e)))))))) = absurd e
eleven m room (removes t n) h = go (refusal_row (rows m room (removes t n)) m (change m (removes t n)) 11 refl (λ z. omega arith) h)
  where
    go : In (true, 11) (rows m room (removes t n)) → ring_test m (removes t n) ≡ true
    go (inl e) = absurd (other _ 1 (λ z. omega arith) e)
    go (inr (inl e)) = absurd (other _ 2 (λ z. omega arith) e)
    go (inr (inr (inl e))) = absurd (other _ 3 (λ z. omega arith) e)
    go (inr (inr (inr (inl e)))) = absurd (other _ 4 (λ z. omega arith) e)
    go (inr (inr (inr (inr (inl e))))) = absurd (other _ 6 (λ z. omega arith) e)
    go (inr (inr (inr (inr (inr (inl e)))))) = absurd (other _ 7 (λ z. omega arith) e)
    go (inr (inr (inr (inr (inr (inr (inl e))))))) = absurd (other _ 9 (λ z. omega arith) e)
    go (inr (inr (inr (inr (inr (inr (inr (inl e)))))))) = sym (ap (λ (x : Bool × ℕ). x.0) e)
    go (inr (inr (inr (inr (inr (inr (inr (inr e)))))))) = absurd e

-- where a row up to k applies, one up to k refuses
abbrev upto : ℕ → Rows → Bool
upto k [] = true
upto k ((b, j) ∷ rs) = leb j k && upto k rs

refuses : (k : ℕ) (rs : Rows) (m : Model) (r : Model × Answer) → upto k rs ≡ true → (j : ℕ) → In (true, j) rs → (n : ℕ) × (n ≤ k) × (judge rs m r ≡ (m, refused n))
refuses k [] m r u j i = absurd i
refuses k ((true, n) ∷ rs) m r u j i = (n, leb-true n k (and_parts (leb n k) (upto k rs) u).0, refl)
refuses k ((false, n) ∷ rs) m r u j (inl e) = absurd (true≢false (ap (λ (x : Bool × ℕ). x.0) e))
refuses k ((false, n) ∷ rs) m r u j (inr i) = refuses k rs m r (and_parts (leb n k) (upto k rs) u).1 j i

refused_by : (m : Model) (room : ℕ) (b : Action) → ring_test m b ≡ true → (k : ℕ) × (k ≤ 11) × (step m (acts room b) ≡ (m, refused k))
refused_by m room (asks t n p) e = refuses 11 (rows m room (asks t n p)) m (change m (asks t n p)) refl 11
    (inr (inr (inr (inr (inr (inr (inl (ap (λ (b : Bool). (b, 11)) (sym e)))))))))
refused_by m room (adds t n a) e = refuses 11 (rows m room (adds t n a)) m (change m (adds t n a)) refl 11
    (inr (inr (inr (inr (inr (inr (inr (inl (ap (λ (b : Bool). (b, 11)) (sym e))))))))))
refused_by m room (removes t n) e = refuses 11 (rows m room (removes t n)) m (change m (removes t n)) refl 11
    (inr (inr (inr (inr (inr (inr (inr (inl (ap (λ (b : Bool). (b, 11)) (sym e))))))))))

-- ── no ring ──
leads_rank : (l : Log) (m : Model) (o : Orderly l m) {i j : ℕ} → Leads m.arrows i j → o.rank i ≤ o.rank j
leads_rank l m o stay = omega arith
leads_rank l m o (along {j} r k x) = let a = leads_rank l m o r in let b = o.rank_up j k x in omega arith

pub ring_exact : RingExact
ring_exact mk kept h m af = (no_ring, λ room b op. ((λ e. made b (eleven m room b e)), λ x. refused_by m room b (tested b op x)))
  where
    o : Orderly (calls h) m
    o = orderly mk kept.ticket (calls h) m (went mk h m af)

    no_ring : (i : ℕ) → ¬ (Ring m.arrows i)
    no_ring i (j, e, l) = let a = leads_rank (calls h) m o l in let b = o.rank_up i j e in omega arith

    made : (b : Action) → ring_test m b ≡ true → (i : ℕ) × Ring (change m b).0.arrows i
    made (asks t n p) e = ring_made m.arrows (place_of m t) (rivals m (place_of m t) (locks_of m.records (asks t n p))) e
    made (adds t n a) e = ring_made m.arrows (place_of m t) (rivals m (place_of m t) (locks_of m.records (adds t n a))) e
    made (removes t n) e = ring_made m.arrows (place_of m t) (rivals m (place_of m t) (locks_of m.records (removes t n))) e

    ends : (i j : ℕ) → m.arrows i j ≡ true → j < 32
    ends i j x = o.low j (o.ends i j x).1

    tested : (b : Action) → not_open m (actor b) ≡ false → (k : ℕ) × Ring (change m b).0.arrows k → ring_test m b ≡ true
    tested (asks t n p) op x = made_ring m.arrows (place_of m t) (rivals m (place_of m t) (locks_of m.records (asks t n p))) ends (seat_of m t op).2 no_ring x.0 x.1
    tested (adds t n a) op x = made_ring m.arrows (place_of m t) (rivals m (place_of m t) (locks_of m.records (adds t n a))) ends (seat_of m t op).2 no_ring x.0 x.1
    tested (removes t n) op x = made_ring m.arrows (place_of m t) (rivals m (place_of m t) (locks_of m.records (removes t n))) ends (seat_of m t op).2 no_ring x.0 x.1

-- ── a withdrawal ──
pub withdraw_exact : WithdrawExact
withdraw_exact mk kept h m af t op u = ((λ e. reached_by (member_in u (fallen m t) e)), λ x. in_member u (fallen m t) (falls x.1 x.2 x.3))
  where
    o : Orderly (calls h) m
    o = orderly mk kept.ticket (calls h) m (went mk h m af)

    seat : (t ≢ 0) × (m.tickets (place_of m t) ≡ t) × (place_of m t < 32)
    seat = seat_of m t op

    open_at : (i : ℕ) → In i (falling m t) → m.tickets i ≢ 0
    open_at = reached_all m.arrows (λ i. m.tickets i ≢ 0) (λ i j was x. (o.ends i j x).1) (place_of m t) (λ z. seat.0 (sym seat.1 ∙ z))

    reached_by : In u (fallen m t) → (u ≢ 0) × (i : ℕ) × (m.tickets i ≡ u) × Leads m.arrows (place_of m t) i
    reached_by k =
        let q = map_from m.tickets (falling m t) u (sorted_from (map m.tickets (falling m t)) u k) in
        ((λ z. open_at q.0 q.1 (sym q.2 ∙ z)), q.0, sym q.2, reached_leads m.arrows (place_of m t) q.0 q.1)

    falls : (i : ℕ) → m.tickets i ≡ u → Leads m.arrows (place_of m t) i → In u (fallen m t)
    falls i e l = sorted_to (map m.tickets (falling m t)) u
        (subst (λ v. In v (map m.tickets (falling m t))) e (map_to m.tickets (falling m t) i (leads_reached m.arrows (λ a b x. o.low b (o.ends a b x).1) (place_of m t) seat.2 l)))
