-- The order, drawn by places as the code has it and by tickets as the model does.
-- Assumes nothing.
use Rattle.std.proofs.Common.{◌≡◌, ℕ, zero, suc, ◌<◌, ◌≤◌, Bool, true, false, not, ◌&&◌, eqb, List, [], ◌∷◌, map, Some, None, Option, sym, ap, ◌∙◌, arith}
use Rattle.std.proofs.lemmas.Bool.{and_parts, and_from, not-true, not_from_false}
use Rattle.std.proofs.lemmas.Bool.Decides.{nat_tests}
use Rattle.tree.specs.Lists.{In, keep, some_of}
use Rattle.model.specs.Numbers.{places, sorted}
use Rattle.model.specs.Arrows.{and_then, first_free, order_from}
use Rattle.model.proofs.Keys.{keep_from, keep_to, map_from, map_to, some_true, true_some}
use Rattle.model.proofs.Order.{sorted_climbs}
use Rattle.model.proofs.Reached.{place_to, sorted_from, sorted_to}
use Rattle.arrows.proofs.Widened.{same_truth}
use Rattle.words.specs.Words.{bit}
use Rattle.orders.specs.Firsts.{Foremost}
use Rattle.orders.specs.Draws.{Drawn}
use Rattle.orders.proofs.Bests.{first_le, foremost_like}
use Rattle.orders.proofs.Frees.{none_free, least_free}
use Rattle.orders.proofs.Sorting.{but, keep_keep, keep_map, keep_sorted}

-- the arrows between tickets, by the places of the tickets
abbrev pub via : (ℕ → ℕ → Bool) → (ℕ → ℕ) → ℕ → ℕ → Bool
via between seat u v = between (seat u) (seat v)

-- the tickets f at the places left, rising
abbrev pub tickets_of : (ℕ → ℕ) → (ℕ → Bool) → List ℕ
tickets_of f left = sorted (map f (keep left places))

-- the places left hold tickets
abbrev pub Held : (ℕ → ℕ) → (ℕ → Bool) → Type 0
Held f left = (i : ℕ) → left i ≡ true → ¬ (f i ≡ 0)

-- to the place i, which is left, no arrow comes from a place that is left
abbrev pub clear : (ℕ → ℕ → Bool) → (ℕ → Bool) → ℕ → Bool
clear between left i = left i && not (some_of (λ j. between j i && left j) places)

-- f: the ticket at a place; seat: the place of a ticket
module _ (f seat : ℕ → ℕ) (between : ℕ → ℕ → Bool) (low : (i : ℕ) → ¬ (f i ≡ 0) → i < 32) (back : (i : ℕ) → ¬ (f i ≡ 0) → seat (f i) ≡ i) where
  one : (p q : ℕ) → ¬ (f p ≡ 0) → ¬ (f q ≡ 0) → f p ≡ f q → p ≡ q
  one p q a b e = sym (back p a) ∙ (ap seat e ∙ back q b)

  module _ (left : ℕ → Bool) (held : Held f left) where
    ticket_to : (p : ℕ) → left p ≡ true → In (f p) (tickets_of f left)
    ticket_to p t = sorted_to (map f (keep left places)) (f p) (map_to f (keep left places) p (keep_to left places p (place_to p (low p (held p t))) t))

    ticket_from : (u : ℕ) → In u (tickets_of f left) → (p : ℕ) × (left p ≡ true) × (u ≡ f p)
    ticket_from u i = let r = map_from f (keep left places) u (sorted_from (map f (keep left places)) u i) in (r.0, (keep_from left places r.0 r.1).1, r.2)

    -- an arrow comes to a ticket just where one comes to its place
    held_up_same : (p : ℕ) → left p ≡ true → some_of (λ u. via between seat u (f p)) (tickets_of f left) ≡ some_of (λ j. between j p && left j) places
    held_up_same p t = same_truth (some_of (λ u. via between seat u (f p)) (tickets_of f left)) (some_of (λ j. between j p && left j) places) there back_again
      where
        seats_same : (j : ℕ) → left j ≡ true → via between seat (f j) (f p) ≡ between j p
        seats_same j h = ap (λ (k : ℕ). between k (seat (f p))) (back j (held j h)) ∙ ap (between j) (back p (held p t))

        there : some_of (λ u. via between seat u (f p)) (tickets_of f left) ≡ true → some_of (λ j. between j p && left j) places ≡ true
        there h =
            let s = some_true (λ u. via between seat u (f p)) (tickets_of f left) h in
            let r = ticket_from s.0 s.1 in
            let j = r.0 in
            true_some (λ j. between j p && left j) places j (place_to j (low j (held j r.1)))
            (and_from (between j p) (left j) (sym (seats_same j r.1) ∙ (ap (λ (u : ℕ). via between seat u (f p)) (sym r.2) ∙ s.2)) r.1)

        back_again : some_of (λ j. between j p && left j) places ≡ true → some_of (λ u. via between seat u (f p)) (tickets_of f left) ≡ true
        back_again h =
            let s = some_true (λ j. between j p && left j) places h in
            let j = s.0 in
            let e = and_parts (between j p) (left j) s.2 in
            true_some (λ u. via between seat u (f p)) (tickets_of f left) (f j) (ticket_to j e.1) (seats_same j e.1 ∙ e.0)

    free_none : Foremost (clear between left) f None → first_free (via between seat) (tickets_of f left) (tickets_of f left) ≡ None
    free_none none = none_free (via between seat) (tickets_of f left) (tickets_of f left) blocked
      where
        blocked : (u : ℕ) → In u (tickets_of f left) → some_of (λ v. via between seat v u) (tickets_of f left) ≡ true
        blocked u i =
            let r = ticket_from u i in
            let p = r.0 in
            let e : some_of (λ j. between j p && left j) places ≡ true = side (left p) (some_of (λ j. between j p && left j) places) r.1 (none p) in
            ap (λ (v : ℕ). some_of (λ w. via between seat w v) (tickets_of f left)) r.2 ∙ (held_up_same p r.1 ∙ e)
          where
            side : (a b : Bool) → a ≡ true → (a && not b) ≡ false → b ≡ true
            side a b e h = grind arith

    free_some : (p : ℕ) → Foremost (clear between left) f (Some p) → first_free (via between seat) (tickets_of f left) (tickets_of f left) ≡ Some (f p)
    free_some p (is_clear, least) =
        let c = and_parts (left p) (not (some_of (λ j. between j p && left j) places)) is_clear in
        least_free (via between seat) (tickets_of f left) (tickets_of f left) (sorted_climbs (map f (keep left places))) (f p) (ticket_to p c.0)
        (held_up_same p c.0 ∙ not-true (some_of (λ j. between j p && left j) places) c.1) lesser
      where
        lesser : (u : ℕ) → In u (tickets_of f left) → some_of (λ v. via between seat v u) (tickets_of f left) ≡ false → f p ≤ u
        lesser u i h =
            let r = ticket_from u i in
            let q = r.0 in
            let free : some_of (λ j. between j q && left j) places ≡ false = sym (held_up_same q r.1) ∙ (ap (λ (v : ℕ). some_of (λ w. via between seat w v) (tickets_of f left)) (sym r.2) ∙ h) in
            let le = first_le f p q (least q (and_from (left q) (not (some_of (λ j. between j q && left j) places)) r.1 (not_from_false (some_of (λ j. between j q && left j) places) free))) in
            let s = r.2 in
            omega arith

    -- without a ticket, and without its place
    tickets_less : (p : ℕ) (next : ℕ → Bool) → left p ≡ true → ((q : ℕ) → next q ≡ (left q && but p q)) → keep (λ u. not (eqb u (f p))) (tickets_of f left) ≡ tickets_of f next
    tickets_less p next t less =
        keep_sorted (λ u. not (eqb u (f p))) (map f (keep left places))
        ∙ ap sorted (keep_map f (λ u. not (eqb u (f p))) (keep left places) ∙ ap (map f) (keep_keep (λ q. not (eqb (f q) (f p))) left next same places))
      where
        same : (q : ℕ) → next q ≡ (left q && not (eqb (f q) (f p)))
        same q = less q ∙ side (left q) (λ h e. one q p (held q h) (held p t) e) (λ (e : q ≡ p). ap f e)
          where
            side : (a : Bool) → (a ≡ true → f q ≡ f p → q ≡ p) → (q ≡ p → f q ≡ f p) → (a && not (eqb q p)) ≡ (a && not (eqb (f q) (f p)))
            side a h g = grind (arith, nat_tests)

    -- ── one turn ──
    turn_none : (k : ℕ) → Foremost (clear between left) f None → order_from (suc k) (via between seat) (tickets_of f left) ≡ []
    turn_none k none =
        let ts = tickets_of f left in
        ap (λ (o : Option ℕ). and_then o (λ t. order_from k (via between seat) (keep (λ u. not (eqb u t)) ts))) (free_none none)

    turn_more : (k p : ℕ) (next : ℕ → Bool) → Foremost (clear between left) f (Some p) → ((q : ℕ) → next q ≡ (left q && but p q))
        → order_from (suc k) (via between seat) (tickets_of f left) ≡ f p ∷ order_from k (via between seat) (tickets_of f next)
    turn_more k p next first less =
        let ts = tickets_of f left in
        let t = (and_parts (left p) (not (some_of (λ j. between j p && left j) places)) first.0).0 in
        ap (λ (o : Option ℕ). and_then o (λ t. order_from k (via between seat) (keep (λ u. not (eqb u t)) ts))) (free_some p first)
        ∙ ap (λ (xs : List ℕ). f p ∷ order_from k (via between seat) xs) (tickets_less p next t less)

  -- what is drawn of the places that are clear is the order
  pub drawn_order : (choice : ℕ → ℕ → Type 0) → ((left chosen : ℕ) → choice left chosen → (q : ℕ) → bit chosen q ≡ clear between (bit left) q) → (k left : ℕ) (ts : List ℕ) → Held f (bit left) → Drawn choice f k left ts
      → ts ≡ order_from k (via between seat) (tickets_of f (bit left))
  unfolding Drawn
  drawn_order choice free zero left ts held e = e
  drawn_order choice free (suc k) left [] held (chosen, c, none) =
      sym (turn_none (bit left) held k (foremost_like f (bit chosen) (clear between (bit left)) None (free left chosen c) none))
  drawn_order choice free (suc k) left (t ∷ ts) held (chosen, p, next, c, first, e, less, rest) =
      let begins = turn_more (bit left) held k p (bit next) (foremost_like f (bit chosen) (clear between (bit left)) (Some p) (free left chosen c) first) less in
      let ih = drawn_order choice free k next ts (λ i h. held i (and_parts (bit left i) (but p i) (sym (less i) ∙ h)).0) rest in
      ap (λ (u : ℕ). u ∷ ts) e ∙ (ap (λ (us : List ℕ). f p ∷ us) ih ∙ sym begins)
