-- A scheduler that is unfit, or whose store is empty, accepts no action, so that the law holds of nothing.
use Rattle.std.proofs.Common.{◌≡◌, ℕ, ◌+◌, Bool, true, false, cond, not, eqb, ◌⊎◌, List, [], ◌∷◌, ◌++◌, map, Some, sym, refl, ap, ◌∙◌, subst, inl, inr}
use Rattle.std.proofs.lemmas.Bool.{true≢false, both_ways, not-false}
use Rattle.tree.specs.declared.record.Record.{Record}
use Rattle.tree.specs.Trees.{actual}
use Rattle.tree.specs.Lists.{keep}
use Rattle.tree.specs.Records.{look}
use Rattle.tree.specs.Names.{ticket_part}
use Rattle.model.specs.Numbers.{member}
use Rattle.model.specs.Rules.{Answer, adds, asks, finished, ordered, refused, removes, replay, ticket, withdrawn}
use Rattle.model.specs.Scheduler.{Call, Making, Model, acts, finishes, free_place, make, opens, order, orders, place_of, withdraws}
use Rattle.model.specs.Changes.{change, fallen, falling, free, open_at, undone, with_mark, forgets}
use Rattle.model.specs.Refusals.{Rows, finish_rows, open_rows, order_rows, rows, unknown, withdraw_rows}
use Rattle.model.specs.Calls.{judge, step}
use Rattle.model.specs.History.{Log, block, in_order, one_by_one, past, second}
use Rattle.model.proofs.Tied.{judged, Passed}
use Rattle.model.proofs.Logs.{Went, Agreed}

pub record Still (mk : Making) (h : Log) (m : Model) : Type 0 where
  pub none_done : (u : ℕ) → block u h ≡ []
  pub none_past : past h ≡ []
  pub none_added : (i : ℕ) → m.added i ≡ 0
  pub why : ((m.fit ≡ false) × (m.records ≡ mk.store)) ⊎ ((m.records ≡ []) × (mk.store ≡ []))

zero_if : (b : Bool) (n : ℕ) → n ≡ 0 → cond b 0 n ≡ 0
zero_if true n e = refl
zero_if false n e = e

module _ (mk : Making) (h : Log) (m : Model) (s : Still mk h m) where
  abbrev Goes : Call → Model × Answer → Type 0
  Goes c x = Still mk ((c, x.1) ∷ h) x.0

  unmoved : (c : Call) (k : ℕ) → Still mk ((c, refused k) ∷ h) m
  unmoved opens k = record { none_done = s.none_done; none_past = s.none_past; none_added = s.none_added; why = s.why }
  unmoved (acts room b) k = record { none_done = s.none_done; none_past = s.none_past; none_added = s.none_added; why = s.why }
  unmoved (finishes t) k = record { none_done = s.none_done; none_past = s.none_past; none_added = s.none_added; why = s.why }
  unmoved (withdraws room t) k = record { none_done = s.none_done; none_past = s.none_past; none_added = s.none_added; why = s.why }
  unmoved (orders room) k = record { none_done = s.none_done; none_past = s.none_past; none_added = s.none_added; why = s.why }

  either : (c : Call) (ts : Rows) (r : Model × Answer) → (Passed ts → Goes c r) → Goes c (judge ts m r)
  either c ts r f = elim (judged ts m r) [
    | inl k ↦ subst (Goes c) (sym k.1) (unmoved c k.0)
    | inr k ↦ subst (Goes c) (sym k.1) (f k.0)
  ]

  -- no node is known
  no_node : (n p : ℕ) → not m.fit ≡ false → unknown (look n m.records) n p ≡ false → ⊥
  no_node n p fit un = elim s.why [
    | inl q ↦ both_ways m.fit q.0 (not-false m.fit fit)
    | inr q ↦ true≢false (subst (λ rs. unknown (look n rs) n p ≡ false) q.0 un)
  ]

  -- the store stays empty
  empties : (f : List Record → List Record) → f [] ≡ [] → not m.fit ≡ false → (f m.records ≡ []) × (mk.store ≡ [])
  empties f e fit = elim s.why [ inl q ↦ absurd (both_ways m.fit q.0 (not-false m.fit fit)) | inr q ↦ (ap f q.0 ∙ e, q.1) ]

  pub still_step : (c : Call) → Goes c (step m c)
  still_step opens = either opens (open_rows m) (open_at m (free_place m), ticket m.next)
      (λ k. record { none_done = s.none_done; none_past = s.none_past; none_added = λ i. zero_if (eqb i (free_place m)) (m.added i) (s.none_added i); why = inr (empties (λ rs. rs) refl k.0) })
  still_step (acts room (asks t n q)) = either (acts room (asks t n q)) (rows m room (asks t n q)) (change m (asks t n q)) (λ k. absurd (no_node n (place_of m t) k.0 k.1.1.0))
  still_step (acts room (adds t n q)) = either (acts room (adds t n q)) (rows m room (adds t n q)) (change m (adds t n q)) (λ k. absurd (no_node n (place_of m t) k.0 k.1.1.0))
  still_step (acts room (removes t n)) = either (acts room (removes t n)) (rows m room (removes t n)) (change m (removes t n)) (λ k. absurd (no_node n (place_of m t) k.0 k.1.1.0))
  still_step (finishes t) = either (finishes t) (finish_rows m t)
      (free m (place_of m t ∷ []) (keep (λ r. not (eqb r.mark t)) m.records) 1, finished (m.done + 1))
      (λ k. record {
        none_done = s.none_done;
        none_past = ap (λ xs. xs ++ past h) (s.none_done t) ∙ s.none_past;
        none_added = λ i. zero_if (member i (place_of m t ∷ [])) (m.added i) (s.none_added i);
        why = inr (empties (λ rs. (free m (place_of m t ∷ []) (keep (λ r. not (eqb r.mark t)) rs) 1).records) refl k.0);
      })
  still_step (withdraws room t) = either (withdraws room t) (withdraw_rows m room t)
      (free m (falling m t) (undone m t) 0, withdrawn (fallen m t))
      (λ k. record {
        none_done = s.none_done;
        none_past = s.none_past;
        none_added = λ i. zero_if (member i (falling m t)) (m.added i) (s.none_added i);
        why = inr (elim s.why [
          | inl q ↦ absurd (both_ways m.fit q.0 (not-false m.fit k.0))
          | inr q ↦ (gone m.records q.0, q.1)
        ]);
      })
    where
      gone : (rs : List Record) → rs ≡ [] → map (forgets (falling m t))
          (map (λ (r : Record). cond (member r.mark (fallen m t)) (with_mark r 0) r)
          (keep (λ (r : Record). not (member (ticket_part r.name) (fallen m t))) rs)) ≡ []
      gone rs e = subst (λ xs. map (forgets (falling m t))
          (map (λ (r : Record). cond (member r.mark (fallen m t)) (with_mark r 0) r)
          (keep (λ (r : Record). not (member (ticket_part r.name) (fallen m t))) xs)) ≡ []) (sym e) refl
  still_step (orders room) = either (orders room) (order_rows m room) (m, ordered (order m)) (λ k. record { none_done = s.none_done; none_past = s.none_past; none_added = s.none_added; why = s.why })

  nothing_second : (ts : List ℕ) → second h ts ≡ []
  nothing_second ts = ap (λ xs. in_order xs ++ one_by_one h ts) s.none_past ∙ blocks ts
    where
      blocks : (us : List ℕ) → one_by_one h us ≡ []
      blocks [] = refl
      blocks (u ∷ us) = ap (λ xs. in_order xs ++ one_by_one h us) (s.none_done u) ∙ blocks us

  same_tree : actual mk.store ≡ actual m.records
  same_tree = elim s.why [ inl q ↦ ap actual (sym q.1) | inr q ↦ ap actual (q.1 ∙ sym q.0) ]

  pub still_agrees : (ts : List ℕ) → Agreed mk h m ts
  still_agrees ts = subst (λ xs. replay (actual mk.store) (map (λ x. x.0) xs) ≡ Some (map (λ x. x.1) xs, actual m.records)) (sym (nothing_second ts)) (ap (λ ys. Some ([], ys)) same_tree)

pub still : (mk : Making) → (((make mk).fit ≡ false) ⊎ (mk.store ≡ [])) → (h : Log) (m : Model) → Went mk h m → Still mk h m
still mk w [] m e = subst (Still mk []) (sym e) (record { none_done = λ u. refl; none_past = refl; none_added = λ i. refl; why = elim w [ inl q ↦ inl (q, refl) | inr q ↦ inr (q, q) ] })
still mk w ((c, a) ∷ h) m' (m, af, e) = subst (λ (x : Model × Answer). Still mk ((c, x.1) ∷ h) x.0) e (still_step mk h m (still mk w h m af) c)
