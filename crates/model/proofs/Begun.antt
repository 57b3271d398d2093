-- The tie holds at the making, and after every list of calls.
use Rattle.std.proofs.Common.{◌≡◌, ℕ, suc, ◌+◌, ◌*◌, ◌<◌, Bool, true, cond, not, ◌&&◌, ◌||◌, eqb, ltb, ◌≢◌, ◌⊎◌, List, [], ◌∷◌, sym, refl, ap, ◌∙◌, subst, inl, inr, arith}
use Rattle.std.proofs.lemmas.Bool.{true≢false, eqb-true, eqb-false, eq-eqb, or_cases, and_parts, cases_Bool, cond-true, cond-false, ltb-true}
use Rattle.words.proofs.Bits.{bit_none}
use Rattle.words.specs.Words.{bit}
use Rattle.path.specs.declared.coded.CodedPath.{CodedPath}
use Rattle.tree.specs.Trees.{Depth, Node, actual, bare, down, live, node_of, nodes, top}
use Rattle.tree.specs.declared.record.Record.{Record}
use Rattle.tree.specs.Lists.{all_of, keep}
use Rattle.model.specs.Paths.{fits, fits_any}
use Rattle.model.specs.Rules.{Answer, adds, asks, finished, ordered, refused, removes, ticket, withdrawn}
use Rattle.model.specs.Scheduler.{Call, Making, Model, acts, finishes, free_place, make, opens, order, orders, place_of, untouched, withdraws}
use Rattle.model.specs.Changes.{change, fallen, falling, free, open_at, undone}
use Rattle.model.specs.Refusals.{Rows, finish_rows, open_rows, order_rows, rows, withdraw_rows}
use Rattle.model.specs.Calls.{judge, step}
use Rattle.model.specs.History.{Log}
use Rattle.model.specs.Law.{Kept}
use Rattle.model.proofs.Events.{In, Event, All, Starts}
use Rattle.model.proofs.MixedRun.{Has, Ground, start}
use Rattle.model.proofs.Keys.{map_to, map_from, key_one, Up, Rising}
use Rattle.model.proofs.Tied.{st, mix, Tied, judged, Passed}
use Rattle.model.proofs.Turn.{names_nodes, rises_up}
use Rattle.model.proofs.Replays.{history_first}
use Rattle.model.proofs.Ways.{opens_law}
use Rattle.model.proofs.Asked.{asked}
use Rattle.model.proofs.Added.{grown}
use Rattle.model.proofs.Removed.{taken}
use Rattle.model.proofs.Finished.{finished_tied}
use Rattle.model.proofs.Withdrawn.{withdrawn_tied}
use Rattle.model.proofs.Opened.{opened_tied}
use Rattle.model.proofs.Logs.{Went}
use Rattle.model.proofs.Decided.{kept_tree}

-- ── the steps ──
module _ (g : Ground) where
  -- a call that changes nothing
  pub unmoved : (c : Call) (k : ℕ) (h : Log) (m : Model) (nx : ℕ) → Tied g h m nx → Tied g ((c, refused k) ∷ h) m nx
  unmoved opens k h m nx ti = record { reach = ti.reach; books = ti.books; seats = ti.seats; fit = ti.fit; next = ti.next; base = ti.base; room = ti.room; told = ti.told; told_past = ti.told_past; new = ti.new; past_low = ti.past_low }
  unmoved (acts room b) k h m nx ti = record { reach = ti.reach; books = ti.books; seats = ti.seats; fit = ti.fit; next = ti.next; base = ti.base; room = ti.room; told = ti.told; told_past = ti.told_past; new = ti.new; past_low = ti.past_low }
  unmoved (finishes t) k h m nx ti = record { reach = ti.reach; books = ti.books; seats = ti.seats; fit = ti.fit; next = ti.next; base = ti.base; room = ti.room; told = ti.told; told_past = ti.told_past; new = ti.new; past_low = ti.past_low }
  unmoved (withdraws room t) k h m nx ti = record { reach = ti.reach; books = ti.books; seats = ti.seats; fit = ti.fit; next = ti.next; base = ti.base; room = ti.room; told = ti.told; told_past = ti.told_past; new = ti.new; past_low = ti.past_low }
  unmoved (orders room) k h m nx ti = record { reach = ti.reach; books = ti.books; seats = ti.seats; fit = ti.fit; next = ti.next; base = ti.base; room = ti.room; told = ti.told; told_past = ti.told_past; new = ti.new; past_low = ti.past_low }

  written : (room : ℕ) (ts : List ℕ) (h : Log) (m : Model) (nx : ℕ) → Tied g h m nx → Tied g ((orders room, ordered ts) ∷ h) m nx
  written room ts h m nx ti = record { reach = ti.reach; books = ti.books; seats = ti.seats; fit = ti.fit; next = ti.next; base = ti.base; room = ti.room; told = ti.told; told_past = ti.told_past; new = ti.new; past_low = ti.past_low }

  module _ (gf : g.fits ≡ fits) (ga : g.fits_any ≡ fits_any) (h : Log) (m : Model) (nx : ℕ) (ti : Tied g h m nx) where
    abbrev Goes : Call → Model × Answer → Type 1
    Goes c x = (ny : ℕ) × Tied g ((c, x.1) ∷ h) x.0 ny

    -- refused, or as the change says
    either : (c : Call) (rs : Rows) (r : Model × Answer) → (Passed rs → Goes c r) → Goes c (judge rs m r)
    either c rs r f = elim (judged rs m r) [
      | inl q ↦ subst (Goes c) (sym q.1) (nx, unmoved c q.0 h m nx ti)
      | inr q ↦ subst (Goes c) (sym q.1) (f q.0)
    ]

    pub goes : (c : Call) → Goes c (step m c)
    goes opens = either opens (open_rows m) (open_at m (free_place m), ticket m.next)
        (λ k. (suc nx, opened_tied g gf ga h m nx ti k.1.0 k.1.1.0))
    goes (acts room (asks t n q)) = either (acts room (asks t n q)) (rows m room (asks t n q)) (change m (asks t n q)) (λ k. (nx, asked g gf ga h m nx ti room t n q k))
    goes (acts room (adds t n c)) = either (acts room (adds t n c)) (rows m room (adds t n c)) (change m (adds t n c)) (λ k. (nx, grown g gf ga h m nx ti room t n c k))
    goes (acts room (removes t n)) = either (acts room (removes t n)) (rows m room (removes t n)) (change m (removes t n)) (λ k. (nx, taken g gf ga h m nx ti room t n k))
    goes (finishes t) = either (finishes t) (finish_rows m t)
        (free m (place_of m t ∷ []) (keep (λ r. not (eqb r.mark t)) m.records) 1, finished (m.done + 1)) (λ k. (nx, finished_tied g gf ga h m nx ti t k.1.0 k.1.1.0))
    goes (withdraws room t) = either (withdraws room t) (withdraw_rows m room t)
        (free m (falling m t) (undone m t) 0, withdrawn (fallen m t)) (λ k. (nx, withdrawn_tied g gf ga h m nx ti room t k.1.0))
    goes (orders room) = either (orders room) (order_rows m room) (m, ordered (order m)) (λ k. (nx, written room (order m) h m nx ti))

-- ── the making ──
every_in : (f : Record → Bool) (rs : List Record) → all_of f rs ≡ true → (r : Record) → In r rs → f r ≡ true
every_in f [] e r i = elim i [ ]
every_in f (x ∷ xs) e r (inl p) = ap f p ∙ (and_parts (f x) (all_of f xs) e).0
every_in f (x ∷ xs) e r (inr i) = every_in f xs (and_parts (f x) (all_of f xs) e).1 r i

keep_all : (rs : List Record) → ((r : Record) → In r rs → live r ≡ true) → keep live rs ≡ rs
keep_all [] h = refl
keep_all (r ∷ rs) h = ap (λ b. cond b (r ∷ (keep live rs)) (keep live rs)) (h r (inl refl)) ∙ ap (λ xs. r ∷ xs) (keep_all rs (λ x i. h x (inr i)))

module _ (ys : List Node) where
  pub depth_has : {n d : ℕ} → Depth ys n d → Has (λ y. In y ys) 0 → Has (λ y. In y ys) n
  depth_has top r = r
  depth_has (down y i nz k) r = (y, i, refl)

  pub depth_parent : {n d : ℕ} → Depth ys n d → n ≢ 0 → (y : Node) × In y ys × (y.name ≡ n) × (e : ℕ) × Depth ys y.parent e
  depth_parent top nz = absurd (nz refl)
  depth_parent (down {d = e} y i nz k) n0 = (y, i, refl, e, k)

module _ (mk : Making) (kept : Kept mk) (fit : all_of (untouched mk.first) mk.store ≡ true) (a0 : ℕ) (root : In (node_of 0 0 a0) (nodes mk.store)) where
  abbrev R : List Record
  R = mk.store

  abbrev f : ℕ
  f = mk.first

  pub store_up : Rising (nodes mk.store)
  store_up = rises_up mk.store kept.rising

  sound_record : (r : Record) → In r R → (r.mark ≡ 0) × (r.note ≡ 0) × ((r.name < 65536) ⊎ (r.name < f * 65536))
  sound_record r i =
      let q = and_parts (live r && eqb r.note 0) (ltb r.name 65536 || ltb r.name (f * 65536)) (every_in (untouched f) R fit r i) in
      let s = and_parts (live r) (eqb r.note 0) q.0 in (
        eqb-true r.mark 0 s.0,
        eqb-true r.note 0 s.1,
        elim (or_cases (ltb r.name 65536) (ltb r.name (f * 65536)) q.1) [ inl e ↦ inl (ltb-true r.name 65536 e) | inr e ↦ inr (ltb-true r.name (f * 65536) e) ],
      )

  pub all_live : actual R ≡ nodes R
  all_live = ap nodes (keep_all R (λ r i. eq-eqb r.mark 0 (sound_record r i).0))

  abbrev base : ℕ
  base = cond (eqb mk.first 0) 1 mk.first

  base_is : ((f ≡ 0) × (base ≡ 1)) ⊎ ((f ≢ 0) × (base ≡ f))
  base_is = elim (cases_Bool (eqb f 0)) [ inl e ↦ inl (eqb-true f 0 e, cond-true {A = ℕ} (eqb f 0) 1 f e) | inr e ↦ inr (eqb-false f 0 e, cond-false {A = ℕ} (eqb f 0) 1 f e) ]

  pub low : (r : Record) → In r R → r.name < base * 65536
  low r i = go base_is (sound_record r i).2
    where
      go : ((f ≡ 0) × (base ≡ 1)) ⊎ ((f ≢ 0) × (base ≡ f)) → (r.name < 65536) ⊎ (r.name < f * 65536) → r.name < base * 65536
      go (inl z) (inl lt) = let e : base ≡ 1 = z.1 in omega arith
      go (inl z) (inr lt) = let e : f ≡ 0 = z.0 in absurd (omega arith)
      go (inr z) (inl lt) = let e : base ≡ f = z.1 in let n : f ≢ 0 = z.0 in omega arith
      go (inr z) (inr lt) = let e : base ≡ f = z.1 in omega arith

  pub to_actual : (y : Node) → In y (nodes R) → In y (actual R)
  to_actual y i = subst (In y) (sym all_live) i

  pub from_actual : (y : Node) → In y (actual R) → In y (nodes R)
  from_actual y i = subst (In y) all_live i

  abbrev pub ground : Ground
  ground = record {
    fits = fits;
    fits_any = fits_any;
    opens = opens_law;
    first = actual mk.store;
    first_root = (node_of 0 0 a0, to_actual (node_of 0 0 a0) root, refl);
    base = cond (eqb mk.first 0) 1 mk.first;
    first_low = λ y i. let q = map_from bare R y (from_actual y i) in subst (λ (v : Node). v.name < base * 65536) (sym q.2) (low q.0 q.1);
    first_one = λ y z i j e. key_one (λ (v : Node). v.name) (nodes R) (store_up) y z (from_actual y i) (from_actual z j) e;
    first_closed = λ y i nz.
        let d = (kept_tree mk kept).leads y (from_actual y i) in
        let q = depth_parent (nodes R) d.1 nz in
        let same = key_one (λ (v : Node). v.name) (nodes R) (store_up) q.0 y q.1 (from_actual y i) q.2 in
        let w = depth_has (nodes R) q.4 (node_of 0 0 a0, root, refl) in
        (w.0, to_actual w.0 w.1, w.2 ∙ ap (λ (v : Node). v.parent) same);
  }

  starts : Starts (st [] (make mk))
  starts = record { no_fin = refl; no_open = λ u o. o.0 (sym o.2); no_arrow = λ u v x. true≢false (sym x.4) }

  no_event : (d : Event CodedPath) → ¬ (All (st [] (make mk)) d)
  no_event d (inl i) = i
  no_event d (inr (u, o, i)) = i

  pub started : Tied ground [] (make mk) base
  started = record {
    reach = start (mix [] (make mk) base) starts;
    books = record {
      up = subst Up (names_nodes R) (store_up);
      leads = (kept_tree mk kept).leads;
      from = λ r i. (inl (to_actual (bare r) (map_to bare R r i)), λ w. w.1);
      to = λ y rc ng. elim rc [ inl i ↦ from_actual y i | inr q ↦ absurd (no_event q.0 q.1) ];
      listed = λ y i. history_first ground (start (mix [] (make mk) base) starts) y (to_actual y i);
      gone_listed = λ d i x tk. absurd i;
      mark_of = λ r i u d o j tk. absurd j;
      mark_by = λ r i nz. absurd (nz (sound_record r i).0);
      note_known = λ r i j noted nz. absurd (nz refl);
      note_free = λ r i j lt z. ap (λ w. bit w j) (sound_record r i).1 ∙ bit_none j;
    };
    seats = record {
      place_one = λ i j e nz. absurd (nz refl);
      place_low = λ i nz. absurd (nz refl);
      first_low = λ i nz. absurd (nz refl);
      added_count = λ i nz. absurd (nz refl);
      numbers = λ i nz j lo hi. absurd (nz refl);
      held = λ k i. absurd i;
      booked = λ i nz d j. absurd (nz refl);
      arrow_ends = λ i j x. absurd (true≢false (sym x));
    };
    fit = fit;
    next = elim base_is [ inl z ↦ inl z.0 | inr z ↦ inr (sym z.1) ];
    base = omega arith;
    room = (kept.count, kept.most);
    told = λ u x i. absurd i;
    told_past = λ x i. absurd i;
    new = λ t le. refl;
    past_low = λ d i. absurd i;
  }

  -- ── after every list of calls ──
  pub tied : (h : Log) (m : Model) → Went mk h m → (nx : ℕ) × Tied ground h m nx
  tied [] m e = (base, subst (λ v. Tied ground [] v base) (sym e) started)
  tied ((c, a) ∷ h) m' (m, af, e) =
      let t = tied h m af in
      let q = goes ground refl refl h m t.0 t.1 c in
      (q.0, subst (λ (x : Model × Answer). Tied ground ((c, x.1) ∷ h) x.0 q.0) e q.1)
