-- Every state of a fit scheduler is healthy; from a live node up, records and actual tree are alike.
use Rattle.std.proofs.Common.{◌≡◌, ℕ, suc, ◌+◌, ◌*◌, ◌<◌, ◌≤◌, true, false, not, eqb, ◌≢◌, ◌⊎◌, List, [], ◌∷◌, ◌++◌, length, Some, None, Option, sym, refl, ap, ◌∙◌, subst, inl, inr, arith}
use Rattle.std.proofs.lemmas.Bool.{both_ways, cases_Bool, eqb-true}
use Rattle.tree.specs.Trees.{Depth, IsTree, Node, actual, bare, down, live, node_of, nodes, top}
use Rattle.tree.specs.declared.record.Record.{Record}
use Rattle.tree.specs.Lists.{all_of, keep}
use Rattle.tree.specs.Names.{name_of}
use Rattle.tree.specs.Records.{rises}
use Rattle.model.specs.Numbers.{below}
use Rattle.model.specs.Ways.{way}
use Rattle.model.specs.Rules.{Action, Answer, adds, asks, finished, ordered, removes, ticket, withdrawn}
use Rattle.model.specs.Scheduler.{Call, Making, Model, acts, finishes, free_place, make, opens, order, orders, place_of, untouched, withdraws}
use Rattle.model.specs.Changes.{change, fallen, falling, free, open_at, undone}
use Rattle.model.specs.Refusals.{Rows, finish_rows, open_rows, order_rows, rows, withdraw_rows}
use Rattle.model.specs.Calls.{judge, step}
use Rattle.model.specs.History.{Log, past_tickets, calls}
use Rattle.model.specs.Law.{Kept}
use Rattle.model.specs.Health.{Healthy, Health, Alike}
use Rattle.model.proofs.Events.{In, count}
use Rattle.model.proofs.MixedRun.{Ground, Below, self, under}
use Rattle.model.proofs.Reached.{below_to, below_length}
use Rattle.model.proofs.Ways.{way_sound, none≢some}
use Rattle.model.proofs.PlainRules.{below_more}
use Rattle.model.proofs.Keys.{some_true, key_one, Distinct, fits_in, map_to, map_from, keep_from, Rising, Up, keep_up}
use Rattle.model.proofs.Tied.{Tied, st, mix}
use Rattle.model.proofs.Turn.{nodes_up, actual_leads, standing_actual, tree_way, rises_up, up_rises, names_nodes}
use Rattle.model.proofs.Acted.{added_room}
use Rattle.model.proofs.Begun.{ground, tied}
use Rattle.model.proofs.Orderly.{Orderly, orderly}
use Rattle.model.proofs.Still.{Still, still}
use Rattle.model.proofs.Law.{no_nodes}
use Rattle.model.proofs.Replays.{root_standing, fresh_name}
use Rattle.model.proofs.Logs.{Went, went}
use Rattle.model.proofs.Decided.{kept_tree}

-- ── health ──
distinct_below : (n : ℕ) (cs : List ℕ) → Distinct cs → ((c : ℕ) → In c cs → c < n) → length cs ≤ n
distinct_below n cs d h = subst (λ k. length cs ≤ k) (below_length n) (fits_in cs (below n) d (λ c i. below_to n c (h c i)))

-- no more tickets finish than there are
done_low : (h : Log) (m : Model) → Orderly h m → m.done ≤ 4294967295
done_low h m o =
    let a = distinct_below 4294967296 (0 ∷ past_tickets h) ((λ i. (o.past_off 0 i).0 refl), o.past_distinct) (λ c i. elim i [ inl e ↦ subst (λ v. v < 4294967296) (sym e) (omega arith) | inr j ↦ (let t = o.past_top c j in omega arith) ]) in
    let b = o.done_is in
    omega arith

module _ (mk : Making) (kept : Kept mk) (fit : all_of (untouched mk.first) mk.store ≡ true) (a0 : ℕ) (root : In (node_of 0 0 a0) (nodes mk.store)) (h : Log) (m : Model) (af : Went mk h m) where
  abbrev g : Ground
  g = ground mk kept fit a0 root

  nx : ℕ
  nx = (tied mk kept fit a0 root h m af).0

  ti : Tied g h m nx
  unfolding nx
  ti = (tied mk kept fit a0 root h m af).1

  root_live : In (node_of 0 0 a0) (actual m.records)
  root_live = standing_actual g refl refl h m nx ti (node_of 0 0 a0) (root_standing g (mix h m nx) ti.reach)

  live_node : (y : Node) → In y (actual m.records) → In y (nodes m.records)
  live_node y i = let q = map_from bare (keep live m.records) y i in
      subst (λ v. In v (nodes m.records)) (sym q.2) (map_to bare m.records q.0 (keep_from live m.records q.0 q.1).0)

  pub healthy_rooted : Healthy m
  healthy_rooted = record {
    rising = up_rises m.records (nodes_up g refl refl h m nx ti);
    tree = record { root = inr (a0, live_node (node_of 0 0 a0) root_live); leads = ti.books.leads };
    live_tree = record { root = inr (a0, root_live); leads = actual_leads g refl refl h m nx ti };
    count = ti.room.0;
    most = ti.room.1;
    place_one = ti.seats.place_one;
    place_low = ti.seats.place_low;
    few = added_room g refl refl h m nx ti;
    new = fresh;
    holders = ti.seats.held;
    arrow_ends = ti.seats.arrow_ends;
    book = (orderly mk kept.ticket h m af).book;
    tickets_fit = (orderly mk kept.ticket h m af).top;
    next_fits = (orderly mk kept.ticket h m af).next_top;
    done_fits = done_low h m (orderly mk kept.ticket h m af);
  }
    where
      fresh : (i : ℕ) → m.tickets i ≢ 0 → (r : Record) → In r m.records → r.name ≢ name_of (m.tickets i) (suc (m.added i))
      fresh i nz r j e =
          let c = ti.seats.added_count i nz in
          let a = added_room g refl refl h m nx ti i nz in
          let b = ti.room.0 in
          let d = ti.room.1 in
          let small : suc (count (m.tickets i) ((st h m).block (m.tickets i))) < 65536 = omega arith in
          fresh_name g ti.reach (m.tickets i) (nz, i, refl) (ti.seats.first_low i nz) small (bare r) (ti.books.listed (bare r) (map_to bare m.records r j)) (e ∙ ap (λ k. m.tickets i * 65536 + suc k) c)

-- over an empty store
empty_tree : (rs : List Record) → rs ≡ [] → IsTree (nodes rs)
empty_tree rs e = subst (λ xs. IsTree (nodes xs)) (sym e) (record { root = inl refl; leads = λ y i. absurd i })

empty_live : (rs : List Record) → rs ≡ [] → IsTree (actual rs)
empty_live rs e = subst (λ xs. IsTree (actual xs)) (sym e) (record { root = inl refl; leads = λ y i. absurd i })

limit_same : (mk : Making) (h : Log) (m : Model) → Went mk h m → m.limit ≡ mk.limit
limit_same mk [] m e = ap (λ (v : Model). v.limit) e
limit_same mk ((c, a) ∷ h) m' (m, af, e) = ap (λ (x : Model × Answer). x.0.limit) (sym e) ∙ keeps m c ∙ limit_same mk h m af
  where
    judged_limit : (rows : Rows) (v : Model) (r : Model × Answer) → r.0.limit ≡ v.limit → (judge rows v r).0.limit ≡ v.limit
    judged_limit [] v r k = k
    judged_limit ((true, n) ∷ rows) v r k = refl
    judged_limit ((false, n) ∷ rows) v r k = judged_limit rows v r k

    keeps : (v : Model) (d : Call) → (step v d).0.limit ≡ v.limit
    keeps v opens = judged_limit (open_rows v) v (open_at v (free_place v), ticket v.next) refl
    keeps v (acts room b) = judged_limit (rows v room b) v (change v b) (acts_limit b)
      where
        acts_limit : (b : Action) → (change v b).0.limit ≡ v.limit
        acts_limit (asks t n p) = refl
        acts_limit (adds t n p) = refl
        acts_limit (removes t n) = refl
    keeps v (finishes t) = judged_limit (finish_rows v t) v
        (free v (place_of v t ∷ []) (keep (λ r. not (eqb r.mark t)) v.records) 1, finished (v.done + 1)) refl
    keeps v (withdraws room t) = judged_limit (withdraw_rows v room t) v
        (free v (falling v t) (undone v t) 0, withdrawn (fallen v t)) refl
    keeps v (orders room) = judged_limit (order_rows v room) v (v, ordered (order v)) refl

healthy : (mk : Making) → Kept mk → (h : Log) (m : Model) → Went mk h m → m.fit ≡ true → Healthy m
healthy mk kept h m af fits_now = go (cases_Bool (make mk).fit) (kept_tree mk kept).root
  where
    empty : Still mk h m → Healthy m
    empty s = elim s.why [ inl q ↦ absurd (both_ways m.fit q.0 fits_now) | inr q ↦ bare_one s q.0 ]
      where
        bare_one : Still mk h m → m.records ≡ [] → Healthy m
        bare_one s e =
            let o = orderly mk kept.ticket h m af in
            let len : length m.records ≡ 0 = ap length e in
            let lim = limit_same mk h m af in
            let most = kept.most in
            record {
              rising = ap rises e;
              tree = empty_tree m.records e;
              live_tree = empty_live m.records e;
              count = omega arith;
              most = omega arith;
              place_one = o.one;
              place_low = o.low;
              few = λ i nz. (let z = s.none_added i in omega arith);
              new = λ i nz r j k. subst (In r) e j;
              holders = o.held;
              arrow_ends = o.ends;
              book = o.book;
              tickets_fit = o.top;
              next_fits = o.next_top;
              done_fits = done_low h m o;
            }

    go : ((make mk).fit ≡ true) ⊎ ((make mk).fit ≡ false) → (nodes mk.store ≡ []) ⊎ ((a : ℕ) × In (node_of 0 0 a) (nodes mk.store)) → Healthy m
    go (inr e) r = empty (still mk (inl e) h m af)
    go (inl e) (inl r) = empty (still mk (inr (no_nodes mk.store r)) h m af)
    go (inl e) (inr r) = healthy_rooted mk kept e r.0 r.1 h m af

pub health : Health
health mk kept h m af fits_now = healthy mk kept (calls h) m (went mk h m af) fits_now

-- ── the way in the records and in the actual tree ──
module _ (ys zs : List Node) (sub : (y : Node) → In y ys → In y zs) (up : Rising zs) where
  below_part : (n : ℕ) {x : ℕ} {ls : List ℕ} → Below (λ y. In y zs) n x ls → (d : ℕ) → Depth ys x d → Below (λ y. In y ys) n x ls
  below_part n self d k = self
  below_part n (under {ls} y i nz b) d k = go k refl (below_part n b)
    where
      go : {x e : ℕ} → Depth ys x e → y.name ≡ x → ((c : ℕ) → Depth ys y.parent c → Below (λ y. In y ys) n y.parent ls) → Below (λ y. In y ys) n y.name (ls ++ (y.label ∷ []))
      go top p ih = absurd (nz p)
      go (down {d = c} w j wz q) p ih =
          let same : w ≡ y = key_one (λ (v : Node). v.name) zs up w y (sub w j) i (sym p) in
          under y (subst (λ v. In v ys) same j) nz (ih c (subst (λ (v : Node). Depth ys v.parent c) same q))

pub alike : Alike
alike m he n x hx = go (way ys n x) (way zs n x) refl refl
  where
    ys : List Node
    ys = actual m.records

    zs : List Node
    zs = nodes m.records

    sub : (y : Node) → In y ys → In y zs
    sub y i = let q = map_from bare (keep live m.records) y i in
        subst (λ v. In v zs) (sym q.2) (map_to bare m.records q.0 (keep_from live m.records q.0 q.1).0)

    live_up : Rising ys
    live_up = subst Up (sym (names_nodes (keep live m.records))) (keep_up (λ (r : Record). r.name) live m.records (subst Up (names_nodes m.records) (rises_up m.records he.rising)))

    deep : (d : ℕ) × Depth ys x d
    deep =
        let q = some_true (λ (y : Node). eqb y.name x) ys hx in
        subst (λ v. (d : ℕ) × Depth ys v d) (eqb-true q.0.name x q.2) (he.live_tree.leads q.0 q.1)

    up_to : (ls : List ℕ) → way ys n x ≡ Some ls → way zs n x ≡ Some ls
    up_to ls e = tree_way zs (rises_up m.records he.rising) he.tree.leads n x ls (below_more (λ y. In y ys) (λ y. In y zs) sub n (way_sound ys live_up (length ys) n x ls e))

    down_to : (ls : List ℕ) → way zs n x ≡ Some ls → way ys n x ≡ Some ls
    down_to ls e = tree_way ys live_up he.live_tree.leads n x ls (below_part ys zs sub (rises_up m.records he.rising) n (way_sound zs (rises_up m.records he.rising) (length zs) n x ls e) deep.0 deep.1)

    go : (o o' : Option (List ℕ)) → way ys n x ≡ o → way zs n x ≡ o' → way ys n x ≡ way zs n x
    go None None a b = a ∙ sym b
    go None (Some ls) a b = absurd (none≢some ls (sym a ∙ down_to ls b))
    go (Some ls) None a b = absurd (none≢some ls (sym b ∙ up_to ls a))
    go (Some ls) (Some ks) a b = a ∙ sym (up_to ls a)
