-- The invariant of a mixed run: every part of the open tickets that has, with each, all that have an arrow to it, replays after the
-- finished ones. An accepted action keeps it.
use Rattle.std.proofs.Common.{◌≡◌, ℕ, ◌+◌, ◌≢◌, ◌⊎◌, List, [], ◌∷◌, ◌++◌, sym, refl, ap, ◌∙◌, subst, inl, inr, add-zero}
use native.Mathlib.Decide.{ℕ_discrete}
use Rattle.model.proofs.Events.{In, World, ask, add, rem, who, node, Takes, Shows, Knows, count, Ev, Born, Gone, Ok, Run, Conflicts, State, All, replay, Good, Acts}
use Rattle.model.proofs.Lists.{in_append, in_left, in_right, in_dec}
use Rattle.model.proofs.Counts.{count_append, count_none, count_over, count_other}
use Rattle.model.proofs.Neighbours.{Fine, ok_fine, ok_live, shown_live, takes_node, takes_not_root, shown_taken, shown_child, stranger, born_mono, late, early}

module _ (w : World) where
  -- the invariant of a mixed run
  pub record Inv (s : State w.Path) : Type 0 where
    -- a block has its own ticket's events, and a finished ticket is not open
    pub mine : (u : ℕ) (e : Ev w) → s.Open u → In e (s.block u) → who e ≡ u
    pub past : (e : Ev w) → In e s.fin → ¬ (s.Open (who e))
    pub fine : (e : Ev w) → All s e → Fine w e
    -- a ticket knows the nodes that it names
    pub known : (u : ℕ) (e : Ev w) → s.Open u → In e (s.block u) → Knows (s.block u) (node e)
    -- every closed part of the open tickets replays after the finished ones
    pub runs : (ts : List ℕ) → Good s ts → Run w (replay s ts)
    pub arrow_open : (u v : ℕ) → s.Arrow u v → s.Open u
    pub arrow_ne : (u v : ℕ) → s.Arrow u v → u ≢ v

  -- each event of a run was accepted after some of the run's events
  pub lookup : (es : List (Ev w)) (e : Ev w) → Run w es → In e es → (ds : List (Ev w)) × ((d : Ev w) → In d ds → In d es) × (k : ℕ) × Ok w (λ d. In d ds) k e
  lookup [] e r i = elim i [ ]
  lookup (c ∷ es) e r (inl p) = (es, λ d i. inr i, count (who c) es, subst (λ (x : Ev w). Ok w (λ d. In d es) (count (who c) es) x) (sym p) r.0)
  lookup (c ∷ es) e r (inr i) = let h = lookup es e r.1 i in (h.0, λ d j. inr (h.1 d j), h.2, h.3)

  pub takes_born : (es : List (Ev w)) → Run w es → (x : ℕ) → Gone w (λ d. In d es) x → Born w (λ d. In d es) x
  takes_born es r x (e, i, t) =
      let h = lookup es e r i in
      let l = ok_live w (λ d. In d h.0) h.2 e h.3 in
      born_mono w (λ d. In d h.0) (λ d. In d es) h.1 x (subst (Born w (λ d. In d h.0)) (sym (takes_node w e x t)) l.0)

  module _ (s : State w.Path) where
    pub good_open : (ts : List ℕ) → Good s ts → (u : ℕ) → In u ts → s.Open u
    good_open [] g u i = elim i [ ]
    good_open (t ∷ ts) g u (inl p) = subst s.Open (sym p) g.0
    good_open (t ∷ ts) g u (inr i) = good_open ts g.3 u i

    pub good_closed : (ts : List ℕ) → Good s ts → (u v : ℕ) → In v ts → s.Arrow u v → In u ts
    good_closed [] g u v i a = elim i [ ]
    good_closed (t ∷ ts) g u v (inl p) a = inr (g.2 u (subst (s.Arrow u) p a))
    good_closed (t ∷ ts) g u v (inr i) a = inr (good_closed ts g.3 u v i a)

    pub in_replay : (ts : List ℕ) (e : Ev w) → In e (replay s ts) → In e s.fin ⊎ ((u : ℕ) × In u ts × In e (s.block u))
    in_replay [] e i = inl i
    in_replay (t ∷ ts) e i = go (in_append e (s.block t) (replay s ts) i) (in_replay ts e)
      where
        go : In e (s.block t) ⊎ In e (replay s ts) → (In e (replay s ts) → In e s.fin ⊎ ((u : ℕ) × In u ts × In e (s.block u))) → In e s.fin ⊎ ((u : ℕ) × In u (t ∷ ts) × In e (s.block u))
        go (inl j) ih = inr (t, inl refl, j)
        go (inr j) ih = elim (ih j) [ inl k ↦ inl k | inr h ↦ inr (h.0, inr h.1, h.2) ]

    pub fin_replay : (ts : List ℕ) (e : Ev w) → In e s.fin → In e (replay s ts)
    fin_replay [] e i = i
    fin_replay (t ∷ ts) e i = in_right e (s.block t) (replay s ts) (fin_replay ts e i)

    pub block_replay : (ts : List ℕ) (u : ℕ) (e : Ev w) → In u ts → In e (s.block u) → In e (replay s ts)
    block_replay [] u e j i = elim j [ ]
    block_replay (t ∷ ts) u e (inl p) i = in_left e (s.block t) (replay s ts) (subst (λ v. In e (s.block v)) p i)
    block_replay (t ∷ ts) u e (inr j) i = in_right e (s.block t) (replay s ts) (block_replay ts u e j i)

    pub replay_all : (ts : List ℕ) → Good s ts → (e : Ev w) → In e (replay s ts) → All s e
    replay_all ts g e i = elim (in_replay ts e i) [ inl k ↦ inl k | inr h ↦ inr (h.0, good_open ts g h.0 h.1, h.2) ]

    module _ (inv : Inv s) where
      -- an open ticket that is not in an arrangement has no event in its replay
      pub absent : (ts : List ℕ) → Good s ts → (u : ℕ) → s.Open u → ¬ (In u ts) → (e : Ev w) → In e (replay s ts) → who e ≢ u
      absent ts g u o out e i p = elim (in_replay ts e i) [
        | inl k ↦ inv.past e k (subst s.Open (sym p) o)
        | inr h ↦ out (subst (λ v. In v ts) (sym (inv.mine h.0 e (good_open ts g h.0 h.1) h.2) ∙ p) h.1)
      ]

      pub known_born : (ts : List ℕ) → Good s ts → (t : ℕ) → In t ts → (n : ℕ) → Knows (s.block t) n → Born w (λ d. In d (replay s ts)) n
      known_born ts g t i n (inl p) = inl (subst w.First (sym p) w.first_root)
      known_born ts g t i n (inr (e, j, inl m)) = inr (e, block_replay ts t e i j, m)
      known_born ts g t i n (inr (e, j, inr sh)) =
          let h = lookup (replay s ts) e (inv.runs ts g) (block_replay ts t e i j) in
          born_mono w (λ d. In d h.0) (λ d. In d (replay s ts)) h.1 n (shown_live w (λ d. In d h.0) h.2 e h.3 n sh).0

      -- an open ticket outside an arrangement knows a node of its tree only by an ask
      pub only_shown : (ts : List ℕ) → Good s ts → (u : ℕ) → s.Open u → ¬ (In u ts) → (x : ℕ) → x ≢ 0 → Born w (λ d. In d (replay s ts)) x → Knows (s.block u) x → (d : Ev w) × In d (s.block u) × Shows d x
      only_shown ts g u o out x nz born (inl p) = absurd (nz p)
      only_shown ts g u o out x nz born (inr (e, j, inl m)) =
          absurd (stranger w (λ d. In d (replay s ts)) u (λ d i. (inv.fine d (replay_all ts g d i), absent ts g u o out d i)) e x (inv.fine e (inr (u, o, j))) (inv.mine u e o j) m born)
      only_shown ts g u o out x nz born (inr (e, j, inr sh)) = (e, j, sh)

  module _ (s : State w.Path) (b : Ev w) (s' : State w.Path) (inv : Inv s) (acts : Acts w s b s') where
    pub b_fine : Fine w b
    b_fine = ok_fine w (All s) (count (who b) (s.block (who b))) b acts.ok

    good_old : (ts : List ℕ) → Good s' ts → Good s ts
    good_old [] g = tt
    good_old (t ∷ ts) g = (acts.grows.open_from t g.0, g.1, λ u a. g.2 u (acts.grows.arrow_old u t a), good_old ts g.3)

    -- no open ticket that is neither t nor behind it conflicts with b
    no_arrow : (ts : List ℕ) → Good s' ts → In (who b) ts → (u : ℕ) → s.Open u → u ≢ who b → ¬ (In u ts) → (d : Ev w) → In d (s.block u) → ¬ (Conflicts w d b)
    no_arrow ts g i u o ne out d j c = out (good_closed s' ts g u (who b) i (acts.arrow_new u d o ne j c))

    pub block_sub : (u : ℕ) (e : Ev w) → In e (s.block u) → In e (s'.block u)
    block_sub u e i = go (ℕ_discrete u (who b))
      where
        go : Dec (u ≡ who b) → In e (s'.block u)
        go (yes p) = subst (λ v. In e (s'.block v)) (sym p) (subst (In e) (sym acts.grows.own) (inr (subst (λ v. In e (s.block v)) p i)))
        go (no ne) = subst (In e) (sym (acts.grows.others u ne)) i

    pub block_plus : (u : ℕ) (e : Ev w) → In e (s'.block u) → In e (s.block u) ⊎ ((e ≡ b) × (u ≡ who b))
    block_plus u e i = go (ℕ_discrete u (who b))
      where
        own : (p : u ≡ who b) → In e (b ∷ s.block (who b)) → In e (s.block u) ⊎ ((e ≡ b) × (u ≡ who b))
        own p (inl q) = inr (q, p)
        own p (inr j) = inl (subst (λ v. In e (s.block v)) (sym p) j)

        go : Dec (u ≡ who b) → In e (s.block u) ⊎ ((e ≡ b) × (u ≡ who b))
        go (yes p) = own p (subst (In e) acts.grows.own (subst (λ v. In e (s'.block v)) p i))
        go (no ne) = inl (subst (In e) (acts.grows.others u ne) i)

    replay_sub : (ts : List ℕ) (e : Ev w) → In e (replay s ts) → In e (replay s' ts)
    replay_sub ts e i = elim (in_replay s ts e i) [
      | inl k ↦ fin_replay s' ts e (subst (In e) (sym acts.grows.same_fin) k)
      | inr h ↦ block_replay s' ts h.0 e h.1 (block_sub h.0 e h.2)
    ]

    replay_plus : (ts : List ℕ) (e : Ev w) → In e (replay s' ts) → In e (replay s ts) ⊎ (e ≡ b)
    replay_plus ts e i = elim (in_replay s' ts e i) [
      | inl k ↦ inl (fin_replay s ts e (subst (In e) acts.grows.same_fin k))
      | inr h ↦ elim (block_plus h.0 e h.2) [ inl j ↦ inl (block_replay s ts h.0 e h.1 j) | inr q ↦ inr q.0 ]
    ]

    block_count : (u v : ℕ) → u ≢ who b → count u (s'.block v) ≡ count u (s.block v)
    block_count u v ne = go (ℕ_discrete v (who b))
      where
        go : Dec (v ≡ who b) → count u (s'.block v) ≡ count u (s.block v)
        go (yes p) = subst (λ x. count u (s'.block x) ≡ count u (s.block x)) (sym p)
            (ap (count u) acts.grows.own ∙ count_other u b (s.block (who b)) (λ q. ne (sym q)))
        go (no nv) = ap (count u) (acts.grows.others v nv)

    replay_count : (u : ℕ) → u ≢ who b → (ts : List ℕ) → count u (replay s' ts) ≡ count u (replay s ts)
    replay_count u ne [] = ap (count u) acts.grows.same_fin
    replay_count u ne (t ∷ ts) =
        count_append u (s'.block t) (replay s' ts) ∙ ap₂ (block_count u t ne) (replay_count u ne ts) ∙ sym (count_append u (s.block t) (replay s ts))
      where
        ap₂ : {x x' y y' : ℕ} → x ≡ x' → y ≡ y' → x + y ≡ x' + y'
        ap₂ p q = cc

    replay_same : (ts : List ℕ) → ¬ (In (who b) ts) → replay s' ts ≡ replay s ts
    replay_same [] out = acts.grows.same_fin
    replay_same (t ∷ ts) out =
        ap (λ es. es ++ replay s' ts) (acts.grows.others t (λ p. out (inl (sym p)))) ∙ ap (λ es. s.block t ++ es) (replay_same ts (λ i. out (inr i)))

    -- the blocks behind b's
    behind : (v : ℕ) (ts : List ℕ) → Good s' (v ∷ ts) → v ≢ who b → In (who b) ts →
        (es : List (Ev w)) → ((e : Ev w) → In e es → In e (s.block v)) → Run w (es ++ replay s ts) → Run w (replay s' ts) → Run w (es ++ replay s' ts)
    behind v ts g ne i [] sub r r' = r'
    behind v ts g ne i (c ∷ es) sub r r' =
        let σ = es ++ replay s ts in
        let σ' = es ++ replay s' ts in
        let o : s.Open v = acts.grows.open_from v g.0 in
        let mine : In c (s.block v) = sub c (inl refl) in
        let whoc : who c ≡ v = inv.mine v c o mine in
        let same : count (who c) σ' ≡ count (who c) σ =
        count_over (who c) es (replay s ts) (replay s' ts) (replay_count (who c) (λ q. ne (sym whoc ∙ q)) ts) in (
          subst (λ k. Ok w (λ d. In d σ') k c) (sym same)
              (late w (λ d. In d σ) (λ d. In d σ') b b_fine
              (λ e j. elim (in_append e es (replay s ts) j) [ inl k ↦ in_left e es (replay s' ts) k | inr k ↦ in_right e es (replay s' ts) (replay_sub ts e k) ])
              (λ e j. elim (in_append e es (replay s' ts) j) [
                | inl k ↦ inl (in_left e es (replay s ts) k)
                | inr k ↦ elim (replay_plus ts e k) [ inl l ↦ inl (in_right e es (replay s ts) l) | inr q ↦ inr q ]
              ])
              (count (who c) σ) c
              (no_arrow ts g.3 i v o ne g.1 c mine)
              (λ tk. stands o mine tk)
              (λ tk. (ok_live w (All s) (count (who b) (s.block (who b))) b acts.ok).1 (c, inr (v, o, mine), tk))
              r.0),
          behind v ts g ne i es (λ e j. sub e (inr j)) r.1 r',
        )
      where
        stands : s.Open v → In c (s.block v) → ¬ (Takes b (node c))
        stands o mine tk =
            let eq : node c ≡ node b = takes_node w b (node c) tk in
            let nz : node c ≢ 0 = takes_not_root w b (node c) b_fine tk in
            let born = known_born s inv ts (good_old ts g.3) (who b) i (node b) acts.grows.knows in
            let sh = only_shown s inv ts (good_old ts g.3) v o g.1 (node c) nz (subst (Born w (λ d. In d (replay s ts))) (sym eq) born) (inv.known v c o mine) in
            no_arrow ts g.3 i v o ne g.1 sh.0 sh.1 (shown_taken w sh.0 b (node c) (inv.fine sh.0 (inr (v, o, sh.1))) sh.2 b_fine tk)

    -- b itself, at the end of its own block
    here : (ts : List ℕ) → Good s' (who b ∷ ts) → Ok w (λ d. In d (replay s (who b ∷ ts))) (count (who b) (replay s (who b ∷ ts))) b
    here ts g =
        subst (λ k. Ok w (λ d. In d σ) k b) (sym same)
        (early w (All s) (λ d. In d σ) Other (replay_all s (t ∷ ts) old) rest inv.fine (λ e o. inr (o.0, o.1, o.4))
        (count t (s.block t)) b
        (known_born s inv (t ∷ ts) old t (inl refl) (node b) acts.grows.knows)
        (λ e o. no_arrow (t ∷ ts) g (inl refl) o.0 o.1 o.2 (out e o) e o.4)
        child acts.ok)
      where
        t : ℕ
        t = who b

        old : Good s (t ∷ ts)
        old = good_old (t ∷ ts) g

        σ : List (Ev w)
        σ = replay s (t ∷ ts)

        Other : Ev w → Type 0
        Other e = (u : ℕ) × s.Open u × (u ≢ t) × ¬ (In u ts) × In e (s.block u)

        out : (e : Ev w) (o : Other e) → ¬ (In o.0 (t ∷ ts))
        out e o (inl p) = o.2 p
        out e o (inr i) = o.3 i

        rest : (e : Ev w) → All s e → In e σ ⊎ Other e
        rest e (inl i) = inl (fin_replay s (t ∷ ts) e i)
        rest e (inr (u, o, i)) = go (in_dec u (t ∷ ts))
          where
            go : Dec (In u (t ∷ ts)) → In e σ ⊎ Other e
            go (yes j) = inl (block_replay s (t ∷ ts) u e j i)
            go (no k) = inr (u, o, λ p. k (inl p), λ j. k (inr j), i)

        same : count t σ ≡ count t (s.block t)
        same = count_append t (s.block t) (replay s ts)
            ∙ ap (λ n. count t (s.block t) + n) (count_none t (replay s ts) (absent s inv ts old.3 t old.0 old.1))
            ∙ add-zero (count t (s.block t))

        child : (e : Ev w) (x : ℕ) → Other e → Takes e x → Born w (λ d. In d σ) x → w.par x ≡ node b → ¬ (Takes b (node b))
        child e x o tk born under tb =
            let u = o.0 in
            let fe = inv.fine e (inr (u, o.1, o.4)) in
            let kn : Knows (s.block u) x = subst (Knows (s.block u)) (sym (takes_node w e x tk)) (inv.known u e o.1 o.4) in
            let sh = only_shown s inv (t ∷ ts) old u o.1 (out e o) x (takes_not_root w e x fe tk) born kn in
            no_arrow (t ∷ ts) g (inl refl) u o.1 o.2 (out e o) sh.0 sh.1 (conflict b tb under sh.0 (inv.fine sh.0 (inr (u, o.1, sh.1))) sh.2)
          where
            conflict : (c : Ev w) → Takes c (node c) → w.par x ≡ node c → (d : Ev w) → Fine w d → Shows d x → Conflicts w d c
            conflict (ask v n p found) tc un d fd sd = elim tc [ ]
            conflict (add v n a y) tc un d fd sd = elim tc [ ]
            conflict (rem v n) tc un d fd sd = shown_child w d x v n fd sd un

    pub act_runs : (ts : List ℕ) → Good s' ts → Run w (replay s' ts)
    act_runs [] g = subst (Run w) (sym acts.grows.same_fin) (inv.runs [] tt)
    act_runs (v ∷ ts) g = go (ℕ_discrete v (who b)) (in_dec (who b) ts) (act_runs ts g.3)
      where
        own : Good s' (who b ∷ ts) → Run w (replay s' (who b ∷ ts))
        own h = subst (λ es. Run w (es ++ replay s' ts)) (sym acts.grows.own)
            (subst (λ es. Run w ((b ∷ s.block (who b)) ++ es)) (sym (replay_same ts h.1))
            (here ts h, inv.runs (who b ∷ ts) (good_old (who b ∷ ts) h)))

        go : Dec (v ≡ who b) → Dec (In (who b) ts) → Run w (replay s' ts) → Run w (replay s' (v ∷ ts))
        go (yes p) d ih = subst (λ x. Run w (replay s' (x ∷ ts))) (sym p) (own (subst (λ x. Good s' (x ∷ ts)) p g))
        go (no ne) (yes i) ih = subst (λ es. Run w (es ++ replay s' ts)) (sym (acts.grows.others v ne))
            (behind v ts g ne i (s.block v) (λ e j. j) (inv.runs (v ∷ ts) (good_old (v ∷ ts) g)) ih)
        go (no ne) (no out) ih = subst (Run w) (sym (replay_same (v ∷ ts) (λ h. elim h [ inl p ↦ ne (sym p) | inr i ↦ out i ]))) (inv.runs (v ∷ ts) (good_old (v ∷ ts) g))

    act_mine : (u : ℕ) (e : Ev w) → s'.Open u → In e (s'.block u) → who e ≡ u
    act_mine u e o i = elim (block_plus u e i) [ inl j ↦ inv.mine u e (acts.grows.open_from u o) j | inr q ↦ ap who q.0 ∙ sym q.1 ]

    act_fine : (e : Ev w) → All s' e → Fine w e
    act_fine e (inl i) = inv.fine e (inl (subst (In e) acts.grows.same_fin i))
    act_fine e (inr (u, o, i)) = elim (block_plus u e i) [ inl j ↦ inv.fine e (inr (u, acts.grows.open_from u o, j)) | inr q ↦ subst (Fine w) (sym q.0) b_fine ]

    knows_more : (u n : ℕ) → Knows (s.block u) n → Knows (s'.block u) n
    knows_more u n (inl p) = inl p
    knows_more u n (inr (e, i, k)) = inr (e, block_sub u e i, k)

    act_known : (u : ℕ) (e : Ev w) → s'.Open u → In e (s'.block u) → Knows (s'.block u) (node e)
    act_known u e o i = elim (block_plus u e i) [
      | inl j ↦ knows_more u (node e) (inv.known u e (acts.grows.open_from u o) j)
      | inr q ↦ subst (λ v. Knows (s'.block v) (node e)) (sym q.1) (knows_more (who b) (node e) (subst (λ d. Knows (s.block (who b)) (node d)) (sym q.0) acts.grows.knows))
    ]

    pub act_inv : Inv s'
    act_inv = record {
      mine = act_mine;
      past = λ e i o. inv.past e (subst (In e) acts.grows.same_fin i) (acts.grows.open_from (who e) o);
      fine = act_fine;
      known = act_known;
      runs = act_runs;
      arrow_open = λ u v a. elim (acts.grows.arrow_only u v a) [ inl h ↦ acts.grows.open_to u (inv.arrow_open u v h) | inr h ↦ acts.grows.open_to u h.1 ];
      arrow_ne = λ u v a. elim (acts.grows.arrow_only u v a) [ inl h ↦ inv.arrow_ne u v h | inr h ↦ λ p. h.2 (p ∙ h.0) ];
    }
