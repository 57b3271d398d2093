-- To open, to finish and to withdraw keep the invariant of a mixed run; every arrangement is such a part.
use Rattle.std.proofs.Common.{◌≡◌, ℕ, ◌≢◌, ◌⊎◌, List, [], ◌∷◌, ◌++◌, sym, refl, ap, ◌∙◌, subst, inl, inr, append_assoc}
use native.Mathlib.Decide.{ℕ_discrete}
use Rattle.model.proofs.Events.{In, World, who, node, Knows, Ev, Run, State, All, replay, Good, Begins, Finishes, Withdraws, Starts, Follows, Arranged}
use Rattle.model.proofs.Lists.{in_append, in_left, in_right}
use Rattle.model.proofs.NewActions.{Inv, replay_all, fin_replay, block_replay}

module _ (w : World) where
  pub start_inv : (s : State w.Path) → Starts s → Inv w s
  start_inv s h = record {
    mine = λ u e o i. absurd (h.no_open u o);
    past = λ e i o. h.no_open (who e) o;
    fine = λ e a. elim a [ inl i ↦ elim (subst (In e) h.no_fin i) [ ] | inr t ↦ absurd (h.no_open t.0 t.1) ];
    known = λ u e o i. absurd (h.no_open u o);
    runs = runs;
    arrow_open = λ u v a. absurd (h.no_arrow u v a);
    arrow_ne = λ u v a. absurd (h.no_arrow u v a);
  }
    where
      runs : (ts : List ℕ) → Good s ts → Run w (replay s ts)
      runs [] g = subst (Run w) (sym h.no_fin) tt
      runs (t ∷ ts) g = absurd (h.no_open t g.0)

  module _ (s : State w.Path) (t : ℕ) (s' : State w.Path) (inv : Inv w s) (b : Begins s t s') where
    -- an arrangement with t left out
    Old : List ℕ → Type 0
    Old ts = (os : List ℕ) × Good s os × (replay s' ts ≡ replay s os) × ((u : ℕ) → In u ts → u ≢ t → In u os) × ((u : ℕ) → In u os → In u ts)

    not_t : (u : ℕ) → s.Open u → u ≢ t
    not_t u o p = b.not_open (subst s.Open p o)

    old : (ts : List ℕ) → Good s' ts → Old ts
    unfolding Old
    old [] g = ([], tt, b.same_fin, λ u i ne. i, λ u i. i)
    old (v ∷ ts) g = go (ℕ_discrete v t) (old ts g.3)
      where
        still : v ≢ t → s.Open v
        still ne = elim (b.open_from v g.0) [ inl o ↦ o | inr p ↦ absurd (ne p) ]

        go : Dec (v ≡ t) → Old ts → Old (v ∷ ts)
        go (yes p) h = (
          h.0,
          h.1,
          ap (λ es. es ++ replay s' ts) (ap s'.block p ∙ b.empty) ∙ h.2,
          λ u i ne. elim i [ inl q ↦ absurd (ne (q ∙ p)) | inr j ↦ h.3 u j ne ],
          λ u i. inr (h.4 u i),
        )
        go (no ne) h = (
          v ∷ h.0,
          (still ne, λ i. g.1 (h.4 v i), λ u a. h.3 u (g.2 u (b.arrow_old u v a)) (not_t u (inv.arrow_open u v a)), h.1),
          ap (λ es. es ++ replay s' ts) (b.others v ne) ∙ ap (λ es. s.block v ++ es) h.2,
          λ u i nu. elim i [ inl q ↦ inl q | inr j ↦ inr (h.3 u j nu) ],
          λ u i. elim i [ inl q ↦ inl q | inr j ↦ inr (h.4 u j) ],
        )

    -- an event of an open block was there, in a ticket that was open
    pub before : (u : ℕ) (e : Ev w) → s'.Open u → In e (s'.block u) → s.Open u × (s'.block u ≡ s.block u)
    before u e o i = elim (b.open_from u o) [
      | inl h ↦ (h, b.others u (not_t u h))
      | inr p ↦ elim (subst (In e) (ap s'.block p ∙ b.empty) i) [ ]
    ]

    pub begin_inv : Inv w s'
    unfolding Old
    begin_inv = record {
      mine = λ u e o i. let h = before u e o i in inv.mine u e h.0 (subst (In e) h.1 i);
      past = λ e i o. let j = subst (In e) b.same_fin i in elim (b.open_from (who e) o) [ inl h ↦ inv.past e j h | inr p ↦ b.not_past e j p ];
      fine = λ e a. elim a [
        | inl i ↦ inv.fine e (inl (subst (In e) b.same_fin i))
        | inr k ↦ let h = before k.0 e k.1 k.2 in inv.fine e (inr (k.0, h.0, subst (In e) h.1 k.2))
      ];
      known = λ u e o i. let h = before u e o i in subst (λ es. Knows es (node e)) (sym h.1) (inv.known u e h.0 (subst (In e) h.1 i));
      runs = λ ts g. let h = old ts g in subst (Run w) (sym h.2) (inv.runs h.0 h.1);
      arrow_open = λ u v a. b.open_to u (inv.arrow_open u v (b.arrow_only u v a));
      arrow_ne = λ u v a. inv.arrow_ne u v (b.arrow_only u v a);
    }

  module _ (s : State w.Path) (t : ℕ) (s' : State w.Path) (inv : Inv w s) (f : Finishes s t s') where
    good_end : (ts : List ℕ) → Good s' ts → Good s (ts ++ (t ∷ []))
    good_end [] g = (f.opened, λ i. i, λ u a. f.free u a, tt)
    good_end (v ∷ ts) g = (
      (f.open_from v g.0).0,
      λ i. elim (in_append v ts (t ∷ []) i) [ inl j ↦ g.1 j | inr j ↦ elim j [ inl p ↦ (f.open_from v g.0).1 p | inr k ↦ k ] ],
      λ u a. arrow u a (ℕ_discrete u t),
      good_end ts g.3,
    )
      where
        arrow : (u : ℕ) → s.Arrow u v → Dec (u ≡ t) → In u (ts ++ (t ∷ []))
        arrow u a (yes p) = in_right u ts (t ∷ []) (inl p)
        arrow u a (no ne) = in_left u ts (t ∷ []) (g.2 u (f.arrow_old u v a ne))

    replay_end : (ts : List ℕ) → Good s' ts → replay s (ts ++ (t ∷ [])) ≡ replay s' ts
    replay_end [] g = sym f.grows
    replay_end (v ∷ ts) g = ap (λ es. s.block v ++ es) (replay_end ts g.3) ∙ ap (λ es. es ++ replay s' ts) (sym (f.others v (f.open_from v g.0).1))

    pub fin_was : (e : Ev w) → In e s'.fin → In e (s.block t) ⊎ In e s.fin
    fin_was e i = in_append e (s.block t) s.fin (subst (In e) f.grows i)

    pub finish_inv : Inv w s'
    finish_inv = record {
      mine = λ u e o i. let h = f.open_from u o in inv.mine u e h.0 (subst (In e) (f.others u h.1) i);
      past = λ e i o. let h = f.open_from (who e) o in elim (fin_was e i) [ inl j ↦ h.1 (inv.mine t e f.opened j) | inr j ↦ inv.past e j h.0 ];
      fine = λ e a. elim a [
        | inl i ↦ elim (fin_was e i) [ inl j ↦ inv.fine e (inr (t, f.opened, j)) | inr j ↦ inv.fine e (inl j) ]
        | inr k ↦ let h = f.open_from k.0 k.1 in inv.fine e (inr (k.0, h.0, subst (In e) (f.others k.0 h.1) k.2))
      ];
      known = λ u e o i. let h = f.open_from u o in subst (λ es. Knows es (node e)) (sym (f.others u h.1)) (inv.known u e h.0 (subst (In e) (f.others u h.1) i));
      runs = λ ts g. subst (Run w) (replay_end ts g) (inv.runs (ts ++ (t ∷ [])) (good_end ts g));
      arrow_open = λ u v a. let h = f.arrow_only u v a in f.open_to u (inv.arrow_open u v h.0) h.1;
      arrow_ne = λ u v a. inv.arrow_ne u v (f.arrow_only u v a).0;
    }

  module _ (s : State w.Path) (W : List ℕ) (s' : State w.Path) (inv : Inv w s) (d : Withdraws s W s') where
    good_whole : (ts : List ℕ) → Good s' ts → Good s ts
    good_whole [] g = tt
    good_whole (v ∷ ts) g =
        let o = d.open_from v g.0 in
        (o.0, g.1, λ u a. g.2 u (d.arrow_old u v a (λ i. o.1 (d.closed u v a i)) o.1), good_whole ts g.3)

    replay_kept : (ts : List ℕ) → Good s' ts → replay s' ts ≡ replay s ts
    replay_kept [] g = d.same_fin
    replay_kept (v ∷ ts) g = ap (λ es. es ++ replay s' ts) (d.others v (d.open_from v g.0).1) ∙ ap (λ es. s.block v ++ es) (replay_kept ts g.3)

    pub withdraw_inv : Inv w s'
    withdraw_inv = record {
      mine = λ u e o i. let h = d.open_from u o in inv.mine u e h.0 (subst (In e) (d.others u h.1) i);
      past = λ e i o. inv.past e (subst (In e) d.same_fin i) (d.open_from (who e) o).0;
      fine = λ e a. elim a [
        | inl i ↦ inv.fine e (inl (subst (In e) d.same_fin i))
        | inr k ↦ let h = d.open_from k.0 k.1 in inv.fine e (inr (k.0, h.0, subst (In e) (d.others k.0 h.1) k.2))
      ];
      known = λ u e o i. let h = d.open_from u o in subst (λ es. Knows es (node e)) (sym (d.others u h.1)) (inv.known u e h.0 (subst (In e) (d.others u h.1) i));
      runs = λ ts g. subst (Run w) (sym (replay_kept ts g)) (inv.runs ts (good_whole ts g));
      arrow_open = λ u v a. let h = d.arrow_only u v a in d.open_to u (inv.arrow_open u v h.0) h.1;
      arrow_ne = λ u v a. inv.arrow_ne u v (d.arrow_only u v a).0;
    }

  -- ── what the invariant says of an arrangement of all open tickets ──
  module _ (s : State w.Path) (inv : Inv w s) where
    arranged_good : (ts : List ℕ) → Follows s ts → (before : List ℕ) → ((u : ℕ) → s.Open u → In u (before ++ ts)) → ((u v : ℕ) → In u before → In v ts → ¬ (s.Arrow u v)) → ((u : ℕ) → In u ts → s.Open u) → Good s ts
    arranged_good [] f bs each no_back only = tt
    arranged_good (t ∷ ts) f bs each no_back only = (
      only t (inl refl),
      f.0,
      arrow,
      arranged_good ts f.2 (bs ++ (t ∷ [])) (λ u o. subst (In u) (sym (append_assoc bs (t ∷ []) ts)) (each u o)) back (λ u i. only u (inr i)),
    )
      where
        arrow : (u : ℕ) → s.Arrow u t → In u ts
        arrow u a = elim (in_append u bs (t ∷ ts) (each u (inv.arrow_open u t a))) [
          | inl i ↦ absurd (no_back u t i (inl refl) a)
          | inr i ↦ elim i [ inl p ↦ absurd (inv.arrow_ne u t a p) | inr j ↦ j ]
        ]

        back : (u v : ℕ) → In u (bs ++ (t ∷ [])) → In v ts → ¬ (s.Arrow u v)
        back u v i j a = elim (in_append u bs (t ∷ []) i) [
          | inl k ↦ no_back u v k (inr j) a
          | inr k ↦ elim k [ inl p ↦ f.1 v j (subst (λ x. s.Arrow x v) p a) | inr z ↦ z ]
        ]

    pub replay_whole : (ts : List ℕ) → ((u : ℕ) → s.Open u → In u ts) → (e : Ev w) → All s e → In e (replay s ts)
    replay_whole ts each e (inl i) = fin_replay w s ts e i
    replay_whole ts each e (inr (u, o, i)) = block_replay w s ts u e (each u o) i

    pub arranged_runs : (ts : List ℕ) → Arranged s ts → Run w (replay s ts)
    arranged_runs ts a = inv.runs ts (arranged_good ts a.forward [] a.each (λ u v i. elim i [ ]) a.only)

    pub replay_part : (ts : List ℕ) → Arranged s ts → (e : Ev w) → In e (replay s ts) → All s e
    replay_part ts a = replay_all w s ts (arranged_good ts a.forward [] a.each (λ u v i. elim i [ ]) a.only)
