-- An event and those that come behind it: where no lock of one conflicts with a lock of the other, each is accepted as before,
-- with the same answer, on a tree with one node more or less.
use Rattle.std.proofs.Common.{◌≡◌, ℕ, suc, ◌+◌, ◌*◌, ◌<◌, ◌≤◌, ◌≢◌, ◌⊎◌, List, Some, None, sym, refl, ap, ◌∙◌, subst, inl, inr, arith}
use Rattle.model.proofs.Events.{In, World, Down, ask, add, rem, read, write, who, node, Makes, Takes, Shows, Ev, Born, Gone, Live, Hits, Ok, locks, Conflicts}

module _ (w : World) where
  -- what holds of an event at any time
  abbrev pub Fine : Ev w → Type 0
  Fine (ask t n p found) = (x : ℕ) → In x found → Hits w n p x
  Fine (add t n a x) = (w.base ≤ t) × (k : ℕ) × (k < 65536) × (x ≡ t * 65536 + k) × (w.par x ≡ n) × (w.lab x ≡ a)
  Fine (rem t n) = n ≢ 0

  pub ok_fine : (S : Ev w → Type 0) (k : ℕ) (e : Ev w) → Ok w S k e → Fine e
  ok_fine S k (ask t n p found) h = λ x i. ((h.1 x).0 i).1
  ok_fine S k (add t n a x) h = (h.1, suc k, h.2, h.3, h.4, h.5)
  ok_fine S k (rem t n) h = h.1

  pub ok_live : (S : Ev w → Type 0) (k : ℕ) (e : Ev w) → Ok w S k e → Live w S (node e)
  ok_live S k (ask t n p found) h = h.0
  ok_live S k (add t n a x) h = h.0
  ok_live S k (rem t n) h = h.0

  pub shown_live : (S : Ev w → Type 0) (k : ℕ) (e : Ev w) → Ok w S k e → (x : ℕ) → Shows e x → Live w S x
  shown_live S k (ask t n p found) h x i = ((h.1 x).0 i).0
  shown_live S k (add t n a y) h x i = elim i [ ]
  shown_live S k (rem t n) h x i = elim i [ ]

  pub takes_node : (e : Ev w) (x : ℕ) → Takes e x → x ≡ node e
  takes_node (ask t n p found) x h = elim h [ ]
  takes_node (add t n a y) x h = elim h [ ]
  takes_node (rem t n) x h = h

  pub takes_not_root : (e : Ev w) (x : ℕ) → Fine e → Takes e x → x ≢ 0
  takes_not_root (ask t n p found) x f h = elim h [ ]
  takes_not_root (add t n a y) x f h = elim h [ ]
  takes_not_root (rem t n) x f h = λ z. f (sym h ∙ z)

  pub makes_under : (e : Ev w) (x : ℕ) → Fine e → Makes e x → w.par x ≡ node e
  makes_under (ask t n p found) x f h = elim h [ ]
  makes_under (add t n a y) x f h = ap w.par h ∙ f.4
  makes_under (rem t n) x f h = elim h [ ]

  -- ── conflicts ──
  -- an event that takes or makes x writes where a path that hits x reads
  pub writes : (e : Ev w) (x : ℕ) → Fine e → Makes e x ⊎ Takes e x → In (write (w.par x) (Some (w.lab x))) (locks w e)
  writes (ask t n p found) x f (inl h) = elim h [ ]
  writes (ask t n p found) x f (inr h) = elim h [ ]
  writes (add t n a y) x f (inl h) = inl (rw (h, f.4, f.5))
  writes (add t n a y) x f (inr h) = elim h [ ]
  writes (rem t n) x f (inl h) = elim h [ ]
  writes (rem t n) x f (inr h) = inr (inl (rw h))

  pub ask_first : (t n : ℕ) (p : w.Path) (found : List ℕ) (e : Ev w) (x : ℕ) → Fine e → Makes e x ⊎ Takes e x → Hits w n p x → Conflicts w (ask t n p found) e
  ask_first t n p found e x f m h = (read n p, inl refl, write (w.par x) (Some (w.lab x)), writes e x f m, (h.1, h.2, h.3))

  pub ask_last : (t n : ℕ) (p : w.Path) (found : List ℕ) (e : Ev w) (x : ℕ) → Fine e → Makes e x ⊎ Takes e x → Hits w n p x → Conflicts w e (ask t n p found)
  ask_last t n p found e x f m h = (write (w.par x) (Some (w.lab x)), writes e x f m, read n p, inl refl, (h.1, h.2, h.3))

  -- who was shown x reads where x is taken
  pub shown_taken : (d b : Ev w) (x : ℕ) → Fine d → Shows d x → Fine b → Takes b x → Conflicts w d b
  shown_taken (ask t n p found) b x f i g h = ask_first t n p found b x g (inr h) (f x i)
  shown_taken (add t n a y) b x f i g h = elim i [ ]
  shown_taken (rem t n) b x f i g h = elim i [ ]

  -- and reads where the parent of x is taken
  pub shown_child : (d : Ev w) (x t n : ℕ) → Fine d → Shows d x → w.par x ≡ n → Conflicts w d (rem t n)
  shown_child (ask u m p found) x t n f i e =
      let h = f x i in
      (read m p, inl refl, write n None, inl refl, (h.1, subst (λ (y : ℕ). Down w.par w.lab m y h.1) e h.2, w.opens h.1 (w.lab x) p h.3))
  shown_child (add u m a y) x t n f i e = elim i [ ]
  shown_child (rem u m) x t n f i e = elim i [ ]

  -- ── names ──
  name_apart : (d e : Ev w) (x : ℕ) → Fine d → Fine e → Makes d x → Makes e x → who d ≡ who e
  name_apart (ask t n p found) e x f g h i = elim h [ ]
  name_apart (rem t n) e x f g h i = elim h [ ]
  name_apart (add t n a y) (ask u m p found) x f g h i = elim i [ ]
  name_apart (add t n a y) (rem u m) x f g h i = elim i [ ]
  name_apart (add t n a y) (add u m b z) x f g h i =
      let j = f.1 in
      let k = g.1 in
      let jl : j < 65536 = f.2 in
      let kl : k < 65536 = g.2 in
      let p : x ≡ t * 65536 + j = h ∙ f.3 in
      let q : x ≡ u * 65536 + k = i ∙ g.3 in
      omega arith

  name_high : (d : Ev w) (x : ℕ) → Fine d → Makes d x → w.base * 65536 ≤ x
  name_high (ask t n p found) x f h = elim h [ ]
  name_high (rem t n) x f h = elim h [ ]
  name_high (add t n a y) x f h =
      let p : x ≡ t * 65536 + f.1 = h ∙ f.3 in
      let q : w.base ≤ t = f.0 in
      omega arith

  -- what u made stands in no tree that none of u's events made
  pub stranger : (S : Ev w → Type 0) (u : ℕ) → ((e : Ev w) → S e → Fine e × (who e ≢ u)) → (d : Ev w) (x : ℕ) → Fine d → who d ≡ u → Makes d x → ¬ (Born w S x)
  stranger S u h d x f o m (inl z) = let low = w.first_low x z in let high = name_high d x f m in omega arith
  stranger S u h d x f o m (inr t) = (h t.0 t.1).1 (sym (name_apart d t.0 x f (h t.0 t.1).0 m t.2) ∙ o)

  -- ── trees ──
  pub born_mono : (S R : Ev w → Type 0) → ((e : Ev w) → S e → R e) → (x : ℕ) → Born w S x → Born w R x
  born_mono S R h x (inl z) = inl z
  born_mono S R h x (inr t) = inr (t.0, h t.0 t.1, t.2)

  pub gone_mono : (S R : Ev w → Type 0) → ((e : Ev w) → S e → R e) → (x : ℕ) → Gone w S x → Gone w R x
  gone_mono S R h x t = (t.0, h t.0 t.1, t.2)

  -- ── an event c that comes behind b: it is accepted as it was without b ──
  module _ (S R : Ev w → Type 0) (b : Ev w) (b_fine : Fine b) (sub : (e : Ev w) → S e → R e) (plus : (e : Ev w) → R e → S e ⊎ (e ≡ b)) where
    born_plus : (x : ℕ) → Born w R x → Born w S x ⊎ Makes b x
    born_plus x (inl z) = inl (inl z)
    born_plus x (inr t) = elim (plus t.0 t.1) [ inl i ↦ inl (inr (t.0, i, t.2)) | inr p ↦ inr (subst (λ (e : Ev w). Makes e x) p t.2) ]

    gone_plus : (x : ℕ) → Gone w R x → Gone w S x ⊎ Takes b x
    gone_plus x t = elim (plus t.0 t.1) [ inl i ↦ inl (t.0, i, t.2) | inr p ↦ inr (subst (λ (e : Ev w). Takes e x) p t.2) ]

    live_plus : (x : ℕ) → ¬ (Takes b x) → Live w S x → Live w R x
    live_plus x h l = (born_mono S R sub x l.0, λ g. elim (gone_plus x g) [ inl i ↦ l.1 i | inr t ↦ h t ])

    live_minus : (x : ℕ) → ¬ (Makes b x) → Live w R x → Live w S x
    live_minus x h l = (elim (born_plus x l.0) [ inl i ↦ i | inr m ↦ absurd (h m) ], λ g. l.1 (gone_mono S R sub x g))

    pub late : (k : ℕ) (c : Ev w) → ¬ (Conflicts w c b) → ¬ (Takes b (node c)) → ¬ (Takes c (node b)) → Ok w S k c → Ok w R k c
    late k (ask t n p found) apart stands kept h = (
      live_plus n stands h.0,
      λ x. (
        λ i. let f = (h.1 x).0 i in
            (live_plus x (λ m. apart (ask_first t n p found b x b_fine (inr m) f.1)) f.0, f.1),
        λ l hit. (h.1 x).1 (live_minus x (λ m. apart (ask_first t n p found b x b_fine (inl m) hit)) l) hit,
      ),
    )
    late k (add t n a x) apart stands kept h = (live_plus n stands h.0, h.1, h.2, h.3, h.4, h.5)
    late k (rem t n) apart stands kept h = (
      live_plus n stands h.0,
      h.1,
      λ x nz under l. h.2 x nz under (live_minus x (λ m. kept (sym (makes_under b x b_fine m) ∙ under)) l),
    )

  -- ── an event b that was accepted after S is accepted after a part R of S, where nothing of the rest is in its way ──
  module _ (S R Other : Ev w → Type 0) (part : (e : Ev w) → R e → S e) (rest : (e : Ev w) → S e → R e ⊎ Other e) (fine : (e : Ev w) → S e → Fine e) (else : (e : Ev w) → Other e → S e) where
    pub early : (k : ℕ) (b : Ev w) → Born w R (node b) → ((e : Ev w) → Other e → ¬ (Conflicts w e b)) → ((e : Ev w) (x : ℕ) → Other e → Takes e x → Born w R x → w.par x ≡ node b → ¬ (Takes b (node b))) → Ok w S k b → Ok w R k b
    early k (ask t n p found) born apart child h = (
      (born, λ g. h.0.1 (gone_mono R S part n g)),
      λ x. (
        λ i. let f = (h.1 x).0 i in (
          (
            elim f.0.0 [
              | inl z ↦ inl z
              | inr m ↦ elim (rest m.0 m.1) [
                | inl r ↦ inr (m.0, r, m.2)
                | inr o ↦ absurd (apart m.0 o (ask_last t n p found m.0 x (fine m.0 m.1) (inl m.2) f.1))
              ]
            ],
            λ g. f.0.1 (gone_mono R S part x g),
          ),
          f.1,
        ),
        λ l hit. (h.1 x).1 (
          born_mono R S part x l.0,
          λ g. elim (rest g.0 g.1) [
            | inl r ↦ l.1 (g.0, r, g.2)
            | inr o ↦ apart g.0 o (ask_last t n p found g.0 x (fine g.0 g.1) (inr g.2) hit)
          ],
        )
            hit,
      ),
    )
    early k (add t n a x) born apart child h = ((born, λ g. h.0.1 (gone_mono R S part n g)), h.1, h.2, h.3, h.4, h.5)
    early k (rem t n) born apart child h = (
      (born, λ g. h.0.1 (gone_mono R S part n g)),
      h.1,
      λ x nz under l. h.2 x nz under (
        born_mono R S part x l.0,
        λ g. elim (rest g.0 g.1) [
          | inl r ↦ l.1 (g.0, r, g.2)
          | inr o ↦ child g.0 x o g.2 l.0 under refl
        ],
      ),
    )

  -- ── where b was accepted after S, in whose tree each node has its parent, the tree after b is such a tree too ──
  module _ (S R : Ev w → Type 0) (k : ℕ) (b : Ev w) (ok : Ok w S k b) (sub : (e : Ev w) → S e → R e) (plus : (e : Ev w) → R e → S e ⊎ (e ≡ b)) where
    no_child : (c : Ev w) (x : ℕ) → Ok w S k c → x ≢ 0 → Takes c (w.par x) → ¬ (Live w S x)
    no_child (ask t n p found) x h nz tk = elim tk [ ]
    no_child (add t n a y) x h nz tk = elim tk [ ]
    no_child (rem t n) x h nz tk = h.2 x nz tk

    makes_no_take : (c : Ev w) (x y : ℕ) → Makes c x → ¬ (Takes c y)
    makes_no_take (ask t n p found) x y i j = i
    makes_no_take (add t n a z) x y i j = j
    makes_no_take (rem t n) x y i j = i

    pub grow_closed : ((x : ℕ) → x ≢ 0 → Live w S x → Live w S (w.par x)) → (x : ℕ) → x ≢ 0 → Live w R x → Live w R (w.par x)
    grow_closed closed x nz (born, stays) = elim (born_plus S R b fine_b sub plus x born) [ inl h ↦ old h | inr m ↦ new m ]
      where
        fine_b : Fine b
        fine_b = ok_fine S k b ok

        live_b : Live w S (node b)
        live_b = ok_live S k b ok

        old : Born w S x → Live w R (w.par x)
        old bo =
            let lx : Live w S x = (bo, λ gn. stays (gone_mono S R sub x gn)) in
            let lp = closed x nz lx in (
              born_mono S R sub (w.par x) lp.0,
              λ gn. elim (gone_plus S R b fine_b sub plus (w.par x) gn) [ inl h ↦ lp.1 h | inr tk ↦ no_child b x ok nz tk lx ],
            )

        new : Makes b x → Live w R (w.par x)
        new m = subst (Live w R) (sym (makes_under b x fine_b m)) (
          born_mono S R sub (node b) live_b.0,
          λ gn. elim (gone_plus S R b fine_b sub plus (node b) gn) [ inl h ↦ live_b.1 h | inr tk ↦ makes_no_take b x (node b) m tk ],
        )
