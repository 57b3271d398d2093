-- Trees of nodes against names with a table of parents and labels: the plain rules, locks and conflicts are the same.
use Rattle.std.proofs.Common.{◌≡◌, ℕ, suc, ◌+◌, ◌*◌, ◌<◌, ◌≤◌, true, ◌≢◌, List, [], ◌∷◌, ◌++◌, Some, None, Option, sym, refl, ap, ◌∙◌, subst, inl, inr, arith}
use Rattle.path.specs.declared.coded.CodedPath.{CodedPath}
use Rattle.tree.specs.Trees.{Node, node_of}
use Rattle.model.proofs.Events.{In, World, Down, here, below, Event, ask, add, rem, Lock, read, write, who, node, Makes, Takes, count, Born, Gone, Live, Hits, Ok, Run, Conflicts, locks, Clash, Reaches}
use Rattle.model.proofs.MixedRun.{Tree, Has, Below, self, under, Ground, Adds, apply, Found, Accepts, after, Locks, Tail, Collide, Against, Recorded, Standing}
use Rattle.model.proofs.Neighbours.{Fine, ok_fine}
use Rattle.model.proofs.NewActions.{lookup, takes_born}
use Rattle.model.proofs.Counts.{tally_own}

-- a table that has the nodes of the first tree
pub record Table (g : Ground) : Type 0 where
  pub par : ℕ → ℕ
  pub lab : ℕ → ℕ
  pub has : (y : Node) → In y g.first → (par y.name ≡ y.parent) × (lab y.name ≡ y.label)

pub adds_makes : (e : Event CodedPath) (y : Node) → Adds e y → Makes e y.name
adds_makes (ask t n p found) y h = elim h [ ]
adds_makes (add t n a x) y h = ap (λ z. z.name) h
adds_makes (rem t n) y h = elim h [ ]

module _ (g : Ground) (tb : Table g) where
  abbrev pub Told : Node → Type 0
  Told y = (tb.par y.name ≡ y.parent) × (tb.lab y.name ≡ y.label)

  pub first_up : (x : ℕ) → Has (λ y. In y g.first) x → x ≢ 0 → Has (λ y. In y g.first) (tb.par x)
  first_up x (y, i, p) nz =
      let h = g.first_closed y i (λ z. nz (sym p ∙ z)) in
      (h.0, h.1, h.2 ∙ sym (tb.has y i).0 ∙ ap tb.par p)

  abbrev pub world : World
  world = record {
    Path = CodedPath;
    Fits = λ ls p. g.fits ls p ≡ true;
    FitsAny = λ ls p. g.fits_any ls p ≡ true;
    opens = g.opens;
    First = Has (λ y. In y g.first);
    first_root = g.first_root;
    base = g.base;
    first_low = λ x h. subst (λ n. n < g.base * 65536) h.2 (g.first_low h.0 h.1);
    par = tb.par;
    lab = tb.lab;
    first_closed = first_up;
  }

  -- ── a tree T with the names L ──
  module _ (T : Tree) (L : ℕ → Type 0) (told : (y : Node) → T y → Told y) (noded : (x : ℕ) → L x → Has T x) (closed : (x : ℕ) → x ≢ 0 → L x → L (tb.par x)) where
    pub below_down : (n : ℕ) {x : ℕ} {ls : List ℕ} → Below T n x ls → Down tb.par tb.lab n x ls
    below_down n self = here
    below_down n (under {ls} y ty nz b) =
        let t = told y ty in
        subst (λ a. Down tb.par tb.lab n y.name (ls ++ (a ∷ []))) t.1
        (below y.name nz (subst (λ m. Down tb.par tb.lab n m ls) (sym t.0) (below_down n b)))

    pub down_below : (n : ℕ) {x : ℕ} {ls : List ℕ} → Down tb.par tb.lab n x ls → L x → Below T n x ls
    down_below n here l = self
    down_below n (below {ls} x nz d) l = go (noded x l) (down_below n d (closed x nz l))
      where
        go : Has T x → Below T n (tb.par x) ls → Below T n x (ls ++ (tb.lab x ∷ []))
        go (y, ty, p) b =
            let t = told y ty in
            let pa : tb.par x ≡ y.parent = ap tb.par (sym p) ∙ t.0 in
            let la : y.label ≡ tb.lab x = sym t.1 ∙ ap tb.lab p in
            subst (λ z. Below T n z (ls ++ (tb.lab x ∷ []))) p
            (subst (λ a. Below T n y.name (ls ++ (a ∷ []))) la
            (under y ty (λ z. nz (sym p ∙ z)) (subst (λ m. Below T n m ls) pa b)))

  module _ (T : Tree) (L : ℕ → Type 0) (named : (y : Node) → T y → L y.name × Told y) (noded : (x : ℕ) → L x → Has T x) (closed : (x : ℕ) → x ≢ 0 → L x → L (tb.par x)) where
    has_name : (n : ℕ) → Has T n → L n
    has_name n (y, ty, p) = subst L p (named y ty).0

    pub found_hits : (n : ℕ) (p : CodedPath) (x : ℕ) → Found g T n p x → L x × Hits world n p x
    found_hits n p x (y, ty, e, nz, ls, b, f) =
        let t = (named y ty).1 in
        let pa : y.parent ≡ tb.par x = sym t.0 ∙ ap tb.par e in
        let la : y.label ≡ tb.lab x = sym t.1 ∙ ap tb.lab e in (
          has_name x (y, ty, e),
          (nz, ls, subst (λ m. Down tb.par tb.lab n m ls) pa (below_down T L (λ z tz. (named z tz).1) noded closed n b), subst (λ a. g.fits (ls ++ (a ∷ [])) p ≡ true) la f),
        )

    pub hits_found : (n : ℕ) (p : CodedPath) (x : ℕ) → L x → Hits world n p x → Found g T n p x
    hits_found n p x l (nz, ls, d, f) = go (noded x l)
      where
        go : Has T x → Found g T n p x
        go (y, ty, e) =
            let t = (named y ty).1 in
            let pa : tb.par x ≡ y.parent = ap tb.par (sym e) ∙ t.0 in
            let la : tb.lab x ≡ y.label = ap tb.lab (sym e) ∙ t.1 in
            (y, ty, e, nz, ls, subst (λ m. Below T n m ls) pa (down_below T L (λ z tz. (named z tz).1) noded closed n d (closed x nz l)), subst (λ a. g.fits (ls ++ (a ∷ [])) p ≡ true) la f)

  -- ── the plain rules, both ways ──
  module _ (T : Tree) (S : Event CodedPath → Type 0) (named : (y : Node) → T y → Live world S y.name × Told y) (noded : (x : ℕ) → Live world S x → Has T x) (closed : (x : ℕ) → x ≢ 0 → Live world S x → Live world S (tb.par x)) where
    pub accepts_ok : (k : ℕ) (e : Event CodedPath) → ((y : Node) → Adds e y → Told y) → Accepts g T k e → Ok world S k e
    accepts_ok k (ask t n p found) told h = (
      has_name T (Live world S) named noded closed n h.0,
      λ x. (
        λ i. found_hits T (Live world S) named noded closed n p x ((h.1 x).0 i),
        λ l hit. (h.1 x).1 (hits_found T (Live world S) named noded closed n p x l hit),
      ),
    )
    accepts_ok k (add t n a x) told h =
        let to = told (node_of x n a) refl in
        (has_name T (Live world S) named noded closed n h.0, h.1, h.2, h.3, to.0, to.1)
    accepts_ok k (rem t n) told h = (
      has_name T (Live world S) named noded closed n h.0,
      h.1,
      λ x nz under_n l. let y = noded x l in
          h.2 y.0 y.1 (λ z. nz (sym y.2 ∙ z)) (sym (named y.0 y.1).1.0 ∙ ap tb.par y.2 ∙ under_n),
    )

    pub ok_accepts : (k : ℕ) (e : Event CodedPath) → Ok world S k e → Accepts g T k e
    ok_accepts k (ask t n p found) h = (
      noded n h.0,
      λ x. (
        λ i. let f = (h.1 x).0 i in hits_found T (Live world S) named noded closed n p x f.0 f.1,
        λ f. let l = found_hits T (Live world S) named noded closed n p x f in (h.1 x).1 l.0 l.1,
      ),
    )
    ok_accepts k (add t n a x) h = (noded n h.0, h.1, h.2, h.3)
    ok_accepts k (rem t n) h = (
      noded n h.0,
      h.1,
      λ y ty nz e. h.2 y.name nz ((named y ty).1.0 ∙ e) (named y ty).0,
    )

  -- ── the tree of a set of events ──
  adds_told : (e : Event CodedPath) (y : Node) → Fine world e → Adds e y → Told y
  adds_told (ask t n p found) y f h = elim h [ ]
  adds_told (add t n a x) y f h = subst Told (sym h) (f.4, f.5)
  adds_told (rem t n) y f h = elim h [ ]

  makes_adds : (e : Event CodedPath) (x : ℕ) → Makes e x → (y : Node) × Adds e y × (y.name ≡ x)
  makes_adds (ask t n p found) x h = elim h [ ]
  makes_adds (add t n a z) x h = (node_of z n a, refl, sym h)
  makes_adds (rem t n) x h = elim h [ ]

  module _ (S : Event CodedPath → Type 0) (fine : (e : Event CodedPath) → S e → Fine world e) where
    pub recorded_named : (y : Node) → Recorded g S y → Born world S y.name × Told y
    recorded_named y (inl i) = (inl (y, i, refl), tb.has y i)
    recorded_named y (inr (e, s, h)) = (inr (e, s, adds_makes e y h), adds_told e y (fine e s) h)

    pub recorded_noded : (x : ℕ) → Born world S x → Has (Recorded g S) x
    recorded_noded x (inl (y, i, p)) = (y, inl i, p)
    recorded_noded x (inr (e, s, m)) = let h = makes_adds e x m in (h.0, inr (e, s, h.1), h.2)

    pub standing_named : (y : Node) → Standing g S y → Live world S y.name × Told y
    standing_named y (r, k) = let h = recorded_named y r in ((h.0, k), h.1)

    pub standing_noded : (x : ℕ) → Live world S x → Has (Standing g S) x
    standing_noded x (b, k) =
        let h = recorded_noded x b in
        (h.0, (h.1, λ gn. k (subst (Gone world S) h.2 gn)), h.2)

  -- ── conflicts, from the table to the record ──
  module _ (T : Tree) (L : ℕ → Type 0) (told : (y : Node) → T y → Told y) (noded : (x : ℕ) → L x → Has T x) (closed : (x : ℕ) → x ≢ 0 → L x → L (tb.par x)) where
    -- where a lock writes
    abbrev Spot : Lock CodedPath → Type 0
    Spot (read n p) = Unit {0}
    Spot (write n f) = L n

    locks_of : (e : Event CodedPath) → L (node e) → Fine world e → (l : Lock CodedPath) → In l (locks world e) → Locks g T e l × Spot l
    locks_of (ask t n p found) b f l (inl q) = (q, subst Spot (sym q) tt)
    locks_of (ask t n p found) b f l (inr i) = elim i [ ]
    locks_of (add t n a x) b f l (inl q) = (q, subst Spot (sym q) b)
    locks_of (add t n a x) b f l (inr i) = elim i [ ]
    locks_of (rem t n) b f l (inl q) = (inl q, subst Spot (sym q) b)
    locks_of (rem t n) b f l (inr (inl q)) =
        let h = noded n b in
        let t = told h.0 h.1 in
        let pa : tb.par n ≡ h.0.parent = ap tb.par (sym h.2) ∙ t.0 in
        let la : tb.lab n ≡ h.0.label = ap tb.lab (sym h.2) ∙ t.1 in (
          inr (h.0, h.1, h.2, q ∙ ap (λ m. write m (Some (tb.lab n))) pa ∙ ap (λ a. write h.0.parent (Some a)) la),
          subst Spot (sym q) (closed n f b),
        )
    locks_of (rem t n) b f l (inr (inr i)) = elim i [ ]

    reach_of : (n : ℕ) (p : CodedPath) (m : ℕ) (f : Option ℕ) → L m → Reaches world n p m f → (ls : List ℕ) × Below T n m ls × Tail g ls f p
    reach_of n p m None b (ls, d, t) = (ls, down_below T L told noded closed n d b, t)
    reach_of n p m (Some a) b (ls, d, t) = (ls, down_below T L told noded closed n d b, t)

    clash_of : (l k : Lock CodedPath) → Spot l → Spot k → Clash world l k → Collide g T l k
    clash_of (read n p) (read m q) a b c = c
    clash_of (read n p) (write m f) a b c = reach_of n p m f b c
    clash_of (write m f) (read n p) a b c = reach_of n p m f a c
    clash_of (write m f) (write n h) a b c = c

    pub conflicts_against : (d e : Event CodedPath) → L (node d) → Fine world d → L (node e) → Fine world e → Conflicts world d e → Against g T d e
    conflicts_against d e bd fd be fe (l, i, k, j, c) =
        let x = locks_of d bd fd l i in
        let y = locks_of e be fe k j in
        (l, x.0, k, y.0, clash_of l k x.1 y.1 c)

  -- ── a plain run ──
  -- each addition has its ticket's next number
  numbered : (es : List (Event CodedPath)) → Run world es → (e : Event CodedPath) (x : ℕ) → In e es → Makes e x → (g.base ≤ who e) × (j : ℕ) × (j ≤ count (who e) es) × (j < 65536) × (x ≡ who e * 65536 + j)
  numbered [] r e x i m = elim i [ ]
  numbered (c ∷ es) r e x (inl p) m =
      subst (λ d. (g.base ≤ who d) × (j : ℕ) × (j ≤ count (who d) (c ∷ es)) × (j < 65536) × (x ≡ who d * 65536 + j)) (sym p) (new c r.0 (subst (λ d. Makes d x) p m))
    where
      new : (d : Event CodedPath) → Ok world (λ z. In z es) (count (who d) es) d → Makes d x → (g.base ≤ who d) × (j : ℕ) × (j ≤ count (who d) (d ∷ es)) × (j < 65536) × (x ≡ who d * 65536 + j)
      new (ask t n q found) o mk = elim mk [ ]
      new (add t n a z) o mk =
          let one = tally_own CodedPath t n a z in
          let le : suc (count t es) ≤ count t (add t n a z ∷ es) = omega arith in
          (o.1, suc (count t es), le, o.2, mk ∙ o.3)
      new (rem t n) o mk = elim mk [ ]
  numbered (c ∷ es) r e x (inr i) m =
      let h = numbered es r.1 e x i m in
      let le : h.1 ≤ count (who e) (c ∷ es) = let k = h.2 in omega arith in
      (h.0, h.1, le, h.3, h.4)

  pub run_fine : (es : List (Event CodedPath)) → Run world es → (e : Event CodedPath) → In e es → Fine world e
  run_fine es r e i = let h = lookup world es e r i in ok_fine world (λ d. In d h.0) h.2 e h.3

  -- a name is new
  fresh : (es : List (Event CodedPath)) → Run world es → (t x : ℕ) → g.base ≤ t → suc (count t es) < 65536 → x ≡ t * 65536 + suc (count t es) → ¬ (Born world (λ d. In d es) x)
  fresh es r t x one low eq (inl z) = let lo : x < g.base * 65536 = world.first_low x z in omega arith
  fresh es r t x one low eq (inr (e, i, m)) =
      let h = numbered es r e x i m in
      let j = h.1 in
      let a : j ≤ count (who e) es = h.2 in
      let b : j < 65536 = h.3 in
      let c : x ≡ who e * 65536 + j = h.4 in
      let same : who e ≡ t = omega arith in
      let d : j ≤ count t es = subst (λ u. j ≤ count u es) same a in
      let f : x ≡ t * 65536 + j = subst (λ u. x ≡ u * 65536 + j) same c in
      omega arith

  -- the folded tree is the tree of the events
  pub after_standing : (es : List (Event CodedPath)) → Run world es → (y : Node) → after g es y → Standing g (λ d. In d es) y
  after_standing [] r y i = (inl i, λ h. h.1)
  after_standing (ask t n p found ∷ es) r y h = let s = after_standing es r.1 y h in (more s.0, λ k. old s.1 k)
    where
      more : Recorded g (λ d. In d es) y → Recorded g (λ d. In d (ask t n p found ∷ es)) y
      more (inl i) = inl i
      more (inr (e, i, a)) = inr (e, inr i, a)

      old : ¬ ((e : Event CodedPath) × In e es × Takes e y.name) → ¬ ((e : Event CodedPath) × In e (ask t n p found ∷ es) × Takes e y.name)
      old no_take (e, inl q, tk) = subst (λ c. Takes c y.name) q tk
      old no_take (e, inr i, tk) = no_take (e, i, tk)
  after_standing (add t n a x ∷ es) r y (inl q) =
      (inr (add t n a x, inl refl, q), λ k. gone k)
    where
      gone : ¬ ((e : Event CodedPath) × In e (add t n a x ∷ es) × Takes e y.name)
      gone (e, inl p, tk) = subst (λ c. Takes c y.name) p tk
      gone (e, inr i, tk) = fresh es r.1 t x r.0.1 r.0.2 r.0.3 (subst (Born world (λ d. In d es)) (ap (λ z. z.name) q) (takes_born world es r.1 y.name (e, i, tk)))
  after_standing (add t n a x ∷ es) r y (inr h) = let s = after_standing es r.1 y h in (more s.0, λ k. old s.1 k)
    where
      more : Recorded g (λ d. In d es) y → Recorded g (λ d. In d (add t n a x ∷ es)) y
      more (inl i) = inl i
      more (inr (e, i, ad)) = inr (e, inr i, ad)

      old : ¬ ((e : Event CodedPath) × In e es × Takes e y.name) → ¬ ((e : Event CodedPath) × In e (add t n a x ∷ es) × Takes e y.name)
      old no_take (e, inl q, tk) = subst (λ c. Takes c y.name) q tk
      old no_take (e, inr i, tk) = no_take (e, i, tk)
  after_standing (rem t n ∷ es) r y (h, ne) = let s = after_standing es r.1 y h in (more s.0, λ k. old s.1 k)
    where
      more : Recorded g (λ d. In d es) y → Recorded g (λ d. In d (rem t n ∷ es)) y
      more (inl i) = inl i
      more (inr (e, i, ad)) = inr (e, inr i, ad)

      old : ¬ ((e : Event CodedPath) × In e es × Takes e y.name) → ¬ ((e : Event CodedPath) × In e (rem t n ∷ es) × Takes e y.name)
      old no_take (e, inl q, tk) = ne (subst (λ c. Takes c y.name) q tk)
      old no_take (e, inr i, tk) = no_take (e, i, tk)

  pub standing_after : (es : List (Event CodedPath)) (y : Node) → Standing g (λ d. In d es) y → after g es y
  standing_after [] y (inl i, k) = i
  standing_after [] y (inr t, k) = absurd t.1
  standing_after (e ∷ es) y (rec, k) = last e rec k (λ rc. standing_after es y (rc, λ t. k (t.0, inr t.1, t.2)))
    where
      last : (c : Event CodedPath) → Recorded g (λ d. In d (c ∷ es)) y → ¬ ((d : Event CodedPath) × In d (c ∷ es) × Takes d y.name) → (Recorded g (λ d. In d es) y → after g es y) → apply c (after g es) y
      last (ask t n p found) (inl i) k ih = ih (inl i)
      last (ask t n p found) (inr (d, inl q, a)) k ih = absurd (subst (λ z. Adds z y) q a)
      last (ask t n p found) (inr (d, inr i, a)) k ih = ih (inr (d, i, a))
      last (add t n b x) (inl i) k ih = inr (ih (inl i))
      last (add t n b x) (inr (d, inl q, a)) k ih = inl (subst (λ z. Adds z y) q a)
      last (add t n b x) (inr (d, inr i, a)) k ih = inr (ih (inr (d, i, a)))
      last (rem t n) (inl i) k ih = (ih (inl i), λ p. k (rem t n, inl refl, p))
      last (rem t n) (inr (d, inl q, a)) k ih = absurd (subst (λ z. Adds z y) q a)
      last (rem t n) (inr (d, inr i, a)) k ih = (ih (inr (d, i, a)), λ p. k (rem t n, inl refl, p))
