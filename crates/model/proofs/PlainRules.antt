-- The plain rules as a function do what they say as a relation.
use Rattle.std.proofs.Common.{◌≡◌, ℕ, suc, ◌+◌, ◌*◌, ◌<◌, ◌≤◌, Bool, true, false, cond, not, ◌&&◌, T, eqb, ltb, ◌≢◌, ◌⊎◌, List, [], ◌∷◌, ◌++◌, map, length, Some, None, Option, sym, refl, ap, ◌∙◌, subst, inl, inr, zero-add, arith}
use Rattle.std.proofs.lemmas.Bool.{true≢false, eqb-true, eqb-false, eq-eqb, ne_eqb, and_parts, and_from, cases_Bool, cond-true, not_from_false, not-true, ltb-true, ltb-false}
use Rattle.path.specs.declared.coded.CodedPath.{CodedPath}
use Rattle.tree.specs.Trees.{Depth, Node, down, node_of, top}
use Rattle.tree.specs.Lists.{keep, some_of}
use Rattle.tree.specs.Names.{name_of}
use Rattle.model.specs.Paths.{fits}
use Rattle.model.specs.Ways.{child_of, stands, way}
use Rattle.model.specs.Rules.{Action, Answer, Plain, adds, answer_first, asks, delete, fitting, found, go_on, insert, made, needs, one_more, plain, plain_run, query, removed, removes}
use Rattle.model.proofs.Events.{In, Event, ask, add, rem, who, tally}
use Rattle.model.proofs.MixedRun.{Tree, Has, Below, self, under, Ground, Found, Accepts, apply, ends, Plays}
use Rattle.model.proofs.Keys.{some_true, true_some, keep_from, keep_to, map_to, map_from, over_in, in_over, key_same, keep_up, Rising, Up}
use Rattle.model.proofs.Ways.{way_sound, below_way, nothing_fits}

abbrev pub act_of : Event CodedPath → Action
act_of (ask t n p xs) = asks t n p
act_of (add t n a x) = adds t n a
act_of (rem t n) = removes t n

abbrev pub ans_of : Event CodedPath → Answer
ans_of (ask t n p xs) = found xs
ans_of (add t n a x) = made x
ans_of (rem t n) = removed

-- an answer's names rise
abbrev pub Neat : Event CodedPath → Type 0
Neat (ask t n p xs) = Up xs
Neat (add t n a x) = Unit {0}
Neat (rem t n) = Unit {0}

abbrev nm : Node → ℕ
nm y = y.name

-- ── insertion and deletion ──
pub insert_from : (x : Node) (ys : List Node) (z : Node) → In z (insert x ys) → (z ≡ x) ⊎ In z ys
insert_from x [] z (inl p) = inl p
insert_from x [] z (inr i) = elim i [ ]
insert_from x (y ∷ ys) z i = go (ltb y.name x.name) i (insert_from x ys z)
  where
    go : (b : Bool) → In z (cond b (y ∷ insert x ys) (x ∷ y ∷ ys)) → (In z (insert x ys) → (z ≡ x) ⊎ In z ys) → (z ≡ x) ⊎ In z (y ∷ ys)
    go false (inl p) ih = inl p
    go false (inr j) ih = inr j
    go true (inl p) ih = inr (inl p)
    go true (inr j) ih = elim (ih j) [ inl p ↦ inl p | inr k ↦ inr (inr k) ]

pub insert_new : (x : Node) (ys : List Node) → In x (insert x ys)
insert_new x [] = inl refl
insert_new x (y ∷ ys) = go (ltb y.name x.name) (insert_new x ys)
  where
    go : (b : Bool) → In x (insert x ys) → In x (cond b (y ∷ insert x ys) (x ∷ y ∷ ys))
    go false ih = inl refl
    go true ih = inr ih

pub insert_old : (x : Node) (ys : List Node) (z : Node) → In z ys → In z (insert x ys)
insert_old x [] z i = elim i [ ]
insert_old x (y ∷ ys) z i = go (ltb y.name x.name) i (insert_old x ys z)
  where
    go : (b : Bool) → In z (y ∷ ys) → (In z ys → In z (insert x ys)) → In z (cond b (y ∷ insert x ys) (x ∷ y ∷ ys))
    go false j ih = inr j
    go true (inl p) ih = inl p
    go true (inr j) ih = inr (ih j)

pub insert_up : (x : Node) (ys : List Node) → Rising ys → ((y : Node) → In y ys → y.name ≢ x.name) → Rising (insert x ys)
insert_up x [] r new = (tt, tt)
insert_up x (y ∷ ys) r new = go (ltb y.name x.name) refl (insert_up x ys r.1 (λ z i. new z (inr i)))
  where
    go : (b : Bool) → ltb y.name x.name ≡ b → Rising (insert x ys) → Rising (cond b (y ∷ insert x ys) (x ∷ y ∷ ys))
    go false e ih =
        let ge = ltb-false y.name x.name e in
        let ne = new y (inl refl) in
        let lt : x.name < y.name = omega arith in
        ((lt, in_over x.name (map nm ys) (λ m i. let k = over_in y.name (map nm ys) r.0 m i in omega arith)), r)
    go true e ih = (in_over y.name (map nm (insert x ys)) (λ m i. above m (map_from nm (insert x ys) m i)), ih)
      where
        above : (m : ℕ) → (z : Node) × In z (insert x ys) × (m ≡ z.name) → y.name < m
        above m (z, i, p) = side (insert_from x ys z i)
          where
            side : (z ≡ x) ⊎ In z ys → y.name < m
            side (inl q) = let k : z.name ≡ x.name = ap nm q in let lt = ltb-true y.name x.name e in omega arith
            side (inr j) = let k = over_in y.name (map nm ys) r.0 z.name (map_to nm ys z j) in omega arith

pub delete_from : (n : ℕ) (ys : List Node) (z : Node) → In z (delete n ys) → In z ys × (z.name ≢ n)
delete_from n ys z i = let r = keep_from (λ y. not (eqb y.name n)) ys z i in (r.0, eqb-false z.name n (not-true (eqb z.name n) r.1))

pub delete_to : (n : ℕ) (ys : List Node) (z : Node) → In z ys → z.name ≢ n → In z (delete n ys)
delete_to n ys z i ne = keep_to (λ y. not (eqb y.name n)) ys z i (not_from_false (eqb z.name n) (ne_eqb z.name n ne))

-- ── below, over larger trees ──
pub below_more : (T : Tree) (U : Tree) → ((y : Node) → T y → U y) → (n : ℕ) {m : ℕ} {ls : List ℕ} → Below T n m ls → Below U n m ls
below_more T U f n self = self
below_more T U f n (under y i nz b) = under y (f y i) nz (below_more T U f n b)

pub below_split : (T : Tree) (n : ℕ) {m : ℕ} {ks : List ℕ} → Below T n m ks → (ks ≡ []) ⊎ ((y : Node) × T y × (y.name ≡ m) × (m ≢ 0) × (ls : List ℕ) × Below T n y.parent ls × (ks ≡ ls ++ (y.label ∷ [])))
below_split T n self = inl refl
below_split T n (under {ls} y i nz b) = inr (y, i, refl, nz, ls, b, refl)

pub depth_more : (ys zs : List Node) → ((y : Node) → In y ys → In y zs) → {m d : ℕ} → Depth ys m d → Depth zs m d
depth_more ys zs f top = top
depth_more ys zs f (down y i nz k) = down y (f y i) nz (depth_more ys zs f k)

-- where zs keeps, of ys, with each node its parent
pub depth_part : (ys zs : List Node) → (L : ℕ → Type 0) → ((y : Node) → In y ys → L y.name → In y zs) → ((y : Node) → In y ys → y.name ≢ 0 → L y.name → L y.parent) → {m d : ℕ} → Depth ys m d → L m → Depth zs m d
depth_part ys zs L f g top l = top
depth_part ys zs L f g (down y i nz k) l = down y (f y i l) nz (depth_part ys zs L f g k (g y i nz l))

has_in : (ys : List Node) (n : ℕ) → Has (λ y. In y ys) n → stands ys n ≡ true
has_in ys n (y, i, p) = true_some (λ z. eqb z.name n) ys y i (eq-eqb y.name n p)

numbers_same : (xs ys : List ℕ) → Up xs → Up ys → ((x : ℕ) → In x xs → In x ys) → ((x : ℕ) → In x ys → In x xs) → xs ≡ ys
numbers_same xs ys u v f g = key_same (λ x. x) xs ys (subst Up (sym (map_id xs)) u) (subst Up (sym (map_id ys)) v) f g
  where
    map_id : (zs : List ℕ) → map (λ x. x) zs ≡ zs
    map_id [] = refl
    map_id (z ∷ zs) = ap (λ ws. z ∷ ws) (map_id zs)

-- ── a query ──
module _ (g : Ground) (same_fits : g.fits ≡ fits) (ys : List Node) (up : Rising ys) (leads : (y : Node) → In y ys → (d : ℕ) × Depth ys y.name d) where
  fit_to : (ls : List ℕ) (p : CodedPath) → fits ls p ≡ true → g.fits ls p ≡ true
  fit_to ls p e = subst (λ f. f ls p ≡ true) (sym same_fits) e

  fit_from : (ls : List ℕ) (p : CodedPath) → g.fits ls p ≡ true → fits ls p ≡ true
  fit_from ls p e = subst (λ f. f ls p ≡ true) same_fits e

  pub query_found : (n : ℕ) (p : CodedPath) (x : ℕ) → In x (query ys n p) → Found g (λ y. In y ys) n p x
  query_found n p x i = go (map_from nm (keep (λ y. fitting (way ys n y.name) p) ys) x i)
    where
      go : (y : Node) × In y (keep (λ y. fitting (way ys n y.name) p) ys) × (x ≡ y.name) → Found g (λ y. In y ys) n p x
      go (y, j, e) = fit (way ys n y.name) refl r.1
        where
          r : In y ys × (fitting (way ys n y.name) p ≡ true)
          r = keep_from (λ y. fitting (way ys n y.name) p) ys y j

          fit : (o : Option (List ℕ)) → way ys n y.name ≡ o → fitting o p ≡ true → Found g (λ y. In y ys) n p x
          fit None w q = absurd (true≢false (sym q))
          fit (Some ks) w q = split (below_split (λ y. In y ys) n (way_sound ys up (length ys) n y.name ks w))
            where
              split : (ks ≡ []) ⊎ ((z : Node) × In z ys × (z.name ≡ y.name) × (y.name ≢ 0) × (ls : List ℕ) × Below (λ y. In y ys) n z.parent ls × (ks ≡ ls ++ (z.label ∷ []))) → Found g (λ y. In y ys) n p x
              split (inl z) = absurd (nothing_fits p (subst (λ l. fits l p ≡ true) z q))
              split (inr (z, k, en, nz, ls, b, kk)) = (z, k, en ∙ sym e, (λ x0. nz (sym e ∙ x0)), ls, b, fit_to (ls ++ (z.label ∷ [])) p (subst (λ l. fits l p ≡ true) kk q))

  pub found_query : (n : ℕ) (p : CodedPath) (x : ℕ) → Found g (λ y. In y ys) n p x → In x (query ys n p)
  found_query n p x (y, i, e, nz, ls, b, f) =
      let w = below_way ys up n y.name (ls ++ (y.label ∷ [])) (leads y i) (under y i (λ z. nz (sym e ∙ z)) b) in
      subst (λ z. In z (query ys n p)) e
      (map_to nm (keep (λ y. fitting (way ys n y.name) p) ys) y
      (keep_to (λ y. fitting (way ys n y.name) p) ys y i (ap (λ o. fitting o p) w ∙ fit_from (ls ++ (y.label ∷ [])) p f)))

  pub query_up : (n : ℕ) (p : CodedPath) → Up (query ys n p)
  query_up n p = keep_up nm (λ y. fitting (way ys n y.name) p) ys up

-- ── the same tree ──
module _ (g : Ground) (T U : Tree) (to : (y : Node) → T y → U y) (from : (y : Node) → U y → T y) where
  has_more : (n : ℕ) → Has T n → Has U n
  has_more n (y, i, p) = (y, to y i, p)

  found_more : (n : ℕ) (p : CodedPath) (x : ℕ) → Found g T n p x → Found g U n p x
  found_more n p x (y, i, e, nz, ls, b, f) = (y, to y i, e, nz, ls, below_more T U to n b, f)

  found_less : (n : ℕ) (p : CodedPath) (x : ℕ) → Found g U n p x → Found g T n p x
  found_less n p x (y, i, e, nz, ls, b, f) = (y, from y i, e, nz, ls, below_more U T from n b, f)

  pub accepts_same : (k : ℕ) (e : Event CodedPath) → Accepts g T k e → Accepts g U k e
  accepts_same k (ask t n p xs) h = (has_more n h.0, λ x. (λ i. found_more n p x ((h.1 x).0 i), λ f. (h.1 x).1 (found_less n p x f)))
  accepts_same k (add t n a x) h = (has_more n h.0, h.1, h.2, h.3)
  accepts_same k (rem t n) h = (has_more n h.0, h.1, λ y i nz e. h.2 y (from y i) nz e)

  pub apply_more : (e : Event CodedPath) (y : Node) → apply e T y → apply e U y
  apply_more (ask t n p xs) y h = to y h
  apply_more (add t n a x) y h = elim h [ inl p ↦ inl p | inr i ↦ inr (to y i) ]
  apply_more (rem t n) y h = (to y h.0, h.1)

-- ── a run ──
module _ (g : Ground) (same_fits : g.fits ≡ fits) where
  -- a tree with names that were given: by nobody that adds, or to an addition already counted
  abbrev Told : ℕ → (ℕ → ℕ) → Type 0
  Told n c = (n < g.base * 65536) ⊎ ((u : ℕ) × (j : ℕ) × (n ≡ u * 65536 + j) × (j < 65536) × (j ≤ c u))

  pub record PlainTree (ys : List Node) (c : ℕ → ℕ) : Type 0 where
    pub up : Rising ys
    pub leads : (y : Node) → In y ys → (d : ℕ) × Depth ys y.name d
    pub told : (y : Node) → In y ys → Told y.name c

  fresh : (ys : List Node) (c : ℕ → ℕ) → PlainTree ys c → (t x : ℕ) → g.base ≤ t → suc (c t) < 65536 → x ≡ t * 65536 + suc (c t) → (y : Node) → In y ys → y.name ≢ x
  fresh ys c pt t x low sm e y i q = go (pt.told y i)
    where
      go : Told y.name c → ⊥
      go (inl lo) = omega arith
      go (inr (u, j, en, jl, jc)) =
          let ut : u ≡ t = omega arith in
          let jc' : j ≤ c t = subst (λ v. j ≤ c v) ut jc in
          let en' : y.name ≡ t * 65536 + j = subst (λ v. y.name ≡ v * 65536 + j) ut en in
          omega arith

  -- what one accepted event does
  abbrev Does : Plain → Event CodedPath → Type 0
  Does s e = (zs : List Node) × (k : ℕ → ℕ) × (plain s (act_of e) ≡ Some (ans_of e, record { tree = zs; additions = k })) × ((u : ℕ) → k u ≡ tally u e + s.additions u)
      × ((y : Node) → In y zs → apply e (λ z. In z s.tree) y) × ((y : Node) → apply e (λ z. In z s.tree) y → In y zs) × PlainTree zs k

  does : (s : Plain) (e : Event CodedPath) → PlainTree s.tree s.additions → Neat e → Accepts g (λ y. In y s.tree) (s.additions (who e)) e → Does s e
  does s (ask t n p xs) pt neat h = (
    s.tree,
    s.additions,
    ap (λ b. needs b (found (query s.tree n p)) s) (has_in s.tree n h.0) ∙ ap (λ zs. Some (found zs, s)) same,
    λ u. sym (zero-add (s.additions u)),
    λ y i. i,
    λ y i. i,
    pt,
  )
    where
      same : query s.tree n p ≡ xs
      same = numbers_same (query s.tree n p) xs (query_up g same_fits s.tree pt.up pt.leads n p) neat
          (λ x i. (h.1 x).1 (query_found g same_fits s.tree pt.up pt.leads n p x i))
          (λ x i. found_query g same_fits s.tree pt.up pt.leads n p x ((h.1 x).0 i))
  does s (add t n a x) pt neat h = (
    zs,
    one_more t s.additions,
    ap (λ b. needs b (made x') (record { tree = insert (node_of x' n a) s.tree; additions = one_more t s.additions })) (has_in s.tree n h.0)
        ∙ ap (λ v. Some (made v, record { tree = insert (node_of v n a) s.tree; additions = one_more t s.additions })) (sym h.3),
    λ u. refl,
    λ y i. insert_from (node_of x n a) s.tree y i,
    λ y i. elim i [ inl p ↦ subst (λ v. In v zs) (sym p) (insert_new (node_of x n a) s.tree) | inr j ↦ insert_old (node_of x n a) s.tree y j ],
    record {
      up = insert_up (node_of x n a) s.tree pt.up (fresh s.tree s.additions pt t x h.1 h.2 h.3);
      leads = λ y i. leads y (insert_from (node_of x n a) s.tree y i);
      told = λ y i. told y (insert_from (node_of x n a) s.tree y i);
    },
  )
    where
      x' : ℕ
      x' = name_of t (suc (s.additions t))

      zs : List Node
      zs = insert (node_of x n a) s.tree

      wide : {m d : ℕ} → Depth s.tree m d → Depth zs m d
      wide k = depth_more s.tree zs (λ y i. insert_old (node_of x n a) s.tree y i) k

      leads : (y : Node) → (y ≡ node_of x n a) ⊎ In y s.tree → (d : ℕ) × Depth zs y.name d
      leads y (inr i) = let r = pt.leads y i in (r.0, wide r.1)
      leads y (inl p) =
          let y0 = h.0 in
          let r = pt.leads y0.0 y0.1 in
          let nz : x ≢ 0 = λ z. (let e = h.3 in omega arith) in
          subst (λ v. (d : ℕ) × Depth zs v.name d) (sym p)
          (suc r.0, down (node_of x n a) (insert_new (node_of x n a) s.tree) nz (subst (λ v. Depth zs v r.0) y0.2 (wide r.1)))

      told : (y : Node) → (y ≡ node_of x n a) ⊎ In y s.tree → Told y.name (one_more t s.additions)
      told y (inl p) =
          let own : ◌≡◌ {A = ℕ} (cond (eqb t t) 1 0) 1 = cond-true {A = ℕ} (eqb t t) 1 0 (eq-eqb t t refl) in
          inr (t, suc (s.additions t), ap nm p ∙ h.3, h.2, omega arith)
      told y (inr i) = elim (pt.told y i) [ inl lo ↦ inl lo | inr q ↦ inr (q.0, q.1, q.2, q.3, (let le = q.4 in omega arith)) ]
  does s (rem t n) pt neat h = (
    delete n s.tree,
    s.additions,
    ap (λ b. needs b removed (record { tree = delete n s.tree; additions = s.additions })) ok,
    λ u. sym (zero-add (s.additions u)),
    λ y i. delete_from n s.tree y i,
    λ y i. delete_to n s.tree y i.0 i.1,
    record {
      up = keep_up nm (λ y. not (eqb y.name n)) s.tree pt.up;
      leads = λ y i. let r = delete_from n s.tree y i in let q = pt.leads y r.0 in
          (q.0, depth_part s.tree (delete n s.tree) (λ m. m ≢ n) (λ z j l. delete_to n s.tree z j l) (λ z j nz l e. h.2 z j nz e) q.1 r.1);
      told = λ y i. pt.told y (delete_from n s.tree y i).0;
    },
  )
    where
      childless : some_of (child_of n) s.tree ≡ false
      childless = elim (cases_Bool (some_of (child_of n) s.tree)) [
        | inl e ↦ (let r = some_true (child_of n) s.tree e in
            let q = and_parts (not (eqb r.0.name 0)) (eqb r.0.parent n) r.2 in
            absurd (h.2 r.0 r.1 (eqb-false r.0.name 0 (not-true (eqb r.0.name 0) q.0)) (eqb-true r.0.parent n q.1)))
        | inr e ↦ e
      ]

      ok : (stands s.tree n && not (eqb n 0) && not (some_of (child_of n) s.tree)) ≡ true
      ok = and_from (stands s.tree n && not (eqb n 0)) (not (some_of (child_of n) s.tree))
          (and_from (stands s.tree n) (not (eqb n 0)) (has_in s.tree n h.0) (not_from_false (eqb n 0) (ne_eqb n 0 h.1)))
          (not_from_false (some_of (child_of n) s.tree) childless)

  abbrev Ran : List (Event CodedPath) → Tree → Plain → Type 0
  Ran es T s = (zs : List Node) × (plain_run s (map act_of es) ≡ Some (map ans_of es, zs)) × Rising zs × ((y : Node) → In y zs → ends T es y) × ((y : Node) → ends T es y → In y zs)

  -- what a list of accepted events does
  pub plays_run : (es : List (Event CodedPath)) (T : Tree) (c : ℕ → ℕ) (s : Plain) → ((y : Node) → T y → In y s.tree) → ((y : Node) → In y s.tree → T y) → ((u : ℕ) → s.additions u ≡ c u)
      → PlainTree s.tree s.additions → ((e : Event CodedPath) → In e es → Neat e) → Plays g T c es → Ran es T s
  plays_run [] T c s to from cs pt neat pl = (s.tree, refl, pt.up, from, to)
  plays_run (e ∷ es) T c s to from cs pt neat pl = go (does s e pt (neat e (inl refl)) ok) (plays_run es (apply e T) (λ u. tally u e + c u))
    where
      ok : Accepts g (λ y. In y s.tree) (s.additions (who e)) e
      ok = subst (λ k. Accepts g (λ y. In y s.tree) k e) (sym (cs (who e))) (accepts_same g T (λ y. In y s.tree) to from (c (who e)) e pl.0)

      go : Does s e → ((s' : Plain) → ((y : Node) → apply e T y → In y s'.tree) → ((y : Node) → In y s'.tree → apply e T y) → ((u : ℕ) → s'.additions u ≡ tally u e + c u)
          → PlainTree s'.tree s'.additions → ((d : Event CodedPath) → In d es → Neat d) → Plays g (apply e T) (λ u. tally u e + c u) es → Ran es (apply e T) s') → Ran (e ∷ es) T s
      go (zs, k, run, ks, zf, zt, pt') ih =
          let r = ih (record { tree = zs; additions = k })
          (λ y h. zt y (apply_more g T (λ z. In z s.tree) to from e y h))
          (λ y i. apply_more g (λ z. In z s.tree) T from to e y (zf y i))
          (λ u. ks u ∙ ap (λ v. tally u e + v) (cs u)) pt' (λ d i. neat d (inr i)) pl.1 in
          (r.0, ap (λ o. go_on o (λ s''. plain_run s'' (map act_of es))) run ∙ ap (answer_first (ans_of e)) r.1, r.2, r.3, r.4)
