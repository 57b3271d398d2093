-- The one law of fitting; nodes are found, depths are bounded, and a way is what the relation of being below says.
use Rattle.std.proofs.Common.{◌≡◌, ℕ, zero, suc, ◌+◌, ◌≤◌, Bool, true, false, cond, eqb, ◌≢◌, List, [], ◌∷◌, ◌++◌, map, length, Some, None, Option, sym, refl, ap, ◌∙◌, subst, inl, inr, arith}
use native.Mathlib.Decide.{ℕ_discrete}
use Rattle.std.proofs.lemmas.Bool.{true≢false, eqb-true, eqb-false, eq-eqb, ne_eqb, cond-true, cond-false}
use Rattle.path.specs.declared.coded.CodedPath.{CodedPath}
use Rattle.path.specs.declared.step.Step.{Step}
use Rattle.path.specs.CodedPaths.{code_steps}
use Rattle.path.proofs.Sizes.{has_step}
use Rattle.fitting.specs.declared.fit.Ending.TheVariants.{Closed}
use Rattle.fitting.proofs.Exact.{some_last}
use Rattle.fitting.specs.Fitting as fitting
use Rattle.tree.specs.Trees.{Depth, Node, down, top}
use Rattle.model.specs.Paths.{fits, fits_any}
use Rattle.model.specs.Ways.{find, longer, step_up, way, way_from}
use Rattle.model.proofs.Events.{In}
use Rattle.model.proofs.MixedRun.{Below, self, under}
use Rattle.model.proofs.Keys.{key_one, map_to, fits_in, Distinct, Rising}
use Rattle.model.proofs.Lists.{map_length}

-- ── the one law of fitting ──
pub opens_law : (ls : List ℕ) (a : ℕ) (p : CodedPath) → fits (ls ++ (a ∷ [])) p ≡ true → fits_any ls p ≡ true
opens_law ls a p h = some_last eqb (code_steps p) ls a h

-- a path has a step, so that no labels do not fit
pub nothing_fits : (p : CodedPath) → fits [] p ≡ true → ⊥
nothing_fits p = none_left (code_steps p) (has_step p.path)
  where
    none_left : (ss : List (Step ℕ)) → 1 ≤ length ss → fitting.ends eqb Closed ss ≡ true → ⊥
    none_left [] some e = omega arith
    none_left (s ∷ ss) some e = true≢false (sym e)

-- ── options ──
pub some_one : {A : Type 0} (x y : A) → Some x ≡ Some y → x ≡ y
some_one {A} x y e = ap (held x) e
  where
    held : A → Option A → A
    held d None = d
    held d (Some z) = z

-- ── finding ──
pub none≢some : {A : Type 0} (x : A) → None ≡ Some x → ⊥
none≢some {A} x e = subst IsNone e tt
  where
    IsNone : Option A → Type 0
    IsNone None = Unit {0}
    IsNone (Some z) = ⊥

pub find_in : (ys : List Node) (n : ℕ) (y : Node) → find ys n ≡ Some y → In y ys × (y.name ≡ n)
find_in [] n y h = absurd (none≢some y h)
find_in (z ∷ ys) n y h = go (eqb z.name n) refl h (find_in ys n y)
  where
    go : (b : Bool) → eqb z.name n ≡ b → cond b (Some z) (find ys n) ≡ Some y → (find ys n ≡ Some y → In y ys × (y.name ≡ n)) → In y (z ∷ ys) × (y.name ≡ n)
    go true e k ih = let p : z ≡ y = some_one z y k in (inl (sym p), ap (λ v. v.name) (sym p) ∙ eqb-true z.name n e)
    go false e k ih = let r = ih k in (inr r.0, r.1)

pub in_find : (ys : List Node) → Rising ys → (y : Node) → In y ys → find ys y.name ≡ Some y
in_find [] r y i = elim i [ ]
in_find (z ∷ ys) r y i = go (eqb z.name y.name) refl i (in_find ys r.1 y)
  where
    go : (b : Bool) → eqb z.name y.name ≡ b → In y (z ∷ ys) → (In y ys → find ys y.name ≡ Some y) → cond b (Some z) (find ys y.name) ≡ Some y
    go true e j ih = ap Some (key_one (λ v. v.name) (z ∷ ys) r z y (inl refl) i (eqb-true z.name y.name e))
    go false e (inl p) ih = absurd (eqb-false z.name y.name e (ap (λ v. v.name) (sym p)))
    go false e (inr j) ih = ih j

-- ── depth ──
module _ (ys : List Node) (up : Rising ys) where
  pub depth_one : {m m' d e : ℕ} → Depth ys m d → Depth ys m' e → m ≡ m' → d ≡ e
  depth_one top top p = refl
  depth_one top (down y i nz k) p = absurd (nz (sym p))
  depth_one (down y i nz k) top p = absurd (nz p)
  depth_one (down y i nz k) (down z j mz l) p =
      ap suc (depth_one k l (ap (λ v. v.parent) (key_one (λ v. v.name) ys up y z i j p)))

  pub chain : {m d : ℕ} → Depth ys m d → (cs : List ℕ) × (length cs ≡ d) × Distinct cs × ((c : ℕ) → In c cs → In c (map (λ y. y.name) ys) × (e : ℕ) × Depth ys c e × (e ≤ d))
  chain top = ([], refl, tt, λ c i. elim i [ ])
  chain (down {d} y i nz k) =
      let r = chain k in (
        y.name ∷ r.0,
        ap suc r.1,
        (λ j. let q = r.3 y.name j in let e = q.1 in let le = q.3 in let same : suc d ≡ e = depth_one (down y i nz k) q.2 refl in omega arith, r.2),
        λ c j. elim j [
          | inl p ↦ (subst (λ n. In n (map (λ v. v.name) ys)) (sym p) (map_to (λ v. v.name) ys y i), suc d, subst (λ n. Depth ys n (suc d)) (sym p) (down y i nz k), omega arith)
          | inr l ↦ (let q = r.3 c l in let le = q.3 in (q.0, q.1, q.2, omega arith))
        ],
      )

  pub depth_bound : {m d : ℕ} → Depth ys m d → d ≤ length ys
  depth_bound {m} {d} k =
      let r = chain k in
      let a = fits_in r.0 (map (λ y. y.name) ys) r.2 (λ c i. (r.3 c i).0) in
      let b = r.1 in
      let c = map_length (λ (y : Node). y.name) ys in
      omega arith

  -- ── the way ──
  abbrev T : Node → Type 0
  T y = In y ys

  len : (xs : List ℕ) (a : ℕ) → length (xs ++ (a ∷ [])) ≡ suc (length xs)
  len [] a = refl
  len (x ∷ xs) a = ap suc (len xs a)

  pub below_depth : (n : ℕ) {m : ℕ} {ls : List ℕ} → Below T n m ls → (d : ℕ) → Depth ys m d → (e : ℕ) × Depth ys n e × (d ≡ e + length ls)
  below_depth n self d k = (d, k, omega arith)
  below_depth n (under {ls} y i nz b) d k = go k refl (below_depth n b)
    where
      go : {m' d' : ℕ} → Depth ys m' d' → y.name ≡ m' → ((c : ℕ) → Depth ys y.parent c → (e : ℕ) × Depth ys n e × (c ≡ e + length ls)) → (e : ℕ) × Depth ys n e × (d' ≡ e + length (ls ++ (y.label ∷ [])))
      go top p ih = absurd (nz p)
      go (down {d = c} z j mz l) p ih =
          let same = key_one (λ v. v.name) ys up z y j i (sym p) in
          let r = ih c (subst (λ v. Depth ys v.parent c) same l) in
          let q = r.2 in
          let ln = len ls y.label in
          (r.0, r.1, omega arith)

  -- what the function gives is a way
  pub way_sound : (k n m : ℕ) (ls : List ℕ) → way_from k ys n m ≡ Some ls → Below T n m ls
  way_sound zero n m ls h = go (eqb m n) refl h
    where
      go : (b : Bool) → eqb m n ≡ b → cond b (Some []) None ≡ Some ls → Below T n m ls
      go true e q = subst (λ x. Below T n x ls) (sym (eqb-true m n e)) (subst (Below T n n) (some_one [] ls q) self)
      go false e q = absurd (none≢some ls q)
  way_sound (suc k) n m ls h = go (eqb m n) refl h (way_sound k n)
    where
      up_to : (o : Option Node) → find ys m ≡ o → m ≢ 0 → step_up o (way_from k ys n) ≡ Some ls → ((x : ℕ) (ks : List ℕ) → way_from k ys n x ≡ Some ks → Below T n x ks) → Below T n m ls
      up_to None f nz q ih = absurd (none≢some ls q)
      up_to (Some y) f nz q ih = last (way_from k ys n y.parent) refl q
        where
          last : (o : Option (List ℕ)) → way_from k ys n y.parent ≡ o → longer o y.label ≡ Some ls → Below T n m ls
          last None w e = absurd (none≢some ls e)
          last (Some ks) w e =
              let r = find_in ys m y f in
              subst (λ x. Below T n x ls) r.1 (subst (Below T n y.name) (some_one (ks ++ (y.label ∷ [])) ls e) (under y r.0 (λ z. nz (sym r.1 ∙ z)) (ih y.parent ks w)))

      at_root : (b : Bool) → eqb m 0 ≡ b → cond b None (step_up (find ys m) (way_from k ys n)) ≡ Some ls → ((x : ℕ) (ks : List ℕ) → way_from k ys n x ≡ Some ks → Below T n x ks) → Below T n m ls
      at_root true e q ih = absurd (none≢some ls q)
      at_root false e q ih = up_to (find ys m) refl (eqb-false m 0 e) q ih

      go : (b : Bool) → eqb m n ≡ b → cond b (Some []) (cond (eqb m 0) None (step_up (find ys m) (way_from k ys n))) ≡ Some ls → ((x : ℕ) (ks : List ℕ) → way_from k ys n x ≡ Some ks → Below T n x ks) → Below T n m ls
      go true e q ih = subst (λ x. Below T n x ls) (sym (eqb-true m n e)) (subst (Below T n n) (some_one [] ls q) self)
      go false e q ih = at_root (eqb m 0) refl q ih

  nothing : (ls : List ℕ) → length ls ≡ 0 → [] ≡ ls
  nothing [] h = refl
  nothing (l ∷ ls) h = absurd (omega arith)

  pub at_self : (k n : ℕ) → way_from k ys n n ≡ Some []
  at_self zero n = cond-true (eqb n n) (Some []) None (eq-eqb n n refl)
  at_self (suc k) n = cond-true (eqb n n) (Some []) (cond (eqb n 0) None (step_up (find ys n) (way_from k ys n))) (eq-eqb n n refl)

  -- and every way is found, if the fuel is the depth
  pub way_complete : (n k : ℕ) {m : ℕ} {ls : List ℕ} → Below T n m ls → (d : ℕ) → Depth ys m d → d ≤ k → way_from k ys n m ≡ Some ls
  way_complete n k self d dp le = at_self k n
  way_complete n zero (under {ls} y i nz b) d dp le = absurd (root dp (omega arith) nz)
    where
      root : {m c : ℕ} → Depth ys m c → c ≡ 0 → m ≢ 0 → ⊥
      root top e z = z refl
      root (down w j wz q) e z = omega arith
  way_complete n (suc k) (under {ls} y i nz b) d dp le = go (ℕ_discrete y.name n) dp refl le (way_complete n k b)
    where
      all : List ℕ
      all = ls ++ (y.label ∷ [])

      go : {m c : ℕ} → Dec (y.name ≡ n) → Depth ys m c → y.name ≡ m → c ≤ suc k → ((e : ℕ) → Depth ys y.parent e → e ≤ k → way_from k ys n y.parent ≡ Some ls) → way_from (suc k) ys n y.name ≡ Some all
      go same top p cl ih = absurd (nz p)
      go (yes s) (down {d = c} z j mz q) p cl ih =
          let dp_y : Depth ys y.name (suc c) = subst (λ v. Depth ys v (suc c)) (sym p) (down z j mz q) in
          let r = below_depth n (under y i nz b) (suc c) dp_y in
          let eq : suc c ≡ r.0 = depth_one dp_y r.1 s in
          let ln = r.2 in
          let none_left : length all ≡ 0 = omega arith in
          subst (λ x. way_from (suc k) ys n x ≡ Some all) (sym s) (at_self (suc k) n ∙ ap Some (nothing all none_left))
      go (no s) (down {d = c} z j mz q) p cl ih =
          let same = key_one (λ v. v.name) ys up z y j i (sym p) in
          let w = ih c (subst (λ v. Depth ys v.parent c) same q) (omega arith) in
          cond-false (eqb y.name n) (Some []) (cond (eqb y.name 0) None (step_up (find ys y.name) (way_from k ys n))) (ne_eqb y.name n s)
          ∙ cond-false (eqb y.name 0) None (step_up (find ys y.name) (way_from k ys n)) (ne_eqb y.name 0 nz)
          ∙ ap (λ o. step_up o (way_from k ys n)) (in_find ys up y i)
          ∙ ap (λ o. longer o y.label) w

  pub below_way : (n m : ℕ) (ls : List ℕ) → ((e : ℕ) × Depth ys m e) → Below T n m ls → way ys n m ≡ Some ls
  below_way n m ls dp b = way_complete n (length ys) b dp.0 dp.1 (depth_bound dp.1)
