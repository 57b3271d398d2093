-- Members of lists that are kept, mapped, or rise by a key; no more distinct numbers than places for them.
use Rattle.std.proofs.Common.{◌≡◌, ℕ, suc, ◌<◌, ◌≤◌, Bool, true, false, cond, eqb, ◌≢◌, ◌⊎◌, List, [], ◌∷◌, map, length, sym, refl, ap, ◌∙◌, subst, inl, inr, arith}
use Rattle.std.proofs.lemmas.Bool.{true≢false, both_ways, eqb-true, eq-eqb, or_cases, or_parts, or_left, or_right}
use Rattle.tree.specs.Trees.{Node}
use Rattle.tree.specs.Lists.{keep, some_of}
use Rattle.model.specs.Numbers.{member}
pub use Rattle.model.specs.Numbers.{Distinct}
use Rattle.model.proofs.Events.{In}

-- ── numbers that rise ──
abbrev pub Over : ℕ → List ℕ → Type 0
Over n [] = Unit {0}
Over n (m ∷ ms) = (n < m) × Over n ms

abbrev pub Up : List ℕ → Type 0
Up [] = Unit {0}
Up (n ∷ ns) = Over n ns × Up ns

abbrev pub Rising : List Node → Type 0
Rising ys = Up (map (λ y. y.name) ys)

-- ── members ──
module _ {A : Type 0} where
  pub some_true : (f : A → Bool) (xs : List A) → some_of f xs ≡ true → (x : A) × In x xs × (f x ≡ true)
  some_true f [] h = absurd (true≢false (sym h))
  some_true f (x ∷ xs) h = go (or_cases (f x) (some_of f xs) h) (some_true f xs)
    where
      go : (f x ≡ true) ⊎ (some_of f xs ≡ true) → (some_of f xs ≡ true → (y : A) × In y xs × (f y ≡ true)) → (y : A) × In y (x ∷ xs) × (f y ≡ true)
      go (inl e) ih = (x, inl refl, e)
      go (inr e) ih = let r = ih e in (r.0, inr r.1, r.2)

  pub true_some : (f : A → Bool) (xs : List A) (x : A) → In x xs → f x ≡ true → some_of f xs ≡ true
  true_some f [] x i e = elim i [ ]
  true_some f (y ∷ ys) x (inl p) e = or_left (f y) (some_of f ys) (ap f (sym p) ∙ e)
  true_some f (y ∷ ys) x (inr i) e = or_right (f y) (some_of f ys) (true_some f ys x i e)

  pub some_false : (f : A → Bool) (xs : List A) → some_of f xs ≡ false → (x : A) → In x xs → f x ≡ false
  some_false f [] h x i = elim i [ ]
  some_false f (y ∷ ys) h x (inl p) = ap f p ∙ (or_parts (f y) (some_of f ys) h).0
  some_false f (y ∷ ys) h x (inr i) = some_false f ys (or_parts (f y) (some_of f ys) h).1 x i

  put_from : (b : Bool) (y x : A) (ys : List A) → In x (cond b (y ∷ ys) ys) → ((x ≡ y) × (b ≡ true)) ⊎ In x ys
  put_from true y x ys (inl p) = inl (p, refl)
  put_from true y x ys (inr i) = inr i
  put_from false y x ys i = inr i

  pub keep_from : (f : A → Bool) (xs : List A) (x : A) → In x (keep f xs) → In x xs × (f x ≡ true)
  keep_from f [] x i = elim i [ ]
  keep_from f (y ∷ ys) x i = go (put_from (f y) y x (keep f ys) i) (keep_from f ys x)
    where
      go : ((x ≡ y) × (f y ≡ true)) ⊎ In x (keep f ys) → (In x (keep f ys) → In x ys × (f x ≡ true)) → In x (y ∷ ys) × (f x ≡ true)
      go (inl p) ih = (inl p.0, ap f p.0 ∙ p.1)
      go (inr j) ih = let r = ih j in (inr r.0, r.1)

  put_head : (b : Bool) (y : A) (ys : List A) → b ≡ true → In y (cond b (y ∷ ys) ys)
  put_head true y ys e = inl refl
  put_head false y ys e = absurd (true≢false (sym e))

  put_tail : (b : Bool) (y x : A) (ys : List A) → In x ys → In x (cond b (y ∷ ys) ys)
  put_tail true y x ys i = inr i
  put_tail false y x ys i = i

  pub keep_to : (f : A → Bool) (xs : List A) (x : A) → In x xs → f x ≡ true → In x (keep f xs)
  keep_to f [] x i e = elim i [ ]
  keep_to f (y ∷ ys) x (inl p) e = subst (λ z. In z (cond (f y) (y ∷ keep f ys) (keep f ys))) (sym p) (put_head (f y) y (keep f ys) (ap f (sym p) ∙ e))
  keep_to f (y ∷ ys) x (inr i) e = put_tail (f y) y x (keep f ys) (keep_to f ys x i e)

module _ {A B : Type 0} where
  pub map_to : (f : A → B) (xs : List A) (x : A) → In x xs → In (f x) (map f xs)
  map_to f [] x i = elim i [ ]
  map_to f (y ∷ ys) x (inl p) = inl (ap f p)
  map_to f (y ∷ ys) x (inr i) = inr (map_to f ys x i)

  pub map_from : (f : A → B) (xs : List A) (z : B) → In z (map f xs) → (x : A) × In x xs × (z ≡ f x)
  map_from f [] z i = elim i [ ]
  map_from f (y ∷ ys) z (inl p) = (y, inl refl, p)
  map_from f (y ∷ ys) z (inr i) = let r = map_from f ys z i in (r.0, inr r.1, r.2)

pub member_in : (n : ℕ) (ns : List ℕ) → member n ns ≡ true → In n ns
member_in n ns h = let r = some_true (eqb n) ns h in subst (λ x. In x ns) (sym (eqb-true n r.0 r.2)) r.1

pub in_member : (n : ℕ) (ns : List ℕ) → In n ns → member n ns ≡ true
in_member n ns i = true_some (eqb n) ns n i (eq-eqb n n refl)

pub not_member : (n : ℕ) (ns : List ℕ) → member n ns ≡ false → ¬ (In n ns)
not_member n ns h i = both_ways (member n ns) h (in_member n ns i)

-- ── lists that rise by a key ──
pub over_in : (n : ℕ) (ns : List ℕ) → Over n ns → (m : ℕ) → In m ns → n < m
over_in n [] o m i = elim i [ ]
over_in n (k ∷ ns) o m (inl p) = subst (λ z. n < z) (sym p) o.0
over_in n (k ∷ ns) o m (inr i) = over_in n ns o.1 m i

pub in_over : (n : ℕ) (ns : List ℕ) → ((m : ℕ) → In m ns → n < m) → Over n ns
in_over n [] h = tt
in_over n (k ∷ ns) h = (h k (inl refl), in_over n ns (λ m i. h m (inr i)))

module _ {A : Type 0} (key : A → ℕ) where
  pub key_over : (y : A) (ys : List A) → Over (key y) (map key ys) → (x : A) → In x ys → key y < key x
  key_over y ys o x i = over_in (key y) (map key ys) o (key x) (map_to key ys x i)

  pub key_one : (xs : List A) → Up (map key xs) → (x y : A) → In x xs → In y xs → key x ≡ key y → x ≡ y
  key_one [] u x y i j e = elim i [ ]
  key_one (z ∷ zs) u x y (inl p) (inl q) e = p ∙ sym q
  key_one (z ∷ zs) u x y (inl p) (inr j) e = let lt = key_over z zs u.0 y j in let k : key x ≡ key z = ap key p in absurd (omega arith)
  key_one (z ∷ zs) u x y (inr i) (inl q) e = let lt = key_over z zs u.0 x i in let k : key y ≡ key z = ap key q in absurd (omega arith)
  key_one (z ∷ zs) u x y (inr i) (inr j) e = key_one zs u.1 x y i j e

  pub key_same : (xs ys : List A) → Up (map key xs) → Up (map key ys) → ((x : A) → In x xs → In x ys) → ((x : A) → In x ys → In x xs) → xs ≡ ys
  key_same [] [] u v f g = refl
  key_same [] (y ∷ ys) u v f g = absurd (g y (inl refl))
  key_same (x ∷ xs) [] u v f g = absurd (f x (inl refl))
  key_same (x ∷ xs) (y ∷ ys) u v f g = ap (λ z. z ∷ xs) head ∙ ap (λ zs. y ∷ zs) (key_same xs ys u.1 v.1 to from)
    where
      head : x ≡ y
      head = go (f x (inl refl)) (g y (inl refl))
        where
          go : In x (y ∷ ys) → In y (x ∷ xs) → x ≡ y
          go (inl p) j = p
          go (inr i) (inl q) = sym q
          go (inr i) (inr j) = let a = key_over y ys v.0 x i in let b = key_over x xs u.0 y j in absurd (omega arith)

      to : (z : A) → In z xs → In z ys
      to z i = go (f z (inr i))
        where
          go : In z (y ∷ ys) → In z ys
          go (inl p) = let a = key_over x xs u.0 z i in let k : key z ≡ key x = ap key (p ∙ sym head) in absurd (omega arith)
          go (inr j) = j

      from : (z : A) → In z ys → In z xs
      from z i = go (g z (inr i))
        where
          go : In z (x ∷ xs) → In z xs
          go (inl p) = let a = key_over y ys v.0 z i in let k : key z ≡ key y = ap key (p ∙ head) in absurd (omega arith)
          go (inr j) = j

  keep_over : (n : ℕ) (f : A → Bool) (xs : List A) → Over n (map key xs) → Over n (map key (keep f xs))
  keep_over n f xs o = in_over n (map key (keep f xs)) (λ m i. let r = map_from key (keep f xs) m i in
      subst (λ z. n < z) (sym r.2) (over_in n (map key xs) o (key r.0) (map_to key xs r.0 (keep_from f xs r.0 r.1).0)))

  pub keep_up : (f : A → Bool) (xs : List A) → Up (map key xs) → Up (map key (keep f xs))
  keep_up f [] u = tt
  keep_up f (x ∷ xs) u = go (f x) (keep_up f xs u.1)
    where
      go : (b : Bool) → Up (map key (keep f xs)) → Up (map key (cond b (x ∷ (keep f xs)) (keep f xs)))
      go true ih = (keep_over (key x) f xs u.0, ih)
      go false ih = ih

  pub map_up : (g : A → A) → ((x : A) → key (g x) ≡ key x) → (xs : List A) → map key (map g xs) ≡ map key xs
  map_up g h [] = refl
  map_up g h (x ∷ xs) = ap (λ n. n ∷ map key (map g xs)) (h x) ∙ ap (λ ns. key x ∷ ns) (map_up g h xs)

-- ── more distinct numbers than places there are not ──
drop_one : (c : ℕ) (ns : List ℕ) → In c ns → (ms : List ℕ) × (length ns ≡ suc (length ms)) × ((x : ℕ) → In x ns → x ≢ c → In x ms)
drop_one c [] i = elim i [ ]
drop_one c (n ∷ ns) (inl p) = (ns, refl, λ x i ne. elim i [ inl q ↦ absurd (ne (q ∙ sym p)) | inr j ↦ j ])
drop_one c (n ∷ ns) (inr i) =
    let r = drop_one c ns i in
    (n ∷ r.0, ap suc r.1, λ x j ne. elim j [ inl q ↦ inl q | inr k ↦ inr (r.2 x k ne) ])

pub fits_in : (cs ns : List ℕ) → Distinct cs → ((c : ℕ) → In c cs → In c ns) → length cs ≤ length ns
fits_in [] ns d h = omega arith
fits_in (c ∷ cs) ns d h =
    let r = drop_one c ns (h c (inl refl)) in
    let ih = fits_in cs r.0 d.1 (λ x i. r.2 x (h x (inr i)) (λ p. d.0 (subst (λ z. In z cs) p i))) in
    let e = r.1 in
    omega arith
