-- Members of lists: of a list that is kept or mapped, and of one whose members a test knows.
use Rattle.std.proofs.Common.{◌≡◌, ℕ, zero, suc, ◌<◌, ◌≤◌, Bool, true, false, cond, ◌||◌, ◌⊎◌, List, [], ◌∷◌, ◌++◌, map, length, get_or, sym, refl, ap, ◌∙◌, inl, inr, arith}
use Rattle.std.specs.List.{list_any}
use Rattle.std.proofs.lemmas.Bool.{true≢false, or_cases, or_parts, or_left, or_right, and_parts}
use Rattle.tree.specs.Lists.{In, keep, some_of, all_of}

module _ {A : Type 0} where
  -- the library's word for it
  pub some_any : (f : A → Bool) (xs : List A) → some_of f xs ≡ list_any f xs
  some_any f [] = refl
  some_any f (x ∷ xs) = ap (λ (b : Bool). f x || b) (some_any f xs)

  pub some_true : (f : A → Bool) (xs : List A) → some_of f xs ≡ true → (x : A) × In x xs × (f x ≡ true)
  some_true f [] h = absurd (true≢false (sym h))
  some_true f (x ∷ xs) h = go (or_cases (f x) (some_of f xs) h) (some_true f xs)
    where
      go : (f x ≡ true) ⊎ (some_of f xs ≡ true) → (some_of f xs ≡ true → (y : A) × In y xs × (f y ≡ true)) → (y : A) × In y (x ∷ xs) × (f y ≡ true)
      go (inl e) ih = (x, inl refl, e)
      go (inr e) ih = let r = ih e in (r.0, inr r.1, r.2)

  pub true_some : (f : A → Bool) (xs : List A) (x : A) → In x xs → f x ≡ true → some_of f xs ≡ true
  true_some f [] x i e = elim i [ ]
  true_some f (y ∷ ys) x (inl p) e = or_left (f y) (some_of f ys) (ap f (sym p) ∙ e)
  true_some f (y ∷ ys) x (inr i) e = or_right (f y) (some_of f ys) (true_some f ys x i e)

  pub some_false : (f : A → Bool) (xs : List A) → some_of f xs ≡ false → (x : A) → In x xs → f x ≡ false
  some_false f [] h x i = elim i [ ]
  some_false f (y ∷ ys) h x (inl p) = ap f p ∙ (or_parts (f y) (some_of f ys) h).0
  some_false f (y ∷ ys) h x (inr i) = some_false f ys (or_parts (f y) (some_of f ys) h).1 x i

  pub in_at : (xs : List A) (i : ℕ) (d : A) → i < length xs → In (get_or xs i d) xs
  in_at [] i d h = absurd (omega arith)
  in_at (x ∷ xs) zero d h = inl refl
  in_at (x ∷ xs) (suc i) d h = inr (in_at xs i d (omega arith))

  pub all_true : (f : A → Bool) (xs : List A) → all_of f xs ≡ true → (x : A) → In x xs → f x ≡ true
  all_true f [] h x i = elim i [ ]
  all_true f (y ∷ ys) h x (inl p) = ap f p ∙ (and_parts (f y) (all_of f ys) h).0
  all_true f (y ∷ ys) h x (inr i) = all_true f ys (and_parts (f y) (all_of f ys) h).1 x i

  -- what is kept is a member that passes
  pub keep_from : (f : A → Bool) (xs : List A) (x : A) → In x (keep f xs) → In x xs × (f x ≡ true)
  keep_from f [] x i = elim i [ ]
  keep_from f (y ∷ ys) x i = go (f y) refl i (keep_from f ys x)
    where
      go : (b : Bool) → f y ≡ b → In x (cond b (y ∷ keep f ys) (keep f ys)) → (In x (keep f ys) → In x ys × (f x ≡ true)) → In x (y ∷ ys) × (f x ≡ true)
      go true e (inl p) ih = (inl p, ap f p ∙ e)
      go true e (inr j) ih = let r = ih j in (inr r.0, r.1)
      go false e j ih = let r = ih j in (inr r.0, r.1)

  pub keep_to : (f : A → Bool) (xs : List A) (x : A) → In x xs → f x ≡ true → In x (keep f xs)
  keep_to f [] x i e = elim i [ ]
  keep_to f (y ∷ ys) x i e = go (f y) refl i (λ j. keep_to f ys x j e)
    where
      go : (b : Bool) → f y ≡ b → In x (y ∷ ys) → (In x ys → In x (keep f ys)) → In x (cond b (y ∷ keep f ys) (keep f ys))
      go true h (inl p) ih = inl p
      go true h (inr j) ih = inr (ih j)
      go false h (inl p) ih = absurd (true≢false (sym e ∙ ap f p ∙ h))
      go false h (inr j) ih = ih j

  pub keep_append : (f : A → Bool) (xs ys : List A) → keep f (xs ++ ys) ≡ keep f xs ++ keep f ys
  keep_append f [] ys = refl
  keep_append f (x ∷ xs) ys = let t = keep_append f xs ys in grind arith

  pub keep_length : (f : A → Bool) (xs : List A) → length (keep f xs) ≤ length xs
  keep_length f [] = omega arith
  keep_length f (x ∷ xs) = let t = keep_length f xs in grind arith

module _ {A B : Type 0} where
  pub map_to : (f : A → B) (xs : List A) (x : A) → In x xs → In (f x) (map f xs)
  map_to f [] x i = elim i [ ]
  map_to f (y ∷ ys) x (inl p) = inl (ap f p)
  map_to f (y ∷ ys) x (inr i) = inr (map_to f ys x i)

  pub map_from : (f : A → B) (xs : List A) (z : B) → In z (map f xs) → (x : A) × In x xs × (z ≡ f x)
  map_from f [] z i = elim i [ ]
  map_from f (y ∷ ys) z (inl p) = (y, inl refl, p)
  map_from f (y ∷ ys) z (inr i) = let r = map_from f ys z i in (r.0, inr r.1, r.2)
