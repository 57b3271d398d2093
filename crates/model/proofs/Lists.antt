-- Lists: their members, ends and lengths.
use Rattle.std.proofs.Common.{◌≡◌, ℕ, suc, ◌+◌, ◌≤◌, Bool, true, false, cond, ◌⊎◌, List, [], ◌∷◌, ◌++◌, map, length, refl, ap, inl, inr, arith}
use native.Mathlib.Decide.{ℕ_discrete}
use Rattle.tree.specs.Lists.{keep}
use Rattle.model.proofs.Events.{In}

-- ── members of joined lists ──
module _ {A : Type 0} where
  pub in_append : (a : A) (xs ys : List A) → In a (xs ++ ys) → In a xs ⊎ In a ys
  in_append a [] ys h = inr h
  in_append a (x ∷ xs) ys (inl p) = inl (inl p)
  in_append a (x ∷ xs) ys (inr h) = elim (in_append a xs ys h) [ inl k ↦ inl (inr k) | inr k ↦ inr k ]

  pub in_left : (a : A) (xs ys : List A) → In a xs → In a (xs ++ ys)
  in_left a [] ys h = elim h [ ]
  in_left a (x ∷ xs) ys (inl p) = inl p
  in_left a (x ∷ xs) ys (inr h) = inr (in_left a xs ys h)

  pub in_right : (a : A) (xs ys : List A) → In a ys → In a (xs ++ ys)
  in_right a [] ys h = h
  in_right a (x ∷ xs) ys h = inr (in_right a xs ys h)

-- ── joined, mapped and kept ──
pub append_nil : {A : Type 0} (xs : List A) → xs ++ [] ≡ xs
append_nil [] = refl
append_nil (x ∷ xs) = ap (λ ys. x ∷ ys) (append_nil xs)

pub append_assoc : {A : Type 0} (xs ys zs : List A) → (xs ++ ys) ++ zs ≡ xs ++ (ys ++ zs)
append_assoc [] ys zs = refl
append_assoc (x ∷ xs) ys zs = ap (λ ws. x ∷ ws) (append_assoc xs ys zs)

pub append_length : {A : Type 0} (xs ys : List A) → length (xs ++ ys) ≡ length xs + length ys
append_length [] ys = omega arith
append_length (x ∷ xs) ys = let ih = append_length xs ys in omega arith

pub map_append : {A B : Type 0} (f : A → B) (xs ys : List A) → map f (xs ++ ys) ≡ map f xs ++ map f ys
map_append f [] ys = refl
map_append f (x ∷ xs) ys = ap (λ zs. f x ∷ zs) (map_append f xs ys)

pub map_length : {A B : Type 0} (f : A → B) (xs : List A) → length (map f xs) ≡ length xs
map_length f [] = refl
map_length f (x ∷ xs) = ap suc (map_length f xs)

pub keep_length : {A : Type 0} (f : A → Bool) (xs : List A) → length (keep f xs) ≤ length xs
keep_length f [] = omega arith
keep_length f (x ∷ xs) = go (f x) (keep_length f xs)
  where
    go : (b : Bool) → length (keep f xs) ≤ length xs → length (cond b (x ∷ keep f xs) (keep f xs)) ≤ suc (length xs)
    go true ih = omega arith
    go false ih = omega arith

-- ── members, decided ──
pub in_dec : (n : ℕ) (ns : List ℕ) → Dec (In n ns)
in_dec n [] = no (λ h. h)
in_dec n (m ∷ ns) = go (ℕ_discrete n m) (in_dec n ns)
  where
    go : Dec (n ≡ m) → Dec (In n ns) → Dec (In n (m ∷ ns))
    go (yes p) d = yes (inl p)
    go (no q) (yes h) = yes (inr h)
    go (no q) (no k) = no (λ h. elim h [ inl p ↦ q p | inr i ↦ k i ])
