-- Rows that are kept, and rows that are added.
-- Assumes nothing.
use Rattle.std.proofs.Common.{◌≡◌, ℕ, ◌+◌, ◌<◌, Bool, true, false, cond, List, [], ◌∷◌, ◌++◌, map, length, get_or, take, filter, sym, refl, ap, ◌∙◌, append_assoc}
use Rattle.std.proofs.lemmas.List.{take_more}
use Rattle.tree.specs.Lists.{keep}

-- what is kept of a mapped list
pub filter_map : {A B : Type 0} (g : A → B) (f : B → Bool) (xs : List A) → map g (filter (λ x. f (g x)) xs) ≡ keep f (map g xs)
filter_map g f [] = refl
filter_map {A} {B} g f (x ∷ xs) = one (f (g x)) (filter_map g f xs)
  where
    one : (b : Bool) → map g (filter (λ x. f (g x)) xs) ≡ keep f (map g xs) → map g (cond b (x ∷ filter (λ x. f (g x)) xs) (filter (λ x. f (g x)) xs)) ≡ cond b (g x ∷ keep f (map g xs)) (keep f (map g xs))
    one true t = ap (λ (z : List B). g x ∷ z) t
    one false t = t

pub map_last : {A B : Type 0} (f : A → B) (xs : List A) (x : A) → map f (xs ++ (x ∷ [])) ≡ map f xs ++ (f x ∷ [])
map_last f [] x = refl
map_last {A} {B} f (y ∷ xs) x = ap (λ (z : List B). f y ∷ z) (map_last f xs x)

-- one more of the list ys is appended
pub append_more : {A B : Type 0} (f : A → B) (zs : List B) (ys : List A) (i : ℕ) (y : A) → i < length ys → y ≡ get_or ys i y → (zs ++ map f (take i ys)) ++ (f y ∷ []) ≡ zs ++ map f (take (i + 1) ys)
append_more {A} {B} f zs ys i y lt e =
    let t : take (i + 1) ys ≡ take i ys ++ (y ∷ []) = take_more ys i y lt ∙ ap (λ (x : A). take i ys ++ (x ∷ [])) (sym e) in
    append_assoc zs (map f (take i ys)) (f y ∷ []) ∙ ap (λ (l : List B). zs ++ l) (sym (ap (map f) t ∙ map_last f (take i ys) y))
