-- A test of the items of a mapped list.
-- Assumes nothing.
use Rattle.std.proofs.Common.{◌≡◌, Bool, ◌||◌, List, [], ◌∷◌, map, refl, ap}
use Rattle.std.specs.List.{list_any}
use Rattle.tree.specs.Lists.{some_of}

pub any_mapped : {A B : Type 0} (f : B → Bool) (g : A → B) (xs : List A) → list_any (λ x. f (g x)) xs ≡ some_of f (map g xs)
any_mapped f g [] = refl
any_mapped f g (x ∷ xs) = ap (λ (b : Bool). f (g x) || b) (any_mapped f g xs)
