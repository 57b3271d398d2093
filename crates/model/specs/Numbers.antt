-- Places and tickets in lists. There are 32 places, 0 to 31. Assumes nothing.
--     member n ns       n is one of the numbers ns
--     Distinct ns       no number stands twice in ns
--     places            the 32 places
--     HasJust w ps      the word w has just the places ps
--     lowest f          the lowest place of which f says yes, 32 where there is none
--     sorted ns         the numbers ns, rising
use Rattle.std.specs.Prelude.{◌≡◌, ℕ, zero, suc, Bool, cond, List, [], ◌∷◌, nat_eq, nat_le}
use Rattle.words.specs.Words.{bit}
use Rattle.tree.specs.Lists.{In, some_of}

abbrev pub member : ℕ → List ℕ → Bool
member n ns = some_of (nat_eq n) ns

abbrev pub HasJust : ℕ → List ℕ → Type 0
HasJust w ps = (q : ℕ) → bit w q ≡ member q ps

abbrev pub Distinct : List ℕ → Type 0
Distinct [] = Unit {0}
Distinct (n ∷ ns) = ¬ (In n ns) × Distinct ns

abbrev pub below : ℕ → List ℕ
below zero = []
below (suc k) = k ∷ below k

unfoldable pub places : List ℕ
places = below 32

abbrev pub seek : (ℕ → Bool) → ℕ → ℕ → ℕ
seek f zero i = i
seek f (suc k) i = cond (f i) i (seek f k (suc i))

unfoldable pub lowest : (ℕ → Bool) → ℕ
lowest f = seek f 32 0

abbrev pub sort_in : ℕ → List ℕ → List ℕ
sort_in a [] = a ∷ []
sort_in a (b ∷ bs) = cond (nat_le a b) (a ∷ b ∷ bs) (b ∷ sort_in a bs)

abbrev pub sorted : List ℕ → List ℕ
sorted [] = []
sorted (a ∷ xs) = sort_in a (sorted xs)
