-- What a buffer holds after a list was written to its start.
use Rattle.std.proofs.Common.{◌≡◌, ℕ, zero, suc, ◌≤◌, min, List, [], ◌∷◌, ◌++◌, length, set, take, drop, sym, refl, ap, ◌∙◌, arith, take_all}
use Rattle.walks.specs.Buffers.{filled}

module _ {A : Type 0} where
  -- as many items as there is room for, and then the rest of the buffer
  pub filled_front : (ns xs : List A) (n : ℕ) → n ≡ min (length ns) (length xs) → take n ns ++ drop n xs ≡ filled ns xs
  filled_front [] xs zero e = refl
  filled_front [] xs (suc n) e = absurd (omega arith)
  filled_front (m ∷ ns) [] zero e = refl
  filled_front (m ∷ ns) [] (suc n) e = absurd (omega arith)
  filled_front (m ∷ ns) (x ∷ xs) zero e = absurd (omega arith)
  filled_front (m ∷ ns) (x ∷ xs) (suc n) e = ap (λ (ys : List A). m ∷ ys) (filled_front ns xs n (omega arith))

  -- where there is room for all items
  pub filled_fits : (ns xs : List A) → length ns ≤ length xs → filled ns xs ≡ ns ++ drop (length ns) xs
  filled_fits ns xs le = sym (filled_front ns xs (length ns) (omega arith)) ∙ ap (λ (ys : List A). ys ++ drop (length ns) xs) (take_all (length ns) ns (omega arith))

  -- one item more
  pub filled_more : (ns xs : List A) (n : A) → set (filled ns xs) (length ns) n ≡ filled (ns ++ (n ∷ [])) xs
  filled_more [] [] n = refl
  filled_more [] (x ∷ xs) n = refl
  filled_more (m ∷ ns) [] n = refl
  filled_more (m ∷ ns) (x ∷ xs) n = ap (λ (ys : List A). m ∷ ys) (filled_more ns xs n)
