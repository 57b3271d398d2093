-- What a lent buffer holds after a list that fits was written to its start.
use Rattle.std.proofs.Common.{◌≡◌, ℕ, ◌≤◌, List, ◌++◌, length, take, drop, sym, ap, ◌∙◌, subst}
use Rattle.std.proofs.lemmas.List.{take_at}
use Rattle.walks.specs.Buffers.{filled}
use Rattle.walks.proofs.Buffers.{filled_fits}

module _ (ns xs : List ℕ) (n : ℕ) (count : n ≡ length ns) (room : length ns ≤ length xs) where
  pub front_is : take n (filled ns xs) ≡ ns
  front_is = ap (take n) (filled_fits ns xs room) ∙ take_at ns (drop (length ns) xs) n (sym count)

  pub rest_stays : filled ns xs ≡ take n (filled ns xs) ++ drop n xs
  rest_stays = filled_fits ns xs room ∙ ((λ z. sym front_is z ++ drop (sym count z) xs))

-- what ys holds, where the whole list was written to it when it held xs
pub lent : (ns xs ys : List ℕ) (k : ℕ) → k ≡ length ns → k ≤ length xs → ys ≡ filled ns xs → (take k ys ≡ ns) × (ys ≡ take k ys ++ drop k xs)
lent ns xs ys k count room written =
    let fits : length ns ≤ length xs = subst (λ (n : ℕ). n ≤ length xs) count room in (
      ap (take k) written ∙ front_is ns xs k count fits,
      written ∙ rest_stays ns xs k count fits ∙ ap (λ (zs : List ℕ). take k zs ++ drop k xs) (sym written),
    )
