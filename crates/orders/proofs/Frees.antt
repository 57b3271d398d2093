-- The first ticket to which no arrow comes, in a list that rises.
-- Assumes nothing.
use Rattle.std.proofs.Common.{◌≡◌, ℕ, ◌≤◌, Bool, true, false, ◌⊎◌, List, [], ◌∷◌, Some, None, sym, refl, ap, ◌∙◌, inl, inr, arith}
use Rattle.std.proofs.lemmas.Bool.{both_ways, cases_Bool, cond-true, cond-false}
use Rattle.tree.specs.Lists.{In, some_of}
use Rattle.model.specs.Arrows.{first_free}
use Rattle.model.proofs.Order.{Climbs}

module _ (arrow : ℕ → ℕ → Bool) (xs : List ℕ) where
  -- an arrow comes to t from one of xs
  abbrev pub held_up : ℕ → Bool
  held_up t = some_of (λ u. arrow u t) xs

  pub none_free : (ts : List ℕ) → ((t : ℕ) → In t ts → held_up t ≡ true) → first_free arrow xs ts ≡ None
  none_free [] h = refl
  none_free (t ∷ ts) h = cond-true (held_up t) (first_free arrow xs ts) (Some t) (h t (inl refl)) ∙ none_free ts (λ u i. h u (inr i))

  pub least_free : (ts : List ℕ) → Climbs ts → (t : ℕ) → In t ts → held_up t ≡ false → ((s : ℕ) → In s ts → held_up s ≡ false → t ≤ s) → first_free arrow xs ts ≡ Some t
  least_free [] up t i free least = elim i [ ]
  least_free (s ∷ ts) up t i free least = go (cases_Bool (held_up s)) i (λ j. least_free ts up.1 t j free (λ r k. least r (inr k)))
    where
      go : (held_up s ≡ true) ⊎ (held_up s ≡ false) → In t (s ∷ ts) → (In t ts → first_free arrow xs ts ≡ Some t) → first_free arrow xs (s ∷ ts) ≡ Some t
      go (inl b) (inl e) ih = absurd (both_ways (held_up t) free (ap held_up e ∙ b))
      go (inl b) (inr j) ih = cond-true (held_up s) (first_free arrow xs ts) (Some s) b ∙ ih j
      go (inr b) (inl e) ih = cond-false (held_up s) (first_free arrow xs ts) (Some s) b ∙ ap (λ (n : ℕ). Some n) (sym e)
      go (inr b) (inr j) ih =
          let le = least s (inl refl) b in
          let ge = up.0 t j in
          let e : s ≡ t = omega arith in
          cond-false (held_up s) (first_free arrow xs ts) (Some s) b ∙ ap (λ (n : ℕ). Some n) e
