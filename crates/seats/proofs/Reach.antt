-- No place is reached twice.
-- Assumes nothing.
use Rattle.std.proofs.Common.{ℕ, zero, suc, Bool, not, ◌&&◌, List, [], ◌∷◌}
use Rattle.std.proofs.lemmas.Bool.{and_parts, not-true}
use Rattle.tree.specs.Lists.{In, keep, some_of}
use Rattle.model.specs.Numbers.{member, places, Distinct}
use Rattle.model.specs.Arrows.{wider, widen, reached}
use Rattle.model.proofs.Keys.{keep_from, not_member}
use Rattle.model.proofs.Reached.{keep_distinct, append_distinct, places_distinct}

module _ (arrow : ℕ → ℕ → Bool) where
  wider_distinct : (ps : List ℕ) → Distinct ps → Distinct (wider arrow ps)
  wider_distinct ps d = append_distinct ps (keep fresh places) d (keep_distinct fresh places places_distinct) apart
    where
      fresh : ℕ → Bool
      fresh i = not (member i ps) && some_of (λ j. arrow j i) ps

      apart : (i : ℕ) → In i ps → ¬ (In i (keep fresh places))
      apart i old new = not_member i ps (not-true (member i ps) (and_parts (not (member i ps)) (some_of (λ j. arrow j i) ps) (keep_from fresh places i new).1).0) old

  widen_distinct : (k : ℕ) (ps : List ℕ) → Distinct ps → Distinct (widen k arrow ps)
  widen_distinct zero ps d = d
  widen_distinct (suc k) ps d = widen_distinct k (wider arrow ps) (wider_distinct ps d)

  pub reached_distinct : (p : ℕ) → Distinct (reached arrow p)
  unfolding reached
  reached_distinct p = widen_distinct 32 (p ∷ []) (λ i. i, tt)
