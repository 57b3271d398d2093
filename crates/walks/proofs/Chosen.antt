-- Whether a record is chosen, record by record as a walk meets them.
use Rattle.std.proofs.Common.{◌≡◌, ℕ, Bool, true, false, cond, not, ◌&&◌, ◌||◌, List, [], ◌∷◌, ◌++◌, Some, None, Option, sym, refl, ap, ◌∙◌}
use Rattle.std.proofs.lemmas.Bool.{or_from, or_parts, true≢false}
use Rattle.tree.specs.declared.record.Record.{Record}
use Rattle.tree.specs.Lists.{keep, some_of, all_of}
use Rattle.tree.specs.Records.{rises, look}
use Rattle.tree.specs.Trees.{Node, bare, nodes, live, actual}
use Rattle.tree.specs.Walk.{name_after, visited}
use Rattle.tree.proofs.Members.{true_some}
use Rattle.tree.proofs.Look.{has_look, look_in}
use Rattle.tree.proofs.Visits.{visited_step, after_has}
use Rattle.walks.specs.Choices.{chosen_at}

pub chosen_some : (f : Record → Bool) (n : ℕ) (rs : List Record) → chosen_at f (look n rs) ≡ true → some_of f rs ≡ true
chosen_some f n rs h = go (look n rs) refl h
  where
    go : (o : Option Record) → look n rs ≡ o → chosen_at f o ≡ true → some_of f rs ≡ true
    go None e c = absurd (true≢false (sym c))
    go (Some r) e c = true_some f rs r (look_in n rs r e) c

some_last : (f : Record → Bool) (xs : List Record) (r : Record) → some_of f xs ≡ false → f r ≡ false → some_of f (xs ++ (r ∷ [])) ≡ false
some_last f [] r h e = or_from (f r) false e refl
some_last f (x ∷ xs) r h e = let p = or_parts (f x) (some_of f xs) h in or_from (f x) (some_of f (xs ++ (r ∷ []))) p.0 (some_last f xs r p.1 e)

pub none_step : (f : Record → Bool) (last : Option ℕ) (k : ℕ) (rs : List Record) → rises rs ≡ true → name_after last rs ≡ Some k → some_of f (visited last rs) ≡ false → chosen_at f (look k rs) ≡ false → some_of f (visited (Some k) rs) ≡ false
none_step f last k rs u e h c =
    let r = has_look k rs (after_has last k rs e) in
    ap (some_of f) (visited_step last k r.0 rs u e r.1) ∙ some_last f (visited last rs) r.0 h (sym (ap (chosen_at f) r.1) ∙ c)

-- ── the same tests as the model has them ──
pub some_actual : (f : Node → Bool) (rs : List Record) → some_of (λ r. live r && f (bare r)) rs ≡ some_of f (actual rs)
some_actual f [] = refl
some_actual f (r ∷ rs) = go (live r) (some_actual f rs)
  where
    go : (b : Bool) → some_of (λ r. live r && f (bare r)) rs ≡ some_of f (actual rs) → ((b && f (bare r)) || some_of (λ r. live r && f (bare r)) rs) ≡ some_of f (nodes (cond b (r ∷ keep live rs) (keep live rs)))
    go true t = ap (λ (c : Bool). f (bare r) || c) t
    go false t = t

pub not_some : (f : Record → Bool) (rs : List Record) → not (some_of (λ r. not (f r)) rs) ≡ all_of f rs
not_some f [] = refl
not_some f (r ∷ rs) = go (f r) (not_some f rs)
  where
    go : (b : Bool) → not (some_of (λ r. not (f r)) rs) ≡ all_of f rs → not (not b || some_of (λ r. not (f r)) rs) ≡ (b && all_of f rs)
    go true t = t
    go false t = refl
