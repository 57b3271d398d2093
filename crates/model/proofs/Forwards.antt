-- A run read backwards and forwards.
use Rattle.std.proofs.Common.{◌≡◌, ℕ, ◌+◌, List, [], ◌∷◌, ◌++◌, sym, refl, ap, ◌∙◌, subst}
use Rattle.path.specs.declared.coded.CodedPath.{CodedPath}
use Rattle.model.proofs.Events.{In, Event, who, tally, count}
use Rattle.model.proofs.MixedRun.{Tree, Ground, apply, Accepts, after, Accepted, Plays, ends, forwards}

abbrev counts : (ℕ → ℕ) → List (Event CodedPath) → ℕ → ℕ
counts c [] u = c u
counts c (e ∷ es) u = counts (λ v. tally v e + c v) es u

counts_last : (c : ℕ → ℕ) (es : List (Event CodedPath)) (e : Event CodedPath) (u : ℕ) → counts c (es ++ (e ∷ [])) u ≡ tally u e + counts c es u
counts_last c [] e u = refl
counts_last c (d ∷ es) e u = counts_last (λ v. tally v d + c v) es e u

ends_last : (T : Tree) (es : List (Event CodedPath)) (e : Event CodedPath) → ends T (es ++ (e ∷ [])) ≡ apply e (ends T es)
ends_last T [] e = refl
ends_last T (d ∷ es) e = ends_last (apply d T) es e

module _ (g : Ground) where
  plays_last : (T : Tree) (c : ℕ → ℕ) (es : List (Event CodedPath)) (e : Event CodedPath) → Plays g T c es → Accepts g (ends T es) (counts c es (who e)) e → Plays g T c (es ++ (e ∷ []))
  plays_last T c [] e p a = (a, tt)
  plays_last T c (d ∷ es) e p a = (p.0, plays_last (apply d T) (λ v. tally v d + c v) es e p.1 a)

  abbrev pub start_tree : Tree
  start_tree y = In y g.first

  pub ends_after : (es : List (Event CodedPath)) → ends start_tree (forwards es) ≡ after g es
  ends_after [] = refl
  ends_after (e ∷ es) = ends_last start_tree (forwards es) e ∙ ap (apply e) (ends_after es)

  counts_count : (es : List (Event CodedPath)) (u : ℕ) → counts (λ v. 0) (forwards es) u ≡ count u es
  counts_count [] u = refl
  counts_count (e ∷ es) u = counts_last (λ v. 0) (forwards es) e u ∙ ap (λ n. tally u e + n) (counts_count es u)

  pub forward : (es : List (Event CodedPath)) → Accepted g es → Plays g start_tree (λ u. 0) (forwards es)
  forward [] a = tt
  forward (e ∷ es) a =
      plays_last start_tree (λ u. 0) (forwards es) e (forward es a.1)
      (subst (λ T. Accepts g T (counts (λ v. 0) (forwards es) (who e)) e) (sym (ends_after es))
      (subst (λ k. Accepts g (after g es) k e) (sym (counts_count es (who e))) a.0))
