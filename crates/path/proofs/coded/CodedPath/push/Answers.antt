use Rattle.std.proofs.Common.{◌≡◌, ℕ, true, cond, List, [], ◌∷◌, ◌++◌, is_ok, sym, ap, ◌∙◌}
use Rattle.std.proofs.lemmas.Bool.{and_from, and_parts, cond_both}
use Rattle.path.specs.declared.step.Step.{Step}
use Rattle.path.specs.Codes.{coded, is_coded}
use Rattle.path.specs.Paths.{steps_of}
use Rattle.path.proofs.coded.CodedPath.push.Goals as goal

coded_push : (ss : List (Step ℕ)) (s : Step ℕ) → coded ss ≡ true → is_coded s.test ≡ true → coded (ss ++ s ∷ []) ≡ true
coded_push [] s h k = and_from _ _ k h
coded_push (x ∷ ss) s h k = let p = and_parts _ _ h in and_from _ _ p.0 (coded_push ss s p.1 k)

pub invariant_of-self : goal.invariant_of-self
invariant_of-self c =
    let qs = steps_of c.args.self.now.path in
    let s = c.args.step in
    let whole = c.args.self.now.codes in
    let named : is_coded s.test ≡ true = sym c.if-not-is_coded.ensures in
    let pushed = is_ok c.push.result in
    let kept : coded (cond pushed (qs ++ s ∷ []) qs) ≡ true = cond_both pushed (qs ++ s ∷ []) qs (λ (xs : List (Step ℕ)). coded xs ≡ true) (λ e. coded_push qs s whole named) (λ e. whole) in
    record { codes = ap coded c.push.ensures.after ∙ kept }
