-- Fitting by computation is exact: it says which label paths an expression stands for.
-- Assumes nothing.
use Rattle.std.proofs.Common.{◌≡◌, ℕ, Bool, true, false, ◌&&◌, ◌||◌, ◌⊎◌, List, [], ◌∷◌, ◌++◌, map, Decides, sym, refl, ap, ◌∙◌, subst, inl, inr, ⊎_elim, arith}
use Rattle.std.proofs.lemmas.Bool.{and_from, and_parts, both_ways, cases_Bool, false≢true, or_cases, or_left, or_right}
use Rattle.path.specs.declared.step.Step.{Step}
use Rattle.path.specs.declared.step.Test.{Test}
use Rattle.path.specs.declared.step.Test.TheVariants.{Star, Name}
use Rattle.path.specs.Reading.{named, step_named}
use Rattle.fitting.specs.declared.fit.Ending.{Ending}
use Rattle.fitting.specs.declared.fit.Ending.TheVariants.{Closed, Open}
use Rattle.fitting.specs.declared.fit.Fit.{Fit}
use Rattle.fitting.specs.declared.fit.Fit.TheVariants.{Yes, No}
use Rattle.fitting.specs.Fitting.{ends, fits, passes, takes, verdict}
use Rattle.fitting.specs.Language.{FitsPath, Passes, Says, StandsFor}

module _ {L : Type 0} (same : L → L → Bool) where
  abbrev Same : L → L → Type 0
  Same x y = same x y ≡ true

  passed : (t : Test L) (a : L) → passes same t a ≡ true → Passes Same t a
  passed Star a h = tt
  passed (Name b) a h = h

  passing : (t : Test L) (a : L) → Passes Same t a → passes same t a ≡ true
  passing Star a h = refl
  passing (Name b) a h = h

  -- a label is taken now, or left out by a deep step
  taken : (s : Step L) (a : L) (onward here : Bool) → takes same s a onward here ≡ true → ((passes same s.test a ≡ true) × (onward ≡ true)) ⊎ ((s.deep ≡ true) × (here ≡ true))
  taken s a onward here h = ⊎_elim (λ one. inl (and_parts _ _ one)) (λ left. inr (and_parts _ _ left)) (or_cases (passes same s.test a && onward) (s.deep && here) h)

  takes_now : (s : Step L) (a : L) (onward here : Bool) → passes same s.test a ≡ true → onward ≡ true → takes same s a onward here ≡ true
  takes_now s a onward here p o = or_left (passes same s.test a && onward) (s.deep && here) (and_from _ _ p o)

  takes_later : (s : Step L) (a : L) (onward here : Bool) → s.deep ≡ true → here ≡ true → takes same s a onward here ≡ true
  takes_later s a onward here d h = or_right (passes same s.test a && onward) (s.deep && here) (and_from _ _ d h)

  -- what fits is stood for
  stood_for : (ss : List (Step L)) (ls : List L) → fits same Closed ss ls ≡ true → StandsFor Same ss ls
  stood_for [] [] h = refl
  stood_for [] (a ∷ ls) h = absurd (false≢true h)
  stood_for (s ∷ ss) [] h = absurd (false≢true h)
  stood_for (s ∷ ss) (a ∷ ls) h =
      ⊎_elim
      (λ p. ([], a, ls, refl, (λ _. refl), passed s.test a p.0, stood_for ss ls p.1))
      (λ p. later p.0 (stood_for (s ∷ ss) ls p.1))
      (taken s a _ _ h)
    where
      later : s.deep ≡ true → StandsFor Same (s ∷ ss) ls → StandsFor Same (s ∷ ss) (a ∷ ls)
      later deep (between, x, rest, e, plain, p, more) = (a ∷ between, x, rest, ap (λ (xs : List L). a ∷ xs) e, (λ shallow. absurd (both_ways s.deep shallow deep)), p, more)

  -- what is stood for fits
  fitting : (ss : List (Step L)) (ls : List L) → StandsFor Same ss ls → fits same Closed ss ls ≡ true
  fitting [] ls h = ap (fits same Closed []) h
  fitting (s ∷ ss) ls (between, x, rest, e, plain, p, more) = ap (fits same Closed (s ∷ ss)) e ∙ go (fitting ss rest more) between plain
    where
      go : fits same Closed ss rest ≡ true → (between : List L) → (s.deep ≡ false → between ≡ []) → fits same Closed (s ∷ ss) (between ++ x ∷ rest) ≡ true
      go tail [] plain = takes_now s x _ _ (passing s.test x p) tail
      go tail (b ∷ bs) plain =
          let deep : s.deep ≡ true = ⊎_elim (λ d. d) (λ shallow. absurd (let none = plain shallow in let z : ◌≡◌ {A = ℕ} 0 1 = cc in omega arith)) (cases_Bool s.deep) in
          takes_later s b _ _ deep (go tail bs (λ shallow. absurd (both_ways s.deep shallow deep)))

  -- an open ending: some last label makes it fit
  pub some_last : (ss : List (Step L)) (ls : List L) (last : L) → fits same Closed ss (ls ++ last ∷ []) ≡ true → fits same Open ss ls ≡ true
  some_last [] [] last h = absurd (false≢true h)
  some_last (s ∷ []) [] last h = refl
  some_last (s ∷ t ∷ ss) [] last h = grind arith
  some_last [] (a ∷ ls) last h = absurd (false≢true h)
  some_last (s ∷ ss) (a ∷ ls) last h =
      ⊎_elim
      (λ p. takes_now s a _ _ p.0 (some_last ss ls last p.1))
      (λ p. takes_later s a _ _ p.0 (some_last (s ∷ ss) ls last p.1))
      (taken s a _ _ h)

  module _ (reflexive : (x : L) → same x x ≡ true) (some : L) where
    passes_some : (t : Test L) → (a : L) × (passes same t a ≡ true)
    passes_some Star = (some, refl)
    passes_some (Name b) = (b, reflexive b)

    last_found : (ss : List (Step L)) (ls : List L) → fits same Open ss ls ≡ true → (last : L) × (fits same Closed ss (ls ++ last ∷ []) ≡ true)
    last_found [] [] h = absurd (false≢true h)
    last_found (s ∷ []) [] h = let p = passes_some s.test in (p.0, takes_now s p.0 true false p.1 refl)
    last_found (s ∷ t ∷ ss) [] h = absurd (false≢true h)
    last_found [] (a ∷ ls) h = absurd (false≢true h)
    last_found (s ∷ ss) (a ∷ ls) h =
        ⊎_elim
        (λ p. let (last, q) = last_found ss ls p.1 in (last, takes_now s a _ _ p.0 q))
        (λ p. let (last, q) = last_found (s ∷ ss) ls p.1 in (last, takes_later s a _ _ p.0 q))
        (taken s a _ _ h)

    fits_sound : (e : Ending) (ss : List (Step L)) (ls : List L) → fits same e ss ls ≡ true → FitsPath Same e ss ls
    fits_sound Closed ss ls h = stood_for ss ls h
    fits_sound Open ss ls h = let (last, q) = last_found ss ls h in (last, stood_for ss (ls ++ last ∷ []) q)

    fits_complete : (e : Ending) (ss : List (Step L)) (ls : List L) → FitsPath Same e ss ls → fits same e ss ls ≡ true
    fits_complete Closed ss ls h = fitting ss ls h
    fits_complete Open ss ls (last, h) = some_last ss ls last (fitting ss (ls ++ last ∷ []) h)

    pub fits_exactly : (e : Ending) (ss : List (Step L)) (ls : List L) → Says (verdict (fits same e ss ls)) (FitsPath Same e ss ls)
    fits_exactly e ss ls = says (fits same e ss ls) (fits_sound e ss ls) (fits_complete e ss ls)
      where
        says : {P : Type 0} (b : Bool) → (b ≡ true → P) → (P → b ≡ true) → Says (verdict b) P
        says true sound complete = sound refl
        says false sound complete = λ p. false≢true (complete p)

    -- an answer that is the computed one means what it says
    pub means_it : (e : Ending) (ss : List (Step L)) (ls : List L) (r : Fit) → r ≡ verdict (fits same e ss ls) → Says r (FitsPath Same e ss ls)
    means_it e ss ls r answer = subst (λ (r : Fit). Says r (FitsPath Same e ss ls)) (sym answer) (fits_exactly e ss ls)

-- what is stood for by one rule of passing is stood for by another that follows
stands_by : {L : Type 0} (R S : L → L → Type 0) → ((t : Test L) (a : L) → Passes R t a → Passes S t a) → (ss : List (Step L)) (ls : List L) → StandsFor R ss ls → StandsFor S ss ls
stands_by R S f [] ls h = h
stands_by R S f (s ∷ ss) ls (between, a, rest, e, plain, p, more) = (between, a, rest, e, plain, f s.test a p, stands_by R S f ss rest more)

fits_by : {L : Type 0} (R S : L → L → Type 0) → ((t : Test L) (a : L) → Passes R t a → Passes S t a) → (e : Ending) (ss : List (Step L)) (ls : List L) → FitsPath R e ss ls → FitsPath S e ss ls
fits_by R S f Closed ss ls h = stands_by R S f ss ls h
fits_by R S f Open ss ls (last, h) = (last, stands_by R S f ss (ls ++ last ∷ []) h)

says_by : {P Q : Type 0} (r : Fit) → (P → Q) → (Q → P) → Says r P → Says r Q
says_by Yes to from p = to p
says_by No to from p = λ q. p (from q)

-- where the test of labels decides equality
module _ {L : Type 0} (same : L → L → Bool) (decides : (x y : L) → Decides (same x y) (x ≡ y)) where
  by_equation : (t : Test L) (a : L) → Passes (λ x y. same x y ≡ true) t a → Passes ◌≡◌ t a
  by_equation Star a h = h
  by_equation (Name b) a h = (decides b a).0 h

  by_test : (t : Test L) (a : L) → Passes ◌≡◌ t a → Passes (λ x y. same x y ≡ true) t a
  by_test Star a h = h
  by_test (Name b) a h = (decides b a).1 h

  pub fits_by_equation : (some : L) (e : Ending) (ss : List (Step L)) (ls : List L) (r : Fit) → r ≡ verdict (fits same e ss ls) → Says r (FitsPath ◌≡◌ e ss ls)
  fits_by_equation some e ss ls r answer =
      let R : L → L → Type 0 = λ x y. same x y ≡ true in
      says_by r (fits_by R ◌≡◌ by_equation e ss ls) (fits_by ◌≡◌ R by_test e ss ls)
      (means_it same (λ x. (decides x x).1 refl) some e ss ls r answer)

-- labels compared by what f says of them
module _ {K L : Type 0} (same : L → L → Bool) (f : K → L) where
  ends_named : (e : Ending) (ss : List (Step K)) → ends same e (map (step_named f) ss) ≡ ends (λ x y. same (f x) (f y)) e ss
  ends_named Closed [] = refl
  ends_named Closed (s ∷ ss) = refl
  ends_named Open [] = refl
  ends_named Open (s ∷ []) = refl
  ends_named Open (s ∷ t ∷ ss) = refl

  passes_named : (t : Test K) (a : K) → passes same (named f t) (f a) ≡ passes (λ x y. same (f x) (f y)) t a
  passes_named Star a = refl
  passes_named (Name b) a = refl

  pub fits_named : (e : Ending) (ss : List (Step K)) (ls : List K) → fits same e (map (step_named f) ss) (map f ls) ≡ fits (λ x y. same (f x) (f y)) e ss ls
  fits_named e ss [] = ends_named e ss
  fits_named e [] (a ∷ ls) = refl
  fits_named e (s ∷ ss) (a ∷ ls) =
      let onward = fits_named e ss ls in
      let here = fits_named e (s ∷ ss) ls in
      let now = passes_named s.test a in
      ap (λ (b : Bool). (passes same (named f s.test) (f a) && b) || (s.deep && fits same e (map (step_named f) (s ∷ ss)) (map f ls))) onward
      ∙ (ap (λ (b : Bool). (passes same (named f s.test) (f a) && fits (λ x y. same (f x) (f y)) e ss ls) || (s.deep && b)) here
      ∙ ap (λ (b : Bool). (b && fits (λ x y. same (f x) (f y)) e ss ls) || (s.deep && fits (λ x y. same (f x) (f y)) e (s ∷ ss) ls)) now)
