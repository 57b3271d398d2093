-- What an accepted step says, and how a reading that is accepted falls into its steps.
-- Assumes nothing.
use Rattle.std.proofs.Common.{◌≡◌, ℕ, ◌+◌, ◌<◌, Bool, true, false, eqb, ltb, List, [], ◌∷◌, length, Ok, Err, Result, sym, refl, ap, ◌∙◌, subst, ⊎_elim, arith}
use Rattle.std.proofs.lemmas.Bool.{and_parts, cases_Bool, eqb-true, false≢true, ltb-true}
use Rattle.std.proofs.lemmas.Bool.Decides.{nat_tests}
use Rattle.byte_classes.specs.declared.classes.Classes.{Classes}
use Rattle.name.specs.declared.fault.NameFault.{NameFault}
use Rattle.byte_classes.specs.Bytes.{begins, class_of, follows}
use Rattle.name.specs.Names.{IsName, Spot, all_follow, read_name}
use Rattle.name.proofs.Judged.{name_reads, read_gives}
use Rattle.path.specs.declared.fault.PathFault.{PathFault}
use Rattle.path.specs.declared.step.Step.{Step}
use Rattle.path.specs.declared.step.Test.{Test}
use Rattle.path.specs.declared.step.Test.TheVariants as test
use Rattle.path.specs.Grammar.{StepText, star, name}
use Rattle.path.specs.Pieces.{piece}
use Rattle.path.proofs.Pieces.{slash_free}
use Rattle.path.specs.Reading.{add_step, excess, in_path, named, onward, star_test, step, step_test}

abbrev pub by_bytes : Test Spot → Test (List ℕ)
by_bytes t = named (λ s. s.bytes) t

-- an accepted list of steps: its first step and the others
pub add_step_parts : (c : Classes) (n at : ℕ) (d : Bool) (bs : List ℕ) (r : Result (List (Step Spot)) PathFault) (ss : List (Step Spot)) → add_step c n d at bs r ≡ Ok ss
    → (t : Test Spot) × (rest : List (Step Spot)) × (n < 8) × (step_test c at (piece bs) ≡ Ok t) × (r ≡ Ok rest) × (ss ≡ step d t ∷ rest)
add_step_parts c n at d bs r ss e =
    ⊎_elim
    (λ lt. few lt (step_test c at (piece bs)) refl r refl (rw lt at e))
    (λ ge. absurd (never (rw ge at e)))
    (cases_Bool (ltb n 8))
  where
    never : Err (excess c at (piece bs)) ≡ Ok ss → ⊥
    never e = let z : ◌≡◌ {A = ℕ} 0 1 = cc in omega arith

    few : ltb n 8 ≡ true → (q : Result (Test Spot) PathFault) → step_test c at (piece bs) ≡ q → (r' : Result (List (Step Spot)) PathFault) → r ≡ r'
        → onward q (λ t. onward r' (λ ss. Ok (step d t ∷ ss))) ≡ Ok ss
        → (t : Test Spot) × (rest : List (Step Spot)) × (n < 8) × (step_test c at (piece bs) ≡ Ok t) × (r ≡ Ok rest) × (ss ≡ step d t ∷ rest)
    few lt (Ok t) a (Ok rest) b e = (t, rest, ltb-true n 8 lt, a, b, cc)
    few lt (Ok t) a (Err f) b e = absurd (let z : ◌≡◌ {A = ℕ} 0 1 = cc in omega arith)
    few lt (Err f) a r' b e = absurd (let z : ◌≡◌ {A = ℕ} 0 1 = cc in omega arith)

pub add_step_from : (c : Classes) (n at : ℕ) (d : Bool) (bs : List ℕ) (t : Test Spot) (rest : List (Step Spot)) → n < 8 → step_test c at (piece bs) ≡ Ok t
    → add_step c n d at bs (Ok rest) ≡ Ok (step d t ∷ rest)
add_step_from c n at d bs t rest lt e = grind (arith, nat_tests)

-- what reading one step accepts, the grammar derives
pub step_derived : (c : Classes) (at : ℕ) (p : List ℕ) (t : Test Spot) → step_test c at p ≡ Ok t → StepText c p (by_bytes t)
step_derived c at [] t e = absurd (let z : ◌≡◌ {A = ℕ} 0 1 = cc in omega arith)
step_derived c at (b ∷ bs) t e =
    ⊎_elim (λ yes. starred (eqb-true b 42 yes) bs (rw yes at e)) (λ nope. as_name (read_name c at (b ∷ bs)) refl (rw nope at e)) (cases_Bool (eqb b 42))
  where
    starred : b ≡ 42 → (bs : List ℕ) → star_test (at + 1) bs ≡ Ok t → StepText c (b ∷ bs) (by_bytes t)
    starred s [] e =
        let u : test.Star ≡ t = cc in
        subst (λ (t : Test Spot). StepText c (b ∷ []) (by_bytes t)) u (subst (λ (x : ℕ). StepText c (x ∷ []) test.Star) (sym s) star)
    starred s (x ∷ xs) e = absurd (let z : ◌≡◌ {A = ℕ} 0 1 = cc in omega arith)

    as_name : (r : Result Spot NameFault) → read_name c at (b ∷ bs) ≡ r → onward (in_path r) (λ s. Ok (test.Name s)) ≡ Ok t → StepText c (b ∷ bs) (by_bytes t)
    as_name (Ok s) a e =
        let u : test.Name s ≡ t = cc in
        let g = read_gives c at (b ∷ bs) s a in
        subst (λ (t : Test Spot). StepText c (b ∷ bs) (by_bytes t)) u (subst (λ (xs : List ℕ). StepText c (b ∷ bs) (test.Name xs)) (sym g.0) (name g.1))
    as_name (Err f) a e = absurd (let z : ◌≡◌ {A = ℕ} 0 1 = cc in omega arith)

following_slash_free : (c : Classes) (bs : List ℕ) → all_follow c bs ≡ true → slash_free bs ≡ true
following_slash_free c [] h = refl
following_slash_free c (b ∷ bs) h =
    let p = and_parts _ _ h in
    let t = following_slash_free c bs p.1 in
    let outside = ap follows c.slash in
    ⊎_elim (λ yes. absurd (false≢true (sym outside ∙ (ap (λ (k : ℕ). follows (class_of c k)) (sym (eqb-true b 47 yes)) ∙ p.0)))) (λ nope. rw nope t) (cases_Bool (eqb b 47))

pub name_slash_free : (c : Classes) (bs : List ℕ) → IsName c bs → slash_free bs ≡ true
name_slash_free c [] (a, le) = absurd (false≢true a)
name_slash_free c (b ∷ bs) (a, le) =
    let p = and_parts _ _ a in
    let outside = ap begins c.slash in
    ⊎_elim (λ hit. absurd (false≢true (sym outside ∙ (ap (λ (k : ℕ). begins (class_of c k)) (sym (eqb-true b 47 hit)) ∙ p.0)))) (λ miss. rw miss (following_slash_free c bs p.1)) (cases_Bool (eqb b 47))

-- what the grammar derives as a step, reading accepts, at any offset
pub record StepRead (c : Classes) (at : ℕ) (f : List ℕ) (t : Test (List ℕ)) : Type 0 where
  pub said : Test Spot
  pub reads : step_test c at f ≡ Ok said
  pub says : by_bytes said ≡ t
  pub free : slash_free f ≡ true
  pub some : 0 < length f

pub step_accepted : (c : Classes) (at : ℕ) {f : List ℕ} {t : Test (List ℕ)} → StepText c f t → StepRead c at f t
step_accepted c at star = record { said = test.Star; reads = refl; says = refl; free = refl; some = omega arith }
step_accepted c at (name {bs} h) = as_name bs h
  where
    as_name : (bs : List ℕ) → IsName c bs → StepRead c at bs (test.Name bs)
    as_name [] (a, le) = absurd (false≢true a)
    as_name (b ∷ bs) (a, le) =
        let p = and_parts _ _ a in
        let star_outside = ap begins c.star in
        let not_star : eqb b 42 ≡ false = ⊎_elim (λ yes. absurd (false≢true (sym star_outside ∙ (ap (λ (k : ℕ). begins (class_of c k)) (sym (eqb-true b 42 yes)) ∙ p.0)))) (λ nope. nope) (cases_Bool (eqb b 42)) in
        let reading = name_reads c at (b ∷ bs) (a, le) in
        record {
          said = test.Name (record { bytes = b ∷ bs; at = at });
          reads = rw (not_star, reading) refl;
          says = refl;
          free = name_slash_free c (b ∷ bs) (a, le);
          some = omega arith;
        }
