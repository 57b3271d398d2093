-- A change of all records, one by one as a walk meets them.
use Rattle.std.proofs.Common.{◌≡◌, ℕ, ◌<◌, ◌≤◌, Bool, true, false, cond, eqb, ltb, leb, List, [], ◌∷◌, map, Some, None, Option, sym, refl, ap, ◌∙◌, inl, inr, arith}
use mathlib.Core.Path.{fun_ext}
use Rattle.std.proofs.lemmas.Bool.{true≢false, cond-true, cond-false, ne_eqb, le-leb, leb-true}
use Rattle.std.proofs.lemmas.Bool.Decides.{nat_tests}
use Rattle.tree.specs.declared.record.Record.{Record}
use Rattle.tree.specs.Lists.{In}
use Rattle.tree.specs.Records.{rises, next_name}
use Rattle.tree.specs.Stores.{Meaning, holding}
use Rattle.tree.specs.Walk.{name_after, passed}
use Rattle.tree.proofs.Next.{next_greater}
use Rattle.model.specs.Numbers.{member}
use Rattle.model.specs.Changes.{with_mark}
use Rattle.walks.proofs.Tagged.{changed_at}
use Rattle.drops.proofs.Dropping.{next_first, passed_all}

-- rs with the change f at all records that the walk has come past
abbrev pub changed : Option ℕ → (Record → Record) → List Record → List Record
changed last f rs = map (λ (r : Record). cond (passed last r) (f r) r) rs

passed_before : (last : Option ℕ) (k : ℕ) (x : Record) (rs : List Record) → name_after last rs ≡ Some k → passed last x ≡ true → x.name < k
passed_before None k x rs e p = absurd (true≢false (sym p))
passed_before (Some n) k x rs e p = let le = leb-true x.name n p in let lt = next_greater n k rs e in omega arith

module _ (f : Record → Record) (keeps : (r : Record) → (f r).name ≡ r.name) where
  name_kept : (b : Bool) (r : Record) → (cond b (f r) r).name ≡ r.name
  name_kept true r = keeps r
  name_kept false r = refl

  after_changed : (last at : Option ℕ) (rs : List Record) → name_after at (changed last f rs) ≡ name_after at rs
  after_changed last None [] = refl
  after_changed last None (x ∷ xs) = ap (λ (n : ℕ). Some n) (name_kept (passed last x) x)
  after_changed last (Some n) [] = refl
  after_changed last (Some n) (x ∷ xs) =
      ap (λ (m : ℕ). cond (ltb n m) (Some m) (next_name n (changed last f xs))) (name_kept (passed last x) x)
      ∙ ap (λ (o : Option ℕ). cond (ltb n x.name) (Some x.name) o) (after_changed last (Some n) xs)

  -- the name that follows is the one that followed in what the store held first
  pub changed_next : (last : Option ℕ) (m t : Meaning) → t ≡ holding m (changed last f m.records) → name_after last m.records ≡ name_after last t.records
  changed_next last m t e = sym (after_changed last last m.records) ∙ sym (ap (λ (k : Meaning). name_after last k.records) e)

  pub changed_none : (rs : List Record) → rs ≡ changed None f rs
  changed_none [] = refl
  changed_none (x ∷ xs) = ap (λ (ys : List Record). x ∷ ys) (changed_none xs)

  step_in : (last : Option ℕ) (k : ℕ) (xs : List Record) → ((x : Record) → In x xs → (passed last x ≡ true → x.name < k) × (passed last x ≡ false → k ≤ x.name)) → changed_at k f (changed last f xs) ≡ changed (Some k) f xs
  step_in last k [] h = refl
  step_in last k (x ∷ xs) h =
      ap (λ (y : Record). y ∷ changed_at k f (changed last f xs)) (one (passed last x) refl)
      ∙ ap (λ (ys : List Record). cond (leb x.name k) (f x) x ∷ ys) (step_in last k xs (λ y i. h y (inr i)))
    where
      one : (b : Bool) → passed last x ≡ b → cond (eqb (cond b (f x) x).name k) (f (cond b (f x) x)) (cond b (f x) x) ≡ cond (leb x.name k) (f x) x
      one true p =
          let lt = (h x (inl refl)).0 p in
          let same = keeps x in
          cond-false (eqb (f x).name k) (f (f x)) (f x) (ne_eqb (f x).name k (λ q. omega arith)) ∙ sym (cond-true (leb x.name k) (f x) x (le-leb x.name k (omega arith)))
      one false p =
          let ge = (h x (inl refl)).1 p in
          let e : eqb x.name k ≡ leb x.name k = grind (arith, nat_tests) in
          ap (λ (b : Bool). cond b (f x) x) e

  pub changed_step : (last : Option ℕ) (k : ℕ) (rs : List Record) → rises rs ≡ true → name_after last rs ≡ Some k → changed_at k f (changed last f rs) ≡ changed (Some k) f rs
  changed_step last k rs u e = step_in last k rs (λ x i. ((λ p. passed_before last k x rs e p), λ p. next_first last k x rs u e i p))

  all_in : (last : Option ℕ) (xs : List Record) → ((x : Record) → In x xs → passed last x ≡ true) → changed last f xs ≡ map f xs
  all_in last [] h = refl
  all_in last (x ∷ xs) h = ap (λ (b : Bool). cond b (f x) x ∷ changed last f xs) (h x (inl refl)) ∙ ap (λ (ys : List Record). f x ∷ ys) (all_in last xs (λ y i. h y (inr i)))

  pub changed_all : (last : Option ℕ) (rs : List Record) → name_after last rs ≡ None → changed last f rs ≡ map f rs
  changed_all last rs e = all_in last rs (passed_all last rs e)

-- ── marks ──
-- a mark that is chosen makes one of two records
pub unmarked_is : (ts : List ℕ) → ◌≡◌ {A = Record → Record} (λ r. with_mark r (cond (member r.mark ts) 0 r.mark)) (λ r. cond (member r.mark ts) (with_mark r 0) r)
unmarked_is ts = fun_ext (λ (r : Record). go r (member r.mark ts))
  where
    go : (r : Record) (b : Bool) → with_mark r (cond b 0 r.mark) ≡ cond b (with_mark r 0) r
    go r true = refl
    go r false = refl
