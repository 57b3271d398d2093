-- The places of a path from which on its steps fit, label by label from the last.
-- Assumes nothing.
use Rattle.std.proofs.Common.{◌≡◌, ℕ, zero, suc, ◌+◌, ◌-◌, ◌*◌, ◌%◌, ◌^◌, ◌<◌, ◌≤◌, Bool, false, ◌&&◌, eqb, ltb, List, [], ◌∷◌, ◌++◌, length, get_or, drop, sym, refl, ap, ◌∙◌, ⊎_elim, arith}
use Rattle.std.proofs.lemmas.List.{drop_all, drop_more}
use Rattle.std.proofs.lemmas.Bool.{cases_lt, le-ltb, lt-ltb}
use Rattle.std.proofs.lemmas.Bool.Decides.{nat_tests}
use Rattle.words.specs.Words.{bit}
use Rattle.words.proofs.Bits.{bit_none, bit_shifted}
use Rattle.path.specs.declared.step.Step.{Step}
use Rattle.fitting.specs.declared.fit.Ending.{Ending}
use Rattle.fitting.specs.declared.fit.Ending.TheVariants.{Closed, Open}
use Rattle.fitting.specs.Fitting.{ends, fits, takes, Reads}

module _ {L : Type 0} (same : L → L → Bool) where
  ends_closed : (ss : List (Step L)) (k : ℕ) → k ≤ length ss → ends same Closed (drop k ss) ≡ eqb k (length ss)
  ends_closed [] zero h = refl
  ends_closed [] (suc k) h = absurd (omega arith)
  ends_closed (s ∷ ss) zero h = grind (arith, nat_tests)
  ends_closed (s ∷ ss) (suc k) h = let t = ends_closed ss k (omega arith) in grind (arith, nat_tests)

  ends_open : (ss : List (Step L)) (k : ℕ) → k ≤ length ss → ends same Open (drop k ss) ≡ eqb (suc k) (length ss)
  ends_open [] zero h = refl
  ends_open [] (suc k) h = absurd (omega arith)
  ends_open (s ∷ []) zero h = refl
  ends_open (s ∷ t ∷ ss) zero h = grind (arith, nat_tests)
  ends_open (s ∷ ss) (suc k) h = let t = ends_open ss k (omega arith) in grind (arith, nat_tests)

  -- before any label is read
  pub begins_closed : (ss : List (Step L)) (n : ℕ) → n ≡ length ss → n < 32 → Reads same Closed ss [] (1 * 2 ^ n % 4294967296)
  begins_closed ss n e lt k h = bit_shifted n k lt ∙ (ap (eqb k) e ∙ sym (ends_closed ss k h))

  pub begins_open : (ss : List (Step L)) (n : ℕ) → n ≡ length ss → 1 ≤ n → n < 32 → Reads same Open ss [] (1 * 2 ^ (n - 1) % 4294967296)
  begins_open ss n e some lt k h =
      let one : eqb k (n - 1) ≡ eqb (suc k) (length ss) = grind (arith, nat_tests) in
      bit_shifted (n - 1) k (omega arith) ∙ (one ∙ sym (ends_open ss k h))

  -- one label more, in front of the others: the word r has each place that takes it
  pub goes_back : (e : Ending) (ss : List (Step L)) (ls : List L) (a : L) (w r : ℕ) (d : Step L) → Reads same e ss ls w
      → ((k : ℕ) → bit r k ≡ (ltb k (length ss) && takes same (get_or ss k d) a (bit w (k + 1)) (bit w k))) → Reads same e ss (a ∷ ls) r
  goes_back e ss ls a w r d h is k le = ⊎_elim inside outside (cases_lt k (length ss))
    where
      inside : k < length ss → bit r k ≡ fits same e (drop k ss) (a ∷ ls)
      inside lt =
          let split : drop k ss ≡ get_or ss k d ∷ drop (k + 1) ss = drop_more ss k d lt in
          let onward : bit w (k + 1) ≡ fits same e (drop (k + 1) ss) ls = h (k + 1) (omega arith) in
          let here : bit w k ≡ fits same e (get_or ss k d ∷ drop (k + 1) ss) ls = h k le ∙ ap (λ (xs : List (Step L)). fits same e xs ls) split in
          let whole : fits same e (drop k ss) (a ∷ ls) ≡ takes same (get_or ss k d) a (fits same e (drop (k + 1) ss) ls) (fits same e (get_or ss k d ∷ drop (k + 1) ss) ls) = ap (λ (xs : List (Step L)). fits same e xs (a ∷ ls)) split in
          is k ∙ (ap (λ (b : Bool). b && takes same (get_or ss k d) a (bit w (k + 1)) (bit w k)) (lt-ltb _ _ lt)
          ∙ (ap (λ (b : Bool). takes same (get_or ss k d) a b (bit w k)) onward ∙ (ap (takes same (get_or ss k d) a (fits same e (drop (k + 1) ss) ls)) here ∙ sym whole)))

      outside : length ss ≤ k → bit r k ≡ fits same e (drop k ss) (a ∷ ls)
      outside ge =
          let none : fits same e (drop k ss) (a ∷ ls) ≡ false = ap (λ (xs : List (Step L)). fits same e xs (a ∷ ls)) (drop_all k ss ge) in
          is k ∙ (ap (λ (b : Bool). b && takes same (get_or ss k d) a (bit w (k + 1)) (bit w k)) (le-ltb _ _ ge) ∙ sym none)

  -- from no place on do the steps fit
  abbrev pub Nowhere : Ending → List (Step L) → List L → Type 0
  Nowhere e ss ls = (k : ℕ) → k ≤ length ss → fits same e (drop k ss) ls ≡ false

  pub none_nowhere : (e : Ending) (ss : List (Step L)) (ls : List L) → Reads same e ss ls 0 → Nowhere e ss ls
  none_nowhere e ss ls h k le = sym (h k le) ∙ bit_none k

  behind : (e : Ending) (s : Step L) (ss : List (Step L)) (ls : List L) → Nowhere e (s ∷ ss) ls → Nowhere e ss ls
  behind e s ss ls h k le = h (suc k) (omega arith)

  -- then no label in front can help
  pub nowhere_more : (e : Ending) (ss : List (Step L)) (ls more : List L) → Nowhere e ss ls → fits same e ss (more ++ ls) ≡ false
  nowhere_more e ss ls [] h = h 0 (omega arith)
  nowhere_more e [] ls (a ∷ more) h = refl
  nowhere_more e (s ∷ ss) ls (a ∷ more) h =
      let onward = nowhere_more e ss ls more (behind e s ss ls h) in
      let here = nowhere_more e (s ∷ ss) ls more h in
      ap (λ (b : Bool). takes same s a b (fits same e (s ∷ ss) (more ++ ls))) onward ∙ (ap (takes same s a false) here ∙ grind arith)
