-- The least name greater than a given one: it is there, it is greater, and no other stands between.
use Rattle.std.proofs.Common.{◌≡◌, ℕ, ◌<◌, ◌≤◌, true, List, [], ◌∷◌, Some, None, Option, refl, ap, ◌∙◌, arith}
use Rattle.std.proofs.lemmas.Bool.Decides.{nat_tests}
use Rattle.tree.specs.declared.record.Record.{Record}
use Rattle.tree.specs.Records.{rises, has, next_name, tagged}
use Rattle.tree.proofs.Rising.{rises_parts, over_has}

pub next_greater : (n k : ℕ) (rs : List Record) → next_name n rs ≡ Some k → n < k
next_greater n k [] e = grind arith
next_greater n k (x ∷ xs) e = let t : next_name n xs ≡ Some k → n < k = next_greater n k xs in grind (arith, nat_tests)

pub next_has : (n k : ℕ) (rs : List Record) → next_name n rs ≡ Some k → has k rs ≡ true
next_has n k [] e = grind arith
next_has n k (x ∷ xs) e = let t : next_name n xs ≡ Some k → has k xs ≡ true = next_has n k xs in grind (arith, nat_tests)

pub next_least : (n k j : ℕ) (rs : List Record) → rises rs ≡ true → next_name n rs ≡ Some k → n < j → has j rs ≡ true → k ≤ j
next_least n k j [] r e l h = grind arith
next_least n k j (x ∷ xs) r e l h =
    let p = rises_parts x xs r in
    let t : next_name n xs ≡ Some k → has j xs ≡ true → k ≤ j = λ f g. next_least n k j xs p.1 f l g in
    let u : has j xs ≡ true → x.name < j = over_has x.name j xs p.0 in
    grind (arith, nat_tests)

pub none_greater : (n j : ℕ) (rs : List Record) → next_name n rs ≡ None → has j rs ≡ true → j ≤ n
none_greater n j [] e h = grind arith
none_greater n j (x ∷ xs) e h = let t : next_name n xs ≡ None → has j xs ≡ true → j ≤ n = none_greater n j xs in grind (arith, nat_tests)

-- so it is known by these
pub next_is : (n k : ℕ) (rs : List Record) → rises rs ≡ true → n < k → has k rs ≡ true → ((j : ℕ) → n < j → has j rs ≡ true → k ≤ j) → next_name n rs ≡ Some k
next_is n k rs r l h least = go (next_name n rs) refl
  where
    go : (o : Option ℕ) → next_name n rs ≡ o → next_name n rs ≡ Some k
    go None e = let b = none_greater n k rs e h in absurd (omega arith)
    go (Some i) e =
        let a = next_least n i k rs r e l h in
        let b = least i (next_greater n i rs e) (next_has n i rs e) in
        e ∙ ap (λ (m : ℕ). Some m) (omega arith)

pub next_none : (n : ℕ) (rs : List Record) → ((j : ℕ) → has j rs ≡ true → j ≤ n) → next_name n rs ≡ None
next_none n rs all = go (next_name n rs) refl
  where
    go : (o : Option ℕ) → next_name n rs ≡ o → next_name n rs ≡ None
    go None e = e
    go (Some i) e =
        let a = next_greater n i rs e in
        let b = all i (next_has n i rs e) in
        absurd (omega arith)

pub next_tagged : (n k m w : ℕ) (rs : List Record) → next_name n (tagged k m w rs) ≡ next_name n rs
next_tagged n k m w [] = refl
next_tagged n k m w (x ∷ xs) = let t : next_name n (tagged k m w xs) ≡ next_name n xs = next_tagged n k m w xs in grind (arith, nat_tests)
