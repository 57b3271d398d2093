-- The walk over all records: it visits them one by one in rising order, each once, and all of them.
use Rattle.std.proofs.Common.{◌≡◌, ℕ, ◌<◌, ◌≤◌, true, ltb, List, [], ◌∷◌, ◌++◌, length, Some, None, Option, refl, ap, ◌∙◌, arith}
use Rattle.std.proofs.lemmas.Bool.{and_parts}
use Rattle.std.proofs.lemmas.Bool.Decides.{nat_tests}
use Rattle.tree.specs.declared.record.Record.{Record}
use Rattle.tree.specs.Records.{over, rises, look, has, next_name, tagged, without}
use Rattle.tree.specs.Walk.{first_name, name_after, passed, visited, ahead}
use Rattle.tree.proofs.Members.{keep_length}
use Rattle.tree.proofs.Rising.{rises_parts, over_less, over_has}
use Rattle.tree.specs.Trees.{nodes, IsTree}
use Rattle.tree.proofs.Trees.{root_there}
use Rattle.tree.proofs.Next.{next_greater, next_has, next_tagged}
use Rattle.tree.proofs.Look.{has_look}

-- ── before it begins ──
pub visited_none : (rs : List Record) → visited None rs ≡ []
visited_none [] = refl
visited_none (x ∷ xs) = visited_none xs

pub ahead_none : (rs : List Record) → ahead None rs ≡ rs
ahead_none [] = refl
ahead_none (x ∷ xs) = ap (λ (rs : List Record). x ∷ rs) (ahead_none xs)

-- it begins at the root
pub first_is_root : (rs : List Record) → rises rs ≡ true → ∥ IsTree (nodes rs) ∥₁ → 0 < length rs → first_name rs ≡ Some 0
first_is_root [] u t h = absurd (omega arith)
first_is_root (x ∷ xs) u t h =
    let p = rises_parts x xs u in
    let z : has 0 (x ∷ xs) ≡ true = root_there x.name (x ∷ xs) t (grind (arith, nat_tests)) in
    let l : has 0 xs ≡ true → x.name < 0 = over_has x.name 0 xs p.0 in
    grind (arith, nat_tests)

-- ── where all names are greater ──
visited_over : (n : ℕ) (rs : List Record) → over n rs ≡ true → visited (Some n) rs ≡ []
visited_over n [] o = refl
visited_over n (x ∷ xs) o =
    let p = and_parts (ltb n x.name) (over n xs) o in
    let t : visited (Some n) xs ≡ [] = visited_over n xs p.1 in
    grind (arith, nat_tests)

ahead_over : (n : ℕ) (rs : List Record) → over n rs ≡ true → ahead (Some n) rs ≡ rs
ahead_over n [] o = refl
ahead_over n (x ∷ xs) o =
    let p = and_parts (ltb n x.name) (over n xs) o in
    let t : ahead (Some n) xs ≡ xs = ahead_over n xs p.1 in
    grind (arith, nat_tests)

-- ── at its end ──
pub ahead_end : (last : Option ℕ) (rs : List Record) → name_after last rs ≡ None → ahead last rs ≡ []
ahead_end None [] e = refl
ahead_end None (x ∷ xs) e = grind arith
ahead_end (Some n) [] e = refl
ahead_end (Some n) (x ∷ xs) e = let t : next_name n xs ≡ None → ahead (Some n) xs ≡ [] = ahead_end (Some n) xs in grind (arith, nat_tests)

pub visited_end : (last : Option ℕ) (rs : List Record) → name_after last rs ≡ None → visited last rs ≡ rs
visited_end None [] e = refl
visited_end None (x ∷ xs) e = grind arith
visited_end (Some n) [] e = refl
visited_end (Some n) (x ∷ xs) e = let t : next_name n xs ≡ None → visited (Some n) xs ≡ xs = visited_end (Some n) xs in grind (arith, nat_tests)

-- ── one step ──
pub after_has : (last : Option ℕ) (k : ℕ) (rs : List Record) → name_after last rs ≡ Some k → has k rs ≡ true
after_has None k [] e = grind arith
after_has None k (x ∷ xs) e = grind (arith, nat_tests)
after_has (Some n) k rs e = next_has n k rs e

pub ahead_step : (last : Option ℕ) (k : ℕ) (r : Record) (rs : List Record) → rises rs ≡ true → name_after last rs ≡ Some k → look k rs ≡ Some r → ahead last rs ≡ r ∷ ahead (Some k) rs
ahead_step None k r [] u e f = grind arith
ahead_step None k r (x ∷ xs) u e f =
    let p = rises_parts x xs u in
    let a : ahead None xs ≡ xs = ahead_none xs in
    let b : ahead (Some x.name) xs ≡ xs = ahead_over x.name xs p.0 in
    grind (arith, nat_tests)
ahead_step (Some n) k r [] u e f = grind arith
ahead_step (Some n) k r (x ∷ xs) u e f =
    let p = rises_parts x xs u in
    let t : next_name n xs ≡ Some k → look k xs ≡ Some r → ahead (Some n) xs ≡ r ∷ ahead (Some k) xs = ahead_step (Some n) k r xs p.1 in
    let g : next_name n xs ≡ Some k → n < k = next_greater n k xs in
    let a : n < x.name → ahead (Some n) xs ≡ xs = λ lt. ahead_over n xs (over_less n x.name xs (omega arith) p.0) in
    let b : ahead (Some x.name) xs ≡ xs = ahead_over x.name xs p.0 in
    grind (arith, nat_tests)

pub visited_step : (last : Option ℕ) (k : ℕ) (r : Record) (rs : List Record) → rises rs ≡ true → name_after last rs ≡ Some k → look k rs ≡ Some r → visited (Some k) rs ≡ visited last rs ++ (r ∷ [])
visited_step None k r [] u e f = grind arith
visited_step None k r (x ∷ xs) u e f =
    let p = rises_parts x xs u in
    let a : visited None xs ≡ [] = visited_none xs in
    let b : visited (Some x.name) xs ≡ [] = visited_over x.name xs p.0 in
    grind (arith, nat_tests)
visited_step (Some n) k r [] u e f = grind arith
visited_step (Some n) k r (x ∷ xs) u e f =
    let p = rises_parts x xs u in
    let t : next_name n xs ≡ Some k → look k xs ≡ Some r → visited (Some k) xs ≡ visited (Some n) xs ++ (r ∷ []) = visited_step (Some n) k r xs p.1 in
    let g : next_name n xs ≡ Some k → n < k = next_greater n k xs in
    let a : n < x.name → visited (Some n) xs ≡ [] = λ lt. visited_over n xs (over_less n x.name xs (omega arith) p.0) in
    let b : visited (Some x.name) xs ≡ [] = visited_over x.name xs p.0 in
    grind (arith, nat_tests)

-- the measure of a loop that walks
pub ahead_falls : (last : Option ℕ) (k : ℕ) (rs : List Record) → rises rs ≡ true → name_after last rs ≡ Some k → length (ahead (Some k) rs) < length (ahead last rs)
ahead_falls last k rs u e =
    let r = has_look k rs (after_has last k rs e) in
    let s = ap (length {A = Record}) (ahead_step last k r.0 rs u e r.1) in
    omega arith

-- a tag on what is passed leaves what is ahead
pub ahead_tagged : (n k m w : ℕ) (rs : List Record) → k ≤ n → ahead (Some n) (tagged k m w rs) ≡ ahead (Some n) rs
ahead_tagged n k m w [] h = refl
ahead_tagged n k m w (x ∷ xs) h = let t : ahead (Some n) (tagged k m w xs) ≡ ahead (Some n) xs = ahead_tagged n k m w xs h in grind (arith, nat_tests)

-- nor does taking out what is passed change it
pub ahead_without : (n k : ℕ) (rs : List Record) → k ≤ n → ahead (Some n) (without k rs) ≡ ahead (Some n) rs
ahead_without n k [] h = refl
ahead_without n k (x ∷ xs) h = let t : ahead (Some n) (without k xs) ≡ ahead (Some n) xs = ahead_without n k xs h in grind (arith, nat_tests)

pub after_tagged : (last : Option ℕ) (k m w : ℕ) (rs : List Record) → name_after last (tagged k m w rs) ≡ name_after last rs
after_tagged None k m w [] = refl
after_tagged None k m w (x ∷ xs) = grind (arith, nat_tests)
after_tagged (Some n) k m w rs = next_tagged n k m w rs

-- ── as a whole ──
pub visited_bound : (last : Option ℕ) (rs : List Record) → length (visited last rs) ≤ length rs
visited_bound last rs = keep_length (passed last) rs

pub visited_ahead : (last : Option ℕ) (rs : List Record) → rises rs ≡ true → visited last rs ++ ahead last rs ≡ rs
visited_ahead None rs u = ap (λ (vs : List Record). vs ++ ahead None rs) (visited_none rs) ∙ ahead_none rs
visited_ahead (Some n) [] u = refl
visited_ahead (Some n) (x ∷ xs) u =
    let p = rises_parts x xs u in
    let t : visited (Some n) xs ++ ahead (Some n) xs ≡ xs = visited_ahead (Some n) xs p.1 in
    let a : n < x.name → ahead (Some n) xs ≡ xs = λ lt. ahead_over n xs (over_less n x.name xs (omega arith) p.0) in
    let b : n < x.name → visited (Some n) xs ≡ [] = λ lt. visited_over n xs (over_less n x.name xs (omega arith) p.0) in
    grind (arith, nat_tests)
