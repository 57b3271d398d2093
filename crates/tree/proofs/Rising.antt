-- Lists of records that rise by name: they stay so under each change, and are known by what is found in them.
use Rattle.std.proofs.Common.{◌≡◌, ℕ, zero, suc, ◌<◌, ◌≤◌, true, false, ltb, List, [], ◌∷◌, length, get_or, is_some, None, refl, ap, ◌∙◌, arith}
use Rattle.std.proofs.lemmas.Bool.{and_parts, not-true}
use Rattle.std.proofs.lemmas.Bool.Decides.{nat_tests}
use Rattle.tree.specs.declared.record.Record.{Record}
use Rattle.tree.specs.Records.{over, rises, look, has, distinct, placed, tagged, without, sorted}
use Rattle.tree.proofs.Look.{look_sorted}

-- ── names greater than a given one ──
over_rest : (n : ℕ) (x : Record) (xs : List Record) → over n (x ∷ xs) ≡ true → over n xs ≡ true
over_rest n x xs o = (and_parts (ltb n x.name) (over n xs) o).1

pub over_less : (m n : ℕ) (rs : List Record) → m ≤ n → over n rs ≡ true → over m rs ≡ true
over_less m n [] h o = refl
over_less m n (x ∷ xs) h o = let t : over m xs ≡ true = over_less m n xs h (over_rest n x xs o) in grind (arith, nat_tests)

pub over_absent : (n : ℕ) (rs : List Record) → over n rs ≡ true → has n rs ≡ false
over_absent n [] o = refl
over_absent n (x ∷ xs) o = let t : has n xs ≡ false = over_absent n xs (over_rest n x xs o) in grind (arith, nat_tests)

pub over_has : (n k : ℕ) (rs : List Record) → over n rs ≡ true → has k rs ≡ true → n < k
over_has n k [] o h = grind arith
over_has n k (x ∷ xs) o h = let t : has k xs ≡ true → n < k = over_has n k xs (over_rest n x xs o) in grind (arith, nat_tests)

pub over_at : (n : ℕ) (rs : List Record) (i : ℕ) (d : Record) → over n rs ≡ true → i < length rs → n < (get_or rs i d).name
over_at n [] i d o h = absurd (omega arith)
over_at n (x ∷ xs) zero d o h = grind (arith, nat_tests)
over_at n (x ∷ xs) (suc i) d o h = over_at n xs i d (over_rest n x xs o) (omega arith)

over_placed : (n : ℕ) (r : Record) (rs : List Record) → n < r.name → over n rs ≡ true → over n (placed r rs) ≡ true
over_placed n r [] h o = grind (arith, nat_tests)
over_placed n r (x ∷ xs) h o = let t : over n (placed r xs) ≡ true = over_placed n r xs h (over_rest n x xs o) in grind (arith, nat_tests)

over_without : (n k : ℕ) (rs : List Record) → over n rs ≡ true → over n (without k rs) ≡ true
over_without n k [] o = refl
over_without n k (x ∷ xs) o = let t : over n (without k xs) ≡ true = over_without n k xs (over_rest n x xs o) in grind (arith, nat_tests)

over_tagged : (n k m w : ℕ) (rs : List Record) → over n (tagged k m w rs) ≡ over n rs
over_tagged n k m w [] = refl
over_tagged n k m w (x ∷ xs) = let t : over n (tagged k m w xs) ≡ over n xs = over_tagged n k m w xs in grind (arith, nat_tests)

-- ── rising ──
pub rises_parts : (x : Record) (xs : List Record) → rises (x ∷ xs) ≡ true → (over x.name xs ≡ true) × (rises xs ≡ true)
rises_parts x xs r = and_parts (over x.name xs) (rises xs) r

pub rises_distinct : (rs : List Record) → rises rs ≡ true → distinct rs ≡ true
rises_distinct [] r = refl
rises_distinct (x ∷ xs) r =
    let p = rises_parts x xs r in
    let t : distinct xs ≡ true = rises_distinct xs p.1 in
    let u : has x.name xs ≡ false = over_absent x.name xs p.0 in
    grind (arith, nat_tests)

pub rises_placed : (r : Record) (rs : List Record) → rises rs ≡ true → has r.name rs ≡ false → rises (placed r rs) ≡ true
rises_placed r [] h f = refl
rises_placed r (x ∷ xs) h f =
    let p = rises_parts x xs h in
    let t : has r.name xs ≡ false → rises (placed r xs) ≡ true = rises_placed r xs p.1 in
    let u : x.name < r.name → over x.name (placed r xs) ≡ true = λ lt. over_placed x.name r xs lt p.0 in
    let v : r.name ≤ x.name → over r.name xs ≡ true = λ le. over_less r.name x.name xs le p.0 in
    grind (arith, nat_tests)

pub rises_without : (n : ℕ) (rs : List Record) → rises rs ≡ true → rises (without n rs) ≡ true
rises_without n [] r = refl
rises_without n (x ∷ xs) r =
    let p = rises_parts x xs r in
    let t : rises (without n xs) ≡ true = rises_without n xs p.1 in
    let u : over x.name (without n xs) ≡ true = over_without x.name n xs p.0 in
    grind (arith, nat_tests)

pub rises_tagged : (n m w : ℕ) (rs : List Record) → rises (tagged n m w rs) ≡ rises rs
rises_tagged n m w [] = refl
rises_tagged n m w (x ∷ xs) =
    let t : rises (tagged n m w xs) ≡ rises xs = rises_tagged n m w xs in
    let u : over x.name (tagged n m w xs) ≡ over x.name xs = over_tagged x.name n m w xs in
    grind (arith, nat_tests)

pub rises_sorted : (rs : List Record) → distinct rs ≡ true → rises (sorted rs) ≡ true
rises_sorted [] d = refl
rises_sorted (r ∷ rs) d =
    let p = and_parts _ _ d in
    rises_placed r (sorted rs) (rises_sorted rs p.1) (ap is_some (look_sorted r.name rs) ∙ not-true _ p.0)

-- ── known by what is found ──
-- the first records of two rising lists in which the same is found
same_first : (x y : Record) (xs ys : List Record) → over x.name xs ≡ true → over y.name ys ≡ true → ((n : ℕ) → look n (x ∷ xs) ≡ look n (y ∷ ys)) → x ≡ y
same_first x y xs ys a b h =
    let p = h x.name in
    let q = h y.name in
    let u : x.name < y.name → look x.name ys ≡ None = λ lt. absent_under x.name y.name ys b lt in
    let v : y.name < x.name → look y.name xs ≡ None = λ lt. absent_under y.name x.name xs a lt in
    grind (arith, nat_tests)
  where
    absent_under : (m n : ℕ) (rs : List Record) → over n rs ≡ true → m < n → look m rs ≡ None
    absent_under m n rs o lt = let t : has m rs ≡ false = over_absent m rs (over_less m n rs (omega arith) o) in grind arith

pub same_look : (xs ys : List Record) → rises xs ≡ true → rises ys ≡ true → ((n : ℕ) → look n xs ≡ look n ys) → xs ≡ ys
same_look [] [] a b h = refl
same_look [] (y ∷ ys) a b h = let p = h y.name in grind (arith, nat_tests)
same_look (x ∷ xs) [] a b h = let p = h x.name in grind (arith, nat_tests)
same_look (x ∷ xs) (y ∷ ys) a b h =
    let p = rises_parts x xs a in
    let q = rises_parts y ys b in
    let e : x ≡ y = same_first x y xs ys p.0 q.0 h in
    let en : x.name ≡ y.name = ap (λ (r : Record). r.name) e in
    let u : has x.name xs ≡ false = over_absent x.name xs p.0 in
    let v : has y.name ys ≡ false = over_absent y.name ys q.0 in
    let t : xs ≡ ys = same_look xs ys p.1 q.1 (λ n. let hn = h n in grind (arith, nat_tests)) in
    cc
