-- A record's seat in a rising list: what stands there, and each change as a change at that place.
use Rattle.std.proofs.Common.{◌≡◌, ℕ, zero, suc, ◌+◌, ◌<◌, ◌≤◌, true, false, cond, eqb, List, [], ◌∷◌, length, get_or, set, Some, None, refl, arith}
use Rattle.std.proofs.lemmas.Bool.Decides.{nat_tests}
use Rattle.tree.specs.declared.record.Record.{Record}
use Rattle.std.specs.List.{insert, remove}
use Rattle.tree.specs.Records.{over, rises, look, has, next_name, placed, tagged, without, with_tag, seat}
use Rattle.tree.proofs.Look.{without_absent, tagged_absent}
use Rattle.tree.proofs.Rising.{over_less, over_absent, over_at, rises_parts}

-- ── where the seat is ──
pub seat_bound : (n : ℕ) (rs : List Record) → seat n rs ≤ length rs
seat_bound n [] = omega arith
seat_bound n (x ∷ xs) = let h = seat_bound n xs in grind (arith, nat_tests)

-- a lesser name stands before the seat
pub seat_after : (n : ℕ) (rs : List Record) (i : ℕ) (d : Record) → rises rs ≡ true → i < length rs → (get_or rs i d).name < n → i < seat n rs
seat_after n [] i d r h l = absurd (omega arith)
seat_after n (x ∷ xs) zero d r h l = grind (arith, nat_tests)
seat_after n (x ∷ xs) (suc i) d r h l =
    let p = rises_parts x xs r in
    let a = over_at x.name xs i d p.0 (omega arith) in
    let t = seat_after n xs i d p.1 (omega arith) l in
    grind (arith, nat_tests)

-- a name that is not less stands at the seat or after it
pub seat_upto : (n : ℕ) (rs : List Record) (i : ℕ) (d : Record) → i < length rs → n ≤ (get_or rs i d).name → seat n rs ≤ i
seat_upto n [] i d h l = absurd (omega arith)
seat_upto n (x ∷ xs) zero d h l = grind (arith, nat_tests)
seat_upto n (x ∷ xs) (suc i) d h l = let t = seat_upto n xs i d (omega arith) l in grind (arith, nat_tests)

pub seat_has : (n : ℕ) (rs : List Record) → has n rs ≡ true → rises rs ≡ true → seat n rs < length rs
seat_has n [] f r = grind (arith, nat_tests)
seat_has n (x ∷ xs) f r =
    let p = rises_parts x xs r in
    let t : has n xs ≡ true → seat n xs < length xs = λ g. seat_has n xs g p.1 in
    grind (arith, nat_tests)

seat_under : (n : ℕ) (rs : List Record) → over n rs ≡ true → seat (n + 1) rs ≡ 0
seat_under n [] o = refl
seat_under n (x ∷ xs) o = grind (arith, nat_tests)

-- the seat of the next number: one on where the name is there, so that one search for a seat serves both questions
pub seat_above : (n : ℕ) (rs : List Record) → rises rs ≡ true → seat (n + 1) rs ≡ cond (has n rs) (suc (seat n rs)) (seat n rs)
seat_above n [] r = refl
seat_above n (x ∷ xs) r =
    let p = rises_parts x xs r in
    let t : seat (n + 1) xs ≡ cond (has n xs) (suc (seat n xs)) (seat n xs) = seat_above n xs p.1 in
    let u : over n xs ≡ true → has n xs ≡ false = over_absent n xs in
    let v : n ≤ x.name → over n xs ≡ true = λ le. over_less n x.name xs le p.0 in
    let z : over n xs ≡ true → seat (n + 1) xs ≡ 0 = seat_under n xs in
    grind (arith, nat_tests)

-- ── what stands there ──
pub look_at_seat : (n : ℕ) (rs : List Record) (d : Record) → rises rs ≡ true → seat n rs < length rs → look n rs ≡ cond (eqb (get_or rs (seat n rs) d).name n) (Some (get_or rs (seat n rs) d)) None
look_at_seat n [] d r h = absurd (omega arith)
look_at_seat n (x ∷ xs) d r h =
    let p = rises_parts x xs r in
    let t : seat n xs < length xs → look n xs ≡ cond (eqb (get_or xs (seat n xs) d).name n) (Some (get_or xs (seat n xs) d)) None = look_at_seat n xs d p.1 in
    let u : over n xs ≡ true → has n xs ≡ false = over_absent n xs in
    let v : n ≤ x.name → over n xs ≡ true = λ le. over_less n x.name xs le p.0 in
    grind (arith, nat_tests)

pub look_past_seat : (n : ℕ) (rs : List Record) → length rs ≤ seat n rs → look n rs ≡ None
look_past_seat n [] h = refl
look_past_seat n (x ∷ xs) h = let t = look_past_seat n xs in grind (arith, nat_tests)

pub next_at_seat : (n : ℕ) (rs : List Record) (d : Record) → seat (n + 1) rs < length rs → next_name n rs ≡ Some (get_or rs (seat (n + 1) rs) d).name
next_at_seat n [] d h = absurd (omega arith)
next_at_seat n (x ∷ xs) d h =
    let t : seat (n + 1) xs < length xs → next_name n xs ≡ Some (get_or xs (seat (n + 1) xs) d).name = next_at_seat n xs d in
    grind (arith, nat_tests)

pub next_past_seat : (n : ℕ) (rs : List Record) → length rs ≤ seat (n + 1) rs → next_name n rs ≡ None
next_past_seat n [] h = refl
next_past_seat n (x ∷ xs) h = let t = next_past_seat n xs in grind (arith, nat_tests)

-- ── changes at the seat ──
pub placed_at_seat : (r : Record) (rs : List Record) → placed r rs ≡ insert rs (seat r.name rs) r
placed_at_seat r [] = refl
placed_at_seat r (x ∷ xs) = let t = placed_at_seat r xs in grind (arith, nat_tests)

pub without_at_seat : (n : ℕ) (rs : List Record) → rises rs ≡ true → has n rs ≡ true → without n rs ≡ remove rs (seat n rs)
without_at_seat n [] r f = grind (arith, nat_tests)
without_at_seat n (x ∷ xs) r f =
    let p = rises_parts x xs r in
    let t : has n xs ≡ true → without n xs ≡ remove xs (seat n xs) = without_at_seat n xs p.1 in
    let a : has n xs ≡ false → without n xs ≡ xs = without_absent n xs in
    let u : over n xs ≡ true → has n xs ≡ false = over_absent n xs in
    let v : n ≤ x.name → over n xs ≡ true = λ le. over_less n x.name xs le p.0 in
    grind (arith, nat_tests)

pub tagged_at_seat : (n m w : ℕ) (rs : List Record) (d : Record) → rises rs ≡ true → seat n rs < length rs → (get_or rs (seat n rs) d).name ≡ n → tagged n m w rs ≡ set rs (seat n rs) (with_tag m w (get_or rs (seat n rs) d))
tagged_at_seat n m w [] d r h e = absurd (omega arith)
tagged_at_seat n m w (x ∷ xs) d r h e =
    let p = rises_parts x xs r in
    let t : seat n xs < length xs → (get_or xs (seat n xs) d).name ≡ n → tagged n m w xs ≡ set xs (seat n xs) (with_tag m w (get_or xs (seat n xs) d)) = tagged_at_seat n m w xs d p.1 in
    let a : has n xs ≡ false → tagged n m w xs ≡ xs = tagged_absent n m w xs in
    let u : over n xs ≡ true → has n xs ≡ false = over_absent n xs in
    let v : n ≤ x.name → over n xs ≡ true = λ le. over_less n x.name xs le p.0 in
    grind (arith, nat_tests)
