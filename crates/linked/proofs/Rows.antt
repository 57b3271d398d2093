-- The rows of a linked store: its invariant as the laws of a store, and what a name that is found or missed tells of the rows.
use Rattle.std.proofs.Common.{◌≡◌, ℕ, zero, suc, ◌+◌, ◌<◌, ◌≤◌, true, false, leb, List, [], ◌∷◌, length, get_or, Result, Ok, Err, vec_items, sym, ap, subst, arith}
use Rattle.std.specs.List.{AllWithin}
use Rattle.std.specs.List.Sorted.{IsSearchInRange, IsBinarySearchResult, IsNonDecreasingBy, IsPartitionedBy, IsPartitionPoint}
use Rattle.std.specs.Ordering.{nat_cmp}
use Rattle.std.proofs.lemmas.Bool.{leb-true, leb-false}
use Rattle.std.proofs.lemmas.Bool.Decides.{nat_tests}
use Rattle.std.proofs.lemmas.Cmp.{ranked}
use Rattle.std.proofs.lemmas.List.Sorted.{IsPartitionedBy-leb}
use Rattle.tree.specs.declared.record.Record.{Record}
use Rattle.tree.specs.Stores.{Meaning}
use Rattle.tree.specs.Records.{rises, has, seat, fresh}
use Rattle.tree.proofs.Look.{has_at}
use Rattle.tree.proofs.Rising.{over_at, rises_parts}
use Rattle.tree.proofs.Seats.{seat_bound, seat_has, seat_after, seat_upto, look_at_seat, look_past_seat}
use Rattle.tree.proofs.Kept.{Sound}
use Rattle.linked.specs.declared.Linked.{Linked}
use Rattle.linked.specs.Seats.{found}

-- what a store with this limit means, by its rows
abbrev pub with_limit : ℕ → List Record → Meaning
with_limit most rs = record { records = rs; most = most }

pub rows_sound : (s : Linked) → Sound s.limit (vec_items s.rows)
rows_sound s =
    let e = s.rows.ok.0 in
    record { rising = s.rising; tree = s.tree; labels = s.labels; within = omega arith }

pub found_there : (n i : ℕ) (rs : List Record) → rises rs ≡ true → Ok i ≡ found n rs → (has n rs ≡ true) × (i ≡ seat n rs) × (seat n rs < length rs)
found_there n i rs r e = let h : has n rs ≡ true = grind arith in (h, grind arith, seat_has n rs h r)

pub found_absent : (n i : ℕ) (rs : List Record) → Err i ≡ found n rs → (has n rs ≡ false) × (i ≡ seat n rs)
found_absent n i rs e = (grind arith, grind arith)

-- ── what a search among rising names finds ──
names_rise : (rs : List Record) (i j : ℕ) (d : Record) → rises rs ≡ true → i < j → j < length rs → (get_or rs i d).name < (get_or rs j d).name
names_rise [] i j d r h l = absurd (omega arith)
names_rise (x ∷ xs) i zero d r h l = absurd (omega arith)
names_rise (x ∷ xs) zero (suc j) d r h l = over_at x.name xs j d (rises_parts x xs r).0 (omega arith)
names_rise (x ∷ xs) (suc i) (suc j) d r h l = names_rise xs i j d (rises_parts x xs r).1 (omega arith) (omega arith)

names_ordered : (rs : List Record) → rises rs ≡ true → IsNonDecreasingBy (λ y. y.name) rs
names_ordered rs r i j d le l = grind (arith, names_rise rs i j d r, λ (e : i ≡ j). ap (λ (k : ℕ). (get_or rs k d).name) e)

-- the place between the lesser names and the others
seat_is : (n i : ℕ) (rs : List Record) → rises rs ≡ true → i ≤ length rs → IsPartitionPoint (λ y. y.name < n) (λ y. n ≤ y.name) rs i → i ≡ seat n rs
seat_is n i rs r b parted =
    let d = fresh 0 0 0 in
    let s = seat_bound n rs in
    let low : i < seat n rs → seat n rs ≤ i = λ lt. seat_upto n rs i d (omega arith) (parted.1 i d (omega arith) (omega arith)) in
    let high : seat n rs < i → seat n rs < seat n rs = λ lt. seat_after n rs (seat n rs) d r (omega arith) (parted.0 (seat n rs) d (omega arith) lt) in
    grind arith

pub searched : (n : ℕ) (rs : List Record) → rises rs ≡ true → (o : Result ℕ ℕ) → IsSearchInRange o (length rs) → IsBinarySearchResult (λ y. nat_cmp y.name n) rs o → o ≡ found n rs
searched n rs r (Ok i) b equal =
    let d = fresh 0 0 0 in
    let at : (e : Record) → (get_or rs i e).name ≡ n = λ e. ranked _ n _ (sym (equal e)) in
    let h : has n rs ≡ true = subst (λ (k : ℕ). has k rs ≡ true) (at d) (has_at rs i d b) in
    let before : AllWithin (λ y. y.name < n) rs 0 i = λ k e z l. (let t = names_rise rs k i e r l b in let u = at e in omega arith) in
    let behind : AllWithin (λ y. n ≤ y.name) rs i (length rs) = λ k e le l. (let t = names_ordered rs r i k e le l in let u = at e in omega arith) in
    let s : i ≡ seat n rs = seat_is n i rs r (omega arith) (before, behind) in
    grind arith
searched n rs r (Err i) b parted =
    let d = fresh 0 0 0 in
    let p = parted (λ j k e le l. (let t = names_ordered rs r j k e le l in grind (arith, nat_tests))) in
    let before : AllWithin (λ y. y.name < n) rs 0 i = λ k e z l. ranked _ n _ (sym (p.0 k e z l)) in
    let behind : AllWithin (λ y. n < y.name) rs i (length rs) = λ k e le l. ranked _ n _ (sym (p.1 k e le l)) in
    let s : i ≡ seat n rs = seat_is n i rs r b (before, λ k e le l. (let t = behind k e le l in omega arith)) in
    let t : seat n rs < length rs → n < (get_or rs (seat n rs) d).name = λ l. behind (seat n rs) d (omega arith) l in
    let u = look_at_seat n rs d r in
    let v = look_past_seat n rs in
    grind (arith, nat_tests)

-- a rising list has the names up to n in front
pub upto_parts : (n : ℕ) (rs : List Record) → rises rs ≡ true → IsPartitionedBy (λ y. leb y.name n) rs
upto_parts n rs r = IsPartitionedBy-leb (λ y. y.name) rs n (names_ordered rs r)

pub passed : (n i : ℕ) (rs : List Record) → rises rs ≡ true → i ≤ length rs → IsPartitionPoint (λ y. leb y.name n ≡ true) (λ y. leb y.name n ≡ false) rs i → i ≡ seat (n + 1) rs
passed n i rs r b p =
    seat_is (n + 1) i rs r b
    (λ k e z l. (let t = leb-true _ n (p.0 k e z l) in omega arith), λ k e le l. (let t = leb-false _ n (p.1 k e le l) in omega arith))
