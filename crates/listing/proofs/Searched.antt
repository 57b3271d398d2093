-- What the library's searches tell of rows: the first with a name, the last at a depth, the least name above.
use Rattle.std.proofs.Common.{◌≡◌, ℕ, suc, ◌<◌, true, false, cond, min, eqb, ltb, ◌≢◌, List, [], ◌∷◌, map, length, Some, None, Option, refl, ap, sym, ◌∙◌, arith}
use mathlib.Core.List.{reverse}
use Rattle.std.specs.List.{AllWithin, HoldsAt, find, filter, fold, reduce}
use Rattle.std.specs.Option.{MatchOption, option_or}
use Rattle.std.proofs.lemmas.Bool.Decides.{nat_tests}
use Rattle.std.proofs.lemmas.List.Folds.{find-append}
use Rattle.std.proofs.lemmas.List.{reverse-append}
use Rattle.tree.specs.Records.{has, next_name, distinct}
use Rattle.tree.proofs.Sorting.{nearer, nearest, next_sorted}
use Rattle.listing.specs.declared.row.Row.{Row}
use Rattle.listing.specs.Rows.{noted, path_on, records_on, listed, records_of, Found}

absent : (n : ℕ) (path : ℕ → ℕ) (rows : List Row) → AllWithin (λ y. y.name ≢ n) rows 0 (length rows) → has n (records_on path rows) ≡ false
absent n path [] a = refl
absent n path (r ∷ rs) a =
    let ne : r.name ≢ n = a 0 r (omega arith) (omega arith) in
    let t : has n (records_on (noted path r) rs) ≡ false = absent n (noted path r) rs (λ k d z l. a (suc k) d (omega arith) (omega arith)) in
    grind (arith, nat_tests)

pub found_first : (rows : List Row) (n : ℕ) (o : Option ℕ) → MatchOption o (AllWithin (λ y. y.name ≢ n) rows 0 (length rows)) (λ i. (i < length rows) × HoldsAt (λ y. y.name ≡ n) rows i × AllWithin (λ y. y.name ≢ n) rows 0 i) → Found rows n o
found_first rows n None a = absent n (λ _. 0) rows a
found_first rows n (Some i) f = (f.0, f.1)

-- the name of the row that was found, or this one where there is none
abbrev pub name_or : ℕ → Option Row → ℕ
name_or k None = k
name_or k (Some r) = r.name

back : (path : ℕ → ℕ) (r : Row) (d : ℕ) (o : Option Row) → name_or (noted path r d) o ≡ name_or (path d) (option_or o (cond (eqb r.depth d) (Some r) None))
back path r d None = grind (arith, nat_tests)
back path r d (Some x) = refl

pub path_found : (path : ℕ → ℕ) (rows : List Row) (d : ℕ) → path_on path rows d ≡ name_or (path d) (find (λ r. eqb r.depth d) (reverse rows))
path_found path [] d = refl
path_found path (r ∷ rs) d =
    path_found (noted path r) rs d
    ∙ back path r d (find (λ x. eqb x.depth d) (reverse rs))
    ∙ ap (name_or (path d)) (sym (ap (find (λ x. eqb x.depth d)) (reverse-append (r ∷ []) rs) ∙ find-append (λ x. eqb x.depth d) (reverse rs) (r ∷ [])))

fold_min : (k j : ℕ) (ks : List ℕ) → fold min (min k j) ks ≡ min k (fold min j ks)
fold_min k j [] = refl
fold_min k j (i ∷ is) = ap (λ (m : ℕ). fold min m is) (omega arith) ∙ fold_min k (min j i) is

-- one more name
nearer_least : (n k : ℕ) (ks : List ℕ) → nearer n k (reduce min ks) ≡ reduce min (cond (ltb n k) (k ∷ ks) ks)
nearer_least n k [] = grind (arith, nat_tests)
nearer_least n k (j ∷ js) = let t = fold_min k j js in grind (arith, nat_tests)

least_over : (n : ℕ) (path : ℕ → ℕ) (rows : List Row) → nearest n (records_on path rows) ≡ reduce min (filter (ltb n) (map (λ r. r.name) rows))
least_over n path [] = refl
least_over n path (r ∷ rs) = ap (nearer n r.name) (least_over n (noted path r) rs) ∙ nearer_least n r.name (filter (ltb n) (map (λ x. x.name) rs))

pub next_least : (n : ℕ) (rows : List Row) → distinct (listed rows) ≡ true → next_name n (records_of rows) ≡ reduce min (filter (ltb n) (map (λ r. r.name) rows))
next_least n rows apart = next_sorted n (listed rows) apart ∙ least_over n (λ _. 0) rows
