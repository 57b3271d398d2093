-- The first row of refusals that applies.
use Rattle.std.proofs.Common.{◌≡◌, ℕ, Bool, true, false, [], ◌∷◌, ◌++◌, Some, None, Option, sym, refl, ap, arith}
use Rattle.std.proofs.lemmas.Bool.{cond-true, cond-false}
use Rattle.model.specs.Rules.{Answer}
use Rattle.model.specs.Scheduler.{Model}
use Rattle.model.specs.Refusals.{Rows, first_row}
use Rattle.model.specs.Calls.{given, judge}

pub row_here : (b : Bool) (k : ℕ) (rows : Rows) → b ≡ true → first_row ((b, k) ∷ rows) ≡ Some k
row_here b k rows e = cond-true b (Some k) (first_row rows) e

pub row_past : (b : Bool) (k : ℕ) (rows : Rows) → b ≡ false → first_row ((b, k) ∷ rows) ≡ first_row rows
row_past b k rows e = cond-false b (Some k) (first_row rows) e

none_some : (k : ℕ) → None ≡ Some k → ⊥
none_some k e = let z : ◌≡◌ {A = ℕ} 0 1 = cc in omega arith

pub rows_past : (rows more : Rows) → first_row rows ≡ None → first_row (rows ++ more) ≡ first_row more
rows_past [] more e = refl
rows_past ((true, k) ∷ rows) more e = absurd (none_some k (sym e))
rows_past ((false, k) ∷ rows) more e = rows_past rows more e

pub rows_here : (rows more : Rows) (k : ℕ) → first_row rows ≡ Some k → first_row (rows ++ more) ≡ Some k
rows_here [] more k e = absurd (none_some k e)
rows_here ((true, j) ∷ rows) more k e = e
rows_here ((false, j) ∷ rows) more k e = rows_here rows more k e

-- each test of the rows fails
abbrev pub Passed : Rows → Type 0
Passed [] = Unit {0}
Passed ((applies, number) ∷ rows) = (applies ≡ false) × Passed rows

pub passed : (rows : Rows) → first_row rows ≡ None → Passed rows
passed [] e = tt
passed ((true, k) ∷ rows) e = absurd (none_some k (sym e))
passed ((false, k) ∷ rows) e = (refl, passed rows e)

-- what a call does, where the first row that applies is known
pub judged : (rows : Rows) (o : Option ℕ) (m : Model) (r : Model × Answer) → first_row rows ≡ o → judge rows m r ≡ given o m r
judged rows o m r e = ap (λ (o : Option ℕ). given o m r) e
