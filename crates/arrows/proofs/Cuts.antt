-- Arrows of which those at gone places are cut, one target after another.
-- Assumes nothing.
use Rattle.std.proofs.Common.{◌≡◌, ℕ, ◌+◌, ◌<◌, ◌≤◌, Bool, true, false, cond, not, ◌&&◌, ◌||◌, eqb, ltb, List, length, get_or, set, sym, ap, ◌∙◌, ⊎_elim, arith, length-set, get_or-set_other, get_or-set_same}
use lib.Bits.{bit_or}
use lib.ListN.{get_or-eq_default}
use Rattle.std.proofs.lemmas.Bool.{cases_lt, cases_eq, cond-true, cond-false, eq-eqb, ne_eqb, lt-ltb, le-ltb}
use Rattle.std.proofs.lemmas.Bool.Decides.{nat_tests}
use Rattle.words.specs.Words.{bit}
use Rattle.words.proofs.Bits.{bit_none, bit-or}
use Rattle.arrows.specs.Between.{arrow_of}

abbrev pub cut_at : ℕ → List ℕ → ℕ → ℕ → Bool
cut_at gone first i p = arrow_of first i p && not (bit gone i) && not (bit gone p)

abbrev pub Cut : ℕ → List ℕ → List ℕ → ℕ → Type 0
Cut gone first xs q = (length xs ≡ 32) × ((i p : ℕ) → arrow_of xs i p ≡ cond (ltb p q) (cut_at gone first i p) (arrow_of first i p))

pub cut_none : (gone : ℕ) (first : List ℕ) → length first ≡ 32 → Cut gone first first 0
cut_none gone first n = (n, λ i p. sym (cond-false (ltb p 0) (cut_at gone first i p) (arrow_of first i p) (le-ltb p 0 (omega arith))))

pub cut_old : (gone : ℕ) (first xs : List ℕ) (q i : ℕ) → Cut gone first xs q → bit (get_or xs q 0) i ≡ arrow_of first i q
cut_old gone first xs q i (n, h) = h i q ∙ cond-false (ltb q q) (cut_at gone first i q) (arrow_of first i q) (le-ltb q q (omega arith))

pub cut_more : (gone : ℕ) (first xs ys : List ℕ) (q v : ℕ) → q < 32 → ys ≡ set xs q v → ((i : ℕ) → bit v i ≡ cut_at gone first i q) → Cut gone first xs q → Cut gone first ys (q + 1)
cut_more gone first xs ys q v lt e b (n, h) = (
  ap (length {A = ℕ}) e ∙ (length-set xs q v ∙ n),
  λ i p. ap (λ (l : List ℕ). arrow_of l i p) e ∙ ⊎_elim
      (λ same.
      ap (λ (k : ℕ). arrow_of (set xs q v) i k) same
      ∙ (ap (λ (x : ℕ). bit x i) (get_or-set_same xs q v 0 (omega arith))
      ∙ (b i ∙ (ap (cut_at gone first i) (sym same) ∙ sym (cond-true (ltb p (q + 1)) (cut_at gone first i p) (arrow_of first i p) (lt-ltb p (q + 1) (omega arith)))))))
      (λ ne.
      let t : ltb p q ≡ ltb p (q + 1) = grind (arith, nat_tests) in
      ap (λ (x : ℕ). bit x i) (get_or-set_other xs q p v 0 ne) ∙ (h i p ∙ ap (λ (b : Bool). cond b (cut_at gone first i p) (arrow_of first i p)) t))
      (cases_eq p q),
)

pub cut_all : (gone : ℕ) (first xs : List ℕ) (q : ℕ) → 32 ≤ q → length first ≡ 32 → Cut gone first xs q → (i p : ℕ) → arrow_of xs i p ≡ cut_at gone first i p
cut_all gone first xs q le n (m, h) i p = ⊎_elim
    (λ lt. h i p ∙ cond-true (ltb p q) (cut_at gone first i p) (arrow_of first i p) (lt-ltb p q (omega arith)))
    (λ ge.
    let a : arrow_of first i p ≡ false = ap (λ (x : ℕ). bit x i) (get_or-eq_default first 0 (omega arith)) ∙ bit_none i in
    ap (λ (x : ℕ). bit x i) (get_or-eq_default xs 0 (omega arith)) ∙ (bit_none i ∙ sym (ap (λ (b : Bool). b && not (bit gone i) && not (bit gone p)) a)))
    (cases_lt p 32)

-- the arrows to one place are joined by those from the places us
pub arrow_put : (into : List ℕ) (p us i j : ℕ) → p < length into → arrow_of (set into p (bit_or (get_or into p 0) us)) i j ≡ (arrow_of into i j || (eqb j p && bit us i))
arrow_put into p us i j h = ⊎_elim
    (λ e.
    let z : eqb j p ≡ true = eq-eqb j p e in
    let g : get_or (set into p (bit_or (get_or into p 0) us)) j 0 ≡ bit_or (get_or into j 0) us =
    ap (λ (n : ℕ). get_or (set into p (bit_or (get_or into p 0) us)) n 0) e ∙ (get_or-set_same into p (bit_or (get_or into p 0) us) 0 h ∙ ap (λ (n : ℕ). bit_or (get_or into n 0) us) (sym e)) in
    let o = bit-or (get_or into j 0) us i in
    ap (λ (n : ℕ). bit n i) g ∙ (o ∙ ap (λ (b : Bool). bit (get_or into j 0) i || (b && bit us i)) (sym z)))
    (λ ne.
    let z : eqb j p ≡ false = ne_eqb j p ne in
    let g = ap (λ (n : ℕ). bit n i) (get_or-set_other into p j (bit_or (get_or into p 0) us) 0 ne) in
    g ∙ grind arith)
    (cases_eq j p)
