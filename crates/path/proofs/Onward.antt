-- Answers that go on from one another: an item that is read, with where it ends, and the items behind it.
-- Assumes nothing.
use Rattle.std.proofs.Common.{◌≡◌, ℕ, List, [], ◌∷◌, ◌++◌, Ok, Err, Result, sym, refl, ap, ◌∙◌, arith}
use Rattle.std.proofs.lemmas.List.{append_assoc}
use Rattle.path.specs.Reading.{onward}

-- an item more behind those that are read
pub push_on : {Y E : Type 0} (x : Y) (xs : List Y) (r : Result (List Y) E) → onward (onward r (λ ys. Ok (x ∷ ys))) (λ ys. Ok (xs ++ ys)) ≡ onward r (λ ys. Ok ((xs ++ x ∷ []) ++ ys))
push_on {Y} x xs (Ok ys) = ap (λ (zs : List Y). Ok zs) (sym (append_assoc xs (x ∷ []) ys))
push_on x xs (Err f) = refl

-- q reads an item, of which f makes what is kept, and which ends at `stop`
module _ {X Y E : Type 0} (f : X → Y) (stop : ℕ) where
  -- the item and where it ends, or a fault
  abbrev pub ended : Result X E → Result (Y × ℕ) E
  ended q = onward q (λ x. Ok (f x, stop))

  -- the item and the items behind it, or the first fault
  abbrev pub followed : Result X E → Result (List Y) E → Result (List Y) E
  followed q rest = onward q (λ x. onward rest (λ ys. Ok (f x ∷ ys)))

  same_item : {y : Y} {end : ℕ} {x : X} → ◌≡◌ {A = Result (Y × ℕ) E} (Ok (y, end)) (Ok (f x, stop)) → ◌≡◌ {A = Y × ℕ} (y, end) (f x, stop)
  same_item e = cc

  pub item_ends : (q : Result X E) (y : Y) (end : ℕ) → Ok (y, end) ≡ ended q → (x : X) × (q ≡ Ok x) × (y ≡ f x) × (end ≡ stop)
  item_ends (Ok x) y end e = let p = same_item e in (x, refl, ap (λ (r : Y × ℕ). r.0) p, ap (λ (r : Y × ℕ). r.1) p)
  item_ends (Err g) y end e = absurd (let z : ◌≡◌ {A = ℕ} 0 1 = cc in omega arith)

  -- behind an item that is read, reading goes on where it ends
  pub item_goes_on : (q : Result X E) (S rest : Result (List Y) E) (from : ℕ → Result (List Y) E) → S ≡ followed q rest → rest ≡ from stop
      → (y : Y) (end : ℕ) → Ok (y, end) ≡ ended q → S ≡ onward (from end) (λ ys. Ok (y ∷ ys))
  item_goes_on (Ok x) S rest from is behind y end e =
      is ∙ (ap (λ r. onward r (λ ys. Ok (f x ∷ ys))) behind ∙ ap (λ (r : Y × ℕ). onward (from r.1) (λ ys. Ok (r.0 ∷ ys))) (sym (same_item e)))
  item_goes_on (Err g) S rest from is behind y end e = absurd (let z : ◌≡◌ {A = ℕ} 0 1 = cc in omega arith)

  pub item_faults : (q : Result X E) (S rest : Result (List Y) E) → S ≡ followed q rest → (g : E) → Err g ≡ ended q → S ≡ Err g
  item_faults (Ok x) S rest is g e = absurd (let z : ◌≡◌ {A = ℕ} 0 1 = cc in omega arith)
  item_faults (Err h) S rest is g e = is ∙ (let same : h ≡ g = cc in ap (λ (k : E). Err k) same)
