-- What is found in a list of records by name, after each change. None of these asks the list to rise.
use Rattle.std.proofs.Common.{◌≡◌, ℕ, zero, suc, ◌<◌, Bool, true, false, cond, not, ◌&&◌, ◌||◌, eqb, ltb, ◌≢◌, List, [], ◌∷◌, length, get_or, is_some, Some, None, Option, sym, refl, ap, ◌∙◌, inl, inr, arith}
use Rattle.std.proofs.lemmas.Bool.{and_parts, eqb-true, eqb-false, true≢false, not-true}
use Rattle.std.proofs.lemmas.Bool.Decides.{nat_tests}
use Rattle.tree.specs.declared.record.Record.{Record}
use Rattle.tree.specs.Lists.{In}
use Rattle.tree.specs.Records.{look, has, distinct, placed, tagged, without, with_tag, sorted}

-- ── what is found ──
pub look_name : (n : ℕ) (rs : List Record) (r : Record) → look n rs ≡ Some r → r.name ≡ n
look_name n [] r e = grind arith
look_name n (x ∷ xs) r e = let t : look n xs ≡ Some r → r.name ≡ n = look_name n xs r in grind (arith, nat_tests)

pub has_look : (n : ℕ) (rs : List Record) → has n rs ≡ true → (r : Record) × (look n rs ≡ Some r)
has_look n rs h = go (look n rs) refl h
  where
    go : (o : Option Record) → look n rs ≡ o → is_some o ≡ true → (r : Record) × (look n rs ≡ Some r)
    go None e h = absurd (true≢false (sym h))
    go (Some r) e h = (r, e)

pub look_has : (n : ℕ) (rs : List Record) (r : Record) → look n rs ≡ Some r → has n rs ≡ true
look_has n rs r e = ap is_some e

pub look_absent : (n : ℕ) (rs : List Record) → has n rs ≡ false → look n rs ≡ None
look_absent n rs h = go (look n rs) refl h
  where
    go : (o : Option Record) → look n rs ≡ o → is_some o ≡ false → look n rs ≡ None
    go None e h = e
    go (Some r) e h = absurd (true≢false h)

pub has_none : (n : ℕ) (rs : List Record) → length rs ≡ 0 → has n rs ≡ false
has_none n [] e = refl
has_none n (x ∷ xs) e = absurd (omega arith)

-- ── members ──
pub look_in : (n : ℕ) (rs : List Record) (r : Record) → look n rs ≡ Some r → In r rs
look_in n [] r e = let z : ◌≡◌ {A = ℕ} 0 1 = cc in absurd (omega arith)
look_in n (x ∷ xs) r e = go (eqb x.name n) e (look_in n xs r)
  where
    go : (b : Bool) → cond b (Some x) (look n xs) ≡ Some r → (look n xs ≡ Some r → In r xs) → In r (x ∷ xs)
    go true e ih = inl (cc)
    go false e ih = inr (ih e)

pub in_has : (rs : List Record) (r : Record) → In r rs → has r.name rs ≡ true
in_has [] r i = elim i [ ]
in_has (x ∷ xs) r (inl p) = let e : x.name ≡ r.name = ap (λ (y : Record). y.name) (sym p) in grind (arith, nat_tests)
in_has (x ∷ xs) r (inr i) = let t : has r.name xs ≡ true = in_has xs r i in grind (arith, nat_tests)

pub in_look : (rs : List Record) (r : Record) → distinct rs ≡ true → In r rs → look r.name rs ≡ Some r
in_look [] r d i = elim i [ ]
in_look (x ∷ xs) r d (inl p) = let e : x.name ≡ r.name = ap (λ (y : Record). y.name) (sym p) in grind (arith, nat_tests)
in_look (x ∷ xs) r d (inr i) =
    let p = and_parts _ _ d in
    let t : look r.name xs ≡ Some r = in_look xs r p.1 i in
    let h : has r.name xs ≡ true = in_has xs r i in
    let n : has x.name xs ≡ false = not-true _ p.0 in
    let ne : x.name ≡ r.name → has r.name xs ≡ false = λ e. ap (λ (m : ℕ). has m xs) (sym e) ∙ n in
    grind (arith, nat_tests)

pub has_at : (rs : List Record) (i : ℕ) (d : Record) → i < length rs → has (get_or rs i d).name rs ≡ true
has_at [] i d h = absurd (omega arith)
has_at (x ∷ xs) zero d h = grind (arith, nat_tests)
has_at (x ∷ xs) (suc i) d h = let t : has (get_or xs i d).name xs ≡ true = has_at xs i d (omega arith) in grind (arith, nat_tests)

pub look_at : (rs : List Record) (i : ℕ) (d : Record) → distinct rs ≡ true → i < length rs → look (get_or rs i d).name rs ≡ Some (get_or rs i d)
look_at [] i d u h = absurd (omega arith)
look_at (x ∷ xs) zero d u h = grind (arith, nat_tests)
look_at (x ∷ xs) (suc i) d u h =
    let p = and_parts (not (has x.name xs)) (distinct xs) u in
    let a : has x.name xs ≡ false = not-true _ p.0 in
    let b : has (get_or xs i d).name xs ≡ true = has_at xs i d (omega arith) in
    let ne : x.name ≡ (get_or xs i d).name → has (get_or xs i d).name xs ≡ false = λ e. ap (λ (m : ℕ). has m xs) (sym e) ∙ a in
    let t : look (get_or xs i d).name xs ≡ Some (get_or xs i d) = look_at xs i d p.1 (omega arith) in
    grind (arith, nat_tests)

pub in_placed : (r : Record) (rs : List Record) (y : Record) → In y (placed r rs) → In y (r ∷ rs)
in_placed r [] y i = i
in_placed r (x ∷ xs) y i = go (ltb x.name r.name) i (in_placed r xs y)
  where
    go : (b : Bool) → In y (cond b (x ∷ placed r xs) (r ∷ x ∷ xs)) → (In y (placed r xs) → In y (r ∷ xs)) → In y (r ∷ x ∷ xs)
    go true (inl p) ih = inr (inl p)
    go true (inr j) ih = elim (ih j) [ inl p ↦ inl p | inr k ↦ inr (inr k) ]
    go false j ih = j

pub placed_in : (r : Record) (rs : List Record) (y : Record) → In y (r ∷ rs) → In y (placed r rs)
placed_in r [] y i = i
placed_in r (x ∷ xs) y i = go (ltb x.name r.name) i (placed_in r xs y)
  where
    go : (b : Bool) → In y (r ∷ x ∷ xs) → (In y (r ∷ xs) → In y (placed r xs)) → In y (cond b (x ∷ placed r xs) (r ∷ x ∷ xs))
    go true (inl p) ih = inr (ih (inl p))
    go true (inr (inl p)) ih = inl p
    go true (inr (inr j)) ih = inr (ih (inr j))
    go false j ih = j

pub in_without : (n : ℕ) (rs : List Record) (y : Record) → In y (without n rs) → In y rs × (y.name ≢ n)
in_without n [] y i = elim i [ ]
in_without n (x ∷ xs) y i = go (eqb x.name n) refl i (in_without n xs y)
  where
    go : (b : Bool) → eqb x.name n ≡ b → In y (cond b (without n xs) (x ∷ without n xs)) → (In y (without n xs) → In y xs × (y.name ≢ n)) → In y (x ∷ xs) × (y.name ≢ n)
    go true e j ih = let r = ih j in (inr r.0, r.1)
    go false e (inl p) ih = (inl p, λ q. eqb-false x.name n e (ap (λ (z : Record). z.name) (sym p) ∙ q))
    go false e (inr j) ih = let r = ih j in (inr r.0, r.1)

pub without_in : (n : ℕ) (rs : List Record) (y : Record) → In y rs → y.name ≢ n → In y (without n rs)
without_in n [] y i ne = elim i [ ]
without_in n (x ∷ xs) y i ne = go (eqb x.name n) refl i (λ j. without_in n xs y j ne)
  where
    go : (b : Bool) → eqb x.name n ≡ b → In y (x ∷ xs) → (In y xs → In y (without n xs)) → In y (cond b (without n xs) (x ∷ without n xs))
    go true e (inl p) ih = absurd (ne (ap (λ (z : Record). z.name) p ∙ eqb-true x.name n e))
    go true e (inr j) ih = ih j
    go false e (inl p) ih = inl p
    go false e (inr j) ih = inr (ih j)

-- ── after a change ──
pub look_placed : (n : ℕ) (r : Record) (rs : List Record) → look n (placed r rs) ≡ cond (eqb r.name n) (Some r) (look n rs)
look_placed n r [] = refl
look_placed n r (x ∷ xs) = let t = look_placed n r xs in grind (arith, nat_tests)

pub look_without : (n k : ℕ) (rs : List Record) → look n (without k rs) ≡ cond (eqb n k) None (look n rs)
look_without n k [] = grind (arith, nat_tests)
look_without n k (x ∷ xs) = let t = look_without n k xs in grind (arith, nat_tests)

-- the tag on a record, where there is one
abbrev pub tag_found : ℕ → ℕ → Option Record → Option Record
tag_found m w None = None
tag_found m w (Some r) = Some (with_tag m w r)

pub look_tagged : (n k m w : ℕ) (rs : List Record) → look n (tagged k m w rs) ≡ cond (eqb n k) (tag_found m w (look n rs)) (look n rs)
look_tagged n k m w [] = grind (arith, nat_tests)
look_tagged n k m w (x ∷ xs) = let t = look_tagged n k m w xs in grind (arith, nat_tests)

pub look_sorted : (n : ℕ) (rs : List Record) → look n (sorted rs) ≡ look n rs
look_sorted n [] = refl
look_sorted n (r ∷ rs) = look_placed n r (sorted rs) ∙ ap (λ (o : Option Record). cond (eqb r.name n) (Some r) o) (look_sorted n rs)

pub has_placed : (n : ℕ) (r : Record) (rs : List Record) → has n (placed r rs) ≡ (eqb r.name n || has n rs)
has_placed n r rs = let t = look_placed n r rs in grind (arith, nat_tests)

pub has_without : (n k : ℕ) (rs : List Record) → has n (without k rs) ≡ (not (eqb n k) && has n rs)
has_without n k rs = let t = look_without n k rs in grind (arith, nat_tests)

pub has_tagged : (n k m w : ℕ) (rs : List Record) → has n (tagged k m w rs) ≡ has n rs
has_tagged n k m w [] = refl
has_tagged n k m w (x ∷ xs) = let t : has n (tagged k m w xs) ≡ has n xs = has_tagged n k m w xs in grind (arith, nat_tests)

-- ── where the name is absent ──
pub without_absent : (n : ℕ) (rs : List Record) → has n rs ≡ false → without n rs ≡ rs
without_absent n [] h = refl
without_absent n (x ∷ xs) h = let t : has n xs ≡ false → without n xs ≡ xs = without_absent n xs in grind (arith, nat_tests)

pub tagged_absent : (n m w : ℕ) (rs : List Record) → has n rs ≡ false → tagged n m w rs ≡ rs
tagged_absent n m w [] h = refl
tagged_absent n m w (x ∷ xs) h = let t : has n xs ≡ false → tagged n m w xs ≡ xs = tagged_absent n m w xs in grind (arith, nat_tests)

-- ── how many ──
pub length_placed : (r : Record) (rs : List Record) → length (placed r rs) ≡ suc (length rs)
length_placed r [] = refl
length_placed r (x ∷ xs) = let t = length_placed r xs in grind (arith, nat_tests)

pub length_tagged : (n m w : ℕ) (rs : List Record) → length (tagged n m w rs) ≡ length rs
length_tagged n m w [] = refl
length_tagged n m w (x ∷ xs) = ap suc (length_tagged n m w xs)

pub length_without : (n : ℕ) (rs : List Record) → distinct rs ≡ true → has n rs ≡ true → suc (length (without n rs)) ≡ length rs
length_without n [] d h = grind arith
length_without n (x ∷ xs) d h =
    let p = and_parts _ _ d in
    let t : has n xs ≡ true → suc (length (without n xs)) ≡ length xs = length_without n xs p.1 in
    let a : has x.name xs ≡ false = not-true _ p.0 in
    let u : has n xs ≡ false → without n xs ≡ xs = without_absent n xs in
    let v : x.name ≡ n → has n xs ≡ false = λ e. ap (λ (m : ℕ). has m xs) (sym e) ∙ a in
    grind (arith, nat_tests)

pub length_sorted : (rs : List Record) → length (sorted rs) ≡ length rs
length_sorted [] = refl
length_sorted (r ∷ rs) = length_placed r (sorted rs) ∙ ap suc (length_sorted rs)
