-- Changes of tags, record by record.
use Rattle.std.proofs.Common.{◌≡◌, ℕ, ◌+◌, ◌^◌, ◌<◌, Bool, true, false, cond, ◌||◌, eqb, ltb, List, [], ◌∷◌, ◌++◌, map, length, get_or, take, is_some, Some, None, sym, refl, ap, ◌∙◌, subst, arith}
use lib.Bits.{bit_or}
use Rattle.std.proofs.lemmas.List.{take_more}
use Rattle.std.proofs.lemmas.Bool.{cond-true, eqb-true, lt-ltb, true≢false}
use Rattle.tree.specs.declared.record.Record.{Record}
use Rattle.tree.specs.Records.{rises, look, has, over, with_tag, tagged}
use Rattle.tree.specs.Stores.{Meaning, holding}
use Rattle.tree.specs.Calls.{tag_after}
use Rattle.tree.proofs.Look.{look_has, tagged_absent}
use Rattle.tree.proofs.Rising.{rises_parts, over_absent}
use Rattle.model.specs.Numbers.{member}
use Rattle.model.specs.Changes.{with_note, learns}
use Rattle.walks.specs.Changes.{learns_at}
use Rattle.walks.proofs.Words.{or_twice}

-- rs with the change f at the record n
abbrev pub changed_at : ℕ → (Record → Record) → List Record → List Record
changed_at n f rs = map (λ (r : Record). cond (eqb r.name n) (f r) r) rs

pub changed_absent : (n : ℕ) (f : Record → Record) (rs : List Record) → has n rs ≡ false → rs ≡ changed_at n f rs
changed_absent n f [] h = refl
changed_absent n f (x ∷ xs) h = go (eqb x.name n) h (changed_absent n f xs)
  where
    go : (b : Bool) → is_some (cond b (Some x) (look n xs)) ≡ false → (has n xs ≡ false → xs ≡ changed_at n f xs) → x ∷ xs ≡ cond b (f x) x ∷ changed_at n f xs
    go true e rest = absurd (true≢false e)
    go false e rest = ap (λ (ys : List Record). x ∷ ys) (rest e)

tagged_changes : (n m w : ℕ) (f : Record → Record) (r : Record) (rs : List Record) → rises rs ≡ true → look n rs ≡ Some r → with_tag m w r ≡ f r → tagged n m w rs ≡ changed_at n f rs
tagged_changes n m w f r [] u e h = grind arith
tagged_changes n m w f r (x ∷ xs) u e h = go (eqb x.name n) refl e (λ s. tagged_changes n m w f r xs (rises_parts x xs u).1 s h)
  where
    p : (over x.name xs ≡ true) × (rises xs ≡ true)
    p = rises_parts x xs u

    go : (b : Bool) → eqb x.name n ≡ b → cond b (Some x) (look n xs) ≡ Some r → (look n xs ≡ Some r → tagged n m w xs ≡ changed_at n f xs) → cond b (with_tag m w x) x ∷ tagged n m w xs ≡ cond b (f x) x ∷ changed_at n f xs
    go true q s rest =
        let same : x ≡ r = cc in
        let none : has n xs ≡ false = over_absent n xs (subst (λ (k : ℕ). over k xs ≡ true) (eqb-true x.name n q) p.0) in
        ap (λ (y : Record). y ∷ tagged n m w xs) (ap (with_tag m w) same ∙ h ∙ ap f (sym same))
        ∙ ap (λ (ys : List Record). f x ∷ ys) (tagged_absent n m w xs none ∙ changed_absent n f xs none)
    go false q s rest = ap (λ (ys : List Record). x ∷ ys) (rest s)

pub tag_changes : (n m w : ℕ) (f : Record → Record) (r : Record) (rs : List Record) → rises rs ≡ true → look n rs ≡ Some r → with_tag m w r ≡ f r → tag_after n m w rs ≡ changed_at n f rs
tag_changes n m w f r rs u e h = cond-true (has n rs) (tagged n m w rs) rs (look_has n rs r e) ∙ tagged_changes n m w f r rs u e h

pub none_changes : (n : ℕ) (f : Record → Record) (rs : List Record) → look n rs ≡ None → rs ≡ changed_at n f rs
none_changes n f rs e = changed_absent n f rs (ap is_some e)

-- a change of what a store holds, after one before
pub holding_on : (m t n : Meaning) (xs : List Record) (h : List Record → List Record) → t ≡ holding m xs → n ≡ holding t (h t.records) → n ≡ holding m (h xs)
holding_on m t n xs h e s = s ∙ ap (λ (k : Meaning). holding k (h k.records)) e

-- ── a change that makes no difference when it is made again, name by name ──
abbrev pub changed_in : List ℕ → (Record → Record) → List Record → List Record
changed_in ns f rs = map (λ (r : Record). cond (member r.name ns) (f r) r) rs

pub changed_in_none : (f : Record → Record) (rs : List Record) → rs ≡ changed_in [] f rs
changed_in_none f [] = refl
changed_in_none f (r ∷ rs) = ap (λ (xs : List Record). r ∷ xs) (changed_in_none f rs)

member_last : (n y : ℕ) (ns : List ℕ) → member n (ns ++ (y ∷ [])) ≡ (member n ns || eqb n y)
member_last n y [] = or_none (eqb n y)
  where
    or_none : (b : Bool) → (b || false) ≡ b
    or_none true = refl
    or_none false = refl
member_last n y (m ∷ ns) = ap (λ (b : Bool). eqb n m || b) (member_last n y ns) ∙ assoc (eqb n m)
  where
    assoc : (a : Bool) → (a || (member n ns || eqb n y)) ≡ ((a || member n ns) || eqb n y)
    assoc true = refl
    assoc false = refl

module _ (f : Record → Record) (keeps : (r : Record) → (f r).name ≡ r.name) (twice : (r : Record) → f (f r) ≡ f r) where
  in_one : (y : ℕ) (ns : List ℕ) (rs : List Record) → changed_at y f (changed_in ns f rs) ≡ changed_in (ns ++ (y ∷ [])) f rs
  in_one y ns [] = refl
  in_one y ns (r ∷ rs) =
      ap (λ (x : Record). x ∷ changed_at y f (changed_in ns f rs)) (one (member r.name ns) ∙ sym (ap (λ (b : Bool). cond b (f r) r) (member_last r.name y ns)))
      ∙ ap (λ (xs : List Record). cond (member r.name (ns ++ (y ∷ []))) (f r) r ∷ xs) (in_one y ns rs)
    where
      again : (b : Bool) → cond b (f (f r)) (f r) ≡ f r
      again true = twice r
      again false = refl

      one : (b : Bool) → cond (eqb (cond b (f r) r).name y) (f (cond b (f r) r)) (cond b (f r) r) ≡ cond (b || eqb r.name y) (f r) r
      one true = again (eqb (f r).name y)
      one false = refl

  pub changed_in_more : (k : ℕ) (names : List ℕ) (rs : List Record) → k < length names → changed_at (get_or names k 0) f (changed_in (take k names) f rs) ≡ changed_in (take (k + 1) names) f rs
  changed_in_more k names rs lt = in_one (get_or names k 0) (take k names) rs ∙ ap (λ (ns : List ℕ). changed_in ns f rs) (sym (take_more names k 0 lt))

pub learns_twice : (i : ℕ) (r : Record) → learns_at i (learns_at i r) ≡ learns_at i r
learns_twice i r = ap (λ (w : ℕ). with_tag r.mark w r) (go (ltb i 32))
  where
    go : (b : Bool) → cond b (bit_or (2 ^ i) (cond b (bit_or (2 ^ i) r.note) r.note)) (cond b (bit_or (2 ^ i) r.note) r.note) ≡ cond b (bit_or (2 ^ i) r.note) r.note
    go true = or_twice (2 ^ i) r.note
    go false = refl

-- at a place that there is
pub learns_low : (i : ℕ) (ns : List ℕ) (rs : List Record) → i < 32 → changed_in ns (learns_at i) rs ≡ changed_in ns (learns i) rs
learns_low i ns rs lt = ap (λ (b : Bool). changed_in ns (λ r. with_note r (cond b (bit_or (2 ^ i) r.note) r.note)) rs) (lt-ltb i 32 lt)
