-- The record of a new node, the count of a ticket's additions, and what an addition leaves.
use Rattle.std.proofs.Common.{◌≡◌, ℕ, suc, ◌^◌, ◌<◌, Bool, true, false, cond, ◌&&◌, ◌||◌, eqb, ltb, List, [], ◌∷◌, map, is_some, Some, sym, refl, ap, ◌∙◌, ⊎_elim, arith}
use lib.Bits.{or_zero_r}
use Rattle.std.proofs.lemmas.Bool.{true≢false, cases_eq, eq-eqb, ne_eqb, cond-true, cond-false, lt-ltb}
use Rattle.tree.specs.declared.record.Record.{Record}
use Rattle.tree.specs.Records.{look, has, fresh, placed}
use Rattle.model.specs.Numbers.{member}
use Rattle.tree.specs.Names.{name_of}
use Rattle.model.specs.Rules.{made}
use Rattle.model.specs.Locks.{write}
use Rattle.model.specs.Scheduler.{Model, place_of}
use Rattle.model.specs.Changes.{learns, new_record, grant, grown}

module _ (i x n a : ℕ) where
  taught : Record → Record
  taught r = cond (member r.name (x ∷ [])) (learns i r) r

  -- the new node is known to its maker
  taught_new : taught (fresh x n a) ≡ new_record i x n a
  unfolding taught
  taught_new = ap (λ (b : Bool). cond (b || false) (learns i (fresh x n a)) (fresh x n a)) (eq-eqb x x refl) ∙ ap (λ (w : ℕ). record { name = x; parent = n; label = a; mark = 0; note = w }) (or_zero_r (2 ^ i))

  taught_other : (r : Record) → eqb r.name x ≡ false → taught r ≡ r
  unfolding taught
  taught_other r e = ap (λ (b : Bool). cond (b || false) (learns i r) r) e

  absent : (y : Record) (ys : List Record) → has x (y ∷ ys) ≡ false → (eqb y.name x ≡ false) × (has x ys ≡ false)
  absent y ys h = go (eqb y.name x) h
    where
      go : (b : Bool) → is_some (cond b (Some y) (look x ys)) ≡ false → (b ≡ false) × (has x ys ≡ false)
      go true e = absurd (true≢false e)
      go false e = (refl, e)

  taught_none : (ys : List Record) → has x ys ≡ false → map taught ys ≡ ys
  taught_none [] h = refl
  taught_none (y ∷ ys) h = let q = absent y ys h in λ z. taught_other y q.0 z ∷ taught_none ys q.1 z

  taught_placed : (rs : List Record) → has x rs ≡ false → map taught (placed (fresh x n a) rs) ≡ placed (new_record i x n a) rs
  taught_placed [] h = ap (λ (r : Record). r ∷ []) taught_new
  taught_placed (y ∷ ys) h = go (ltb y.name x) (absent y ys h) (taught_placed ys)
    where
      go : (b : Bool) → (eqb y.name x ≡ false) × (has x ys ≡ false) → (has x ys ≡ false → map taught (placed (fresh x n a) ys) ≡ placed (new_record i x n a) ys)
          → map taught (cond b (y ∷ placed (fresh x n a) ys) (fresh x n a ∷ y ∷ ys)) ≡ cond b (y ∷ placed (new_record i x n a) ys) (new_record i x n a ∷ y ∷ ys)
      go true q rest = λ z. taught_other y q.0 z ∷ rest q.1 z
      go false q rest = λ z. taught_new z ∷ (taught_other y q.0 z ∷ taught_none ys q.1 z)

  pub made_known : (rs : List Record) → has x rs ≡ false → map (λ r. cond (member r.name (x ∷ [])) (learns i r) r) (placed (fresh x n a) rs) ≡ placed (new_record i x n a) rs
  unfolding taught
  made_known rs h = taught_placed rs h

-- one addition more, which fits
pub counted : (p : ℕ) (f : ℕ → ℕ) (j : ℕ) → p < 32 → f p < 65535 → cond (ltb p 32 && eqb j p && ltb (f j) 65535) (suc (f j)) (f j) ≡ cond (eqb j p) (suc (f p)) (f j)
counted p f j low few = ⊎_elim
    (λ e.
    let same : f j ≡ f p = ap f e in
    let few : f j < 65535 = omega arith in
    cond-true (ltb p 32 && eqb j p && ltb (f j) 65535) (suc (f j)) (f j) (both (lt-ltb p 32 low) (eq-eqb j p e) (lt-ltb (f j) 65535 few))
    ∙ (ap suc same ∙ sym (cond-true (eqb j p) (suc (f p)) (f j) (eq-eqb j p e))))
    (λ ne. cond-false (ltb p 32 && eqb j p && ltb (f j) 65535) (suc (f j)) (f j) (other (ltb p 32) (ltb (f j) 65535) (ne_eqb j p ne)) ∙ sym (cond-false (eqb j p) (suc (f p)) (f j) (ne_eqb j p ne)))
    (cases_eq j p)
  where
    both : {a b c : Bool} → a ≡ true → b ≡ true → c ≡ true → (a && b && c) ≡ true
    both x y z = λ k. x k && y k && z k

    other : (a c : Bool) {b : Bool} → b ≡ false → (a && b && c) ≡ false
    other a c {b} e = ap (λ (b : Bool). a && b && c) e ∙ none a c
      where
        none : (a c : Bool) → (a && false && c) ≡ false
        none true c = refl
        none false c = refl

-- what an addition leaves, where the ticket's place is p and the new name is x
pub grown_at : (m m' : Model) (t n a p x : ℕ) → p ≡ place_of m t → x ≡ name_of t (suc (m.added p))
    → m' ≡ grant m p (write n (Some a) ∷ []) (placed (new_record p x n a) m.records) (λ j. cond (eqb j p) (suc (m.added p)) (m.added j))
    → grown m t n a ≡ (m', made x)
grown_at m m' t n a p x at named after = sym (λ z. (left (at z) (name z), made (name z))) ∙ (λ z. (sym after z, made x))
  where
    left : ℕ → ℕ → Model
    left i y = grant m i (write n (Some a) ∷ []) (placed (new_record i y n a) m.records) (λ j. cond (eqb j i) (suc (m.added i)) (m.added j))

    name : x ≡ name_of t (suc (m.added (place_of m t)))
    name = named ∙ ap (λ (i : ℕ). name_of t (suc (m.added i))) at
