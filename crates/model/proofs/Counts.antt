-- How many additions of a ticket a list of events has.
use Rattle.std.proofs.Common.{◌≡◌, ℕ, ◌+◌, Bool, true, false, cond, T, eqb, ◌≢◌, List, [], ◌∷◌, ◌++◌, sym, refl, ap, ◌∙◌, inl, inr, add_assoc, zero-add, arith, eqb→eq}
use lib.Dec.{eqb_refl}
use Rattle.model.proofs.Events.{In, Event, ask, add, rem, who, tally, count}

module _ {P : Type 0} where
  tally_not : (u : ℕ) (e : Event P) → who e ≢ u → tally u e ≡ 0
  tally_not u (ask t n p found) h = refl
  tally_not u (add t n a x) h = go (eqb t u) (λ k. h (eqb→eq t u k))
    where
      go : (b : Bool) → (T b → ⊥) → ◌≡◌ {A = ℕ} (cond b 1 0) 0
      go true k = absurd (k tt)
      go false k = refl
  tally_not u (rem t n) h = refl

  pub count_append : (u : ℕ) (es ds : List (Event P)) → count u (es ++ ds) ≡ count u es + count u ds
  count_append u [] ds = sym (zero-add (count u ds))
  count_append u (e ∷ es) ds = ap (λ n. tally u e + n) (count_append u es ds) ∙ sym (add_assoc (tally u e) (count u es) (count u ds))

  pub count_none : (u : ℕ) (es : List (Event P)) → ((e : Event P) → In e es → who e ≢ u) → count u es ≡ 0
  count_none u [] h = refl
  count_none u (e ∷ es) h =
      let here : tally u e ≡ 0 = tally_not u e (h e (inl refl)) in
      let there : count u es ≡ 0 = count_none u es (λ d i. h d (inr i)) in
      omega arith

  pub count_over : (u : ℕ) (es ds ds' : List (Event P)) → count u ds' ≡ count u ds → count u (es ++ ds') ≡ count u (es ++ ds)
  count_over u [] ds ds' h = h
  count_over u (e ∷ es) ds ds' h = ap (λ n. tally u e + n) (count_over u es ds ds' h)

  pub count_other : (u : ℕ) (b : Event P) (es : List (Event P)) → who b ≢ u → count u (b ∷ es) ≡ count u es
  count_other u b es h = let none_here : tally u b ≡ 0 = tally_not u b h in omega arith

pub tally_own : (P : Type 0) (t n a x : ℕ) → tally {P = P} t (add t n a x) ≡ 1
tally_own P t n a x = go (eqb t t) (eqb_refl t)
  where
    go : (b : Bool) → T b → ◌≡◌ {A = ℕ} (cond b 1 0) 1
    go true k = refl
    go false k = absurd k
