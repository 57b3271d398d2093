-- Dropping what is chosen, leaf by leaf.
use Rattle.std.proofs.Common.{◌≡◌, ℕ, ◌<◌, ◌≤◌, Bool, true, false, cond, not, ◌&&◌, ◌||◌, eqb, List, [], ◌∷◌, length, is_some, is_ok, Some, None, Option, sym, refl, ap, ◌∙◌, subst, inl, inr, ⊎_elim, arith}
use mathlib.Core.Bool.{Bool-set}
use mathlib.Core.Logic.{∥∥₁_elim}
use Rattle.std.proofs.lemmas.Bool.{true≢false, both_ways, cases_Bool, and_parts, leb-true, leb-false, eqb-true}
use Rattle.tree.specs.declared.record.Record.{Record}
use Rattle.tree.specs.Lists.{In, some_of}
use Rattle.tree.specs.Records.{over, rises, look, has, is_parent, without}
use Rattle.tree.specs.Trees.{nodes, IsTree}
use Rattle.tree.specs.Stores.{Meaning, holding}
use Rattle.tree.specs.Calls.{answer_of, may_discard}
use Rattle.tree.specs.Walk.{name_after, passed}
use Rattle.tree.proofs.Members.{keep_from}
use Rattle.tree.proofs.Look.{in_look, in_has, in_without, length_without, without_absent}
use Rattle.tree.proofs.Rising.{rises_parts, rises_distinct, over_has, over_absent}
use Rattle.tree.proofs.Next.{next_least}
use Rattle.tree.proofs.Leaves.{leaf}
use Rattle.tree.proofs.Visits.{visited_end}
use Rattle.walks.specs.Choices.{chosen_at}
use Rattle.drops.specs.Doomed.{left_by, Downward, may_drop, Dropped}

-- ── one record ──
pub chosen_has : (f : Record → Bool) (n : ℕ) (rs : List Record) → chosen_at f (look n rs) ≡ true → has n rs ≡ true
chosen_has f n rs h = go (look n rs) h
  where
    go : (o : Option Record) → chosen_at f o ≡ true → is_some o ≡ true
    go None c = absurd (true≢false (sym c))
    go (Some r) c = refl

-- what is chosen may be dropped where the store may discard it
pub drop_is : (f : Record → Bool) (n : ℕ) (rs : List Record) → chosen_at f (look n rs) ≡ true → may_discard n rs ≡ may_drop f n rs
drop_is f n rs h = ap (λ (b : Bool). b && not (is_parent n rs)) (chosen_has f n rs h ∙ sym h)

pub answers_ok : (b : Bool) → is_ok (answer_of b) ≡ b
answers_ok true = refl
answers_ok false = refl

left_without : (f : Record → Bool) (n : ℕ) (rs : List Record) → rises rs ≡ true → chosen_at f (look n rs) ≡ true → left_by f (without n rs) ≡ left_by f rs
left_without f n [] u h = refl
left_without f n (x ∷ xs) u h = go (eqb x.name n) refl h (left_without f n xs (rises_parts x xs u).1)
  where
    go : (b : Bool) → eqb x.name n ≡ b → chosen_at f (cond b (Some x) (look n xs)) ≡ true → (chosen_at f (look n xs) ≡ true → left_by f (without n xs) ≡ left_by f xs) → left_by f (cond b (without n xs) (x ∷ without n xs)) ≡ cond (not (f x)) (x ∷ left_by f xs) (left_by f xs)
    go true q c rest =
        let none : has n xs ≡ false = over_absent n xs (subst (λ (k : ℕ). over k xs ≡ true) (eqb-true x.name n q) (rises_parts x xs u).0) in
        ap (left_by f) (without_absent n xs none) ∙ sym (ap (λ (b : Bool). cond (not b) (x ∷ left_by f xs) (left_by f xs)) c)
    go false q c rest = ap (λ (ys : List Record). cond (not (f x)) (x ∷ ys) ys) (rest c)

-- ── one walk ──
-- the next name stands behind those that the walk has come past, and before all others
pub next_first : (last : Option ℕ) (k : ℕ) (x : Record) (rs : List Record) → rises rs ≡ true → name_after last rs ≡ Some k → In x rs → passed last x ≡ false → k ≤ x.name
next_first None k x [] u e i p = elim i [ ]
next_first None k x (y ∷ ys) u e (inl q) p = let s : y.name ≡ k = cc in let t : x.name ≡ y.name = ap (λ (z : Record). z.name) q in omega arith
next_first None k x (y ∷ ys) u e (inr i) p = let s : y.name ≡ k = cc in let t = over_has y.name x.name ys (rises_parts y ys u).0 (in_has ys x i) in omega arith
next_first (Some n) k x rs u e i p = next_least n k x.name rs u e (leb-false x.name n p) (in_has rs x i)

-- how far a walk from rs has come, that now stands at ss
pub record Dropping (f : Record → Bool) (rs ss : List Record) (last : Option ℕ) (any : Bool) : Type 0 where
  pub left : left_by f ss ≡ left_by f rs
  pub from : (r : Record) → In r ss → In r rs
  pub few : length ss ≤ length rs
  pub fewer : any ≡ true → length ss < length rs
  pub none : any ≡ false → (r : Record) → In r ss → passed last r ≡ true → f r ≡ true → is_parent r.name ss ≡ true

pub dropping_begins : (f : Record → Bool) (rs : List Record) → Dropping f rs rs None false
dropping_begins f rs = record {
  left = refl;
  from = λ r i. i;
  few = omega arith;
  fewer = λ e. absurd (true≢false (sym e));
  none = λ e r i p. absurd (true≢false (sym p));
}

module _ (f : Record → Bool) (rs ss : List Record) (last : Option ℕ) (any : Bool) (k : ℕ) (u : rises ss ≡ true) (e : name_after last ss ≡ Some k) (d : Dropping f rs ss last any) where
  pub dropping_one : may_drop f k ss ≡ true → Dropping f rs (without k ss) (Some k) true
  dropping_one h =
      let p = and_parts (chosen_at f (look k ss)) (not (is_parent k ss)) h in
      let one = length_without k ss (rises_distinct ss u) (chosen_has f k ss p.0) in
      let few = d.few in
      record {
        left = left_without f k ss u p.0 ∙ d.left;
        from = λ r i. d.from r (in_without k ss r i).0;
        few = omega arith;
        fewer = λ _. omega arith;
        none = λ n. absurd (true≢false n);
      }

  pub dropping_none : may_drop f k ss ≡ false → Dropping f rs ss (Some k) any
  dropping_none h = record { left = d.left; from = d.from; few = d.few; fewer = d.fewer; none = λ n r i p c. ⊎_elim (λ old. d.none n r i old c) (λ new. at_last r i p c new) (cases_Bool (passed last r)) }
    where
      at_last : (r : Record) → In r ss → passed (Some k) r ≡ true → f r ≡ true → passed last r ≡ false → is_parent r.name ss ≡ true
      at_last r i p c new =
          let ge = next_first last k r ss u e i new in
          let le = leb-true r.name k p in
          let here : r.name ≡ k = omega arith in
          let found : look k ss ≡ Some r = ap (λ (n : ℕ). look n ss) (sym here) ∙ in_look ss r (rises_distinct ss u) i in
          let stays : (f r && not (is_parent r.name ss)) ≡ false = ap (λ (o : Option Record). chosen_at f o && not (is_parent r.name ss)) (sym found) ∙ (ap (λ (n : ℕ). chosen_at f (look k ss) && not (is_parent n ss)) here ∙ h) in
          ⊎_elim (λ b. b) (λ b. absurd (both (f r) (is_parent r.name ss) stays c b)) (cases_Bool (is_parent r.name ss))
        where
          both : (x y : Bool) → (x && not y) ≡ false → x ≡ true → y ≡ false → ⊥
          both true true s a b = true≢false b
          both true false s a b = true≢false s
          both false y s a b = true≢false (sym a)

-- ── as a whole ──
pub dropped : (f : Record → Bool) (rs ss : List Record) (last : Option ℕ) (any : Bool) → ((r : Record) → In r ss → passed last r ≡ true) → Dropping f rs ss last any → Dropped f rs ss any
dropped f rs ss last any all d = record { left = d.left; from = d.from; fewer = d.fewer; none = λ n r i c. d.none n r i (all r i) c }

pub passed_all : (last : Option ℕ) (rs : List Record) → name_after last rs ≡ None → (r : Record) → In r rs → passed last r ≡ true
passed_all last rs e r i = (keep_from (passed last) rs r (subst (λ (xs : List Record). In r xs) (sym (visited_end last rs e)) i)).1

left_all : (f : Record → Bool) (rs : List Record) → some_of f rs ≡ false → left_by f rs ≡ rs
left_all f [] h = refl
left_all f (r ∷ rs) h = go (f r) h (left_all f rs)
  where
    go : (b : Bool) → (b || some_of f rs) ≡ false → (some_of f rs ≡ false → left_by f rs ≡ rs) → cond (not b) (r ∷ left_by f rs) (left_by f rs) ≡ r ∷ rs
    go true e rest = absurd (true≢false e)
    go false e rest = ap (λ (xs : List Record). r ∷ xs) (rest e)

-- where each chosen record is another's parent, and its children are chosen, there is none
none_left : (f : Record → Bool) (rs : List Record) → rises rs ≡ true → ∥ IsTree (nodes rs) ∥₁ → Downward f rs → ((r : Record) → In r rs → f r ≡ true → is_parent r.name rs ≡ true) → some_of f rs ≡ false
none_left f rs u t down all = ∥∥₁_elim t (Bool-set (some_of f rs) false) (λ is. ⊎_elim
    (λ some. let l = leaf rs f (rises_distinct rs u) is some down in absurd (both_ways (is_parent l.0.name rs) l.3 (all l.0 l.1 l.2)))
    (λ none. none)
    (cases_Bool (some_of f rs)))

pub all_dropped : (f : Record → Bool) (rs ss : List Record) → rises ss ≡ true → ∥ IsTree (nodes ss) ∥₁ → left_by f ss ≡ left_by f rs → ((r : Record) → In r ss → In r rs)
    → ((r : Record) → In r ss → f r ≡ true → is_parent r.name ss ≡ true) → Downward f rs → ss ≡ left_by f rs
all_dropped f rs ss u t left from none down =
    sym (left_all f ss (none_left f ss u t (λ r c i j. down r c (from r i) (from c j)) none)) ∙ left

pub held : (m n : Meaning) (rs : List Record) → n.records ≡ rs → n.most ≡ m.most → n ≡ holding m rs
held m n rs e f = λ z. record { records = e z; most = f z }
