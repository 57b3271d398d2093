-- What a query finds, name by name as a walk meets them.
use Rattle.std.proofs.Common.{◌≡◌, ℕ, zero, suc, ◌≤◌, Bool, true, false, cond, eqb, List, [], ◌∷◌, ◌++◌, map, length, Some, None, Option, sym, refl, ap, ◌∙◌, inl, inr, ⊎_elim, arith}
use lib.ListN.{length-map}
use Rattle.std.proofs.lemmas.Bool.{cases_Bool, cond-true, cond-false}
use Rattle.path.specs.declared.coded.CodedPath.{CodedPath}
use Rattle.tree.specs.declared.record.Record.{Record}
use Rattle.tree.specs.Lists.{In, keep}
use Rattle.tree.specs.Records.{rises}
use Rattle.tree.specs.Trees.{Node, bare, nodes, live, actual}
use Rattle.tree.specs.Walk.{name_after, visited}
use Rattle.tree.proofs.Members.{keep_length}
use Rattle.tree.proofs.Look.{in_look, has_look, look_name}
use Rattle.tree.proofs.Rising.{rises_distinct}
use Rattle.tree.proofs.Visits.{visited_step, visited_end, visited_bound, after_has}
use Rattle.model.specs.Paths.{fits}
use Rattle.model.specs.Ways.{find, step_up, way_from, way}
use Rattle.model.specs.Rules.{fitting, query}
use Rattle.model.proofs.Ways.{nothing_fits}
use Rattle.walks.proofs.Climbs.{find_kept, standing}

-- the names in rs of which f says yes
abbrev pub names_of : (ℕ → Bool) → List Record → List ℕ
names_of f rs = map (λ (r : Record). r.name) (keep (λ (r : Record). f r.name) rs)

-- a query from n along p finds the name
abbrev pub finds : List Record → ℕ → CodedPath → ℕ → Bool
finds rs n p m = fitting (way (actual rs) n m) p

-- ── a marked node is not found ──
none_fits : (p : CodedPath) → fits [] p ≡ false
none_fits p = ⊎_elim (λ e. absurd (nothing_fits p e)) (λ e. e) (cases_Bool (fits [] p))

absent_unfit : (k : ℕ) (ys : List Node) (n m : ℕ) (p : CodedPath) → find ys m ≡ None → fitting (way_from k ys n m) p ≡ false
absent_unfit zero ys n m p f = go (eqb m n)
  where
    go : (b : Bool) → fitting (cond b (Some []) None) p ≡ false
    go true = none_fits p
    go false = refl
absent_unfit (suc k) ys n m p f = go (eqb m n) (eqb m 0) (find ys m) f
  where
    go : (b c : Bool) (o : Option Node) → o ≡ None → fitting (cond b (Some []) (cond c None (step_up o (way_from k ys n)))) p ≡ false
    go true c o e = none_fits p
    go false true o e = refl
    go false false o e = ap (λ (o : Option Node). fitting (step_up o (way_from k ys n)) p) e

marked_missed : (rs : List Record) (n : ℕ) (p : CodedPath) → rises rs ≡ true → (r : Record) → In r rs → live r ≡ false → finds rs n p r.name ≡ false
marked_missed rs n p u r i e =
    absent_unfit (length (actual rs)) (actual rs) n r.name p
    (find_kept live rs r.name u ∙ ap (standing live) (in_look rs r (rises_distinct rs u) i) ∙ ap (λ (b : Bool). cond b (Some (bare r)) None) e)

-- ── the query ──
live_names : (f : ℕ → Bool) (rs : List Record) → ((r : Record) → In r rs → live r ≡ false → f r.name ≡ false) → map (λ (y : Node). y.name) (keep (λ (y : Node). f y.name) (actual rs)) ≡ names_of f rs
live_names f [] h = refl
live_names f (r ∷ rs) h = go (live r) refl (live_names f rs (λ x i. h x (inr i)))
  where
    one : (b : Bool) → map (λ (y : Node). y.name) (keep (λ (y : Node). f y.name) (actual rs)) ≡ names_of f rs
        → map (λ (y : Node). y.name) (cond b (bare r ∷ keep (λ (y : Node). f y.name) (actual rs)) (keep (λ (y : Node). f y.name) (actual rs))) ≡ map (λ (x : Record). x.name) (cond b (r ∷ keep (λ (x : Record). f x.name) rs) (keep (λ (x : Record). f x.name) rs))
    one true t = ap (λ (ns : List ℕ). r.name ∷ ns) t
    one false t = t

    go : (b : Bool) → live r ≡ b → map (λ (y : Node). y.name) (keep (λ (y : Node). f y.name) (actual rs)) ≡ names_of f rs → map (λ (y : Node). y.name) (keep (λ (y : Node). f y.name) (nodes (cond b (r ∷ keep live rs) (keep live rs)))) ≡ names_of f (r ∷ rs)
    go true e t = one (f r.name) t
    go false e t = t ∙ sym (ap (λ (b : Bool). map (λ (x : Record). x.name) (cond b (r ∷ keep (λ (x : Record). f x.name) rs) (keep (λ (x : Record). f x.name) rs))) (h r (inl refl) e))

query_is : (rs : List Record) (n : ℕ) (p : CodedPath) → rises rs ≡ true → query (actual rs) n p ≡ names_of (finds rs n p) rs
query_is rs n p u = live_names (finds rs n p) rs (marked_missed rs n p u)

-- ── as a walk meets them ──
found_step : (f : ℕ → Bool) (last : Option ℕ) (k : ℕ) (rs : List Record) → rises rs ≡ true → name_after last rs ≡ Some k → names_of f (visited (Some k) rs) ≡ cond (f k) (names_of f (visited last rs) ++ (k ∷ [])) (names_of f (visited last rs))
found_step f last k rs u e =
    let r = has_look k rs (after_has last k rs e) in
    ap (names_of f) (visited_step last k r.0 rs u e r.1)
    ∙ more r.0 (look_name k rs r.0 r.1) (visited last rs)
  where
    more : (r : Record) → r.name ≡ k → (xs : List Record) → names_of f (xs ++ (r ∷ [])) ≡ cond (f k) (names_of f xs ++ (k ∷ [])) (names_of f xs)
    more r q [] = ap (λ (m : ℕ). map (λ (x : Record). x.name) (cond (f m) (r ∷ []) [])) q ∙ alone (f k)
      where
        alone : (b : Bool) → map (λ (x : Record). x.name) (cond b (r ∷ []) []) ≡ cond b (k ∷ []) []
        alone true = ap (λ (m : ℕ). m ∷ []) q
        alone false = refl
    more r q (x ∷ xs) = one (f x.name) (f k) (more r q xs)
      where
        one : (b c : Bool) → names_of f (xs ++ (r ∷ [])) ≡ cond c (names_of f xs ++ (k ∷ [])) (names_of f xs)
            → map (λ (y : Record). y.name) (cond b (x ∷ keep (λ (y : Record). f y.name) (xs ++ (r ∷ []))) (keep (λ (y : Record). f y.name) (xs ++ (r ∷ []))))
            ≡ cond c (map (λ (y : Record). y.name) (cond b (x ∷ keep (λ (y : Record). f y.name) xs) (keep (λ (y : Record). f y.name) xs)) ++ (k ∷ [])) (map (λ (y : Record). y.name) (cond b (x ∷ keep (λ (y : Record). f y.name) xs) (keep (λ (y : Record). f y.name) xs)))
        one true true t = ap (λ (ns : List ℕ). x.name ∷ ns) t
        one true false t = ap (λ (ns : List ℕ). x.name ∷ ns) t
        one false true t = t
        one false false t = t

pub found_hit : (f : ℕ → Bool) (last : Option ℕ) (k : ℕ) (rs : List Record) → rises rs ≡ true → name_after last rs ≡ Some k → f k ≡ true → names_of f (visited (Some k) rs) ≡ names_of f (visited last rs) ++ (k ∷ [])
found_hit f last k rs u e h = found_step f last k rs u e ∙ cond-true (f k) (names_of f (visited last rs) ++ (k ∷ [])) (names_of f (visited last rs)) h

pub found_miss : (f : ℕ → Bool) (last : Option ℕ) (k : ℕ) (rs : List Record) → rises rs ≡ true → name_after last rs ≡ Some k → f k ≡ false → names_of f (visited (Some k) rs) ≡ names_of f (visited last rs)
found_miss f last k rs u e h = found_step f last k rs u e ∙ cond-false (f k) (names_of f (visited last rs) ++ (k ∷ [])) (names_of f (visited last rs)) h

pub found_all : (rs : List Record) (n : ℕ) (p : CodedPath) (last : Option ℕ) → rises rs ≡ true → name_after last rs ≡ None → names_of (finds rs n p) (visited last rs) ≡ query (actual rs) n p
found_all rs n p last u e = ap (names_of (finds rs n p)) (visited_end last rs e) ∙ sym (query_is rs n p u)

pub found_few : (f : ℕ → Bool) (last : Option ℕ) (rs : List Record) → length (names_of f (visited last rs)) ≤ length rs
found_few f last rs =
    let a = length-map (keep (λ (r : Record). f r.name) (visited last rs)) (λ (r : Record). r.name) in
    let b = keep_length (λ (r : Record). f r.name) (visited last rs) in
    let c = visited_bound last rs in
    omega arith
