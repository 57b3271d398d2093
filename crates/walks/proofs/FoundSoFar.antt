-- What is found so far, as a walk over all nodes meets it.
use Rattle.std.proofs.Common.{◌≡◌, ℕ, ◌<◌, Bool, true, false, List, [], ◌∷◌, ◌++◌, length, Some, None, Option, sym, refl, ap, ◌∙◌, arith}
use Rattle.std.proofs.lemmas.List.{length_push}
use Rattle.path.specs.declared.coded.CodedPath.{CodedPath}
use Rattle.tree.specs.declared.record.Record.{Record}
use Rattle.tree.specs.Records.{rises}
use Rattle.tree.specs.Trees.{actual}
use Rattle.tree.specs.Walk.{name_after, visited, ahead}
use Rattle.tree.proofs.Visits.{visited_none, ahead_falls}
use Rattle.model.specs.Rules.{query}
use Rattle.walks.proofs.Queries.{names_of, finds, found_hit, found_miss, found_all, found_few}

module _ (rs : List Record) (n : ℕ) (p : CodedPath) where
  -- the names ns are those found in front of the next name
  abbrev pub Found : Option ℕ → List ℕ → Type 0
  Found last ns = ns ≡ names_of (finds rs n p) (visited last rs)

  pub hits_none : (ns : List ℕ) → ns ≡ [] → Found None ns
  hits_none ns e = e ∙ sym (ap (names_of (finds rs n p)) (visited_none rs))

  module _ (u : rises rs ≡ true) (last o : Option ℕ) (next : o ≡ name_after last rs) where
    pub hits_all : o ≡ None → (ns : List ℕ) → Found last ns → ns ≡ query (actual rs) n p
    hits_all e ns f = f ∙ found_all rs n p last u (sym next ∙ e)

    pub ahead_less : (k : ℕ) → o ≡ Some k → length (ahead (Some k) rs) < length (ahead last rs)
    ahead_less k e = ahead_falls last k rs u (sym next ∙ e)

    -- the next name is k, and r says whether it is found
    module _ (k : ℕ) (e : o ≡ Some k) (r : Bool) (test : r ≡ finds rs n p k) (ns : List ℕ) (f : Found last ns) where
      pub hits_more : r ≡ true → (ms : List ℕ) → ms ≡ ns ++ (k ∷ []) → Found (Some k) ms
      hits_more t ms q =
          q ∙ (ap (λ (xs : List ℕ). xs ++ (k ∷ [])) f
          ∙ sym (found_hit (finds rs n p) last k rs u (sym next ∙ e) (sym test ∙ t)))

      pub hits_same : r ≡ false → Found (Some k) ns
      hits_same t = f ∙ sym (found_miss (finds rs n p) last k rs u (sym next ∙ e) (sym test ∙ t))

      -- there are more nodes than names so far
      pub hits_room : r ≡ true → length ns < length rs
      hits_room t =
          let a = ap (length {A = ℕ}) (hits_more t (ns ++ (k ∷ [])) refl) in
          let b = length_push ns k in
          let c = found_few (finds rs n p) (Some k) rs in
          omega arith
