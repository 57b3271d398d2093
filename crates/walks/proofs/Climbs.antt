-- A climb from a node towards one above it, record by record.
use Rattle.std.proofs.Common.{◌≡◌, ℕ, zero, suc, ◌≤◌, Bool, true, false, cond, eqb, ◌≢◌, List, [], ◌∷◌, ◌++◌, length, Some, None, Option, sym, refl, ap, ◌∙◌, subst, ⊎_elim, append_assoc, append-nil, arith}
use mathlib.Core.Bool.{Bool-set}
use mathlib.Core.Logic.{∥∥₁_elim}
use lib.ListN.{length-map}
use Rattle.std.proofs.lemmas.Bool.{cases_eq, cond-true, cond-false, eq-eqb, ne_eqb}
use Rattle.std.proofs.lemmas.Bool.Decides.{nat_tests}
use Rattle.words.specs.Words.{bit}
use Rattle.path.specs.declared.coded.CodedPath.{CodedPath}
use Rattle.path.specs.CodedPaths.{code_steps}
use Rattle.fitting.specs.declared.fit.Ending.{Ending}
use Rattle.fitting.specs.declared.fit.Ending.TheVariants.{Closed, Open}
use Rattle.fitting.specs.Fitting.{Reads}
use Rattle.fitting.specs.Fitting as fitting
use Rattle.fitting.proofs.Places.{none_nowhere, nowhere_more}
use Rattle.tree.specs.declared.record.Record.{Record}
use Rattle.tree.specs.Lists.{In, keep}
use Rattle.tree.specs.Records.{over, rises, look}
use Rattle.tree.specs.Trees.{Node, bare, nodes, IsTree, top}
use Rattle.tree.proofs.Rising.{rises_parts, over_absent}
use Rattle.tree.proofs.Members.{map_to, map_from, keep_from, keep_length}
use Rattle.tree.proofs.Look.{look_in, look_name, look_absent}
use Rattle.model.specs.Ways.{find, longer, step_up, way_from, way}
use Rattle.model.specs.Rules as rules
use Rattle.model.specs.Locks.{fits_way}
use Rattle.model.proofs.Turn.{rises_up}
use Rattle.walks.specs.Climbs.{fits_then}
use Rattle.walks.proofs.Fuel.{steps_enough, absent_enough}

-- ── the node of a record, in the tree of the records that f says yes of ──
abbrev pub standing : (Record → Bool) → Option Record → Option Node
standing f None = None
standing f (Some r) = cond (f r) (Some (bare r)) None

pub find_kept : (f : Record → Bool) (rs : List Record) (m : ℕ) → rises rs ≡ true → find (nodes (keep f rs)) m ≡ standing f (look m rs)
find_kept f [] m u = refl
find_kept f (r ∷ rs) m u =
    let p = rises_parts r rs u in
    let t = find_kept f rs m p.1 in
    let a : r.name ≡ m → look m rs ≡ None = λ e. look_absent m rs (over_absent m rs (subst (λ (n : ℕ). over n rs ≡ true) e p.0)) in
    grind (arith, nat_tests)

pub rung_is : (f : Record → Bool) (rs : List Record) (m : ℕ) (o : Option Record) → rises rs ≡ true → m ≢ 0 → look m rs ≡ o → standing f o ≡ cond (eqb m 0) None (find (nodes (keep f rs)) m)
rung_is f rs m o u nz e = sym (cond-false (eqb m 0) None (find (nodes (keep f rs)) m) (ne_eqb m 0 nz) ∙ (find_kept f rs m u ∙ ap (standing f) e))

pub keep_any : (rs : List Record) → keep (λ r. true) rs ≡ rs
keep_any [] = refl
keep_any (r ∷ rs) = ap (λ (xs : List Record). r ∷ xs) (keep_any rs)

-- ── steps enough ──
part_of : (f : Record → Bool) (rs : List Record) (y : Node) → In y (nodes (keep f rs)) → In y (nodes rs)
part_of f rs y i =
    let r = map_from bare (keep f rs) y i in
    subst (λ (z : Node). In z (nodes rs)) (sym r.2) (map_to bare rs r.0 (keep_from f rs r.0 r.1).0)

tree_few : (f : Record → Bool) (rs : List Record) → length (nodes (keep f rs)) ≤ length rs
tree_few f rs = let e = length-map (keep f rs) bare in let k = keep_length f rs in omega arith

enough : (f : Record → Bool) (rs : List Record) (n m : ℕ) → rises rs ≡ true → IsTree (nodes rs) → way_from (length rs) (nodes (keep f rs)) n m ≡ way (nodes (keep f rs)) n m
enough f rs n m u t = ⊎_elim at_root below (cases_eq m 0)
  where
    ys : List Node
    ys = nodes (keep f rs)

    at_root : m ≡ 0 → way_from (length rs) ys n m ≡ way ys n m
    at_root e = subst (λ (x : ℕ). way_from (length rs) ys n x ≡ way ys n x) (sym e) (steps_enough ys (nodes rs) (part_of f rs) (rises_up rs u) n 0 0 (length rs) top (tree_few f rs))

    below : m ≢ 0 → way_from (length rs) ys n m ≡ way ys n m
    below nz = go (look m rs) refl
      where
        go : (o : Option Record) → look m rs ≡ o → way_from (length rs) ys n m ≡ way ys n m
        go None e =
            let gone : find ys m ≡ None = find_kept f rs m u ∙ ap (standing f) e in
            let stop = absent_enough ys (nodes rs) (part_of f rs) (rises_up rs u) n m in
            stop (length rs) nz gone ∙ sym (stop (length ys) nz gone)
        go (Some r) e =
            let l = t.leads (bare r) (map_to bare rs r (look_in m rs r e)) in
            subst (λ (x : ℕ). way_from (length rs) ys n x ≡ way ys n x) (look_name m rs r e) (steps_enough ys (nodes rs) (part_of f rs) (rises_up rs u) n r.name l.0 (length rs) l.1 (tree_few f rs))

-- ── the climb ──
abbrev pub and_then : Option (List ℕ) → List ℕ → Option (List ℕ)
and_then None ls = None
and_then (Some ks) ls = Some (ks ++ ls)

-- with k steps left at the node, the places w have read the labels from there on down, and then ls
abbrev pub Climbing : (Record → Bool) → List Record → CodedPath → Ending → List ℕ → ℕ → ℕ → ℕ → ℕ → ℕ → Type 0
Climbing f rs p e ls n m k node w =
    (ks : List ℕ) × (way_from (length rs) (nodes (keep f rs)) n m ≡ and_then (way_from k (nodes (keep f rs)) n node) ks) × Reads eqb e (code_steps p) (ks ++ ls) w

and_nothing : (o : Option (List ℕ)) → o ≡ and_then o []
and_nothing None = refl
and_nothing (Some ls) = ap Some (sym (append-nil ls))

longer_then : (o : Option (List ℕ)) (a : ℕ) (ls : List ℕ) → and_then (longer o a) ls ≡ and_then o (a ∷ ls)
longer_then None a ls = refl
longer_then (Some ks) a ls = ap Some (append_assoc ks (a ∷ []) ls)

-- what the climb comes to, where all steps are made
pub ended : (f : Record → Bool) (rs : List Record) (p : CodedPath) (e : Ending) (ls : List ℕ) (n m : ℕ) (b : Bool) → rises rs ≡ true → ∥ IsTree (nodes rs) ∥₁ → b ≡ fits_then (way_from (length rs) (nodes (keep f rs)) n m) e p ls → b ≡ fits_then (way (nodes (keep f rs)) n m) e p ls
ended f rs p e ls n m b u t h =
    ∥∥₁_elim t (Bool-set b (fits_then (way (nodes (keep f rs)) n m) e p ls)) (λ is. h ∙ ap (λ (o : Option (List ℕ)). fits_then o e p ls) (enough f rs n m u is))

module _ (f : Record → Bool) (rs : List Record) (p : CodedPath) (e : Ending) (ls : List ℕ) (n m : ℕ) where
  abbrev Up : ℕ → ℕ → Option (List ℕ)
  Up k node = way_from k (nodes (keep f rs)) n node

  pub climb_begins : (k w : ℕ) → k ≡ length rs → Reads eqb e (code_steps p) ls w → Climbing f rs p e ls n m k m w
  climb_begins k w z h = ([], and_nothing (Up (length rs) m) ∙ ap (λ (j : ℕ). and_then (Up j m) []) (sym z), h)

  up_one : (k node : ℕ) (o : Option Node) → node ≢ n → cond (eqb node 0) None (find (nodes (keep f rs)) node) ≡ o → Up (suc k) node ≡ step_up o (way_from k (nodes (keep f rs)) n)
  up_one k node o ne s = cond-false (eqb node n) (Some []) _ (ne_eqb node n ne) ∙ (out (eqb node 0) (find (nodes (keep f rs)) node) ∙ ap (λ (o : Option Node). step_up o (way_from k (nodes (keep f rs)) n)) s)
    where
      out : (b : Bool) (o : Option Node) → cond b None (step_up o (way_from k (nodes (keep f rs)) n)) ≡ step_up (cond b None o) (way_from k (nodes (keep f rs)) n)
      out true o = refl
      out false o = refl

  -- at the top
  here : (k node : ℕ) → node ≡ n → Up k node ≡ Some []
  here zero node q = cond-true (eqb node n) (Some []) None (eq-eqb node n q)
  here (suc k) node q = cond-true (eqb node n) (Some []) _ (eq-eqb node n q)

  pub climb_arrives : (k node w : ℕ) → node ≡ n → Climbing f rs p e ls n m k node w → bit w 0 ≡ fits_then (Up (length rs) m) e p ls
  climb_arrives k node w q (ks, is, h) = h 0 (omega arith) ∙ sym (ap (λ (o : Option (List ℕ)). fits_then o e p ls) (is ∙ ap (λ (o : Option (List ℕ)). and_then o ks) (here k node q)))

  -- no way
  lost : (k node w : ℕ) → Up k node ≡ None → Climbing f rs p e ls n m k node w → false ≡ fits_then (Up (length rs) m) e p ls
  lost k node w q (ks, is, h) = sym (ap (λ (o : Option (List ℕ)). fits_then o e p ls) (is ∙ ap (λ (o : Option (List ℕ)). and_then o ks) q))

  pub climb_ends : (k node w : ℕ) → k ≡ 0 → node ≢ n → Climbing f rs p e ls n m k node w → false ≡ fits_then (Up (length rs) m) e p ls
  climb_ends k node w z ne c = lost k node w (ap (λ (j : ℕ). Up j node) z ∙ cond-false (eqb node n) (Some []) None (ne_eqb node n ne)) c

  pub climb_stops : (k j node w : ℕ) → k ≡ suc j → node ≢ n → None ≡ cond (eqb node 0) None (find (nodes (keep f rs)) node) → Climbing f rs p e ls n m k node w → false ≡ fits_then (Up (length rs) m) e p ls
  climb_stops k j node w z ne s c = lost k node w (ap (λ (i : ℕ). Up i node) z ∙ up_one j node None ne (sym s)) c

  -- one record more
  pub climb_on : (k j node w v : ℕ) (r : Record) → k ≡ suc j → node ≢ n → Some (bare r) ≡ cond (eqb node 0) None (find (nodes (keep f rs)) node)
      → ((e : Ending) (ls : List ℕ) → Reads eqb e (code_steps p) ls w → Reads eqb e (code_steps p) (r.label ∷ ls) v)
      → Climbing f rs p e ls n m k node w → Climbing f rs p e ls n m j r.parent v
  climb_on k j node w v r z ne s back (ks, is, h) = (
    r.label ∷ ks,
    is ∙ (ap (λ (i : ℕ). and_then (Up i node) ks) z ∙ (ap (λ (o : Option (List ℕ)). and_then o ks) (up_one j node (Some (bare r)) ne (sym s)) ∙ longer_then (Up j r.parent) r.label ks)),
    back e (ks ++ ls) h,
  )

  -- from no place on do the steps fit, so that no label in front can help
  pub climb_in_vain : (k node w : ℕ) → w ≡ 0 → Climbing f rs p e ls n m k node w → false ≡ fits_then (Up (length rs) m) e p ls
  climb_in_vain k node w z (ks, is, h) = sym (ap (λ (o : Option (List ℕ)). fits_then o e p ls) is ∙ never (Up k node))
    where
      never : (o : Option (List ℕ)) → fits_then (and_then o ks) e p ls ≡ false
      never None = refl
      never (Some js) =
          ap (fitting.fits eqb e (code_steps p)) (append_assoc js ks ls)
          ∙ nowhere_more eqb e (code_steps p) (ks ++ ls) js (none_nowhere eqb e (code_steps p) (ks ++ ls) (subst (Reads eqb e (code_steps p) (ks ++ ls)) z h))

-- ── the three endings ──
pub query_ends : (o : Option (List ℕ)) (p : CodedPath) → fits_then o Closed p [] ≡ rules.fitting o p
query_ends None p = refl
query_ends (Some ls) p = ap (fitting.fits eqb Closed (code_steps p)) (append-nil ls)

pub any_ends : (o : Option (List ℕ)) (p : CodedPath) → fits_then o Open p [] ≡ fits_way o None p
any_ends None p = refl
any_ends (Some ls) p = ap (fitting.fits eqb Open (code_steps p)) (append-nil ls)

pub label_ends : (o : Option (List ℕ)) (a : ℕ) (p : CodedPath) → fits_then o Closed p (a ∷ []) ≡ fits_way o (Some a) p
label_ends None a p = refl
label_ends (Some ls) a p = refl
