-- The plain tree rules: actions on a tree, one after another, with no locks and without limit. Assumes nothing.
--     Action            ask from the node n along the path p, add a child of n with the label a, remove the node n: by the ticket t
--     Answer            what a call answers; the plain rules give the first three
--     insert y ys       the tree with one node more, rising
--     delete n ys       the tree without the node n
--     Plain             the tree, and how many additions of each ticket were accepted
--     query ys n p      the nodes whose labels below n fit p, rising
--     plain s b         the answer to the action b and what is then left; none where its need is not met
--     plain_run s bs    the answers to the actions bs and the tree that is left; none where one is refused
--     replay ys bs      the same from the tree ys, where nobody has added yet
use Rattle.std.specs.Prelude.{ℕ, suc, ◌+◌, Bool, true, false, cond, not, ◌&&◌, List, [], ◌∷◌, map, Some, None, Option, ◌==◌, nat_lt}
use Rattle.path.specs.declared.coded.CodedPath.{CodedPath}
use Rattle.tree.specs.Names.{name_of}
use Rattle.tree.specs.Lists.{keep, some_of}
use Rattle.tree.specs.Trees.{Node, node_of}
use Rattle.model.specs.Paths.{fits}
use Rattle.model.specs.Ways.{stands, child_of, way}

pub data Action : Type 0 where
  asks : (t n : ℕ) (p : CodedPath) → Action
  adds : (t n a : ℕ) → Action
  removes : (t n : ℕ) → Action

pub data Answer : Type 0 where
  found : (names : List ℕ) → Answer
  made : (name : ℕ) → Answer
  removed : Answer
  ticket : (t : ℕ) → Answer
  finished : (place : ℕ) → Answer
  withdrawn : (tickets : List ℕ) → Answer
  ordered : (tickets : List ℕ) → Answer
  refused : (number : ℕ) → Answer

abbrev pub insert : Node → List Node → List Node
insert x [] = x ∷ []
insert x (y ∷ ys) = cond (nat_lt y.name x.name) (y ∷ insert x ys) (x ∷ y ∷ ys)

abbrev pub delete : ℕ → List Node → List Node
delete n ys = keep (λ y. not (y.name == n)) ys

pub record Plain : Type 0 where
  pub tree : List Node
  pub additions : ℕ → ℕ

abbrev pub fitting : Option (List ℕ) → CodedPath → Bool
fitting None p = false
fitting (Some ls) p = fits ls p

abbrev pub query : List Node → ℕ → CodedPath → List ℕ
query ys n p = map (λ y. y.name) (keep (λ y. fitting (way ys n y.name) p) ys)

abbrev pub one_more : ℕ → (ℕ → ℕ) → ℕ → ℕ
one_more t k u = cond (t == u) 1 0 + k u

-- a need, and what follows where it is met
abbrev pub needs : Bool → Answer → Plain → Option (Answer × Plain)
needs false a s = None
needs true a s = Some (a, s)

abbrev pub plain : Plain → Action → Option (Answer × Plain)
plain s (asks t n p) = needs (stands s.tree n) (found (query s.tree n p)) s
plain s (adds t n a) =
    let x = name_of t (suc (s.additions t)) in
    needs (stands s.tree n) (made x) (record { tree = insert (node_of x n a) s.tree; additions = one_more t s.additions })
plain s (removes t n) =
    needs (stands s.tree n && not (n == 0) && not (some_of (child_of n) s.tree)) removed
    (record { tree = delete n s.tree; additions = s.additions })

abbrev pub answer_first : Answer → Option (List Answer × List Node) → Option (List Answer × List Node)
answer_first a None = None
answer_first a (Some (rest, ys)) = Some (a ∷ rest, ys)

abbrev pub go_on : Option (Answer × Plain) → (Plain → Option (List Answer × List Node)) → Option (List Answer × List Node)
go_on None f = None
go_on (Some (a, s)) f = answer_first a (f s)

abbrev pub plain_run : Plain → List Action → Option (List Answer × List Node)
plain_run s [] = Some ([], s.tree)
plain_run s (b ∷ bs) = go_on (plain s b) (λ s'. plain_run s' bs)

abbrev pub replay : List Node → List Action → Option (List Answer × List Node)
replay ys bs = plain_run (record { tree = ys; additions = λ t. 0 }) bs
