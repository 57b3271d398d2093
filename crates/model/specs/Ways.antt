-- A node of a tree, and the labels on the way from one node down to another. Assumes nothing.
--     find ys n         the node with the name n, or none
--     stands ys n       there is one
--     child_of n y      y has n as its parent, and is not the root
--     way ys n m        the labels below n down to m; none where n is neither m nor an ancestor of m
use Rattle.std.specs.Prelude.{ℕ, zero, suc, Bool, cond, not, ◌&&◌, List, [], ◌∷◌, ◌++◌, length, Some, None, Option, ◌==◌, nat_eq}
use Rattle.tree.specs.Lists.{some_of}
use Rattle.tree.specs.Trees.{Node}

abbrev pub find : List Node → ℕ → Option Node
find [] n = None
find (y ∷ ys) n = cond (y.name == n) (Some y) (find ys n)

abbrev pub stands : List Node → ℕ → Bool
stands ys n = some_of (λ y. nat_eq y.name n) ys

abbrev pub child_of : ℕ → Node → Bool
child_of n y = not (y.name == 0) && y.parent == n

abbrev pub longer : Option (List ℕ) → ℕ → Option (List ℕ)
longer None a = None
longer (Some ls) a = Some (ls ++ (a ∷ []))

abbrev pub step_up : Option Node → (ℕ → Option (List ℕ)) → Option (List ℕ)
step_up None f = None
step_up (Some y) f = longer (f y.parent) y.label

-- at most so many steps up
abbrev pub way_from : ℕ → List Node → ℕ → ℕ → Option (List ℕ)
way_from zero ys n m = cond (m == n) (Some []) None
way_from (suc k) ys n m = cond (m == n) (Some []) (cond (m == 0) None (step_up (find ys m) (way_from k ys n)))

-- a way has no more steps than the tree has nodes
abbrev pub way : List Node → ℕ → ℕ → Option (List ℕ)
way ys n m = way_from (length ys) ys n m
