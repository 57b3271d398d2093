-- Trees of nodes, and the trees that a list of records holds. Assumes nothing.
--     Node             a node: its name, its parent's name, its label
--     node_of n p a    the node with these
--     Depth ys n d     the parents lead from n to the root 0 in d steps
--     IsTree ys        no nodes; or a root 0 that is its own parent, and from each node the parents lead to it
--     bare r           the node of the record r
--     nodes rs         the nodes of the records
--     live r           the record's node is not removed: its mark is 0
--     actual rs        the actual tree: the nodes of the live records
use Rattle.std.specs.Prelude.{◌≡◌, ℕ, suc, Bool, ◌≢◌, ◌⊎◌, List, [], map, ◌==◌}
use Rattle.tree.specs.declared.record.Record.{Record}
use Rattle.tree.specs.Lists.{In, keep}

pub record Node : Type 0 where
  pub name : ℕ
  pub parent : ℕ
  pub label : ℕ

abbrev pub node_of : ℕ → ℕ → ℕ → Node
node_of n p a = record { name = n; parent = p; label = a }

pub data Depth (ys : List Node) : ℕ → ℕ → Type 0 where
  top : Depth ys 0 0
  down : {d : ℕ} → (y : Node) → In y ys → y.name ≢ 0 → Depth ys y.parent d → Depth ys y.name (suc d)

pub record IsTree (ys : List Node) : Type 0 where
  pub root : (ys ≡ []) ⊎ ((a : ℕ) × In (node_of 0 0 a) ys)
  pub leads : (y : Node) → In y ys → (d : ℕ) × Depth ys y.name d

abbrev pub bare : Record → Node
bare r = node_of r.name r.parent r.label

abbrev pub nodes : List Record → List Node
nodes rs = map bare rs

abbrev pub live : Record → Bool
live r = r.mark == 0

abbrev pub actual : List Record → List Node
actual rs = nodes (keep live rs)
