-- A node's name holds its ticket and its count: each can be read back, and two names are equal only if both are.
use Rattle.std.proofs.Common.{◌≡◌, ℕ, ◌^◌, ◌<◌, arith}
use Rattle.tree.specs.Names.{name_of, ticket_part, count_part}

pub ticket_of_name : (t k : ℕ) → k < 65536 → ticket_part (name_of t k) ≡ t
ticket_of_name t k h = omega arith

pub count_of_name : (t k : ℕ) → k < 65536 → count_part (name_of t k) ≡ k
count_of_name t k h = omega arith

pub name_of_parts : (n : ℕ) → name_of (ticket_part n) (count_part n) ≡ n
name_of_parts n = omega arith

pub name_same : (t k u j : ℕ) → k < 65536 → j < 65536 → name_of t k ≡ name_of u j → (t ≡ u) × (k ≡ j)
name_same t k u j h l e = (omega arith, omega arith)

-- a later ticket's names are greater
pub name_later : (t k u j : ℕ) → k < 65536 → t < u → name_of t k < name_of u j
name_later t k u j h l = omega arith

pub name_fits : (t k : ℕ) → t < 2 ^ 32 → k < 65536 → name_of t k < 2 ^ 48
name_fits t k h l = omega arith
