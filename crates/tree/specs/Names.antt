-- Names of nodes. Assumes nothing.
--     name_of t k         the name `t.k`: the ticket t times 65,536, plus the count k
--     ticket_part n       the ticket of the name n
--     count_part n        its count
use Rattle.std.specs.Prelude.{ℕ, ◌+◌, ◌*◌, ◌/◌, ◌%◌}

abbrev pub name_of : ℕ → ℕ → ℕ
name_of t k = t * 65536 + k

abbrev pub ticket_part : ℕ → ℕ
ticket_part n = n / 65536

abbrev pub count_part : ℕ → ℕ
count_part n = n % 65536
