use Rattle.std.proofs.Common.{◌≡◌, ◌+◌, ◌++◌, map, take, vec_items, vec_len, vec_capacity}
use Rattle.book.specs.Rows.{row_of, rows_for}
use Rattle.book.proofs.book.change.append.Given as goal

abbrev pub invariant-loop-lock : goal.invariant-loop-lock
invariant-loop-lock l =
    (map row_of (vec_items l.rows) ≡ map row_of (vec_items l.initial.rows) ++ rows_for l.claim.place (take l.lock-index l.claim.locks.now))
    × (vec_len l.rows ≡ vec_len l.initial.rows + l.lock-index)
    × (vec_capacity l.rows ≡ vec_capacity l.initial.rows)
