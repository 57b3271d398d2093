-- What a lock book says.
--
--   lock_of l          the lock l, as the model has it
--   row_of r           the row r
--   held_of b          the locks that the book b holds, in the sequence they were taken
--   has_room b n       n more rows are free in the book b, which has 256
--   HasRoom b n        the same, as a fact
--   rows_for p ls      the rows of the locks ls, which the ticket at the place p takes
--
-- Assumes nothing.
use Rattle.std.specs.Prelude.{ℕ, ◌+◌, ◌≤◌, Bool, not, List, map, length, vec_items, nat_lt}
use Rattle.path.specs.declared.coded.CodedPath.{CodedPath}
use Rattle.model.specs.Locks as model
use Rattle.model.specs.Locks.{Held, read, write}
use Rattle.book.specs.declared.lock.Lock.{Lock}
use Rattle.book.specs.declared.lock.Lock.TheVariants.{Read, Write}
use Rattle.book.specs.declared.lock.LockRow.{LockRow}
use Rattle.book.specs.declared.book.Book.{Book}

abbrev pub lock_of : Lock → model.Lock CodedPath
lock_of (Read q) = read q.top q.path
lock_of (Write n f) = write n f

abbrev pub row_of : LockRow → Held
row_of r = record { holder = r.holder; lock = lock_of r.lock }

abbrev pub held_of : Book → List Held
held_of b = map row_of (vec_items b.rows)

abbrev pub rows_for : ℕ → List Lock → List Held
rows_for p ls = map (λ l. record { holder = p; lock = lock_of l }) ls

abbrev pub has_room : Book → ℕ → Bool
has_room b n = not (nat_lt 256 (length (held_of b) + n))

abbrev pub HasRoom : Book → ℕ → Type 0
HasRoom b n = length (held_of b) + n ≤ 256
