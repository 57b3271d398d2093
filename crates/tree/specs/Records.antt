-- Lists of records, strictly rising by name: such a list is a set of records with distinct names. Assumes nothing.
--     over n rs            each name in rs is greater than n
--     rises rs             each name is greater than those before it
--     distinct rs          no name occurs twice
--     look n rs            the record with the name n, or none
--     has n rs             there is one
--     next_name n rs       the least name greater than n, or none, where rs rises
--     child_of n r         r has n as its parent, and is another
--     is_parent n rs       another record has n as its parent
--     labelled rs          each label is at least 1
--     fresh n p a          a record as it is placed: name n, parent p, label a, mark 0, note 0
--     with_tag m w r       r with the mark m and the note w
--     placed r rs          rs with r before the first name that is not less
--     tagged n m w rs      rs with the mark m and the note w on the record n
--     without n rs         rs without the record n
--     sorted rs            the records of rs, put in rising order
--     seat n rs            how many records stand in front of the first name that is not less than n
use Rattle.std.specs.Prelude.{ℕ, suc, Bool, true, cond, not, ◌&&◌, List, [], ◌∷◌, is_some, Some, None, Option, ◌==◌, nat_lt}
use Rattle.tree.specs.declared.record.Record.{Record}
use Rattle.tree.specs.Lists.{some_of, all_of}

abbrev pub over : ℕ → List Record → Bool
over n [] = true
over n (r ∷ rs) = nat_lt n r.name && over n rs

abbrev pub rises : List Record → Bool
rises [] = true
rises (r ∷ rs) = over r.name rs && rises rs

abbrev pub look : ℕ → List Record → Option Record
look n [] = None
look n (r ∷ rs) = cond (r.name == n) (Some r) (look n rs)

abbrev pub has : ℕ → List Record → Bool
has n rs = is_some (look n rs)

abbrev pub distinct : List Record → Bool
distinct [] = true
distinct (r ∷ rs) = not (has r.name rs) && distinct rs

abbrev pub next_name : ℕ → List Record → Option ℕ
next_name n [] = None
next_name n (r ∷ rs) = cond (nat_lt n r.name) (Some r.name) (next_name n rs)

abbrev pub child_of : ℕ → Record → Bool
child_of n r = not (r.name == n) && r.parent == n

abbrev pub is_parent : ℕ → List Record → Bool
is_parent n rs = some_of (child_of n) rs

abbrev pub labelled : List Record → Bool
labelled rs = all_of (λ r. nat_lt 0 r.label) rs

abbrev pub fresh : ℕ → ℕ → ℕ → Record
fresh n p a = record { name = n; parent = p; label = a; mark = 0; note = 0 }

abbrev pub with_tag : ℕ → ℕ → Record → Record
with_tag m w r = record { name = r.name; parent = r.parent; label = r.label; mark = m; note = w }

abbrev pub placed : Record → List Record → List Record
placed r [] = r ∷ []
placed r (x ∷ xs) = cond (nat_lt x.name r.name) (x ∷ placed r xs) (r ∷ x ∷ xs)

abbrev pub tagged : ℕ → ℕ → ℕ → List Record → List Record
tagged n m w [] = []
tagged n m w (r ∷ rs) = cond (r.name == n) (with_tag m w r) r ∷ tagged n m w rs

abbrev pub without : ℕ → List Record → List Record
without n [] = []
without n (r ∷ rs) = cond (r.name == n) (without n rs) (r ∷ without n rs)

abbrev pub sorted : List Record → List Record
sorted [] = []
sorted (r ∷ rs) = placed r (sorted rs)

abbrev pub seat : ℕ → List Record → ℕ
seat n [] = 0
seat n (r ∷ rs) = cond (nat_lt r.name n) (suc (seat n rs)) 0
