-- What a store answers to a call, and the records that it then holds. Assumes nothing.
--     may_place most n p a rs      the name n is not there, the label a is not 0, there is room,
--                                  and the parent p is there or this is the first record of all
--     first_root n p rs            the first record of all: n and p are the root 0, its own parent, and rs is empty
--     may_tag n rs                 the record n is there
--     may_discard n rs             the record n is there, and no other record has it as its parent
--     answer_of ok                 done, or refused
--     X_answer, X_after            for each X of place, tag and discard: what comes back, and the records at the return;
--                                  a refusal leaves them as they were
use Rattle.std.specs.Prelude.{ℕ, Bool, true, false, cond, not, ◌&&◌, ◌||◌, List, length, Ok, Err, Result, ◌==◌}
use Rattle.tree.specs.declared.record.Record.{Record}
use Rattle.tree.specs.declared.record.Refused.{Refused}
use Rattle.tree.specs.Records.{has, is_parent, fresh, placed, tagged, without}

abbrev pub answer_of : Bool → Result (Unit {0}) Refused
answer_of true = Ok tt
answer_of false = Err (record {})

abbrev pub first_root : ℕ → ℕ → List Record → Bool
first_root n p rs = length rs == 0 && (n == 0 && p == 0)

abbrev pub may_place : ℕ → ℕ → ℕ → ℕ → List Record → Bool
may_place most n p a rs = not (has n rs) && (not (a == 0) && (not (length rs == most) && (has p rs || first_root n p rs)))

abbrev pub place_answer : ℕ → ℕ → ℕ → ℕ → List Record → Result (Unit {0}) Refused
place_answer most n p a rs = answer_of (may_place most n p a rs)

abbrev pub place_after : ℕ → ℕ → ℕ → ℕ → List Record → List Record
place_after most n p a rs = cond (may_place most n p a rs) (placed (fresh n p a) rs) rs

abbrev pub may_tag : ℕ → List Record → Bool
may_tag n rs = has n rs

abbrev pub tag_answer : ℕ → List Record → Result (Unit {0}) Refused
tag_answer n rs = answer_of (may_tag n rs)

abbrev pub tag_after : ℕ → ℕ → ℕ → List Record → List Record
tag_after n m w rs = cond (may_tag n rs) (tagged n m w rs) rs

abbrev pub may_discard : ℕ → List Record → Bool
may_discard n rs = has n rs && not (is_parent n rs)

abbrev pub discard_answer : ℕ → List Record → Result (Unit {0}) Refused
discard_answer n rs = answer_of (may_discard n rs)

abbrev pub discard_after : ℕ → List Record → List Record
discard_after n rs = cond (may_discard n rs) (without n rs) rs
