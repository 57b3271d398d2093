use Rattle.std.proofs.Common.{◌≡◌, ℕ, ◌+◌, ◌≤◌, Bool, true, not, ltb, length, vec_items, vec_len, sym, ◌∙◌, arith}
use lib.ListN.{length-map}
use Rattle.std.proofs.lemmas.Bool.{ltb-false, not-true}
use Rattle.book.specs.declared.book.Book.{Book}
use Rattle.book.specs.Rows.{row_of, held_of}
use Rattle.book.proofs.book.Book.grant.Goals as goal

-- rows that are free are within the memory
few_enough : (b : Book) (k : ℕ) (r : Bool) → r ≡ not (ltb 256 (length (held_of b) + k)) → r ≡ true → vec_len b.rows + k ≤ 256
few_enough b k r e t =
    let v = b.rows.ok.0 in
    let m = length-map (vec_items b.rows) row_of in
    let f = ltb-false _ _ (not-true _ (sym e ∙ t)) in
    omega arith

pub append-requires : goal.append-requires
append-requires c =
    let b = c.args.self.now in
    let room = b.room in
    let few = few_enough b (length c.args.claim.locks.now) c.has_room.result c.has_room.ensures c.if-has_room.true in
    (omega arith, omega arith)

pub invariant_of-self : goal.invariant_of-self
invariant_of-self c =
    let b = c.args.self.now in
    let room = b.room in
    let few = few_enough b (length c.args.claim.locks.now) c.has_room.result c.has_room.ensures c.if-has_room.true in
    let len = c.append.ensures.len in
    let cap = c.append.ensures.capacity in
    record { few = omega arith; room = omega arith }
