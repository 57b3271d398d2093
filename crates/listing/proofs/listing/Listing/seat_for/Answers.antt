use Rattle.std.proofs.Common.{◌≡◌, length, vec_items, arith}
use Rattle.std.proofs.lemmas.Bool.Decides.{nat_tests}
use Rattle.std.proofs.lemmas.List.{nil_from_length}
use Rattle.listing.specs.Rows.{first, behind}
use Rattle.listing.specs.RowsLemmas.{depth_bound, name_read}
use Rattle.listing.proofs.listing.Listing.seat_for.Goals as goal

-- a depth is less than the number of rows
pub overflow_add-depth : goal.overflow_add-depth
overflow_add-depth c =
    let s = c.args.self.now in
    let e = s.rows.ok.0 in
    let h = c.in-Some.ensures.answer.0 in
    let x = c.index.result.now in
    let t = depth_bound (vec_items s.rows) c.in-Some.i x s.nests h c.index.ensures in
    omega arith

pub returns-in-Some : goal.returns-in-Some
returns-in-Some c =
    let f = c.in-Some.ensures.answer in
    let x = c.index.result.now in
    record { answer = behind c.in-Some.i x f.0 c.index.ensures (name_read (vec_items c.args.self.now.rows) c.in-Some.i c.args.parent x c.index.ensures (f.1 x)) }

pub returns-then-parent-eq-ROOT : goal.returns-then-parent-eq-ROOT
returns-then-parent-eq-ROOT c =
    let v = c.args.self.now.rows in
    let e = v.ok.0 in
    let none : length (vec_items v) ≡ 0 = grind (arith, nat_tests) in
    record { answer = first (nil_from_length (vec_items v) none) (omega arith) (omega arith) }
