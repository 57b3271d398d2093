use Rattle.std.proofs.Common.{vec_items, arith}
use lib.ListN.{length-map}
use Rattle.book.specs.Rows.{row_of}
use Rattle.book.proofs.book.Book.len.Goals as goal

pub returns : goal.returns
returns c =
    let b = c.args.self.now in
    let v = b.rows.ok.0 in
    let few = b.few in
    let e = c.len.ensures in
    let m = length-map (vec_items b.rows) row_of in
    record { value = omega arith; bound = omega arith }
