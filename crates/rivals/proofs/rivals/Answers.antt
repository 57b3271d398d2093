use Rattle.std.proofs.Common.{map}
use Rattle.words.proofs.Bits.{bit_none}
use Rattle.tree.specs.Trees.{nodes}
use Rattle.book.specs.Rows.{lock_of, held_of}
use Rattle.rivals.proofs.Rows.{row_put, row_skipped, rows_all}
use Rattle.rivals.proofs.rivals.Goals as goal
use Rattle.rivals.proofs.rivals.Goals.{then-is_new, else-is_new}

pub loop-row-init : goal.loop-row-init
loop-row-init g c = bit_none

pub loop-row-preserved : goal.loop-row-preserved
loop-row-preserved g c =
    let ys = nodes (g.S.Store.meaning c.args.store.now).records in
    let p = c.args.claim.place in
    let ls = map lock_of c.args.claim.locks.now in
    let rows = c.rows-row-items.result.now in
    let k = c.loop-row.row-index in
    let w = c.loop-row.word in
    let r = c.row-item.result in
    elim c.if-is_new.branch [
      | then-is_new way ↦
          row_put ys p ls rows k w r c.loop-row-test.true c.row-item.is c.loop-row.invariant c.is_new.result c.is_new.ensures way.if-is_new.true
          way.with-word.result c.if-is_new.word way.with-word.ensures way.word-is
      | else-is_new way ↦
          row_skipped ys p ls rows k w r c.loop-row-test.true c.row-item.is c.loop-row.invariant c.is_new.result c.is_new.ensures way.if-is_new.false
          c.if-is_new.word way.word-is
    ]

pub returns : goal.returns
returns g c =
    rows_all (nodes (g.S.Store.meaning c.args.store.now).records) c.args.claim.place (map lock_of c.args.claim.locks.now) c.rows-row-items.result.now
    c.loop-row.row-index c.loop-row.word (held_of c.args.book.now) c.loop-row-test.false c.rows-row-items.ensures c.loop-row.invariant
