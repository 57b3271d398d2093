use Rattle.std.proofs.Common.{◌≡◌, List, [], ◌∷◌, ◌++◌, map, length, vec_items, ap, ◌∙◌, arith, take_all}
use Rattle.model.specs.Locks.{Held}
use Rattle.book.specs.declared.lock.Lock.{Lock}
use Rattle.book.specs.Rows.{lock_of, row_of, rows_for}
use Rattle.book.proofs.Kept.{map_last, append_more}
use Rattle.book.proofs.book.change.append.Goals as goal

pub push_reserved-requires : goal.push_reserved-requires
push_reserved-requires c =
    let len = c.loop-lock.invariant.1 in
    let cap = c.loop-lock.invariant.2 in
    let room = c.requires.1 in
    omega arith

pub loop-lock-preserved : goal.loop-lock-preserved
loop-lock-preserved c =
    let p = c.args.claim.place in
    let row : Lock → Held = λ l. record { holder = p; lock = lock_of l } in
    let first = map row_of (vec_items c.args.rows.now) in
    let i = c.loop-lock.lock-index in
    let lock = c.lock-item.result in
    let len = c.loop-lock.invariant.1 in
    let longer = c.push_reserved.ensures.len in (
      ap (map row_of) c.push_reserved.ensures.items
          ∙ (map_last row_of (vec_items c.loop-lock.rows) _
          ∙ (ap (λ (hs : List Held). hs ++ (row lock ∷ [])) c.loop-lock.invariant.0
          ∙ append_more row first c.args.claim.locks.now i lock c.loop-lock-test.true c.lock-item.is)),
      omega arith,
      c.push_reserved.ensures.capacity ∙ c.loop-lock.invariant.2,
    )

pub returns : goal.returns
returns c =
    let p = c.args.claim.place in
    let locks = c.args.claim.locks.now in
    let i = c.loop-lock.lock-index in
    let first = map row_of (vec_items c.args.rows.now) in
    let n : i ≡ length locks = omega arith in
    let len = c.loop-lock.invariant.1 in
    record {
      after = c.loop-lock.invariant.0 ∙ ap (λ (ls : List Lock). first ++ rows_for p ls) (take_all i locks c.loop-lock-test.false);
      len = omega arith;
      capacity = c.loop-lock.invariant.2;
    }
