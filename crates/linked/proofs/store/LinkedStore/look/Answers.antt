use Rattle.std.proofs.Common.{◌≡◌, Ok, vec_items, arith}
use Rattle.std.proofs.lemmas.Bool.Decides.{nat_tests}
use Rattle.tree.proofs.Seats.{look_at_seat}
use Rattle.linked.specs.Seats.{found}
use Rattle.linked.proofs.Rows.{found_there}
use Rattle.linked.proofs.store.LinkedStore.look.Goals as goal

pub index-requires : goal.index-requires
index-requires c =
    let s = c.args.self.now in
    let e = s.rows.ok.0 in
    let is : Ok c.in_ok-seat.seat ≡ found c.args.name (vec_items s.rows) = grind arith in
    let f = found_there c.args.name c.in_ok-seat.seat (vec_items s.rows) s.rising is in
    omega arith

pub returns : goal.returns
returns c =
    let s = c.args.self.now in
    let is : Ok c.in_ok-seat.seat ≡ found c.args.name (vec_items s.rows) = grind arith in
    let f = found_there c.args.name c.in_ok-seat.seat (vec_items s.rows) s.rising is in
    let l = look_at_seat c.args.name (vec_items s.rows) c.index.result.now s.rising f.2 in
    record { answer = grind (arith, nat_tests) }
