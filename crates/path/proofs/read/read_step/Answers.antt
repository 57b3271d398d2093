use Rattle.std.proofs.Common.{sym, arith, length-drop}
use Rattle.name.specs.Names.{bytes_of, spot}
use Rattle.path.proofs.Tokens.{name_stops, star_begins, star_goes_past, star_stops}
use Rattle.path.proofs.read.read_step.Goals as goal

pub overflow_add-end : goal.overflow_add-end
overflow_add-end c =
    let p = c.args.part in
    let some = star_begins p.at (bytes_of p) (sym c.in-Star.ensures) in
    let size = length-drop p.at p.text.now in
    omega arith

pub returns-then-not-ends_at : goal.returns-then-not-ends_at
returns-then-not-ends_at c =
    let p = c.args.part in
    sym (star_goes_past c.args.classes.now p.at p.text.now (sym c.in-Star.ensures) (sym c.if-not-ends_at.ensures))

pub returns-else-not-ends_at : goal.returns-else-not-ends_at
returns-else-not-ends_at c =
    let p = c.args.part in
    sym (star_stops c.args.classes.now p.at p.text.now (sym c.in-Star.ensures) (sym c.if-not-ends_at.ensures))

pub returns-in_ok-read-in-Name : goal.returns-in_ok-read-in-Name
returns-in_ok-read-in-Name c =
    let p = c.args.part in
    let w = c.in-Name.word in
    name_stops c.args.classes.now p.at (bytes_of p) w.text.now w.at (spot c.in_ok-read-in-Name.field-0) (sym c.in-Name.ensures) c.in_ok-read-in-Name.ensures.answer
