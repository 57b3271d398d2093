use Rattle.std.proofs.Common.{ℕ, ◌+◌, ◌-◌, ◌<◌, eqb, List, length, sym, ap, ◌∙◌, arith}
use Rattle.path.specs.CodedPaths.{code_steps}
use Rattle.fitting.specs.declared.fit.Ending.{Ending}
use Rattle.fitting.specs.Fitting.{Reads}
use Rattle.std.specs.Option.{option_map}
use Rattle.std.proofs.lemmas.Bool.{ne_eqb}
use Rattle.tree.specs.Trees.{bare}
use Rattle.walks.proofs.Climbs.{Climbing, climb_begins, climb_arrives, climb_ends, climb_stops, climb_on, climb_in_vain, ended}
use Rattle.walks.proofs.climb.climb.Given as given
use Rattle.walks.proofs.climb.climb.Goals as goal
use Rattle.walks.proofs.climb.climb.Goals.{After-back-left}

pub loop-init : goal.loop-init
loop-init g c e ls h = climb_begins (g.C.Choice.chosen c.args.choice.now) ((g.S.Store.meaning c.args.store.now).records) c.args.query.now.path e ls c.args.query.now.top c.args.at _ c.args.places (omega arith) h

-- one turn of the loop: the labels with the record's in front are read
turn : (g : given.Over) (c : After-back-left g) (e : Ending) (ls : List ℕ) → Reads eqb e (code_steps c.args.query.now.path) ls c.args.places
    → Climbing (g.C.Choice.chosen c.args.choice.now) ((g.S.Store.meaning c.args.store.now).records) c.args.query.now.path e ls c.args.query.now.top c.args.at (length ((g.S.Store.meaning c.args.store.now).records) - (c.loop.counter + 1)) c.in-Some.record.parent c.back-left.result
turn g c e ls h =
    let rs = (g.S.Store.meaning c.args.store.now).records in
    let more : c.loop.counter < length rs = omega arith in
    let up = ap (option_map bare) (sym c.in-Some.is) ∙ c.rung.ensures in
    let back = c.back-left.ensures in
    climb_on (g.C.Choice.chosen c.args.choice.now) rs c.args.query.now.path e ls c.args.query.now.top c.args.at (length rs - c.loop.counter) (length rs - (c.loop.counter + 1)) c.loop.node c.loop.left c.back-left.result c.in-Some.record
    (omega arith) c.if-node-query.false up back (c.loop.invariant e ls h)

pub returns-then-node-query : goal.returns-then-node-query
returns-then-node-query g c e ls h =
    let s = c.args.store.now in
    let rs = (g.S.Store.meaning s).records in
    c.has.ensures
    ∙ ended (g.C.Choice.chosen c.args.choice.now) rs c.args.query.now.path e ls c.args.query.now.top c.args.at _ (g.met.S.Store.rising s) (g.met.S.Store.tree s)
    (climb_arrives (g.C.Choice.chosen c.args.choice.now) rs c.args.query.now.path e ls c.args.query.now.top c.args.at (length rs - c.loop.counter) c.loop.node c.loop.left c.if-node-query.true (c.loop.invariant e ls h))

pub returns-in_default : goal.returns-in_default
returns-in_default g c e ls h =
    let s = c.args.store.now in
    let rs = (g.S.Store.meaning s).records in
    let more : c.loop.counter < length rs = omega arith in
    let none = ap (option_map bare) (sym c.in_default.is) ∙ c.rung.ensures in
    ended (g.C.Choice.chosen c.args.choice.now) rs c.args.query.now.path e ls c.args.query.now.top c.args.at _ (g.met.S.Store.rising s) (g.met.S.Store.tree s)
    (climb_stops (g.C.Choice.chosen c.args.choice.now) rs c.args.query.now.path e ls c.args.query.now.top c.args.at (length rs - c.loop.counter) (length rs - (c.loop.counter + 1)) c.loop.node c.loop.left (omega arith) c.if-node-query.false none (c.loop.invariant e ls h))

pub returns-then-left-eq0 : goal.returns-then-left-eq0
returns-then-left-eq0 g c e ls h =
    let s = c.args.store.now in
    let rs = (g.S.Store.meaning s).records in
    ended (g.C.Choice.chosen c.args.choice.now) rs c.args.query.now.path e ls c.args.query.now.top c.args.at _ (g.met.S.Store.rising s) (g.met.S.Store.tree s)
    (climb_in_vain (g.C.Choice.chosen c.args.choice.now) rs c.args.query.now.path e ls c.args.query.now.top c.args.at (length rs - (c.loop.counter + 1)) c.in-Some.record.parent c.back-left.result c.if-left-eq0.true (turn g (goal.at.returns-then-left-eq0 g c).After-back-left e ls h))

pub loop-preserved : goal.loop-preserved
loop-preserved g c e ls h = turn g (goal.at.loop-preserved g c).After-back-left e ls h

pub returns-then-node-query-2 : goal.returns-then-node-query-2
returns-then-node-query-2 g c e ls h =
    let s = c.args.store.now in
    let rs = (g.S.Store.meaning s).records in
    c.has-then-node-query-2.ensures
    ∙ ended (g.C.Choice.chosen c.args.choice.now) rs c.args.query.now.path e ls c.args.query.now.top c.args.at _ (g.met.S.Store.rising s) (g.met.S.Store.tree s)
    (climb_arrives (g.C.Choice.chosen c.args.choice.now) rs c.args.query.now.path e ls c.args.query.now.top c.args.at (length rs - c.loop.counter) c.loop.node c.loop.left c.if-node-query-2.true (c.loop.invariant e ls h))

pub returns-else-node-query-2 : goal.returns-else-node-query-2
returns-else-node-query-2 g c e ls h =
    let s = c.args.store.now in
    let rs = (g.S.Store.meaning s).records in
    ne_eqb _ _ c.if-node-query-2.false
    ∙ ended (g.C.Choice.chosen c.args.choice.now) rs c.args.query.now.path e ls c.args.query.now.top c.args.at _ (g.met.S.Store.rising s) (g.met.S.Store.tree s)
    (climb_ends (g.C.Choice.chosen c.args.choice.now) rs c.args.query.now.path e ls c.args.query.now.top c.args.at (length rs - c.loop.counter) c.loop.node c.loop.left (omega arith) c.if-node-query-2.false (c.loop.invariant e ls h))
