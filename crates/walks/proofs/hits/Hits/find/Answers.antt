use Rattle.std.proofs.Common.{vec_items, arith}
use Rattle.walks.proofs.FoundSoFar.{hits_none, hits_all, hits_more, hits_same, hits_room, ahead_less}
use Rattle.walks.proofs.hits.Hits.find.Goals as goal

pub loop-name-init : goal.loop-name-init
loop-name-init g c = hits_none ((g.S.Store.meaning c.args.store.now).records) c.args.query.now.top c.args.query.now.path (vec_items c.clear.new.self) c.clear.ensures.items

pub push_reserved-requires : goal.push_reserved-requires
push_reserved-requires g c =
    let s = c.args.store.now in
    let names = c.loop-name.self.names in
    let free = hits_room ((g.S.Store.meaning s).records) c.args.query.now.top c.args.query.now.path (g.met.S.Store.rising s) c.loop-name.last c.following.result c.following.ensures.answer
    c.in-Some.name c.in-Some.is c.is_found.result c.is_found.ensures.answer (vec_items names) c.loop-name.invariant c.if-is_found.true in
    let len = names.ok.0 in
    let room = c.loop-name.self.room in
    let within = g.met.S.Store.within s in
    let bounded = g.met.S.Store.bounded s in
    let small = g.met.S.Store.small in
    omega arith

pub loop-name-smaller : goal.loop-name-smaller
loop-name-smaller g c =
    let s = c.args.store.now in
    ahead_less ((g.S.Store.meaning s).records) c.args.query.now.top c.args.query.now.path (g.met.S.Store.rising s) c.loop-name.last c.following.result c.following.ensures.answer c.in-Some.name c.in-Some.is

pub loop-name-smaller-then-is_found : goal.loop-name-smaller-then-is_found
loop-name-smaller-then-is_found g c =
    let s = c.args.store.now in
    ahead_less ((g.S.Store.meaning s).records) c.args.query.now.top c.args.query.now.path (g.met.S.Store.rising s) c.loop-name.last c.following.result c.following.ensures.answer c.in-Some.name c.in-Some.is

pub loop-name-preserved : goal.loop-name-preserved
loop-name-preserved g c =
    let s = c.args.store.now in
    hits_same ((g.S.Store.meaning s).records) c.args.query.now.top c.args.query.now.path (g.met.S.Store.rising s) c.loop-name.last c.following.result c.following.ensures.answer
    c.in-Some.name c.in-Some.is c.is_found.result c.is_found.ensures.answer (vec_items c.loop-name.self.names) c.loop-name.invariant c.if-is_found.false

pub loop-name-preserved-then-is_found : goal.loop-name-preserved-then-is_found
loop-name-preserved-then-is_found g c =
    let s = c.args.store.now in
    hits_more ((g.S.Store.meaning s).records) c.args.query.now.top c.args.query.now.path (g.met.S.Store.rising s) c.loop-name.last c.following.result c.following.ensures.answer
    c.in-Some.name c.in-Some.is c.is_found.result c.is_found.ensures.answer (vec_items c.loop-name.self.names) c.loop-name.invariant c.if-is_found.true
    (vec_items c.push_reserved.new.self) c.push_reserved.ensures.items

pub returns : goal.returns
returns g c =
    let s = c.args.store.now in
    hits_all ((g.S.Store.meaning s).records) c.args.query.now.top c.args.query.now.path (g.met.S.Store.rising s) c.loop-name.last c.following.result c.following.ensures.answer c.in_default.is (vec_items c.loop-name.self.names) c.loop-name.invariant
