use Rattle.std.proofs.Common.{◌≡◌, ℕ, ◌≤◌, cond, List, map, length, take, None, sym, refl, ap, ◌∙◌, subst, arith}
use Rattle.std.proofs.lemmas.Bool.{ltb-false}
use Rattle.words.specs.Words.{bit}
use Rattle.tree.specs.declared.record.Record.{Record}
use Rattle.tree.specs.Names.{ticket_part}
use Rattle.tree.specs.Stores.{Meaning, holding}
use Rattle.drops.specs.Doomed.{left_by, Downward}
use Rattle.seats.proofs.Reach.{reached_distinct}
use Rattle.model.specs.Numbers.{member}
use Rattle.model.specs.Rules.{withdrawn}
use Rattle.model.specs.Scheduler.{Model, withdraws, place_of}
use Rattle.model.specs.Changes.{with_mark, falling, fallen, undone, dropped}
use Rattle.model.specs.Refusals.{first_row, withdraw_rows}
use Rattle.model.specs.Calls.{step}
use Rattle.desk.specs.States.{state, forgotten}
use Rattle.desk.proofs.Rows.{passed, judged}
use Rattle.sched.proofs.Reaching.{next_reached, made_downward, none_more_fits}
use Rattle.sched.proofs.Lent.{front_is, rest_stays}
use Rattle.sched.proofs.scheduler.Scheduler.withdraw.Given.{Over}
use Rattle.sched.proofs.scheduler.Scheduler.withdraw.Goals.{After-free}
use Rattle.sched.proofs.scheduler.Scheduler.withdraw.Goals as goal

-- the tickets in the list are those that fall
listed_all : (g : Over) (c : After-free g) →
    let s = c.self.inside.station in
    c.as_slice-tickets.result.now ≡ fallen (state (g.S.Store.meaning s.store).records (g.S.Store.meaning s.store).most s.desk) c.args.ticket
listed_all g c =
    let s = c.self.inside.station in
    let rs = (g.S.Store.meaning s.store).records in
    let limit = (g.S.Store.meaning s.store).most in
    let m = state rs limit s.desk in
    let t = c.args.ticket in
    c.as_slice-tickets.ensures ∙ c.rising-fallen.ensures (falling m t) (reached_distinct m.arrows (place_of m t)) (c.in_ok-places.ensures.places rs limit)

room_for : (g : Over) (c : After-free g) → length c.as_slice-tickets.result.now ≤ length c.args.buffer.now
room_for g c =
    let s = c.self.inside.station in
    let rs = (g.S.Store.meaning s.store).records in
    let limit = (g.S.Store.meaning s.store).most in
    let m = state rs limit s.desk in
    let t = c.args.ticket in
    let tests = passed (withdraw_rows m (length c.args.buffer.now) t) (c.in_ok-places.ensures.rows rs limit) in
    let enough = ltb-false (length c.args.buffer.now) (length (fallen m t)) tests.1.1.0 in
    let same = ap length (listed_all g c) in
    omega arith

undone_by : (g : Over) (c : After-free g) →
    let s = c.self.inside.station in
    let m = state (g.S.Store.meaning s.store).records (g.S.Store.meaning s.store).most s.desk in
    step m (withdraws (length c.args.buffer.now) c.args.ticket)
    ≡ (state (g.S.Store.meaning c.forget.new.store).records (g.S.Store.meaning c.forget.new.store).most c.free.new.self, withdrawn (fallen m c.args.ticket))
undone_by g c =
    let s = c.self.inside.station in
    let t = c.args.ticket in
    let room = length c.args.buffer.now in
    let x = g.S.Store.meaning s.store in
    let m = state x.records x.most s.desk in
    let ps = falling m t in
    let ts = c.as_slice-tickets.result.now in
    let rows : first_row (withdraw_rows m room t) ≡ None = c.in_ok-places.ensures.rows x.records x.most in
    let bits : (i : ℕ) → bit c.in_ok-places.places i ≡ member i ps = c.in_ok-places.ensures.places x.records x.most in
    let told : ts ≡ fallen m t = listed_all g c in
    let left = λ (us : List ℕ). left_by (λ (r : Record). member (ticket_part r.name) us) x.records in
    let unmarked = λ (us : List ℕ) (rs : List Record). map (λ (r : Record). cond (member r.mark us) (with_mark r 0) r) rs in
    let closed = subst (λ (us : List ℕ). Downward (λ r. member (ticket_part r.name) us) x.records) (sym told) (made_downward m t c.self.invariant room rows) in
    let forgot = c.forget.ensures.listed ps bits
    ∙ (ap (λ (y : Meaning). holding y (forgotten ps y.records)) c.unmark.ensures.after
    ∙ (ap (λ (y : Meaning). holding y (forgotten ps (unmarked ts y.records))) (c.drop_made.ensures.left closed)
    ∙ ap (λ (us : List ℕ). holding x (forgotten ps (unmarked us (left us)))) told)) in
    let freed = c.free.ensures x.records (undone m t) x.most ps bits (none_more_fits m t c.self.invariant room rows) in
    let after : (dropped m t).0 ≡ state (g.S.Store.meaning c.forget.new.store).records (g.S.Store.meaning c.forget.new.store).most c.free.new.self =
    sym freed ∙ (λ z. state (sym forgot z).records (sym forgot z).most c.free.new.self) in
    judged (withdraw_rows m room t) None m (dropped m t) rows ∙ ap (λ (n : Model). (n, withdrawn (fallen m t))) after

pub invariant_of-self : goal.invariant_of-self
invariant_of-self g c =
    let s = c.self.inside.station in
    let m = state (g.S.Store.meaning s.store).records (g.S.Store.meaning s.store).most s.desk in
    next_reached (withdraws (length c.args.buffer.now) c.args.ticket) (withdrawn (fallen m c.args.ticket)) (undone_by g (goal.at.invariant_of-self g c).After-free) c.self.invariant

pub returns-clause-step : goal.returns-clause-step
returns-clause-step g c =
    let at = (goal.at.returns-clause-step g c).After-free in
    let ts = c.as_slice-tickets.result.now in
    let written : _ ≡ take (length ts) c.fill.new.buffer = sym (listed_all g at) ∙ (sym (front_is ts c.args.buffer.now (length ts) refl (room_for g at)) ∙ ap (take (length ts)) (sym c.fill.ensures)) in
    rw (← c.self.view_is) (undone_by g (goal.at.returns-clause-step g c).After-free ∙ (λ z. (state (g.S.Store.meaning c.forget.new.store).records (g.S.Store.meaning c.forget.new.store).most c.free.new.self, withdrawn (written z))))

pub returns-clause-lent : goal.returns-clause-lent
returns-clause-lent g c =
    let ts = c.as_slice-tickets.result.now in
    let enough = room_for g (goal.at.returns-clause-lent g c).After-free in
    (enough, rw c.fill.ensures (rest_stays ts c.args.buffer.now (length ts) refl enough))
