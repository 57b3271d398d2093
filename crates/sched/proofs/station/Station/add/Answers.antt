use Rattle.std.proofs.Common.{◌≡◌, ℕ, suc, ◌+◌, ◌<◌, ◌≤◌, Bool, true, false, cond, not, ◌&&◌, ◌||◌, eqb, ltb, List, [], ◌∷◌, map, length, is_some, Some, None, Option, refl, ap, ◌∙◌, arith}
use mathlib.Core.Bool.{Bool-set}
use Rattle.std.specs.Coded.{le_prop}
use Rattle.std.proofs.lemmas.Bool.{ltb-false, leb-false, ne_eqb, cond-true, true≢false}
use Rattle.path.specs.declared.coded.CodedPath.{CodedPath}
use Rattle.tree.specs.declared.record.Record.{Record}
use Rattle.tree.specs.Names.{name_of}
use Rattle.tree.specs.Records.{look, has, fresh, placed}
use Rattle.tree.specs.Calls.{first_root, may_place}
use Rattle.tree.specs.Stores.{Meaning, holding}
use Rattle.seats.specs.Places.{seat_at}
use Rattle.desk.proofs.Places.{counted_seat}
use Rattle.walks.specs.Changes.{learns_at}
use Rattle.walks.proofs.Tagged.{learns_low}
use Rattle.model.specs.Numbers.{member}
use Rattle.model.specs.Rules.{adds}
use Rattle.model.specs.Locks.{Lock, write}
use Rattle.model.specs.Scheduler.{Model, place_of}
use Rattle.model.specs.Changes.{new_record, grant, grown}
use Rattle.model.specs.Refusals.{unknown, add_rows}
use Rattle.desk.specs.States.{state}
use Rattle.desk.proofs.Rows.{passed, judged}
use Rattle.desk.proofs.States.{same_state}
use Rattle.sched.specs.Judging.{but_last}
use Rattle.sched.proofs.Reaching.{from_health, next_name_new, few_added}
use Rattle.sched.proofs.Acting.{no_row}
use Rattle.sched.proofs.Growing.{made_known, counted, grown_at}
use Rattle.sched.proofs.station.Station.add.Goals as goal

not_false : (b : Bool) → not b ≡ false → b ≡ true
not_false true e = refl
not_false false e = absurd (true≢false e)

known_there : (o : Option Record) (n i : ℕ) → unknown o n i ≡ false → is_some o ≡ true
known_there None n i e = absurd (true≢false e)
known_there (Some r) n i e = refl

placeable : (limit x n a : ℕ) (rs : List Record) → has x rs ≡ false → eqb a 0 ≡ false → length rs < limit → has n rs ≡ true → may_place limit x n a rs ≡ true
placeable limit x n a rs new label free there =
    λ z. not (new z) && (not (label z) && (not (ne_eqb (length rs) limit (omega arith) z) && (there z || first_root x n rs)))

pub returns : goal.returns
returns g c go room =
    let s = c.args.self.now in
    let t = c.args.ticket in
    let n = c.args.node in
    let a = c.args.label in
    let rs = (g.S.Store.meaning s.store).records in
    let limit = (g.S.Store.meaning s.store).most in
    let m = state rs limit s.desk in
    let p = c.in_ok-place.place in
    let ls : List (Lock CodedPath) = write n (Some a) ∷ [] in
    let at = c.in_ok-place.ensures.place in
    let front = c.in_ok-place.ensures.rows in
    let apart = c.in_ok-rivals.ensures.rows at.low in
    let found = c.in_ok-rivals.ensures.rivals in
    let tests = passed (but_last (add_rows m t n a)) front in
    let none = no_row m t (adds t n a) p ls at.place refl (but_last (add_rows m t n a)) front apart in
    let fits = ltb-false 256 (length m.locks + 1) tests.1.1.1.1.1.0 in
    let fit = not_false m.fit tests.0 in
    let k = m.added p in
    let few : k ≤ 1024 = (let f = from_health go fit le_prop (λ he. few_added m t he tests.1.0) in let e : k ≡ m.added (place_of m t) = ap m.added at.place in omega arith) in
    let count : c.saturating_add-count.result ≡ suc k = (let e = c.saturating_add-count.ensures in let f = c.added_at.ensures in omega arith) in
    let x = c.node_name-name.result in
    let named : x ≡ name_of t (suc k) = c.node_name-name.ensures.answer ∙ ap (name_of t) count in
    let new : has x rs ≡ false = ap (λ (y : ℕ). has y rs) (named ∙ ap (λ (i : ℕ). name_of t (suc (m.added i))) at.place) ∙ from_health go fit (Bool-set _ false) (λ he. next_name_new m t he tests.1.0) in
    let may = placeable limit x n a rs new tests.1.1.1.1.0 (leb-false limit (length rs) tests.1.1.1.1.1.1.0) (known_there (look n rs) n (place_of m t) tests.1.1.0) in
    let put = c.place.ensures.after ∙ ap (holding (g.S.Store.meaning s.store)) (cond-true (may_place limit x n a rs) (placed (fresh x n a) rs) rs may) in
    let known = c.teach.ensures.after ∙ (ap (λ (v : Meaning). holding v (map (λ (r : Record). cond (member r.name (x ∷ [])) (learns_at p r) r) v.records)) put ∙ ap (holding (g.S.Store.meaning s.store)) (learns_low p (x ∷ []) (placed (fresh x n a) rs) at.low ∙ made_known p x n a rs new)) in
    let ss = placed (new_record p x n a) rs in
    let done = c.grant.ensures rs ss limit at.low fits found in
    let few' : k < 65535 = omega arith in
    let d = c.grant.new.self in
    let after = same_state (state (g.S.Store.meaning c.teach.new.store).records (g.S.Store.meaning c.teach.new.store).most (record { seats = c.count_up.new.self; book = d.book; arrows = d.arrows; next = d.next; done = d.done; fit = d.fit }))
    (grant m p ls ss (λ (j : ℕ). cond (eqb j p) (suc k) (m.added j)))
    (ap (λ (v : Meaning). v.records) known) (ap (λ (v : Meaning). v.most) known) (ap (λ (v : Model). v.fit) done) (ap (λ (v : Model). v.next) done)
    (λ i. (counted_seat _ (seat_at d.seats i) _ (c.count_up.ensures i)).0 ∙ ap (λ (v : Model). v.tickets i) done)
    (λ i. (counted_seat _ (seat_at d.seats i) _ (c.count_up.ensures i)).1 ∙ ((λ z. cond (ltb p 32 && eqb i p && ltb ((done z).added i) 65535) (suc ((done z).added i)) ((done z).added i)) ∙ counted p m.added i at.low few'))
    (ap (λ (v : Model). v.locks) done) (λ i j. ap (λ (v : Model). v.arrows i j) done) (ap (λ (v : Model). v.done) done) in
    judged (add_rows m t n a) None m (grown m t n a) none ∙ grown_at m _ t n a p x at.place named after
