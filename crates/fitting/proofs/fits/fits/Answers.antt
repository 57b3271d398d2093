use Rattle.std.proofs.Common.{◌≡◌, List, [], ◌∷◌, ◌++◌, sym, ap, ◌∙◌, subst, append_assoc, append-nil, arith}
use Rattle.std.specs.Slice.Iter.{iter_rest}
use Rattle.std.specs.Iterator.Adapters.{rev_source}
use Rattle.std.proofs.lemmas.List.{nil_from_length}
use Rattle.path.specs.Paths.{steps_of}
use Rattle.fitting.specs.Fitting.{Reads, fits, verdict}
use Rattle.fitting.proofs.Exact.{means_it}
use Rattle.fitting.proofs.Places.{none_nowhere, nowhere_more}
use Rattle.fitting.proofs.fits.fits.Goals as goal

-- a label that is taken from the end of those that are left
taken : {X : Type 0} (all left now behind : List X) (x : X) → all ≡ left ++ behind → left ≡ now ++ x ∷ [] → all ≡ now ++ x ∷ behind
taken all left now behind x split last = split ∙ (ap (λ (xs : List _). xs ++ behind) last ∙ append_assoc now (x ∷ []) behind)

pub loop-label-init : goal.loop-label-init
loop-label-init g c = ([], sym (append-nil _ ∙ cc), λ e h. h)

pub loop-label-preserved : goal.loop-label-preserved
loop-label-preserved g c =
    let (behind, split, read) = c.loop-label.invariant in
    let x = c.in-Some.label.now in (
      x ∷ behind,
      taken c.args.labels.now (iter_rest (rev_source c.loop-label.label-iterator)) (iter_rest (rev_source c.next.new.self)) behind x split c.in-Some.ensures.steps,
      λ e h. c.back-places.ensures e behind (read e h),
    )

pub returns-then-places-eq0 : goal.returns-then-places-eq0
returns-then-places-eq0 g c =
    let same = g.L.Label.same in
    let ss = steps_of c.args.path.now in
    let e = c.args.ending in
    let (behind, split, read) = c.loop-label.invariant in
    let x = c.in-Some.label.now in
    let left = iter_rest (rev_source c.next.new.self) in
    let all = taken c.args.labels.now (iter_rest (rev_source c.loop-label.label-iterator)) left behind x split c.in-Some.ensures.steps in
    let lost : Reads same e ss (x ∷ behind) 0 = subst (Reads same e ss (x ∷ behind)) c.if-places-eq0.true (c.back-places.ensures e behind (read e c.begin-places.ensures)) in
    let never = nowhere_more same e ss (x ∷ behind) left (none_nowhere same e ss (x ∷ behind) lost) in
    let answer = sym (ap verdict (ap (fits same e ss) all ∙ never)) in
    record { answer = answer; means = λ some. means_it same g.met.L.Label.reflexive some e ss c.args.labels.now _ answer }

pub returns : goal.returns
returns g c =
    let same = g.L.Label.same in
    let ss = steps_of c.args.path.now in
    let e = c.args.ending in
    let (behind, split, read) = c.loop-label.invariant in
    let none = nil_from_length (iter_rest (rev_source c.loop-label.label-iterator)) c.in-None.ensures.steps.0 in
    let all : c.args.labels.now ≡ behind = split ∙ ap (λ (xs : List _). xs ++ behind) none in
    let here = read e c.begin-places.ensures 0 (omega arith) in
    let first = c.has.ensures in
    let told = c.from.ensures in
    let answer : c.from.result ≡ verdict (fits same e ss c.args.labels.now) = cc in
    record { answer = answer; means = λ some. means_it same g.met.L.Label.reflexive some e ss c.args.labels.now c.from.result answer }
