use Rattle.std.proofs.Common.{◌≡◌, ℕ, ◌+◌, Bool, true, false, ◌&&◌, ◌||◌, eqb, ltb, length, get_or, sym, ap, ◌∙◌, arith}
use Rattle.std.proofs.lemmas.List.{get_or_default}
use Rattle.std.proofs.lemmas.Bool.{lt-ltb}
use Rattle.words.specs.Words.{bit}
use Rattle.words.proofs.Bits.{place_left, place_put}
use Rattle.path.specs.declared.step.Step.{Step}
use Rattle.path.specs.declared.step.Test.TheVariants.{Star}
use Rattle.path.specs.Paths.{steps_of}
use Rattle.path.proofs.Sizes.{most_steps}
use Rattle.fitting.specs.Fitting.{takes}
use Rattle.fitting.proofs.Places.{goes_back}
use Rattle.fitting.proofs.backward.back.Goals as goal
use Rattle.fitting.proofs.backward.back.Goals.{then-takes, else-takes}

pub loop-k-preserved : goal.loop-k-preserved
loop-k-preserved g c j d =
    let k = c.loop-k.k in
    let w = c.args.places in
    let ss = c.steps-step-items.result.now in
    let T : ℕ → Bool = λ j. takes g.L.Label.same (get_or ss j d) c.args.label.now (bit w (j + 1)) (bit w j) in
    let here : c.step-item.result ≡ get_or ss k d = c.step-item.is ∙ get_or_default ss k c.step-item.result d c.loop-k-test.true in
    let onward = c.has.ensures in
    let stays = c.has-in-loop-k.ensures in
    let answer = c.takes.ensures in
    let tested : c.takes.result ≡ T k = cc in
    let most = most_steps c.args.path.now in
    let size = ap length c.steps-step-items.ensures in
    let room : ltb k 32 ≡ true = lt-ltb _ _ (omega arith) in
    elim c.if-takes.branch [
      | then-takes x ↦
          ap (λ (n : ℕ). bit n j) x.next-is ∙ (x.with-next.ensures j ∙ (ap (λ (b : Bool). bit c.loop-k.next j || (b && eqb j k)) room
          ∙ place_put (bit c.loop-k.next j) (T j) j k (c.loop-k.invariant j d) (λ e. ap T e ∙ (sym tested ∙ x.if-takes.true))))
      | else-takes x ↦
          ap (λ (n : ℕ). bit n j) x.next-is ∙ place_left (bit c.loop-k.next j) (T j) j k (c.loop-k.invariant j d) (λ e. ap T e ∙ (sym tested ∙ x.if-takes.false))
    ]

pub returns : goal.returns
returns g c e ls h =
    let all : c.loop-k.k ≡ length c.steps-step-items.result.now = omega arith in
    let steps = c.steps-step-items.ensures in
    let d : Step _ = record { deep = false; test = Star } in
    goes_back g.L.Label.same e (steps_of c.args.path.now) ls c.args.label.now c.args.places c.loop-k.next d h (λ k. let kept = c.loop-k.invariant k d in cc)
