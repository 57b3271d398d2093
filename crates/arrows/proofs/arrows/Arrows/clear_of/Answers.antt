use Rattle.std.proofs.Common.{◌≡◌, ℕ, ◌+◌, ◌≤◌, Bool, true, false, not, ◌&&◌, eqb, ltb, get_or, sym, ap, ◌∙◌, arith}
use mathlib.Core.Path.{fun_ext}
use lib.Bits.{bit_and, and_le_r}
use Rattle.std.proofs.lemmas.Bool.{eq-eqb, ne_eqb}
use Rattle.std.proofs.lemmas.Bool.Decides.{nat_tests}
use Rattle.words.specs.Words.{bit}
use Rattle.words.proofs.Bits.{bit-and, bit_past}
use Rattle.tree.specs.Lists.{some_of}
use Rattle.model.specs.Numbers.{places}
use Rattle.arrows.specs.Between.{arrow_of}
use Rattle.arrows.proofs.Widened.{some_bit}
use Rattle.arrows.proofs.arrows.Arrows.clear_of.Goals as goal
use Rattle.arrows.proofs.arrows.Arrows.clear_of.Goals.{then-sources-among-ne0, else-sources-among-ne0}

pub loop-place-init : goal.loop-place-init
loop-place-init c i = grind (arith, nat_tests)

hit_more : (a b n w : Bool) (i q : ℕ) → a ≡ (b && not (eqb i q)) → b ≡ (n && not (ltb i q && w)) → (i ≡ q → w ≡ true) → a ≡ (n && not (ltb i (q + 1) && w))
hit_more a b n w i q e f h = grind (arith, nat_tests)

miss_more : (b n w : Bool) (i q : ℕ) → b ≡ (n && not (ltb i q && w)) → (i ≡ q → w ≡ false) → b ≡ (n && not (ltb i (q + 1) && w))
miss_more b n w i q f h = grind (arith, nat_tests)

pub loop-place-preserved : goal.loop-place-preserved
loop-place-preserved c i =
    let q = c.loop-place.place in
    let into = c.args.self.now.into in
    let among = c.args.among in
    let W : ℕ → Bool = λ i. not (eqb (bit_and (get_or into i 0) among) 0) in
    elim c.if-sources-among-ne0.branch [
      | then-sources-among-ne0 w ↦
          hit_more _ (bit c.loop-place.clear i) (bit among i) (W i) i q (ap (λ (n : ℕ). bit n i) w.clear-is ∙ w.without-clear.ensures i) (c.loop-place.invariant i)
          (λ e. ap W e ∙ ap not (ne_eqb _ _ w.if-sources-among-ne0.true))
      | else-sources-among-ne0 w ↦
          ap (λ (n : ℕ). bit n i) w.clear-is
          ∙ miss_more (bit c.loop-place.clear i) (bit among i) (W i) i q (c.loop-place.invariant i) (λ e. ap W e ∙ ap not (eq-eqb _ _ w.if-sources-among-ne0.false))
    ]

all_done : (b n w : Bool) (i q : ℕ) → b ≡ (n && not (ltb i q && w)) → 32 ≤ q → (32 ≤ i → n ≡ false) → b ≡ (n && not w)
all_done b n w i q f le h = grind (arith, nat_tests)

pub returns : goal.returns
returns c i =
    let into = c.args.self.now.into in
    let among = c.args.among in
    let w = get_or into i 0 in
    let s : some_of (λ j. arrow_of into j i && bit among j) places ≡ not (eqb (bit_and w among) 0) =
    ap (λ (f : ℕ → Bool). some_of f places) (sym (fun_ext (bit-and w among))) ∙ some_bit (bit_and w among) (let l = and_le_r w among in omega arith) in
    all_done (bit c.loop-place.clear i) (bit among i) (not (eqb (bit_and w among) 0)) i c.loop-place.place (c.loop-place.invariant i) c.loop-place-test.false (λ le. bit_past among 32 i (omega arith) le)
    ∙ ap (λ (b : Bool). bit among i && not b) (sym s)
