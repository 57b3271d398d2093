use Rattle.std.proofs.Common.{◌≡◌, ℕ, ◌+◌, ◌<◌, Bool, true, false, not, ◌&&◌, ◌||◌, eqb, ltb, get_or, sym, ap, ◌∙◌, arith}
use lib.Bits.{bit_and}
use Rattle.std.proofs.lemmas.Bool.Decides.{nat_tests}
use Rattle.std.proofs.lemmas.Bool.{ne_eqb, eq-eqb}
use Rattle.words.specs.Words.{bit}
use Rattle.tree.specs.Lists.{some_of}
use Rattle.arrows.specs.Between.{arrow_of}
use Rattle.arrows.proofs.Widened.{meets, member_wider}
use Rattle.arrows.proofs.arrows.Arrows.widen.Goals as goal
use Rattle.arrows.proofs.arrows.Arrows.widen.Goals.{then-sources-seen-ne0, else-sources-seen-ne0}

pub loop-place-init : goal.loop-place-init
loop-place-init c p = grind (arith, nat_tests)

hit_more : (n s w : Bool) (p q : ℕ) → q < 32 → n ≡ (s || (ltb p q && w)) → (p ≡ q → w ≡ true) → (n || (ltb q 32 && eqb p q)) ≡ (s || (ltb p (q + 1) && w))
hit_more n s w p q lt e h = grind (arith, nat_tests)

miss_more : (n s w : Bool) (p q : ℕ) → n ≡ (s || (ltb p q && w)) → (p ≡ q → w ≡ false) → n ≡ (s || (ltb p (q + 1) && w))
miss_more n s w p q e h = grind (arith, nat_tests)

pub loop-place-preserved : goal.loop-place-preserved
loop-place-preserved c p =
    let q = c.loop-place.place in
    let into = c.args.self.now.into in
    let seen = c.args.seen in
    let W : ℕ → Bool = λ p. not (eqb (bit_and (get_or into p 0) seen) 0) in
    elim c.if-sources-seen-ne0.branch [
      | then-sources-seen-ne0 w ↦
          ap (λ (n : ℕ). bit n p) w.next-is
          ∙ (w.with-next.ensures p
          ∙ hit_more (bit c.loop-place.next p) (bit seen p) (W p) p q c.loop-place-test.true (c.loop-place.invariant p)
          (λ e. ap W e ∙ ap not (ne_eqb _ _ w.if-sources-seen-ne0.true)))
      | else-sources-seen-ne0 w ↦
          ap (λ (n : ℕ). bit n p) w.next-is
          ∙ miss_more (bit c.loop-place.next p) (bit seen p) (W p) p q (c.loop-place.invariant p)
          (λ e. ap W e ∙ ap not (eq-eqb _ _ w.if-sources-seen-ne0.false))
    ]

pub returns : goal.returns
returns c ps same p =
    let into = c.args.self.now.into in
    let seen = c.args.seen in
    let q = c.loop-place.place in
    let full : q ≡ 32 = omega arith in
    let m = meets (get_or into p 0) seen ps (omega arith) same in
    c.loop-place.invariant p
    ∙ (ap (λ (n : ℕ). bit seen p || (ltb p n && not (eqb (bit_and (get_or into p 0) seen) 0))) full
    ∙ (ap (λ (b : Bool). bit seen p || (ltb p 32 && b)) (sym m)
    ∙ (ap (λ (b : Bool). b || (ltb p 32 && some_of (λ j. arrow_of into j p) ps)) (same p)
    ∙ sym (member_wider (arrow_of into) ps p))))
