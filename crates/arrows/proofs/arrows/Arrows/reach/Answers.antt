use Rattle.std.proofs.Common.{◌≡◌, ℕ, suc, ◌<◌, Bool, true, false, ◌&&◌, ◌||◌, eqb, ltb, [], ◌∷◌, sym, ap, ◌∙◌, add-one, arith}
use Rattle.std.proofs.lemmas.Bool.{lt-ltb, le-ltb}
use Rattle.words.specs.Words.{bit}
use Rattle.words.proofs.Bits.{bit_none}
use Rattle.model.specs.Numbers.{member}
use Rattle.model.specs.Arrows.{widen, wider, reached}
use Rattle.arrows.specs.Between.{between}
use Rattle.arrows.proofs.Widened.{widen_more, reached_early, reached_late}
use Rattle.arrows.proofs.arrows.Arrows.reach.Goals as goal

pub returns-then-place-ge32 : goal.returns-then-place-ge32
returns-then-place-ge32 c q =
    let z : ltb c.args.place 32 ≡ false = le-ltb _ _ c.if-place-ge32.true in
    bit_none q ∙ ap (λ (b : Bool). b && member q (reached (between c.args.self.now) c.args.place)) (sym z)

pub loop-init : goal.loop-init
loop-init c q =
    let lt : ltb c.args.place 32 ≡ true = lt-ltb _ _ c.if-place-ge32.false in
    let n = bit_none q in
    c.with-seen.ensures q ∙ start (bit 0 q) (ltb c.args.place 32) (eqb q c.args.place) n lt
  where
    start : (a b e : Bool) → a ≡ false → b ≡ true → (a || (b && e)) ≡ (e || false)
    start a b e p q = grind arith

-- the next round, as the model has it
round : (arrow : ℕ → ℕ → Bool) (p k next : ℕ) → ((q : ℕ) → bit next q ≡ member q (wider arrow (widen k arrow (p ∷ [])))) → (q : ℕ) → bit next q ≡ member q (widen (suc k) arrow (p ∷ []))
round arrow p k next e q = e q ∙ ap (member q) (sym (widen_more arrow k (p ∷ [])))

pub loop-preserved : goal.loop-preserved
loop-preserved c q =
    let arrow = between c.args.self.now in
    let p = c.args.place in
    let k = c.loop.counter in
    round arrow p k c.widen-next.result (c.widen-next.ensures (widen k arrow (p ∷ [])) c.loop.invariant) q
    ∙ ap (λ (n : ℕ). member q (widen n arrow (p ∷ []))) (sym (add-one k))

low_place : (p : ℕ) (b : Bool) → p < 32 → b ≡ (ltb p 32 && b)
low_place p b lt = ap (λ (t : Bool). t && b) (sym (lt-ltb p 32 lt))

pub returns-then-next-seen : goal.returns-then-next-seen
returns-then-next-seen c q =
    let arrow = between c.args.self.now in
    let p = c.args.place in
    let k = c.loop.counter in
    let more = round arrow p k c.widen-next.result (c.widen-next.ensures (widen k arrow (p ∷ [])) c.loop.invariant) in
    let whole = reached_early arrow p k (omega arith) (λ q. sym (more q) ∙ (ap (λ (n : ℕ). bit n q) c.if-next-seen.true ∙ c.loop.invariant q)) in
    c.loop.invariant q ∙ (ap (member q) (sym whole) ∙ low_place p (member q (reached arrow p)) c.if-place-ge32.false)

pub returns : goal.returns
returns c q =
    let arrow = between c.args.self.now in
    let p = c.args.place in
    let whole = reached_late arrow p c.loop.counter (omega arith) in
    c.loop.invariant q ∙ (ap (member q) (sym whole) ∙ low_place p (member q (reached arrow p)) c.if-place-ge32.false)
