-- The two runs on the small tree, computed.
use Rattle.std.proofs.Common.{ℕ, ◌≢◌, List, [], sym, refl, subst, inl, inr, arith}
use Rattle.words.specs.Words.{word_of}
use Rattle.tree.specs.Lists.{In}
use Rattle.tree.specs.Trees.{Node, node_of, Depth, top, down, nodes}
use Rattle.model.specs.Numbers.{places, lowest}
use Rattle.model.specs.Arrows.{reached, order_of}
use Rattle.model.specs.Scheduler.{make}
use Rattle.model.specs.Law.{Kept}
use Rattle.model.specs.Example.{site, worked, told, mixed, mixed_told, Computes, Examples}
use Rattle.model.proofs.Law.{play_after}

abbrev ys : List Node
ys = nodes site.store

Led : Node → Type 0
Led y = (d : ℕ) × Depth ys y.name d

under_bank : (n a : ℕ) → In (node_of n 1 a) ys → n ≢ 0 → Led (node_of n 1 a)
unfolding Led
under_bank n a i nz = (2, down (node_of n 1 a) i nz (down (node_of 1 0 2) (inr (inl refl)) (λ z. omega arith) top))

leads : (y : Node) → In y ys → Led y
unfolding Led
leads y (inl e) = subst Led (sym e) (0, top)
leads y (inr (inl e)) = subst Led (sym e) (1, down (node_of 1 0 2) (inr (inl refl)) (λ z. omega arith) top)
leads y (inr (inr (inl e))) = subst Led (sym e) (under_bank 2 3 (inr (inr (inl refl))) (λ z. omega arith))
leads y (inr (inr (inr (inl e)))) = subst Led (sym e) (under_bank 3 3 (inr (inr (inr (inl refl)))) (λ z. omega arith))
leads y (inr (inr (inr (inr (inl e))))) = subst Led (sym e) (under_bank 4 4 (inr (inr (inr (inr (inl refl))))) (λ z. omega arith))
leads y (inr (inr (inr (inr (inr (inl e)))))) = subst Led (sym e) (under_bank 5 4 (inr (inr (inr (inr (inr (inl refl)))))) (λ z. omega arith))
leads y (inr (inr (inr (inr (inr (inr i)))))) = absurd i

kept : Kept site
unfolding Led
kept = record { rising = refl; tree = ∣ record { root = inr (1, inl refl); leads = leads } ∣₁; count = omega arith; most = omega arith; ticket = omega arith }

worked_run : Computes worked told
unfolding places lowest reached order_of word_of
worked_run = (refl, play_after site worked (make site) [] refl, refl)

mixed_run : Computes mixed mixed_told
unfolding places lowest reached order_of word_of
mixed_run = (refl, play_after site mixed (make site) [] refl, refl)

pub examples : Examples
examples = (kept, worked_run, mixed_run)
