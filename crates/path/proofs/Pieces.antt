-- Behind the first piece of a text.
-- Assumes nothing.
use Rattle.std.proofs.Common.{◌≡◌, ℕ, Bool, true, false, cond, eqb, List, [], ◌∷◌, ◌++◌, length, drop, sym, refl, ap, ◌∙◌, arith}
use Rattle.std.proofs.lemmas.List.{take-append-drop}
use Rattle.std.proofs.lemmas.Bool.Decides.{nat_tests}
use Rattle.name.proofs.Fronts.{before_is_front}
use Rattle.path.specs.Pieces.{piece, at_slash}

-- a slash stands there, or nothing
pub piece_stops : (bs : List ℕ) → at_slash (drop (length (piece bs)) bs) ≡ true
piece_stops [] = refl
piece_stops (b ∷ bs) = let h = piece_stops bs in grind (arith, nat_tests)

-- a text is its first piece and what stands behind it
pub piece_and_rest : (bs : List ℕ) → piece bs ++ drop (length (piece bs)) bs ≡ bs
piece_and_rest bs = ap (λ (p : List ℕ). p ++ drop (length (piece bs)) bs) (sym (before_is_front 47 bs)) ∙ take-append-drop (length (piece bs)) bs

-- what stands behind a slash does not change the piece before it
pub piece_append : (p f : List ℕ) → piece (p ++ 47 ∷ f) ≡ piece p
piece_append [] f = refl
piece_append (b ∷ bs) f = let t = piece_append bs f in grind (arith, nat_tests)

-- a text without a slash is one piece
abbrev pub slash_free : List ℕ → Bool
slash_free [] = true
slash_free (b ∷ bs) = cond (eqb b 47) false (slash_free bs)

pub one_piece : (bs : List ℕ) → slash_free bs ≡ true → piece bs ≡ bs
one_piece [] h = refl
one_piece (b ∷ bs) h = let t : slash_free bs ≡ true → piece bs ≡ bs = one_piece bs in grind (arith, nat_tests)
