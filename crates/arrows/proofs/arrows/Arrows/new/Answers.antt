use Rattle.std.proofs.Common.{◌≡◌, ℕ, zero, suc, get_or, replicate, refl, ap, ◌∙◌}
use Rattle.words.specs.Words.{bit}
use Rattle.words.proofs.Bits.{bit_none}
use Rattle.arrows.proofs.arrows.Arrows.new.Goals as goal

all_none : (n j : ℕ) → ◌≡◌ {A = ℕ} (get_or (replicate n 0) j 0) 0
all_none zero j = refl
all_none (suc n) zero = refl
all_none (suc n) (suc j) = all_none n j

pub returns : goal.returns
returns c i j = ap (λ (w : ℕ). bit w i) (all_none 32 j) ∙ bit_none i
