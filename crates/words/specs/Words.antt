-- Words as sets of places.
--
--   bit w k      the place k is in the set that the word w is
--   word_of f    the word of the places below 32 of which f says yes
--
-- Assumes nothing.
use Rattle.std.specs.Prelude.{ℕ, zero, suc, ◌/◌, ◌%◌, ◌^◌, Bool, cond, ◌==◌, bit_or}

abbrev pub bit : ℕ → ℕ → Bool
bit w k = w / 2 ^ k % 2 == 1

abbrev pub word_below : ℕ → (ℕ → Bool) → ℕ
word_below zero f = 0
word_below (suc k) f = bit_or (cond (f k) (2 ^ k) 0) (word_below k f)

unfoldable pub word_of : (ℕ → Bool) → ℕ
word_of f = word_below 32 f
