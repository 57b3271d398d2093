-- Places that are taken out of notes, by a word or by a list of the same places.
use Rattle.std.proofs.Common.{◌≡◌, ℕ, Bool, not, ◌&&◌, List, ap}
use mathlib.Core.Path.{fun_ext}
use Rattle.words.specs.Words.{bit, word_of}
use Rattle.tree.specs.declared.record.Record.{Record}
use Rattle.model.specs.Numbers.{member}
use Rattle.model.specs.Changes.{with_note, forgets}
use Rattle.drops.specs.Forgetting.{forgets_word}

pub forgets_listed : (w : ℕ) (ps : List ℕ) → ((i : ℕ) → bit w i ≡ member i ps) → forgets_word w ≡ forgets ps
forgets_listed w ps h = fun_ext (λ (r : Record). ap (λ (f : ℕ → Bool). with_note r (word_of (λ i. bit r.note i && not (f i)))) (fun_ext h))
