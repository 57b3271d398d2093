-- Places that are taken out of notes. Assumes nothing.
--     forgets_word w r      the record r without the places of the word w in its note
use Rattle.std.specs.Prelude.{ℕ, not, ◌&&◌}
use Rattle.words.specs.Words.{bit, word_of}
use Rattle.tree.specs.declared.record.Record.{Record}
use Rattle.model.specs.Changes.{with_note}

abbrev pub forgets_word : ℕ → Record → Record
forgets_word w r = with_note r (word_of (λ i. bit r.note i && not (bit w i)))
