-- A whole list of turns. Assumes nothing.
--     Owned                        the answers that hold their lists
--     answer_in o                  the answer that o is
--     turns_of us names tickets    the turns us, where the buffers are so long
--     happened us xs               the history of the turns us, which were answered xs
use Rattle.std.specs.Prelude.{ℕ, List, map, zip}
use Rattle.std.specs.Global.{Vec}
use Rattle.model.specs.Rules as model
use Rattle.model.specs.History as history
use Rattle.model.specs.History.{History, in_order}
use Rattle.calls.specs.declared.call.Turn.{Turn}
use Rattle.calls.specs.declared.answer.Answer.{Answer}
use Rattle.calls.specs.Answers.{turn_of, answer_by}

abbrev pub Owned : Type 0
Owned = Answer (Vec ℕ) (Vec ℕ)

abbrev pub answer_in : Owned → model.Answer
answer_in o = answer_by (λ ns. ns.items) (λ ts. ts.items) o

abbrev pub turns_of : List Turn → ℕ → ℕ → List history.Turn
turns_of us names tickets = map (λ u. turn_of u names tickets) us

abbrev pub happened : List history.Turn → List model.Answer → History
happened us xs = in_order (zip us xs)
