-- Calls and answers as the model has them. Lists stand in two buffers: of names, and of tickets. Assumes nothing.
--     call_of c names tickets      the call c, where the buffers are so long
--     turn_of u names tickets      the turn u
--     answer_by f g a              the answer a, where f gives its list of names and g its list of tickets
--     answer_of a ns ts            the counted answer a, where the buffers hold ns and ts
--     open_answer .. order_answer  the answer of each call by itself
--     Leaves k xs ys               a buffer that held xs and holds ys has k items of an answer at its start, and then what it held
--     Lent r xs ys                 the buffer of a call that was answered r: as it was where the call was refused
use Rattle.std.specs.Prelude.{◌≡◌, ℕ, ◌≤◌, List, ◌++◌, length, take, drop, Ok, Err, Result}
use Rattle.model.specs.Rules as model
use Rattle.model.specs.Rules.{asks, adds, removes, found, made, removed, ticket, finished, withdrawn, ordered, refused}
use Rattle.model.specs.Scheduler as scheduler
use Rattle.model.specs.Scheduler.{opens, acts, finishes, withdraws, orders}
use Rattle.model.specs.History as history
use Rattle.calls.specs.declared.call.Call.{Call}
use Rattle.calls.specs.declared.call.Call.TheVariants.{Open, Ask, Add, Remove, Finish, Withdraw, Order}
use Rattle.calls.specs.declared.call.Turn.{Turn}
use Rattle.calls.specs.declared.answer.Answer.{Answer}
use Rattle.calls.specs.declared.answer.Answer.TheVariants as answer
use Rattle.calls.specs.declared.reason.Reason.{Reason}
use Rattle.calls.specs.Reasons.{number_of}

abbrev pub call_of : Call → ℕ → ℕ → scheduler.Call
call_of Open names tickets = opens
call_of (Ask t q) names tickets = acts names (asks t q.top q.path)
call_of (Add t n a) names tickets = acts names (adds t n a)
call_of (Remove t n) names tickets = acts names (removes t n)
call_of (Finish t) names tickets = finishes t
call_of (Withdraw t) names tickets = withdraws tickets t
call_of Order names tickets = orders tickets

abbrev pub turn_of : Turn → ℕ → ℕ → history.Turn
turn_of u names tickets = record { kiosk = u.kiosk; call = call_of u.call names tickets }

abbrev pub answer_by : {N T : Type 0} → (N → List ℕ) → (T → List ℕ) → Answer N T → model.Answer
answer_by f g (answer.Ticket t) = ticket t
answer_by f g (answer.Found ns) = found (f ns)
answer_by f g (answer.Made n) = made n
answer_by f g answer.Removed = removed
answer_by f g (answer.Finished k) = finished k
answer_by f g (answer.Withdrawn ts) = withdrawn (g ts)
answer_by f g (answer.Ordered ts) = ordered (g ts)
answer_by f g (answer.Refused e) = refused (number_of e)

abbrev pub answer_of : Answer ℕ ℕ → List ℕ → List ℕ → model.Answer
answer_of a ns ts = answer_by (λ k. take k ns) (λ k. take k ts) a

abbrev pub by_call : {A : Type 0} → (A → model.Answer) → Result A Reason → model.Answer
by_call f (Ok x) = f x
by_call f (Err e) = refused (number_of e)

abbrev pub open_answer : Result ℕ Reason → model.Answer
open_answer = by_call ticket

abbrev pub ask_answer : Result ℕ Reason → List ℕ → model.Answer
ask_answer r ns = by_call (λ k. found (take k ns)) r

abbrev pub add_answer : Result ℕ Reason → model.Answer
add_answer = by_call made

abbrev pub remove_answer : Result (Unit {0}) Reason → model.Answer
remove_answer = by_call (λ u. removed)

abbrev pub finish_answer : Result ℕ Reason → model.Answer
finish_answer = by_call finished

abbrev pub withdraw_answer : Result ℕ Reason → List ℕ → model.Answer
withdraw_answer r ts = by_call (λ k. withdrawn (take k ts)) r

abbrev pub order_answer : Result ℕ Reason → List ℕ → model.Answer
order_answer r ts = by_call (λ k. ordered (take k ts)) r

abbrev pub Leaves : ℕ → List ℕ → List ℕ → Type 0
Leaves k xs ys = (k ≤ length xs) × (ys ≡ take k ys ++ drop k xs)

abbrev pub Lent : Result ℕ Reason → List ℕ → List ℕ → Type 0
Lent (Ok k) xs ys = Leaves k xs ys
Lent (Err e) xs ys = ys ≡ xs
