-- The law on a turn that a kiosk makes, and what it leaves in the buffers. Assumes nothing.
--     Agreed mk h m        m is the state after the history h, every arrangement of the open tickets agrees, and order writes an arrangement
--     Lawful m u a m'      in every history that leads to m, the turn u may follow with the answer a: it leads to m', and is agreed
--     names_in a           how many names the answer a leaves in the buffer
--     tickets_in a         how many tickets
use Rattle.std.specs.Prelude.{ℕ, List, ◌∷◌}
use Rattle.model.specs.Rules as model
use Rattle.model.specs.Scheduler.{Model, Making, order}
use Rattle.model.specs.History.{Turn, History, After}
use Rattle.model.specs.Law.{Kept, Arrangement, Agrees}
use Rattle.calls.specs.declared.answer.Answer.{Answer}
use Rattle.calls.specs.declared.answer.Answer.TheVariants.{Ticket, Found, Made, Removed, Finished, Withdrawn, Ordered, Refused}

pub record Agreed (mk : Making) (h : History) (m : Model) : Type 0 where
  pub after : After mk h m
  pub agrees : (ts : List ℕ) → Arrangement m ts → Agrees mk h m ts
  pub order : Arrangement m (order m)

abbrev pub Lawful : Model → Turn → model.Answer → Model → Type 0
Lawful m u a m' = (mk : Making) → Kept mk → (h : History) → After mk h m → Agreed mk ((u, a) ∷ h) m'

-- ── buffers ──
abbrev pub names_in : Answer ℕ ℕ → ℕ
names_in (Ticket t) = 0
names_in (Found k) = k
names_in (Made n) = 0
names_in Removed = 0
names_in (Finished k) = 0
names_in (Withdrawn k) = 0
names_in (Ordered k) = 0
names_in (Refused e) = 0

abbrev pub tickets_in : Answer ℕ ℕ → ℕ
tickets_in (Ticket t) = 0
tickets_in (Found k) = 0
tickets_in (Made n) = 0
tickets_in Removed = 0
tickets_in (Finished k) = 0
tickets_in (Withdrawn k) = k
tickets_in (Ordered k) = k
tickets_in (Refused e) = 0
