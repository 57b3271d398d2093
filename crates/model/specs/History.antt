-- Histories of turns, transactions, and the second run. A history has the latest first. Assumes nothing.
--     Turn               a call, and the kiosk that makes it
--     History            turns with their answers
--     After mk h m       m is the state after the turns of h, which were answered so
--     calls h            the calls of a history with their answers; which kiosk made a call plays no part in what follows
--     accepted a         the answer is no refusal
--     actor b            the ticket of an action
--     block t l          the transaction t: its accepted actions with their answers
--     past l             the actions of the finished transactions, by place
--     past_tickets l     the finished tickets
--     in_order xs        xs with the earliest first
--     one_by_one l ts    the transactions ts, one after another
--     second l ts        the second run: the finished transactions by place, then the open ones as ts arranges them;
--                        the withdrawn ones are left out
--     run mk us          the history that the turns us give from the making on, and the state that is left
use Rattle.std.specs.Prelude.{◌≡◌, ℕ, Bool, true, false, cond, ◌&&◌, List, [], ◌∷◌, ◌++◌, map, ◌==◌}
use Rattle.model.specs.declared.kiosk.Kiosk.{Kiosk}
use Rattle.model.specs.Rules.{Action, asks, adds, removes, Answer, found, made, removed, ticket, finished, withdrawn, ordered, refused}
use Rattle.model.specs.Scheduler.{Model, Call, opens, acts, finishes, withdraws, orders, Making, make}
use Rattle.model.specs.Calls.{step}

pub record Turn : Type 0 where
  pub kiosk : Kiosk
  pub call : Call

abbrev pub History : Type 0
History = List (Turn × Answer)

abbrev pub After : Making → History → Model → Type 0
After mk [] m = m ≡ make mk
After mk ((u, a) ∷ h) m' = (m : Model) × After mk h m × (step m u.call ≡ (m', a))

abbrev pub Log : Type 0
Log = List (Call × Answer)

abbrev pub calls : History → Log
calls h = map (λ x. (x.0.call, x.1)) h

-- ── transactions ──
abbrev pub accepted : Answer → Bool
accepted (found names) = true
accepted (made name) = true
accepted removed = true
accepted (ticket t) = true
accepted (finished place) = true
accepted (withdrawn tickets) = true
accepted (ordered tickets) = true
accepted (refused number) = false

abbrev pub actor : Action → ℕ
actor (asks t n p) = t
actor (adds t n a) = t
actor (removes t n) = t

abbrev pub block : ℕ → Log → List (Action × Answer)
block t [] = []
block t ((opens, a) ∷ l) = block t l
block t ((acts room b, a) ∷ l) = cond (accepted a && actor b == t) ((b, a) ∷ block t l) (block t l)
block t ((finishes u, a) ∷ l) = block t l
block t ((withdraws room u, a) ∷ l) = block t l
block t ((orders room, a) ∷ l) = block t l

abbrev pub past : Log → List (Action × Answer)
past [] = []
past ((opens, a) ∷ l) = past l
past ((acts room b, a) ∷ l) = past l
past ((finishes u, a) ∷ l) = cond (accepted a) (block u l) [] ++ past l
past ((withdraws room u, a) ∷ l) = past l
past ((orders room, a) ∷ l) = past l

abbrev pub past_tickets : Log → List ℕ
past_tickets [] = []
past_tickets ((opens, a) ∷ l) = past_tickets l
past_tickets ((acts room b, a) ∷ l) = past_tickets l
past_tickets ((finishes u, a) ∷ l) = cond (accepted a) (u ∷ past_tickets l) (past_tickets l)
past_tickets ((withdraws room u, a) ∷ l) = past_tickets l
past_tickets ((orders room, a) ∷ l) = past_tickets l

-- ── the second run ──
abbrev pub in_order : {A : Type 0} → List A → List A
in_order [] = []
in_order (x ∷ xs) = in_order xs ++ (x ∷ [])

abbrev pub one_by_one : Log → List ℕ → List (Action × Answer)
one_by_one l [] = []
one_by_one l (t ∷ ts) = in_order (block t l) ++ one_by_one l ts

abbrev pub second : Log → List ℕ → List (Action × Answer)
second l ts = in_order (past l) ++ one_by_one l ts

-- ── a whole list of turns ──
abbrev pub play : Model → List Turn → History → History × Model
play m [] h = (h, m)
play m (u ∷ us) h = play (step m u.call).0 us ((u, (step m u.call).1) ∷ h)

abbrev pub run : Making → List Turn → History × Model
run mk us = play (make mk) us []
