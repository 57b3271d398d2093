-- What a scheduler says. Assumes nothing.
--     Parts            what a scheduler is made of: what its store means, and its desk
--     state_of v       the state of a scheduler with the parts v
--     making x f       what a scheduler is made from, over a store that means x, with the first ticket f
--     whole meaning s d    the state of the store s, of which `meaning` tells what it means, with the desk d
--     Reached m        m is the state after some history, over a store that keeps the store meaning
use Rattle.std.specs.Prelude.{ℕ}
use Rattle.tree.specs.Stores.{Meaning}
use Rattle.model.specs.Scheduler.{Model, Making}
use Rattle.model.specs.History.{History, After}
use Rattle.model.specs.Law.{Kept}
use Rattle.desk.specs.declared.desk.Desk.{Desk}
use Rattle.desk.specs.States.{state}

pub record Parts : Type 0 where
  pub store : Meaning
  pub desk : Desk

abbrev pub state_of : Parts → Model
state_of v = state v.store.records v.store.most v.desk

abbrev pub whole : {S : Type 0} → (S → Meaning) → S → Desk → Model
whole meaning s d = state (meaning s).records (meaning s).most d

abbrev pub making : Meaning → ℕ → Making
making x f = record { store = x.records; limit = x.most; first = f }

abbrev pub Reached : Model → Type 0
Reached m = (mk : Making) × Kept mk × (h : History) × After mk h m
