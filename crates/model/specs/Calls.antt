-- The seven calls. Assumes nothing.
--     judge rows m r        refused by the first row that applies, and then nothing changes; else the result r
--     step m c              the state after the call c, and its answer
use Rattle.std.specs.Prelude.{ℕ, Some, None, Option}
use Rattle.model.specs.Rules.{Answer, ordered, refused}
use Rattle.model.specs.Scheduler.{Model, Call, opens, acts, finishes, withdraws, orders, order}
use Rattle.model.specs.Changes.{change, opened, ended, dropped}
use Rattle.model.specs.Refusals.{Rows, first_row, rows, open_rows, finish_rows, withdraw_rows, order_rows}

abbrev pub given : Option ℕ → Model → Model × Answer → Model × Answer
given None m r = r
given (Some number) m r = (m, refused number)

abbrev pub judge : Rows → Model → Model × Answer → Model × Answer
judge rows m r = given (first_row rows) m r

module _ (m : Model) where
  abbrev pub step : Call → Model × Answer
  step opens = judge (open_rows m) m (opened m)
  step (acts room b) = judge (rows m room b) m (change m b)
  step (finishes t) = judge (finish_rows m t) m (ended m t)
  step (withdraws room t) = judge (withdraw_rows m room t) m (dropped m t)
  step (orders room) = judge (order_rows m room) m (m, ordered (order m))
