-- What code may count on in every state that a scheduler comes to. Assumes nothing.
--     Healthy m     the records are a tree and so is the actual tree; places, locks and arrows fit each other;
--                   a ticket's next addition has a new name; all fits its words and arrays
--     Health        every state of a fit scheduler is healthy
--     Alike         from a live node up, the labels may be read off the records
use Rattle.std.specs.Prelude.{◌≡◌, ℕ, suc, ◌<◌, ◌≤◌, true, ◌≢◌, length}
use Rattle.tree.specs.declared.record.Record.{Record}
use Rattle.tree.specs.Names.{name_of}
use Rattle.tree.specs.Lists.{In}
use Rattle.tree.specs.Records.{rises}
use Rattle.tree.specs.Trees.{IsTree, nodes, actual}
use Rattle.model.specs.Ways.{stands, way}
use Rattle.model.specs.Locks.{Held}
use Rattle.model.specs.Scheduler.{Model, Making}
use Rattle.model.specs.History.{History, After}
use Rattle.model.specs.Law.{Kept}

pub record Healthy (m : Model) : Type 0 where
  pub rising : rises m.records ≡ true
  pub tree : IsTree (nodes m.records)
  pub live_tree : IsTree (actual m.records)
  pub count : length m.records ≤ m.limit
  pub most : m.limit ≤ 1024
  -- a ticket sits at one place
  pub place_one : (i j : ℕ) → m.tickets i ≡ m.tickets j → m.tickets i ≢ 0 → i ≡ j
  pub place_low : (i : ℕ) → m.tickets i ≢ 0 → i < 32
  -- its additions are no more than the records, and the name of its next one is new
  pub few : (i : ℕ) → m.tickets i ≢ 0 → m.added i ≤ length m.records
  pub new : (i : ℕ) → m.tickets i ≢ 0 → (r : Record) → In r m.records → r.name ≢ name_of (m.tickets i) (suc (m.added i))
  -- locks and arrows are those of taken places
  pub holders : (k : Held) → In k m.locks → m.tickets k.holder ≢ 0
  pub arrow_ends : (i j : ℕ) → m.arrows i j ≡ true → (m.tickets i ≢ 0) × (m.tickets j ≢ 0)
  -- all of it fits its words and arrays
  pub book : length m.locks ≤ 256
  pub tickets_fit : (i : ℕ) → m.tickets i ≤ 4294967295
  pub next_fits : m.next ≤ 4294967295
  pub done_fits : m.done ≤ 4294967295

abbrev pub Health : Type 0
Health = (mk : Making) → Kept mk → (h : History) (m : Model) → After mk h m → m.fit ≡ true → Healthy m

abbrev pub Alike : Type 0
Alike = (m : Model) → Healthy m → (n x : ℕ) → stands (actual m.records) x ≡ true → way (actual m.records) n x ≡ way (nodes m.records) n x
