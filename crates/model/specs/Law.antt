-- The law: the mixed run agrees with a run of one transaction after another. Assumes nothing.
--     Kept mk              the store that a scheduler is made over keeps the store meaning
--     Arrangement m ts     ts has each open ticket once, and every arrow points forward
--     Agrees mk h m ts     fed the actions of the second run, the plain rules accept each, give the answers that were given,
--                          and leave the actual tree that is left
--     Agreement            after every history, each arrangement of the open tickets agrees, and order writes an arrangement
--     Lasting              the k-th finish answers k; the finished part of the second run is only extended at its end;
--                          no withdrawal writes a finished ticket
--     Whole                of any list of turns, by its inputs and outputs alone: the arrangement that order writes agrees
use Rattle.std.specs.Prelude.{◌≡◌, ℕ, suc, ◌≤◌, true, false, ◌≢◌, List, [], ◌∷◌, ◌++◌, map, length, Some}
use Rattle.tree.specs.Lists.{In}
use Rattle.tree.specs.Records.{rises}
use Rattle.tree.specs.Trees.{IsTree, nodes, actual}
use Rattle.model.specs.Rules.{Action, Answer, finished, withdrawn, replay}
use Rattle.model.specs.Scheduler.{Model, finishes, withdraws, Making, arrow_between, order}
use Rattle.model.specs.Calls.{step}
use Rattle.model.specs.History.{Turn, History, After, calls, past, past_tickets, in_order, second, run}

pub record Kept (mk : Making) : Type 0 where
  pub rising : rises mk.store ≡ true
  pub tree : ∥ IsTree (nodes mk.store) ∥₁
  pub count : length mk.store ≤ mk.limit
  pub most : mk.limit ≤ 1024
  pub ticket : mk.first ≤ 4294967295

-- ── arrangements of the open tickets ──
abbrev pub Forward : Model → List ℕ → Type 0
Forward m [] = Unit {0}
Forward m (t ∷ ts) = ¬ (In t ts) × ((u : ℕ) → In u ts → arrow_between m u t ≡ false) × Forward m ts

pub record Arrangement (m : Model) (ts : List ℕ) : Type 0 where
  pub each : (i : ℕ) → m.tickets i ≢ 0 → In (m.tickets i) ts
  pub only : (t : ℕ) → In t ts → (t ≢ 0) × (i : ℕ) × (m.tickets i ≡ t)
  pub forward : Forward m ts

-- ── the law ──
abbrev pub Agrees : Making → History → Model → List ℕ → Type 0
Agrees mk h m ts =
    let both = second (calls h) ts in
    replay (actual mk.store) (map (λ x. x.0) both) ≡ Some (map (λ x. x.1) both, actual m.records)

abbrev pub Agreement : Type 0
Agreement = (mk : Making) → Kept mk → (h : History) (m : Model) → After mk h m →
    ((ts : List ℕ) → Arrangement m ts → Agrees mk h m ts)
    × Arrangement m (order m)

abbrev pub Lasting : Type 0
Lasting = (mk : Making) → Kept mk → (h : History) (m : Model) → After mk h m →
    ((t k : ℕ) (m' : Model) → step m (finishes t) ≡ (m', finished k) → k ≡ suc (length (past_tickets (calls h))))
    × ((x : Turn × Answer) → (more : List (Action × Answer)) × (in_order (past (calls (x ∷ h))) ≡ in_order (past (calls h)) ++ more))
    × ((room t : ℕ) (m' : Model) (ts : List ℕ) → step m (withdraws room t) ≡ (m', withdrawn ts) → (u : ℕ) → In u ts → ¬ (In u (past_tickets (calls h))))

abbrev pub Whole : Type 0
Whole = (mk : Making) → Kept mk → (us : List Turn) → let r = run mk us in Agrees mk r.0 r.1 (order r.1)
