-- What the computing definitions mean, each against a relation in the subject's words. Assumes nothing.
--     Exactly b P         the test b says whether P holds
--     Descends ys n m ls  n is m or an ancestor of m, and ls are the labels below n down to m
--     FitExact            fits and fits_any are membership in the language of the path
--     WayExact            way finds exactly the descents
--     ConflictExact       a read lock (n, p) conflicts with a write lock (m, f) exactly if there is a descent from n to m whose labels,
--                         followed by f, are in the language of p; for any, by some last label. Two locks of a kind never conflict
--     Leads arrow i j     arrows lead from i to j, none or more
--     Ring arrow i        a round trip along arrows goes through i
--     ReachExact          reached finds exactly the places that arrows lead to
--     RingExact           after every history there is no ring, and an action is refused with 11, or before, exactly if its arrows
--                         would close one; a refusal with 11 says so
--     WithdrawExact       a withdrawal takes exactly the open tickets that arrows lead to from its own
--     Orders arrow ts os  os is ts in this order: repeatedly the least one that no remaining one has an arrow to
--     OrderExact          order writes the open tickets so
use Rattle.std.specs.Prelude.{◌≡◌, ℕ, ◌<◌, ◌≤◌, Bool, true, false, not, ◌≢◌, List, [], ◌∷◌, ◌++◌, Some, None, ◌==◌}
use Rattle.path.specs.declared.coded.CodedPath.{CodedPath}
use Rattle.path.specs.CodedPaths.{code_steps}
use Rattle.fitting.specs.declared.fit.Ending.TheVariants.{Closed, Open}
use Rattle.fitting.specs.Language.{FitsPath}
use Rattle.tree.specs.declared.record.Record.{Record}
use Rattle.tree.specs.Lists.{In, keep}
use Rattle.tree.specs.Records.{rises}
use Rattle.tree.specs.Trees.{Node, IsTree, nodes}
use Rattle.model.specs.Numbers.{member}
use Rattle.model.specs.Paths.{fits, fits_any}
use Rattle.model.specs.Ways.{way}
use Rattle.model.specs.Rules.{Action, refused}
use Rattle.model.specs.Locks.{Lock, read, write, conflict}
use Rattle.model.specs.Arrows.{reached}
use Rattle.model.specs.Scheduler.{Model, acts, Making, place_of, not_open, open_tickets, arrow_between, order}
use Rattle.model.specs.Changes.{change, fallen}
use Rattle.model.specs.Calls.{step}
use Rattle.model.specs.History.{History, After, actor}
use Rattle.model.specs.Law.{Kept}

abbrev pub Exactly : Bool → Type 0 → Type 0
Exactly b P = (b ≡ true → P) × (P → b ≡ true)

-- ── paths, ways and conflict ──
abbrev pub FitExact : Type 0
FitExact = (ls : List ℕ) (p : CodedPath) →
    Exactly (fits ls p) (FitsPath ◌≡◌ Closed (code_steps p) ls) × Exactly (fits_any ls p) (FitsPath ◌≡◌ Open (code_steps p) ls)

pub data Descends (ys : List Node) (n : ℕ) : ℕ → List ℕ → Type 0 where
  here : Descends ys n n []
  below : {ls : List ℕ} → (y : Node) → In y ys → y.name ≢ 0 → Descends ys n y.parent ls → Descends ys n y.name (ls ++ (y.label ∷ []))

abbrev pub WayExact : Type 0
WayExact = (rs : List Record) → rises rs ≡ true → IsTree (nodes rs) → (n m : ℕ) (ls : List ℕ) →
    (way (nodes rs) n m ≡ Some ls → Descends (nodes rs) n m ls) × (Descends (nodes rs) n m ls → way (nodes rs) n m ≡ Some ls)

abbrev pub ConflictExact : Type 0
ConflictExact = (rs : List Record) → rises rs ≡ true → IsTree (nodes rs) → (n m : ℕ) (p : CodedPath) →
    ((a : ℕ) → Exactly (conflict (nodes rs) (read n p) (write m (Some a))) ((ls : List ℕ) × Descends (nodes rs) n m ls × FitsPath ◌≡◌ Closed (code_steps p) (ls ++ (a ∷ []))))
    × Exactly (conflict (nodes rs) (read n p) (write m None)) ((ls : List ℕ) × Descends (nodes rs) n m ls × FitsPath ◌≡◌ Open (code_steps p) ls)
    × ((l k : Lock CodedPath) → conflict (nodes rs) l k ≡ conflict (nodes rs) k l)

-- ── arrows ──
pub data Leads (arrow : ℕ → ℕ → Bool) (i : ℕ) : ℕ → Type 0 where
  stay : Leads arrow i i
  along : {j : ℕ} → Leads arrow i j → (k : ℕ) → arrow j k ≡ true → Leads arrow i k

abbrev pub Ring : (ℕ → ℕ → Bool) → ℕ → Type 0
Ring arrow i = (j : ℕ) × (arrow i j ≡ true) × Leads arrow j i

abbrev pub ReachExact : Type 0
ReachExact = (arrow : ℕ → ℕ → Bool) → ((i j : ℕ) → arrow i j ≡ true → j < 32) → (p : ℕ) → p < 32 → (j : ℕ) →
    Exactly (member j (reached arrow p)) (Leads arrow p j)

-- the state that an accepted action would leave is `(change m b).0`
abbrev pub RingExact : Type 0
RingExact = (mk : Making) → Kept mk → (h : History) (m : Model) → After mk h m →
    ((i : ℕ) → ¬ (Ring m.arrows i))
    × ((room : ℕ) (b : Action) → not_open m (actor b) ≡ false →
    ((step m (acts room b)).1 ≡ refused 11 → (i : ℕ) × Ring (change m b).0.arrows i)
    × (((i : ℕ) × Ring (change m b).0.arrows i) → (k : ℕ) × (k ≤ 11) × (step m (acts room b) ≡ (m, refused k))))

abbrev pub WithdrawExact : Type 0
WithdrawExact = (mk : Making) → Kept mk → (h : History) (m : Model) → After mk h m → (t : ℕ) → not_open m t ≡ false → (u : ℕ) →
    Exactly (member u (fallen m t)) ((u ≢ 0) × (i : ℕ) × (m.tickets i ≡ u) × Leads m.arrows (place_of m t) i)

-- ── order ──
pub data Orders (arrow : ℕ → ℕ → Bool) : List ℕ → List ℕ → Type 0 where
  done : Orders arrow [] []
  next : {ts os : List ℕ} → (t : ℕ) → In t ts → ((u : ℕ) → In u ts → arrow u t ≡ false)
      → ((s : ℕ) → In s ts → s < t → (u : ℕ) × In u ts × (arrow u s ≡ true))
      → Orders arrow (keep (λ u. not (u == t)) ts) os → Orders arrow ts (t ∷ os)

abbrev pub OrderExact : Type 0
OrderExact = (mk : Making) → Kept mk → (h : History) (m : Model) → After mk h m →
    Orders (arrow_between m) (open_tickets m) (order m)
    × ((t : ℕ) → (In t (open_tickets m) → not_open m t ≡ false) × (not_open m t ≡ false → In t (open_tickets m)))
