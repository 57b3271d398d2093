-- The plain rules on a tree that is a set of nodes, and mixed runs over them: parents and labels are read off the trees.
-- A list of events, and an arrangement of tickets, has the newest first.
use Rattle.std.proofs.Common.{◌≡◌, ℕ, suc, ◌+◌, ◌*◌, ◌<◌, ◌≤◌, Bool, true, ◌≢◌, ◌⊎◌, List, [], ◌∷◌, ◌++◌, Some, None, Option}
use Rattle.path.specs.declared.coded.CodedPath.{CodedPath}
use Rattle.tree.specs.Trees.{Node, node_of}
use Rattle.model.proofs.Events.{In, Event, ask, add, rem, Lock, read, write, who, Takes, tally, count, State, All, replay, Grows, Begins, Finishes, Withdraws, Starts}

abbrev pub Tree : Type 1
Tree = Node → Type 0

abbrev pub Has : Tree → ℕ → Type 0
Has T n = (y : Node) × T y × (y.name ≡ n)

-- x is n or below it in T, and ls are the labels below n down to x
pub data Below (T : Tree) (n : ℕ) : ℕ → List ℕ → Type 0 where
  self : Below T n n []
  under : {ls : List ℕ} → (y : Node) → T y → y.name ≢ 0 → Below T n y.parent ls → Below T n y.name (ls ++ (y.label ∷ []))

-- which rows of labels fit a path, the tree at first and the least ticket that is given
pub record Ground : Type 0 where
  pub fits : List ℕ → CodedPath → Bool
  pub fits_any : List ℕ → CodedPath → Bool
  pub opens : (ls : List ℕ) (a : ℕ) (p : CodedPath) → fits (ls ++ (a ∷ [])) p ≡ true → fits_any ls p ≡ true
  pub first : List Node
  pub first_root : Has (λ y. In y first) 0
  pub base : ℕ
  pub first_low : (y : Node) → In y first → y.name < base * 65536
  pub first_one : (y z : Node) → In y first → In z first → y.name ≡ z.name → y ≡ z
  pub first_closed : (y : Node) → In y first → y.name ≢ 0 → Has (λ z. In z first) y.parent

abbrev pub Adds : Event CodedPath → Node → Type 0
Adds (ask t n p found) y = ⊥
Adds (add t n a x) y = y ≡ node_of x n a
Adds (rem t n) y = ⊥

-- the tree after an event
abbrev pub apply : Event CodedPath → Tree → Tree
apply (ask t n p found) T y = T y
apply (add t n a x) T y = (y ≡ node_of x n a) ⊎ T y
apply (rem t n) T y = T y × (y.name ≢ n)

abbrev pub ends : Tree → List (Event CodedPath) → Tree
ends T [] = T
ends T (e ∷ es) = ends (apply e T) es

-- a list of events, oldest first
abbrev pub forwards : List (Event CodedPath) → List (Event CodedPath)
forwards [] = []
forwards (e ∷ es) = forwards es ++ (e ∷ [])

module _ (g : Ground) where
  abbrev pub Found : Tree → ℕ → CodedPath → ℕ → Type 0
  Found T n p x = (y : Node) × T y × (y.name ≡ x) × (x ≢ 0) × (ls : List ℕ) × Below T n y.parent ls × (g.fits (ls ++ (y.label ∷ [])) p ≡ true)

  -- the plain rules; k: how many additions of its ticket came before
  abbrev pub Accepts : Tree → ℕ → Event CodedPath → Type 0
  Accepts T k (ask t n p found) = Has T n × ((x : ℕ) → (In x found → Found T n p x) × (Found T n p x → In x found))
  Accepts T k (add t n a x) = Has T n × (g.base ≤ t) × (suc k < 65536) × (x ≡ t * 65536 + suc k)
  Accepts T k (rem t n) = Has T n × (n ≢ 0) × ((y : Node) → T y → y.name ≢ 0 → y.parent ≢ n)

  abbrev pub after : List (Event CodedPath) → Tree
  after [] y = In y g.first
  after (e ∷ es) y = apply e (after es) y

  abbrev pub Accepted : List (Event CodedPath) → Type 0
  Accepted [] = Unit {0}
  Accepted (e ∷ es) = Accepts (after es) (count (who e) es) e × Accepted es

  -- the same read forwards, from a tree T; c: how many additions of each ticket came before
  abbrev pub Plays : Tree → (ℕ → ℕ) → List (Event CodedPath) → Type 0
  Plays T c [] = Unit {0}
  Plays T c (e ∷ es) = Accepts T (c (who e)) e × Plays (apply e T) (λ u. tally u e + c u) es

  -- ── locks, over the record R ──
  abbrev pub Locks : Tree → Event CodedPath → Lock CodedPath → Type 0
  Locks R (ask t n p found) l = l ≡ read n p
  Locks R (add t n a x) l = l ≡ write n (Some a)
  Locks R (rem t n) l = (l ≡ write n None) ⊎ ((y : Node) × R y × (y.name ≡ n) × (l ≡ write y.parent (Some y.label)))

  abbrev pub Tail : List ℕ → Option ℕ → CodedPath → Type 0
  Tail ls None p = g.fits_any ls p ≡ true
  Tail ls (Some a) p = g.fits (ls ++ (a ∷ [])) p ≡ true

  abbrev pub Collide : Tree → Lock CodedPath → Lock CodedPath → Type 0
  Collide R (read n p) (read m q) = ⊥
  Collide R (read n p) (write m f) = (ls : List ℕ) × Below R n m ls × Tail ls f p
  Collide R (write m f) (read n p) = (ls : List ℕ) × Below R n m ls × Tail ls f p
  Collide R (write m f) (write n h) = ⊥

  abbrev pub Against : Tree → Event CodedPath → Event CodedPath → Type 0
  Against R d e = (l : Lock CodedPath) × Locks R d l × (k : Lock CodedPath) × Locks R e k × Collide R l k

-- ── the mixed run ──
pub record Mix : Type 1 where
  pub state : State CodedPath
  pub next : ℕ

abbrev pub state : Mix → State CodedPath
state m = m.state

module _ (g : Ground) where
  -- every node of the first tree, of the finished blocks and of the open ones, removed or not
  abbrev pub Recorded : (Event CodedPath → Type 0) → Tree
  Recorded S y = In y g.first ⊎ ((e : Event CodedPath) × S e × Adds e y)

  -- and those that are not removed
  abbrev pub Standing : (Event CodedPath → Type 0) → Tree
  Standing S y = Recorded S y × ¬ ((e : Event CodedPath) × S e × Takes e y.name)

  pub record TakesTurn (m : Mix) (b : Event CodedPath) (m' : Mix) : Type 0 where
    pub grows : Grows (state m) b (state m')
    pub ok : Accepts g (Standing (All (state m))) (count (who b) ((state m).block (who b))) b
    -- the book that locks are compared by: it may leave out a node once it is removed by a finished ticket
    pub book : List Node
    pub book_has : (y : Node) → Recorded (All (state m)) y → ¬ ((e : Event CodedPath) × In e (state m).fin × Takes e y.name) → In y book
    pub book_only : (y : Node) → In y book → Recorded (All (state m)) y
    pub arrow_new : (u : ℕ) (d : Event CodedPath) → (state m).Open u → u ≢ who b → In d ((state m).block u) → Against g (λ y. In y book) d b → (state m').Arrow u (who b)
    pub same_next : m'.next ≡ m.next

  pub data Reach : Mix → Type 1 where
    start : (m : Mix) → Starts (state m) → Reach m
    begin : {m : Mix} → Reach m → (m' : Mix) → Begins (state m) m.next (state m') → m'.next ≡ suc m.next → Reach m'
    act : {m : Mix} → Reach m → (b : Event CodedPath) (m' : Mix) → TakesTurn m b m' → Reach m'
    finish : {m : Mix} → Reach m → (t : ℕ) (m' : Mix) → Finishes (state m) t (state m') → m'.next ≡ m.next → Reach m'
    withdraw : {m : Mix} → Reach m → (ts : List ℕ) (m' : Mix) → Withdraws (state m) ts (state m') → m'.next ≡ m.next → Reach m'

  pub record Agrees (m : Mix) (ts : List ℕ) : Type 0 where
    pub plays : Plays g (λ y. In y g.first) (λ u. 0) (forwards (replay (state m) ts))
    pub tree_to : (y : Node) → ends (λ z. In z g.first) (forwards (replay (state m) ts)) y → Standing (All (state m)) y
    pub tree_from : (y : Node) → Standing (All (state m)) y → ends (λ z. In z g.first) (forwards (replay (state m) ts)) y
