-- Events: accepted actions with their answers. The plain rules over them, locks, and the steps of a mixed run, as relations,
-- over any rule of fitting and any table of parents and labels. A list of events has the newest first.
use Rattle.std.proofs.Common.{◌≡◌, ℕ, suc, ◌+◌, ◌*◌, ◌<◌, ◌≤◌, cond, eqb, ◌≢◌, ◌⊎◌, List, [], ◌∷◌, ◌++◌, Some, None, Option}
pub use Rattle.tree.specs.Lists.{In}
pub use Rattle.model.specs.Locks.{Lock, read, write}

-- what the theorem is over: the paths and when a row of labels fits, the names that stand at first, and the parent and the label of each name
pub record World : Type 1 where
  pub Path : Type 0
  pub Fits : List ℕ → Path → Type 0
  pub FitsAny : List ℕ → Path → Type 0
  pub opens : (ls : List ℕ) (a : ℕ) (p : Path) → Fits (ls ++ (a ∷ [])) p → FitsAny ls p
  pub First : ℕ → Type 0
  -- the least ticket that is given
  pub base : ℕ
  pub first_root : First 0
  pub first_low : (x : ℕ) → First x → x < base * 65536
  pub par : ℕ → ℕ
  pub lab : ℕ → ℕ
  pub first_closed : (x : ℕ) → First x → x ≢ 0 → First (par x)

-- the labels below n down to x
pub data Down (par lab : ℕ → ℕ) (n : ℕ) : ℕ → List ℕ → Type 0 where
  here : Down par lab n n []
  below : {ls : List ℕ} → (x : ℕ) → x ≢ 0 → Down par lab n (par x) ls → Down par lab n x (ls ++ (lab x ∷ []))

pub data Event (P : Type 0) : Type 0 where
  ask : (t n : ℕ) (p : P) (found : List ℕ) → Event P
  add : (t n a x : ℕ) → Event P
  rem : (t n : ℕ) → Event P

module _ {P : Type 0} where
  abbrev pub who : Event P → ℕ
  who (ask t n p found) = t
  who (add t n a x) = t
  who (rem t n) = t

  abbrev pub node : Event P → ℕ
  node (ask t n p found) = n
  node (add t n a x) = n
  node (rem t n) = n

  abbrev pub Makes : Event P → ℕ → Type 0
  Makes (ask t n p found) y = ⊥
  Makes (add t n a x) y = y ≡ x
  Makes (rem t n) y = ⊥

  abbrev pub Takes : Event P → ℕ → Type 0
  Takes (ask t n p found) y = ⊥
  Takes (add t n a x) y = ⊥
  Takes (rem t n) y = y ≡ n

  abbrev pub Shows : Event P → ℕ → Type 0
  Shows (ask t n p found) y = In y found
  Shows (add t n a x) y = ⊥
  Shows (rem t n) y = ⊥

  -- what a ticket knows after its own events
  abbrev pub Knows : List (Event P) → ℕ → Type 0
  Knows own n = (n ≡ 0) ⊎ ((e : Event P) × In e own × (Makes e n ⊎ Shows e n))

  abbrev pub tally : ℕ → Event P → ℕ
  tally u (ask t n p found) = 0
  tally u (add t n a x) = cond (eqb t u) 1 0
  tally u (rem t n) = 0

  -- how many additions of u
  abbrev pub count : ℕ → List (Event P) → ℕ
  count u [] = 0
  count u (e ∷ es) = tally u e + count u es

module _ (w : World) where
  abbrev pub Ev : Type 0
  Ev = Event w.Path

  abbrev pub Born : (Ev → Type 0) → ℕ → Type 0
  Born S x = w.First x ⊎ ((e : Ev) × S e × Makes e x)

  abbrev pub Gone : (Ev → Type 0) → ℕ → Type 0
  Gone S x = (e : Ev) × S e × Takes e x

  abbrev pub Live : (Ev → Type 0) → ℕ → Type 0
  Live S x = Born S x × ¬ (Gone S x)

  -- x is strictly below n, and the labels from n down to it fit p
  abbrev pub Hits : ℕ → w.Path → ℕ → Type 0
  Hits n p x = (x ≢ 0) × (ls : List ℕ) × Down w.par w.lab n (w.par x) ls × w.Fits (ls ++ (w.lab x ∷ [])) p

  -- the plain rules: e is accepted after the events S, k of them additions by e's ticket
  abbrev pub Ok : (Ev → Type 0) → ℕ → Ev → Type 0
  Ok S k (ask t n p found) = Live S n × ((x : ℕ) → (In x found → Live S x × Hits n p x) × (Live S x → Hits n p x → In x found))
  Ok S k (add t n a x) = Live S n × (w.base ≤ t) × (suc k < 65536) × (x ≡ t * 65536 + suc k) × (w.par x ≡ n) × (w.lab x ≡ a)
  Ok S k (rem t n) = Live S n × (n ≢ 0) × ((x : ℕ) → x ≢ 0 → w.par x ≡ n → ¬ (Live S x))

  abbrev pub Run : List Ev → Type 0
  Run [] = Unit {0}
  Run (e ∷ es) = Ok (λ d. In d es) (count (who e) es) e × Run es

  abbrev pub locks : Ev → List (Lock w.Path)
  locks (ask t n p found) = read n p ∷ []
  locks (add t n a x) = write n (Some a) ∷ []
  locks (rem t n) = write n None ∷ write (w.par n) (Some (w.lab n)) ∷ []

  abbrev pub FitsTail : List ℕ → Option ℕ → w.Path → Type 0
  FitsTail ls None p = w.FitsAny ls p
  FitsTail ls (Some a) p = w.Fits (ls ++ (a ∷ [])) p

  abbrev pub Reaches : ℕ → w.Path → ℕ → Option ℕ → Type 0
  Reaches n p m f = (ls : List ℕ) × Down w.par w.lab n m ls × FitsTail ls f p

  abbrev pub Clash : Lock w.Path → Lock w.Path → Type 0
  Clash (read n p) (read m q) = ⊥
  Clash (read n p) (write m f) = Reaches n p m f
  Clash (write m f) (read n p) = Reaches n p m f
  Clash (write m f) (write n g) = ⊥

  abbrev pub Conflicts : Ev → Ev → Type 0
  Conflicts d e = (l : Lock w.Path) × In l (locks d) × (k : Lock w.Path) × In k (locks e) × Clash l k

pub record State (P : Type 0) : Type 1 where
  pub fin : List (Event P)
  pub Open : ℕ → Type 0
  pub block : ℕ → List (Event P)
  pub Arrow : ℕ → ℕ → Type 0

module _ {P : Type 0} where
  abbrev pub All : State P → Event P → Type 0
  All s e = In e s.fin ⊎ ((u : ℕ) × s.Open u × In e (s.block u))

  -- the finished blocks, then the blocks of an arrangement, which has its last ticket first
  abbrev pub replay : State P → List ℕ → List (Event P)
  replay s [] = s.fin
  replay s (t ∷ ts) = s.block t ++ replay s ts

  -- open tickets, none twice, each behind every ticket that has an arrow to it
  abbrev pub Good : State P → List ℕ → Type 0
  Good s [] = Unit {0}
  Good s (t ∷ ts) = s.Open t × ¬ (In t ts) × ((u : ℕ) → s.Arrow u t → In u ts) × Good s ts

  -- b goes to the end of the block of its ticket, which knows its node, and new arrows go to that ticket alone
  pub record Grows (s : State P) (b : Event P) (s' : State P) : Type 0 where
    pub opened : s.Open (who b)
    pub knows : Knows (s.block (who b)) (node b)
    pub own : s'.block (who b) ≡ b ∷ s.block (who b)
    pub others : (u : ℕ) → u ≢ who b → s'.block u ≡ s.block u
    pub same_fin : s'.fin ≡ s.fin
    pub open_to : (u : ℕ) → s.Open u → s'.Open u
    pub open_from : (u : ℕ) → s'.Open u → s.Open u
    pub arrow_old : (u v : ℕ) → s.Arrow u v → s'.Arrow u v
    pub arrow_only : (u v : ℕ) → s'.Arrow u v → s.Arrow u v ⊎ ((v ≡ who b) × s.Open u × (u ≢ who b))

  -- a ticket that was never used is opened
  pub record Begins (s : State P) (t : ℕ) (s' : State P) : Type 0 where
    pub not_open : ¬ (s.Open t)
    pub not_past : (e : Event P) → In e s.fin → who e ≢ t
    pub empty : s'.block t ≡ []
    pub others : (u : ℕ) → u ≢ t → s'.block u ≡ s.block u
    pub same_fin : s'.fin ≡ s.fin
    pub open_to : (u : ℕ) → s.Open u → s'.Open u
    pub open_from : (u : ℕ) → s'.Open u → s.Open u ⊎ (u ≡ t)
    pub arrow_old : (u v : ℕ) → s.Arrow u v → s'.Arrow u v
    pub arrow_only : (u v : ℕ) → s'.Arrow u v → s.Arrow u v

  -- a ticket with no arrow to it is finished
  pub record Finishes (s : State P) (t : ℕ) (s' : State P) : Type 0 where
    pub opened : s.Open t
    pub free : (u : ℕ) → ¬ (s.Arrow u t)
    pub grows : s'.fin ≡ s.block t ++ s.fin
    pub others : (u : ℕ) → u ≢ t → s'.block u ≡ s.block u
    pub open_to : (u : ℕ) → s.Open u → u ≢ t → s'.Open u
    pub open_from : (u : ℕ) → s'.Open u → s.Open u × (u ≢ t)
    pub arrow_old : (u v : ℕ) → s.Arrow u v → u ≢ t → s'.Arrow u v
    pub arrow_only : (u v : ℕ) → s'.Arrow u v → s.Arrow u v × (u ≢ t)

  -- the tickets W, and with each all that it has an arrow to, are withdrawn
  pub record Withdraws (s : State P) (W : List ℕ) (s' : State P) : Type 0 where
    pub closed : (u v : ℕ) → s.Arrow u v → In u W → In v W
    pub same_fin : s'.fin ≡ s.fin
    pub others : (u : ℕ) → ¬ (In u W) → s'.block u ≡ s.block u
    pub open_to : (u : ℕ) → s.Open u → ¬ (In u W) → s'.Open u
    pub open_from : (u : ℕ) → s'.Open u → s.Open u × ¬ (In u W)
    pub arrow_old : (u v : ℕ) → s.Arrow u v → ¬ (In u W) → ¬ (In v W) → s'.Arrow u v
    pub arrow_only : (u v : ℕ) → s'.Arrow u v → s.Arrow u v × ¬ (In u W)

  pub record Starts (s : State P) : Type 0 where
    pub no_fin : s.fin ≡ []
    pub no_open : (u : ℕ) → ¬ (s.Open u)
    pub no_arrow : (u v : ℕ) → ¬ (s.Arrow u v)

  -- every open ticket once, and every arrow points to a later one (the latest ticket stands first)
  abbrev pub Follows : State P → List ℕ → Type 0
  Follows s [] = Unit {0}
  Follows s (t ∷ ts) = ¬ (In t ts) × ((u : ℕ) → In u ts → ¬ (s.Arrow t u)) × Follows s ts

  pub record Arranged (s : State P) (ts : List ℕ) : Type 0 where
    pub each : (u : ℕ) → s.Open u → In u ts
    pub only : (u : ℕ) → In u ts → s.Open u
    pub forward : Follows s ts

module _ (w : World) where
  -- b is accepted in the mixed run
  pub record Acts (s : State w.Path) (b : Ev w) (s' : State w.Path) : Type 0 where
    pub grows : Grows s b s'
    pub ok : Ok w (All s) (count (who b) (s.block (who b))) b
    pub arrow_new : (u : ℕ) (d : Ev w) → s.Open u → u ≢ who b → In d (s.block u) → Conflicts w d b → s'.Arrow u (who b)
