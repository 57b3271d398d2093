-- Locks, and when two are in conflict. Assumes nothing.
--     Lock                 read from the node n along the path p; write under the node n: a child with a label, or with any (None)
--     Held                 a lock, and the place of the ticket that holds it
--     removal_locks o n    what a remove of n takes, whose record is o: n and any, n's parent and n's label
--     locks_of rs b        the locks that the action b takes, also an ask that finds nothing
--     fits_way w f p       there is a way w, and its labels and then f fit p
--     conflict ys l k      one is a read lock (n, p), the other a write lock (m, f), n is m or an ancestor of m,
--                          and the labels below n down to m, followed by f, fit p; for any, some last label must do
--     rival ys hs p ls i   the place i, other than p, holds one of the locks hs that conflicts with one of ls
use Rattle.std.specs.Prelude.{ℕ, Bool, false, not, ◌&&◌, List, [], ◌∷◌, ◌++◌, Some, None, Option, ◌==◌}
use Rattle.path.specs.declared.coded.CodedPath.{CodedPath}
use Rattle.tree.specs.declared.record.Record.{Record}
use Rattle.tree.specs.Lists.{some_of}
use Rattle.tree.specs.Records.{look}
use Rattle.tree.specs.Trees.{Node}
use Rattle.model.specs.Paths.{fits, fits_any}
use Rattle.model.specs.Ways.{way}
use Rattle.model.specs.Rules.{Action, asks, adds, removes}

pub data Lock (P : Type 0) : Type 0 where
  read : (n : ℕ) (p : P) → Lock P
  write : (n : ℕ) (f : Option ℕ) → Lock P

pub record Held : Type 0 where
  pub holder : ℕ
  pub lock : Lock CodedPath

abbrev pub removal_locks : Option Record → ℕ → List (Lock CodedPath)
removal_locks None n = write n None ∷ []
removal_locks (Some r) n = write n None ∷ write r.parent (Some r.label) ∷ []

abbrev pub locks_of : List Record → Action → List (Lock CodedPath)
locks_of rs (asks t n p) = read n p ∷ []
locks_of rs (adds t n a) = write n (Some a) ∷ []
locks_of rs (removes t n) = removal_locks (look n rs) n

abbrev pub fits_way : Option (List ℕ) → Option ℕ → CodedPath → Bool
fits_way None f p = false
fits_way (Some ls) None p = fits_any ls p
fits_way (Some ls) (Some a) p = fits (ls ++ (a ∷ [])) p

abbrev pub conflict : List Node → Lock CodedPath → Lock CodedPath → Bool
conflict ys (read n p) (read m q) = false
conflict ys (read n p) (write m f) = fits_way (way ys n m) f p
conflict ys (write m f) (read n p) = fits_way (way ys n m) f p
conflict ys (write m f) (write n g) = false

abbrev pub rival : List Node → List Held → ℕ → List (Lock CodedPath) → ℕ → Bool
rival ys hs p ls i = some_of (λ h. (h.holder == i) && not (i == p) && some_of (conflict ys h.lock) ls) hs
