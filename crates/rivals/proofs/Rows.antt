-- What one more row of the book adds to the rivals.
use Rattle.std.proofs.Common.{◌≡◌, ℕ, ◌+◌, ◌<◌, ◌≤◌, Bool, true, false, not, ◌&&◌, ◌||◌, eqb, ltb, List, [], ◌∷◌, ◌++◌, map, length, get_or, take, sym, refl, ap, ◌∙◌, arith, take_all}
use Rattle.std.proofs.lemmas.List.{map_more}
use Rattle.std.proofs.lemmas.Bool.Decides.{nat_tests}
use Rattle.words.specs.Words.{bit}
use Rattle.path.specs.declared.coded.CodedPath.{CodedPath}
use Rattle.tree.specs.Lists.{some_of}
use Rattle.tree.specs.Trees.{Node}
use Rattle.model.specs.Locks.{Lock, Held, conflict, rival}
use Rattle.book.specs.declared.lock.LockRow.{LockRow}
use Rattle.book.specs.Rows.{row_of}

some_push : {A : Type 0} (f : A → Bool) (xs : List A) (x : A) → some_of f (xs ++ (x ∷ [])) ≡ (some_of f xs || f x)
some_push f [] x = or_none (f x)
  where
    or_none : (b : Bool) → (b || false) ≡ b
    or_none true = refl
    or_none false = refl
some_push f (y ∷ xs) x = ap (λ (b : Bool). f y || b) (some_push f xs x) ∙ assoc (f y)
  where
    assoc : (a : Bool) → (a || (some_of f xs || f x)) ≡ ((a || some_of f xs) || f x)
    assoc true = refl
    assoc false = refl

-- the place i is a rival by a row whose holder is h, and whose lock meets one that is needed or does not
abbrev by_row : (h p : ℕ) (meets : Bool) (i : ℕ) → Bool
by_row h p meets i = eqb h i && not (eqb i p) && meets

put : (had had_h : Bool) (h p i : ℕ) (meets : Bool) → h < 32 → (not (eqb h p) && not had_h && meets) ≡ true → (had || (ltb h 32 && eqb i h)) ≡ (had || by_row h p meets i)
put had had_h h p i meets low t = grind (arith, nat_tests)

skip : (had had_h : Bool) (h p i : ℕ) (meets : Bool) → (i ≡ h → had ≡ had_h) → (not (eqb h p) && not had_h && meets) ≡ false → had ≡ (had || by_row h p meets i)
skip had had_h h p i meets same t = grind (arith, nat_tests)

module _ (ys : List Node) (p : ℕ) (ls : List (Lock CodedPath)) (rows : List LockRow) where
  -- the word has the rivals by the first k rows
  abbrev pub Rivals : ℕ → ℕ → Type 0
  Rivals k word = (i : ℕ) → bit word i ≡ rival ys (map row_of (take k rows)) p ls i

  -- whether the row's holder is to be put into the word
  abbrev new : LockRow → ℕ → Bool
  new r word = not (eqb r.holder p) && not (bit word r.holder) && some_of (conflict ys (row_of r).lock) ls

  rival_more : (k : ℕ) (r : LockRow) → k < length rows → r ≡ get_or rows k r → (i : ℕ)
      → rival ys (map row_of (take (k + 1) rows)) p ls i ≡ (rival ys (map row_of (take k rows)) p ls i || by_row r.holder p (some_of (conflict ys (row_of r).lock) ls) i)
  rival_more k r lt e i =
      let f : Held → Bool = λ h. by_row h.holder p (some_of (conflict ys h.lock) ls) i in
      ap (some_of f) (map_more row_of rows k r lt ∙ ap (λ (x : LockRow). map row_of (take k rows) ++ (row_of x ∷ [])) (sym e))
      ∙ some_push f (map row_of (take k rows)) (row_of r)

  had_more : (k w : ℕ) (r : LockRow) → k < length rows → r ≡ get_or rows k r → Rivals k w → (i : ℕ)
      → (bit w i || by_row r.holder p (some_of (conflict ys (row_of r).lock) ls) i) ≡ rival ys (map row_of (take (k + 1) rows)) p ls i
  had_more k w r lt e had i = ap (λ (b : Bool). b || by_row r.holder p (some_of (conflict ys (row_of r).lock) ls) i) (had i) ∙ sym (rival_more k r lt e i)

  pub row_put : (k w : ℕ) (r : LockRow) → k < length rows → r ≡ get_or rows k r → Rivals k w
      → (b : Bool) → b ≡ new r w → b ≡ true → (v u : ℕ) → ((i : ℕ) → bit v i ≡ (bit w i || (ltb r.holder 32 && eqb i r.holder))) → u ≡ v → Rivals (k + 1) u
  row_put k w r lt e had b n t v u with q i =
      ap (λ (x : ℕ). bit x i) q
      ∙ (with i
      ∙ (put (bit w i) (bit w r.holder) r.holder p i (some_of (conflict ys (row_of r).lock) ls) r.low (sym n ∙ t)
      ∙ had_more k w r lt e had i))

  pub row_skipped : (k w : ℕ) (r : LockRow) → k < length rows → r ≡ get_or rows k r → Rivals k w → (b : Bool) → b ≡ new r w → b ≡ false → (u : ℕ) → u ≡ w → Rivals (k + 1) u
  row_skipped k w r lt e had b n t u q i =
      ap (λ (x : ℕ). bit x i) q
      ∙ (skip (bit w i) (bit w r.holder) r.holder p i (some_of (conflict ys (row_of r).lock) ls) (ap (bit w)) (sym n ∙ t)
      ∙ had_more k w r lt e had i)

  pub rows_all : (k w : ℕ) (hs : List Held) → length rows ≤ k → map row_of rows ≡ hs → Rivals k w → (i : ℕ) → bit w i ≡ rival ys hs p ls i
  rows_all k w hs le e had i = had i ∙ ap (λ (hs : List Held). rival ys hs p ls i) (ap (map row_of) (take_all k rows le) ∙ e)
