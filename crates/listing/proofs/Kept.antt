-- What a listing keeps of its rows: each call keeps it, and does to the records what a store is to do.
use Rattle.std.proofs.Common.{◌≡◌, ℕ, suc, ◌+◌, ◌<◌, ◌≤◌, true, false, ◌||◌, ◌≢◌, List, [], ◌∷◌, length, get_or, set, vec_items, sym, refl, ap, ◌∙◌, subst, add-one, arith}
use Rattle.std.specs.List.{insert, remove}
use Rattle.std.proofs.lemmas.Bool.{cond-true, or_left, eq-eqb}
use Rattle.std.proofs.lemmas.Bool.Decides.{nat_tests}
use Rattle.tree.specs.declared.record.Record.{Record}
use Rattle.tree.specs.Stores.{Meaning}
use Rattle.tree.specs.Records.{has, distinct, child_of, is_parent, fresh, tagged, without, sorted}
use Rattle.tree.specs.Calls.{first_root, may_place, place_after, tag_after, may_discard, discard_after}
use Rattle.tree.proofs.Rising.{rises_sorted}
use Rattle.tree.proofs.Sorting.{some_sorted, distinct_inserted, sorted_inserted, distinct_without, sorted_without, without_at, distinct_tagged, sorted_tagged, tagged_at}
use Rattle.tree.proofs.Kept.{Sound, sound_empty, place_sound, tag_sound, discard_sound}
use Rattle.listing.specs.declared.listing.Listing.{Listing}
use Rattle.listing.specs.declared.row.Row.{Row}
use Rattle.listing.specs.Rows.{nested, rooted, listed, records_of, leaf_at, new_row, Seated, first, behind}
use Rattle.listing.specs.RowsLemmas.{length_records}
use Rattle.listing.proofs.Changes.{records_below, nested_below, rooted_below, records_removed, nested_removed, rooted_removed, marked, records_marked, nested_marked, rooted_marked}
use Rattle.listing.proofs.Leaves.{leaf_childless, inner_parent}
use Rattle.listing.specs.Asked.{length_records_of, may_place_listed, within_listed, name_listed, has_listed, has_row}

-- what a store with this limit means, by its records
abbrev pub with_limit : ℕ → List Record → Meaning
with_limit most rs = record { records = rs; most = most }

pub record Well (most : ℕ) (rows : List Row) : Type 0 where
  pub nests : nested 0 0 rows ≡ true
  pub roots : rooted rows ≡ true
  pub apart : distinct (listed rows) ≡ true
  pub sound : Sound most (records_of rows)

pub well : (s : Listing) → Well s.limit (vec_items s.rows)
well s =
    let e = s.rows.ok.0 in
    let l = length_records_of (vec_items s.rows) in
    record {
      nests = s.nests;
      roots = s.roots;
      apart = s.apart;
      sound = record { rising = rises_sorted (listed (vec_items s.rows)) s.apart; tree = s.tree; labels = s.labels; within = omega arith };
    }

pub well_empty : (most : ℕ) (rows : List Row) → rows ≡ [] → Well most rows
well_empty most rows e = subst (Well most) (sym e) (record { nests = refl; roots = refl; apart = refl; sound = sound_empty most })

-- ── place ──
pub seat_within : (rows : List Row) (n p : ℕ) {i d : ℕ} → Seated rows n p i d → i ≤ length rows
seat_within rows n p (first e n0 p0) = omega arith
seat_within rows n p (behind k r h is e) = omega arith

-- a new row in its seat is a record below its parent, and the other rows are the records that they were
record Fits (rows : List Row) (n p i d a : ℕ) : Type 0 where
  parent : (has p (listed rows) || first_root n p (listed rows)) ≡ true
  means : listed (insert rows i (new_row n d a)) ≡ insert (listed rows) i (fresh n p a)
  nests : nested 0 0 (insert rows i (new_row n d a)) ≡ true
  roots : rooted (insert rows i (new_row n d a)) ≡ true

fits_behind : (rows : List Row) (n p a k : ℕ) (r : Row) → nested 0 0 rows ≡ true → rooted rows ≡ true → k < length rows → (get_or rows k r).name ≡ p → Fits rows n p (suc k) (suc (get_or rows k r).depth) a
fits_behind rows n p a k r b o h e = record {
  parent = or_left _ _ (has_listed rows k p r (fresh 0 0 0) h e);
  means = records_below (λ _. 0) 0 0 rows k n a r b h ∙ ap (λ (q : ℕ). insert (listed rows) (suc k) (fresh n q a)) e;
  nests = nested_below 0 0 rows k n a r b h;
  roots = rooted_below rows k (new_row n (suc (get_or rows k r).depth) a) h o;
}

fits : (rows : List Row) (n p a : ℕ) {i d : ℕ} → nested 0 0 rows ≡ true → rooted rows ≡ true → Seated rows n p i d → Fits rows n p i d a
fits rows n p a b o (first e n0 p0) =
    subst (λ (rs : List Row). Fits rs n p 0 0 a) (sym e)
    (record { parent = grind (arith, nat_tests); means = ap (λ (q : ℕ). fresh n q a ∷ []) (sym p0); nests = refl; roots = eq-eqb n 0 n0 })
fits rows n p a b o (behind k r h is e) =
    let t = fits_behind rows n p a k r b o h (ap (λ (y : Row). y.name) (sym is) ∙ e) in
    subst (λ (j : ℕ). Fits rows n p j (r.depth + 1) a) (sym (add-one k)) (subst (λ (d : ℕ). Fits rows n p (suc k) d a) (ap (λ (y : Row). suc y.depth) (sym is) ∙ sym (add-one r.depth)) t)

-- the rows after the new row went in
module _ (most n p a : ℕ) (rows after : List Row) (w : Well most rows) (new : has n (listed rows) ≡ false) (lab : a ≢ 0) (room : length rows ≢ most) {i d : ℕ} (s : Seated rows n p i d) (is : after ≡ insert rows i (new_row n d a)) where
  f : Fits rows n p i d a
  f = fits rows n p a w.nests w.roots s

  means : listed after ≡ insert (listed rows) i (fresh n p a)
  means = ap listed is ∙ f.means

  pub may_placed : may_place most n p a (records_of rows) ≡ true
  may_placed =
      let l = length_records (λ _. 0) rows in
      let h = f.parent in
      may_place_listed most n p a rows ∙ grind (arith, nat_tests)

  pub records_placed : records_of after ≡ place_after most n p a (records_of rows)
  records_placed = ap sorted means ∙ sorted_inserted (listed rows) i (fresh n p a) w.apart new ∙ sym (cond-true _ _ _ may_placed)

  pub well_placed : Well most after
  well_placed = record {
    nests = ap (nested 0 0) is ∙ f.nests;
    roots = ap rooted is ∙ f.roots;
    apart = ap distinct means ∙ distinct_inserted (listed rows) i (fresh n p a) w.apart new;
    sound = subst (Sound most) (sym records_placed) (place_sound most n p a (records_of rows) w.sound);
  }

-- ── tag ──
module _ (most n m v i : ℕ) (rows : List Row) (r : Row) (w : Well most rows) (h : i < length rows) (is : r ≡ get_or rows i r) (e : (get_or rows i r).name ≡ n) where
  listed_tagged : listed (set rows i (marked m v (get_or rows i r))) ≡ tagged n m v (listed rows)
  listed_tagged =
      let d = fresh 0 0 0 in
      records_marked (λ _. 0) rows i m v r d
      ∙ sym (tagged_at n m v (listed rows) i d w.apart (within_listed rows i n r d h e) (name_listed rows i n r d h e))

  at_row : set rows i (marked m v r) ≡ set rows i (marked m v (get_or rows i r))
  at_row = ap (λ (y : Row). set rows i (marked m v y)) is

  pub records_tagged : records_of (set rows i (marked m v r)) ≡ tag_after n m v (records_of rows)
  records_tagged =
      ap records_of at_row
      ∙ ap sorted listed_tagged
      ∙ sorted_tagged n m v (listed rows)
      ∙ sym (cond-true _ _ _ (has_row rows i n r (fresh 0 0 0) h e))

  pub well_tagged : Well most (set rows i (marked m v r))
  well_tagged = record {
    nests = ap (nested 0 0) at_row ∙ nested_marked 0 0 rows i m v r ∙ w.nests;
    roots = ap rooted at_row ∙ rooted_marked rows i m v r ∙ w.roots;
    apart = ap (λ (rs : List Row). distinct (listed rs)) at_row ∙ ap distinct listed_tagged ∙ distinct_tagged n m v (listed rows) ∙ w.apart;
    sound = subst (Sound most) (sym records_tagged) (tag_sound most n m v (records_of rows) w.sound);
  }

-- ── discard ──
module _ (most n i : ℕ) (rows : List Row) (r : Row) (w : Well most rows) (h : i < length rows) (e : (get_or rows i r).name ≡ n) where
  pub may_discard_leaf : may_discard n (records_of rows) ≡ leaf_at rows i
  may_discard_leaf =
      let a : has n (records_of rows) ≡ true = has_row rows i n r (fresh 0 0 0) h e in
      let b : is_parent n (records_of rows) ≡ is_parent n (listed rows) = some_sorted (child_of n) (listed rows) in
      let c : leaf_at rows i ≡ true → is_parent n (listed rows) ≡ false = λ l. ap (λ (k : ℕ). is_parent k (listed rows)) (sym e) ∙ leaf_childless rows i r w.nests w.roots w.apart h l in
      let d : leaf_at rows i ≡ false → is_parent n (listed rows) ≡ true = λ l. ap (λ (k : ℕ). is_parent k (listed rows)) (sym e) ∙ inner_parent (λ _. 0) 0 0 rows i r w.nests w.apart h l in
      grind arith

  -- the rows after it went out
  module _ (after : List Row) (l : leaf_at rows i ≡ true) (is : after ≡ remove rows i) where
    listed_without : listed after ≡ without n (listed rows)
    listed_without =
        let d = fresh 0 0 0 in
        ap listed is
        ∙ records_removed (λ _. 0) 0 0 rows i w.nests h l
        ∙ sym (without_at n (listed rows) i d w.apart (within_listed rows i n r d h e) (name_listed rows i n r d h e))

    pub records_without : records_of after ≡ discard_after n (records_of rows)
    records_without = ap sorted listed_without ∙ sorted_without n (listed rows) w.apart ∙ sym (cond-true _ _ _ (may_discard_leaf ∙ l))

    pub well_without : Well most after
    well_without = record {
      nests = ap (nested 0 0) is ∙ nested_removed 0 0 rows i (omega arith) w.nests h l;
      roots = ap rooted is ∙ rooted_removed rows i w.nests h l w.roots;
      apart = ap distinct listed_without ∙ distinct_without n (listed rows) w.apart;
      sound = subst (Sound most) (sym records_without) (discard_sound most n (records_of rows) w.sound);
    }
