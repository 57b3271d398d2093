-- The bytes that are judged without a fault are those of a name, and judging goes byte by byte.
-- Assumes nothing.
use Rattle.std.proofs.Common.{◌≡◌, ℕ, suc, ◌+◌, ◌<◌, ◌≤◌, true, List, [], ◌∷◌, length, get_or, drop, is_ok, Ok, Err, Decides, Result, sym, refl, ap, arith}
use Rattle.std.proofs.lemmas.List.{drop_more}
use Rattle.std.proofs.lemmas.Bool.{and_parts, and_from, false≢true}
use Rattle.std.proofs.lemmas.Bool.Decides.{nat_tests}
use Rattle.byte_classes.specs.declared.classes.Classes.{Classes}
use Rattle.name.specs.declared.fault.NameFault.{NameFault}
use Rattle.name.specs.Names.{Spot, IsName, all_follow, allowed, byte_check, bytes_check, read_name, then}

pub then_parts : {X E : Type 0} (r : Result (Unit {0}) E) (s : Result X E) → is_ok (then r s) ≡ true → (is_ok r ≡ true) × (is_ok s ≡ true)
then_parts (Ok x) s h = (refl, h)
then_parts (Err e) s h = absurd (false≢true h)

pub then_from : {X E : Type 0} (r : Result (Unit {0}) E) (s : Result X E) → is_ok r ≡ true → is_ok s ≡ true → is_ok (then r s) ≡ true
then_from (Ok x) s h k = k
then_from (Err e) s h k = absurd (false≢true h)

module _ (c : Classes) where
  pub byte_passes : (n at b : ℕ) → is_ok (byte_check c n at b) ≡ true → (allowed c n b ≡ true) × (n < 16)
  byte_passes n at b h = (grind (arith, nat_tests), grind (arith, nat_tests))

  pub passes_byte : (n at b : ℕ) → allowed c n b ≡ true → n < 16 → is_ok (byte_check c n at b) ≡ true
  passes_byte n at b a h = grind (arith, nat_tests)

  others_follow : (n at : ℕ) (bs : List ℕ) → suc n ≤ 16 → is_ok (bytes_check c (suc n) at bs) ≡ true → (all_follow c bs ≡ true) × (suc n + length bs ≤ 16)
  others_follow n at [] le h = (refl, omega arith)
  others_follow n at (b ∷ bs) le h =
      let p = then_parts (byte_check c (suc n) at b) (bytes_check c (suc (suc n)) (at + 1) bs) h in
      let q = byte_passes (suc n) at b p.0 in
      let t = others_follow (suc n) (at + 1) bs (omega arith) p.1 in
      (and_from _ _ q.0 t.0, omega (arith, t.1))

  following_pass : (n at : ℕ) (bs : List ℕ) → all_follow c bs ≡ true → suc n + length bs ≤ 16 → is_ok (bytes_check c (suc n) at bs) ≡ true
  following_pass n at [] a le = refl
  following_pass n at (b ∷ bs) a le =
      let p = and_parts _ _ a in
      then_from (byte_check c (suc n) at b) (bytes_check c (suc (suc n)) (at + 1) bs)
      (passes_byte (suc n) at b p.0 (omega arith))
      (following_pass (suc n) (at + 1) bs p.1 (omega arith))

  pub judged_is_name : (at b : ℕ) (bs : List ℕ) → is_ok (bytes_check c 0 at (b ∷ bs)) ≡ true → IsName c (b ∷ bs)
  judged_is_name at b bs h =
      let p = then_parts (byte_check c 0 at b) (bytes_check c 1 (at + 1) bs) h in
      let q = byte_passes 0 at b p.0 in
      let t = others_follow 0 (at + 1) bs (omega arith) p.1 in
      (and_from _ _ q.0 t.0, omega (arith, t.1))

  pub name_is_judged : (at b : ℕ) (bs : List ℕ) → IsName c (b ∷ bs) → is_ok (bytes_check c 0 at (b ∷ bs)) ≡ true
  name_is_judged at b bs (a, le) =
      let p = and_parts _ _ a in
      then_from (byte_check c 0 at b) (bytes_check c 1 (at + 1) bs)
      (passes_byte 0 at b p.0 (omega arith))
      (following_pass 0 (at + 1) bs p.1 (omega arith))

  pub read_is_name : (at : ℕ) (bs : List ℕ) → is_ok (read_name c at bs) ≡ true → IsName c bs
  read_is_name at [] h = absurd (false≢true h)
  read_is_name at (b ∷ bs) h = judged_is_name at b bs (then_parts (bytes_check c 0 at (b ∷ bs)) _ h).0

  -- judging goes on with the next byte
  pub judges_next : (at n : ℕ) (bs : List ℕ) → n < length bs
      → bytes_check c n (at + n) (drop n bs) ≡ then (byte_check c n (at + n) (get_or bs n 0)) (bytes_check c (n + 1) (at + (n + 1)) (drop (n + 1) bs))
  judges_next at n bs lt =
      let more = drop_more bs n 0 lt in
      let here = ap (bytes_check c n (at + n)) more in
      grind arith

  -- bytes that are judged without a fault are a name's
  pub judged_names : (at : ℕ) (bs : List ℕ) → 0 < length bs → Decides (is_ok (bytes_check c 0 at bs)) (IsName c bs)
  judged_names at [] h = absurd (omega arith)
  judged_names at (b ∷ bs) h = (judged_is_name at b bs, name_is_judged at b bs)

  -- what an accepted reading gives, and that each name is read as itself
  pub read_gives : (at : ℕ) (bs : List ℕ) (s : Spot) → read_name c at bs ≡ Ok s → (s.bytes ≡ bs) × IsName c bs
  read_gives at bs s e = (bytes at bs e, read_is_name at bs (ap is_ok e))
    where
      bytes : (at : ℕ) (bs : List ℕ) → read_name c at bs ≡ Ok s → s.bytes ≡ bs
      bytes at [] e = absurd (false≢true (ap is_ok e))
      bytes at (b ∷ bs) e = go (bytes_check c 0 at (b ∷ bs)) e
        where
          go : (r : Result (Unit {0}) NameFault) → then r (Ok (record { bytes = b ∷ bs; at = at })) ≡ Ok s → s.bytes ≡ b ∷ bs
          go (Ok x) e = let q : record { bytes = b ∷ bs; at = at } ≡ s = cc in ap (λ (s : Spot). s.bytes) (sym q)
          go (Err f) e = absurd (false≢true (ap is_ok e))

  pub name_reads : (at : ℕ) (bs : List ℕ) → IsName c bs → read_name c at bs ≡ Ok (record { bytes = bs; at = at })
  name_reads at [] (a, le) = absurd (false≢true a)
  name_reads at (b ∷ bs) h = go (bytes_check c 0 at (b ∷ bs)) (name_is_judged at b bs h)
    where
      go : (r : Result (Unit {0}) NameFault) → is_ok r ≡ true → then {X = Spot} r (Ok (record { bytes = b ∷ bs; at = at })) ≡ Ok (record { bytes = b ∷ bs; at = at })
      go (Ok x) h = refl
      go (Err f) h = absurd (false≢true h)
