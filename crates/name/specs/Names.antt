-- Which texts are names, and what reading one answers.
--
--   IsName c bs             bs is a name: one to sixteen bytes, the first may begin a name, the others may follow
--   fault k at              the fault k, found at the offset at
--   allowed c n b           the byte b may stand in a name after n others
--   byte_check c n at b     the fault of the byte b at the offset at, where n bytes of its name stand in front of it
--   bytes_check c n at bs   the first fault of the bytes bs at the offset at, where n bytes of their name stand in front
--   Spot                    some bytes of a text, and the offset where they begin
--   bytes_of p              the bytes of the part p of a text
--   read_name c at bs       what reading bs, at the offset at, as a name answers
--   spot n, seen r          what a name, or the answer of a reading, says of the text
--
-- Assumes nothing.
use Rattle.std.specs.Prelude.{◌≡◌, ℕ, zero, suc, ◌+◌, ◌≤◌, Bool, true, false, cond, ◌&&◌, List, [], ◌∷◌, length, drop, Ok, Err, Result, nat_lt}
use Rattle.bounded.specs.Items.{items_of}
use Rattle.byte_classes.specs.declared.classes.Classes.{Classes}
use Rattle.name.specs.declared.fault.NameCause.{NameCause}
use Rattle.name.specs.declared.fault.NameCause.TheVariants.{Empty, Byte, Long}
use Rattle.name.specs.declared.fault.NameFault.{NameFault}
use Rattle.name.specs.declared.name.Name.{Name}
use Rattle.name.specs.declared.name.Part.{Part}
use Rattle.byte_classes.specs.Bytes.{class_of, begins, follows}

abbrev pub all_follow : Classes → List ℕ → Bool
all_follow c [] = true
all_follow c (b ∷ bs) = follows (class_of c b) && all_follow c bs

abbrev pub name_bytes : Classes → List ℕ → Bool
name_bytes c [] = false
name_bytes c (b ∷ bs) = begins (class_of c b) && all_follow c bs

abbrev pub IsName : Classes → List ℕ → Type 0
IsName c bs = (name_bytes c bs ≡ true) × (length bs ≤ 16)

abbrev pub fault : NameCause → ℕ → NameFault
fault k at = record { cause = k; at = at }

abbrev pub allowed : Classes → ℕ → ℕ → Bool
allowed c zero b = begins (class_of c b)
allowed c (suc n) b = follows (class_of c b)

-- a bad byte is told before a name too long
abbrev pub byte_check : Classes → ℕ → ℕ → ℕ → Result (Unit {0}) NameFault
byte_check c n at b = cond (allowed c n b) (cond (nat_lt n 16) (Ok tt) (Err (fault Long at))) (Err (fault Byte at))

-- the second answer, unless the first is a fault
abbrev pub then : {X E : Type 0} → Result (Unit {0}) E → Result X E → Result X E
then (Ok x) r = r
then (Err e) r = Err e

abbrev pub bytes_check : Classes → ℕ → ℕ → List ℕ → Result (Unit {0}) NameFault
bytes_check c n at [] = Ok tt
bytes_check c n at (b ∷ bs) = then (byte_check c n at b) (bytes_check c (suc n) (at + 1) bs)

pub record Spot : Type 0 where
  pub bytes : List ℕ
  pub at : ℕ

abbrev pub bytes_of : Part → List ℕ
bytes_of p = drop p.at p.text.now

abbrev pub read_name : Classes → ℕ → List ℕ → Result Spot NameFault
read_name c at [] = Err (fault Empty at)
read_name c at (b ∷ bs) = then (bytes_check c 0 at (b ∷ bs)) (Ok (record { bytes = b ∷ bs; at = at }))

abbrev pub spot : Name → Spot
spot n = record { bytes = items_of n.bytes; at = n.at }

abbrev pub seen : Result Name NameFault → Result Spot NameFault
seen (Ok n) = Ok (spot n)
seen (Err e) = Err e
