-- Which bytes stand in a name.
--
--   class_of c b    the class that c gives the byte b
--   begins k        a byte of class k may begin a name
--   follows k       a byte of class k may stand in a name after its first byte
--   xml_class b     what XML 1.0 says of the byte b, where NameStartChar and NameChar are cut to the bytes up to 127
--   FollowsXML c    c gives every byte the class that XML 1.0 gives it
--
-- Assumes nothing.
use Rattle.std.specs.Prelude.{◌≡◌, ℕ, ◌<◌, Bool, true, false, cond, ◌&&◌, ◌||◌, ◌==◌, nat_le, slice_index_or}
use Rattle.byte_classes.specs.declared.classes.Class.{Class}
use Rattle.byte_classes.specs.declared.classes.Class.TheVariants.{Begins, Follows, Outside}
use Rattle.byte_classes.specs.declared.classes.Classes.{Classes}

abbrev pub class_of : Classes → ℕ → Class
class_of c b = slice_index_or c.table b Outside

abbrev pub begins : Class → Bool
begins Begins = true
begins Follows = false
begins Outside = false

abbrev pub follows : Class → Bool
follows Begins = true
follows Follows = true
follows Outside = false

abbrev pub letter : ℕ → Bool
letter b = (nat_le 65 b && nat_le b 90) || (nat_le 97 b && nat_le b 122)

abbrev pub digit : ℕ → Bool
digit b = nat_le 48 b && nat_le b 57

-- letters, `_` and `:` begin; digits, `-` and `.` follow too
abbrev pub xml_class : ℕ → Class
xml_class b = cond (letter b || b == 95 || b == 58) Begins (cond (digit b || b == 45 || b == 46) Follows Outside)

abbrev pub FollowsXML : Classes → Type 0
FollowsXML c = (b : ℕ) → b < 256 → class_of c b ≡ xml_class b
