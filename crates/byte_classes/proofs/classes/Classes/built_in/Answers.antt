use Rattle.std.proofs.Common.{◌≡◌, ℕ, zero, suc, Bool, true, false, List, [], ◌∷◌, get_or, refl}
use Rattle.std.proofs.lemmas.Bool.{false≢true}
use Rattle.byte_classes.specs.declared.classes.Class.{Class}
use Rattle.byte_classes.specs.declared.classes.Class.TheVariants.{Begins, Follows, Outside}
use Rattle.byte_classes.specs.Bytes.{xml_class}
use Rattle.byte_classes.proofs.Tables.{entry_passes}
use Rattle.byte_classes.proofs.classes.Classes.built_in.Goals as goal

abbrev same : Class → Class → Bool
same Begins Begins = true
same Begins Follows = false
same Begins Outside = false
same Follows Begins = false
same Follows Follows = true
same Follows Outside = false
same Outside Begins = false
same Outside Follows = false
same Outside Outside = true

same_is : (x y : Class) → same x y ≡ true → x ≡ y
same_is Begins Begins t = refl
same_is Begins Follows t = absurd (false≢true t)
same_is Begins Outside t = absurd (false≢true t)
same_is Follows Begins t = absurd (false≢true t)
same_is Follows Follows t = refl
same_is Follows Outside t = absurd (false≢true t)
same_is Outside Begins t = absurd (false≢true t)
same_is Outside Follows t = absurd (false≢true t)
same_is Outside Outside t = refl

-- the table as its rule makes it, which antt compares with the source's entry by entry
abbrev rows : ℕ → ℕ → List Class
rows i zero = []
rows i (suc n) = xml_class i ∷ rows (suc i) n

pub returns : goal.returns
returns c b h = same_is (get_or (rows 0 256) b Outside) (xml_class b) (entry_passes (λ k x. same x (xml_class k)) (rows 0 256) Outside refl b h)
