-- Lists in a buffer. Assumes nothing.
--     filled ns xs      the buffer xs with the items ns at its start, as far as there is room
use Rattle.std.specs.Prelude.{List, [], ◌∷◌}

abbrev pub filled : {A : Type 0} → List A → List A → List A
filled [] xs = xs
filled (n ∷ ns) [] = []
filled (n ∷ ns) (x ∷ xs) = n ∷ filled ns xs
