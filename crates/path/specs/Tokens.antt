-- The token at the front of a path text.
--
--   Shape            a token by what it says: of a name, its bytes and the offset where they begin
--   shape t          what the token t says
--   sign_at bs       the slashes or the star at the front of bs, or its end; none where a name stands there
--   token_at at bs   the token at the front of bs, which stand at the offset at
--
-- Assumes nothing.
use Rattle.std.specs.Prelude.{ℕ, cond, List, [], ◌∷◌, Some, None, Option, ◌==◌}
use Rattle.std.specs.Option.{unwrap_or}
use Rattle.name.specs.Names.{bytes_of}
use Rattle.path.specs.declared.token.Token.{Token}
use Rattle.path.specs.declared.token.Token.TheVariants.{End, Child, Deep, Star, Name}
use Rattle.path.specs.Pieces.{piece}

pub data Shape : Type 0 where
  end : Shape
  child : Shape
  deep : Shape
  star : Shape
  name : (bytes : List ℕ) (at : ℕ) → Shape

abbrev pub shape : Token → Shape
shape End = end
shape Child = child
shape Deep = deep
shape Star = star
shape (Name part) = name (bytes_of part) part.at

-- after one slash
abbrev pub slash : List ℕ → Shape
slash [] = child
slash (b ∷ bs) = cond (b == 47) deep child

abbrev pub sign_at : List ℕ → Option Shape
sign_at [] = Some end
sign_at (b ∷ bs) = cond (b == 47) (Some (slash bs)) (cond (b == 42) (Some star) None)

abbrev pub token_at : ℕ → List ℕ → Shape
token_at at bs = unwrap_or (sign_at bs) (name (piece bs) at)
