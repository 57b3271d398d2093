-- What the token at the front of a text says of the step that is read there.
-- Assumes nothing.
use Rattle.std.proofs.Common.{◌≡◌, ℕ, suc, ◌+◌, ◌<◌, true, false, cond, ◌||◌, eqb, List, [], ◌∷◌, length, get_or, drop, Ok, Err, refl, ap, ◌∙◌, arith, length-drop}
use Rattle.std.proofs.lemmas.List.{at_drop_more, drop-drop}
use Rattle.std.proofs.lemmas.Bool.Decides.{nat_tests}
use Rattle.byte_classes.specs.declared.classes.Classes.{Classes}
use Rattle.name.specs.declared.fault.NameCause.TheVariants.{Byte}
use Rattle.byte_classes.specs.Bytes.{begins, class_of}
use Rattle.name.specs.Names.{Spot, fault, read_name}
use Rattle.path.specs.declared.fault.PathFault.{PathFault}
use Rattle.path.specs.declared.fault.PathFault.TheVariants as fault_in
use Rattle.path.specs.declared.step.Test.TheVariants as test
use Rattle.path.specs.Pieces.{piece, at_slash}
use Rattle.path.specs.Reading.{excess, in_path, onward, read_step, star_test, step_test}
use Rattle.path.specs.Tokens.{name, star, slash, token_at}

slash_is_no_star : (bs : List ℕ) → slash bs ≡ star → ⊥
slash_is_no_star [] e = let z : ◌≡◌ {A = ℕ} 0 1 = cc in omega arith
slash_is_no_star (b ∷ bs) e = grind (arith, nat_tests)

slash_is_no_name : (bs p : List ℕ) (a : ℕ) → slash bs ≡ name p a → ⊥
slash_is_no_name [] p a e = let z : ◌≡◌ {A = ℕ} 0 1 = cc in omega arith
slash_is_no_name (b ∷ bs) p a e = grind (arith, nat_tests)

pub star_begins : (at : ℕ) (bs : List ℕ) → token_at at bs ≡ star → 0 < length bs
star_begins at [] e = absurd (let z : ◌≡◌ {A = ℕ} 0 1 = cc in omega arith)
star_begins at (b ∷ bs) e = omega arith

-- a step that ends at a slash or at the text's end has no more bytes
pub slash_ends : (bs : List ℕ) → at_slash bs ≡ true → piece bs ≡ []
slash_ends [] h = refl
slash_ends (b ∷ bs) h = grind (arith, nat_tests)

pub goes_past : (at : ℕ) (bs : List ℕ) → at_slash bs ≡ false → star_test at (piece bs) ≡ Err (fault_in.Name (fault Byte at))
goes_past at [] h = absurd (let z : ◌≡◌ {A = ℕ} 0 1 = cc in omega arith)
goes_past at (b ∷ bs) h = grind (arith, nat_tests)

module _ (c : Classes) where
  pub star_is_read : (at : ℕ) (bs : List ℕ) → token_at at bs ≡ star
      → read_step c at bs ≡ onward (star_test (at + 1) (piece (drop 1 bs))) (λ t. Ok (t, at + suc (length (piece (drop 1 bs)))))
  star_is_read at [] e = absurd (let z : ◌≡◌ {A = ℕ} 0 1 = cc in omega arith)
  star_is_read at (b ∷ bs) e = let n = slash_is_no_star bs in grind (arith, nat_tests)

  pub name_is_read : (at : ℕ) (bs p : List ℕ) (a : ℕ) → token_at at bs ≡ name p a
      → (p ≡ piece bs) × (a ≡ at) × (step_test c at (piece bs) ≡ onward (in_path (read_name c at (piece bs))) (λ s. Ok (test.Name s)))
  name_is_read at [] p a e = absurd (let z : ◌≡◌ {A = ℕ} 0 1 = cc in omega arith)
  name_is_read at (b ∷ bs) p a e =
      let n = slash_is_no_name bs p a in
      (grind (arith, nat_tests), grind (arith, nat_tests), grind (arith, nat_tests))

  pub star_stops : (at : ℕ) (text : List ℕ) → token_at at (drop at text) ≡ star → at_slash (drop (at + 1) text) ≡ true → read_step c at (drop at text) ≡ Ok (test.Star, at + 1)
  star_stops at text e h =
      let rest = ap piece (drop-drop 1 at text) in
      let none = slash_ends (drop (at + 1) text) h in
      let read = star_is_read at (drop at text) e in
      let one : at + suc 0 ≡ at + 1 = omega arith in
      grind arith

  pub star_goes_past : (at : ℕ) (text : List ℕ) → token_at at (drop at text) ≡ star → at_slash (drop (at + 1) text) ≡ false → read_step c at (drop at text) ≡ Err (fault_in.Name (fault Byte (at + 1)))
  star_goes_past at text e h =
      let rest = ap piece (drop-drop 1 at text) in
      let past = goes_past (at + 1) (drop (at + 1) text) h in
      let read = star_is_read at (drop at text) e in
      grind arith

  -- a name that is read ends where its part of the text does
  pub name_stops : (at : ℕ) (bs text : List ℕ) (a : ℕ) (s : Spot) → token_at at bs ≡ name (drop a text) a → Ok s ≡ read_name c a (drop a text) → Ok (test.Name s, length text) ≡ read_step c at bs
  name_stops at bs text a s e ok =
      let p = name_is_read at bs (drop a text) a e in
      let some : length (drop a text) ≡ 0 → ⊥ = λ z. reads_none_not_ok (drop a text) ok z in
      let n : length text ≡ at + length (piece bs) = omega (arith, length-drop a text, ap length p.0, some, p.1) in
      let same : read_name c a (drop a text) ≡ read_name c at (piece bs) = ap (λ (k : ℕ). read_name c k (drop a text)) p.1 ∙ ap (read_name c at) p.0 in
      let t = p.2 in
      grind arith
    where
      reads_none_not_ok : (xs : List ℕ) → Ok s ≡ read_name c a xs → length xs ≡ 0 → ⊥
      reads_none_not_ok [] ok z = let q : ◌≡◌ {A = ℕ} 0 1 = cc in omega arith
      reads_none_not_ok (x ∷ xs) ok z = omega arith

  -- the fault of a step too many goes by its first byte
  pub excess_at : (at : ℕ) (text : List ℕ) → at < length text
      → excess c at (piece (drop at text)) ≡ cond (eqb (get_or text at 0) 47) (fault_in.Empty at) (cond (eqb (get_or text at 0) 42 || begins (class_of c (get_or text at 0))) (fault_in.Many at) (fault_in.Name (fault Byte at)))
  excess_at at text h =
      let F : List ℕ → PathFault = λ bs. excess c at (piece bs) in
      let next : F (drop at text) ≡ F (get_or text at 0 ∷ drop (at + 1) text) = at_drop_more F text at 0 h in
      grind (arith, nat_tests)
