-- One label: what stands up to the next slash.
-- Assumes nothing.
use Rattle.std.proofs.Common.{◌≡◌, ℕ, ◌+◌, ◌<◌, ◌≤◌, cond, ltb, List, [], ◌∷◌, length, get_or, drop, Ok, Err, Result, arith, length-drop}
use Rattle.std.proofs.lemmas.List.{drop_more}
use Rattle.std.proofs.lemmas.Bool.Decides.{nat_tests}
use Rattle.byte_classes.specs.declared.classes.Classes.{Classes}
use Rattle.name.specs.declared.fault.NameFault.{NameFault}
use Rattle.name.specs.Names.{Spot, read_name}
use Rattle.name.proofs.Fronts.{before_within}
use Rattle.path.specs.declared.fault.PathFault.{PathFault}
use Rattle.path.specs.declared.fault.PathFault.TheVariants as fault_in
use Rattle.path.specs.Pieces.{piece}
use Rattle.path.specs.Reading.{in_path}
use Rattle.trial.specs.Labels.{excess, next_label, read_label}

-- one label and where it ends, or a fault
abbrev pub Next : Type 0
Next = Result (Spot × ℕ) PathFault

module _ (c : Classes) (text : List ℕ) (at : ℕ) (some : 0 < length (piece (drop at text))) where
  pub begins_within : at < length text
  begins_within = omega (arith, before_within 47 (drop at text), length-drop at text, some)

  -- its first byte is the text's at that offset
  first_byte : (n : ℕ) → next_label c n at (piece (drop at text)) ≡ cond (ltb n 16) (in_path (read_name c at (piece (drop at text)))) (Err (excess c at (get_or text at 0)))
  first_byte n = go (drop at text) (drop_more text at 0 begins_within) some
    where
      go : (bs : List ℕ) → bs ≡ get_or text at 0 ∷ drop (at + 1) text → 0 < length (piece bs) → next_label c n at (piece bs) ≡ cond (ltb n 16) (in_path (read_name c at (piece bs))) (Err (excess c at (get_or text at 0)))
      go [] e h = absurd (omega arith)
      go (b ∷ bs) e h = let same : b ≡ get_or text at 0 = cc in grind (arith, nat_tests)

  pub one_too_many : (n : ℕ) → 16 ≤ n → ◌≡◌ {A = Next} (Err (excess c at (get_or text at 0))) (read_label c n at (drop at text))
  one_too_many n h = let first = first_byte n in grind (arith, nat_tests)

  pub bad_label : (n : ℕ) (f : NameFault) → n < 16 → Err f ≡ read_name c at (piece (drop at text)) → ◌≡◌ {A = Next} (Err (fault_in.Name f)) (read_label c n at (drop at text))
  bad_label n f h e = let first = first_byte n in grind (arith, nat_tests)

  pub good_label : (n : ℕ) (s : Spot) (end : ℕ) → n < 16 → Ok s ≡ read_name c at (piece (drop at text)) → end ≡ at + length (piece (drop at text))
      → ◌≡◌ {A = Next} (Ok (s, end)) (read_label c n at (drop at text))
  good_label n s end h e stop = let first = first_byte n in grind (arith, nat_tests)
