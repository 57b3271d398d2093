-- What trying answers, and what the answer means.
-- Assumes nothing.
use Rattle.std.proofs.Common.{◌≡◌, ℕ, List, [], map, Ok, Err, Result, sym, refl, ap, ◌∙◌, subst, arith}
use Rattle.std.proofs.lemmas.Slice.Eq.{bytes_eq-Decides}
use Rattle.std.proofs.lemmas.List.{length-map}
use Rattle.std.specs.Str.{bytes_eq}
use Rattle.byte_classes.specs.declared.classes.Classes.{Classes}
use Rattle.name.specs.declared.name.Name.{Name}
use Rattle.name.specs.Names.{Spot, spot}
use Rattle.path.specs.declared.fault.PathFault.{PathFault}
use Rattle.path.specs.declared.step.Step.{Step}
use Rattle.path.specs.Grammar.{PathText}
use Rattle.path.specs.Grammar as grammar
use Rattle.path.specs.Reading.{onward, read_path, spelled, step_named}
use Rattle.path.proofs.Accepted.{accepts_paths}
use Rattle.fitting.specs.declared.fit.Ending.TheVariants.{Closed}
use Rattle.fitting.specs.declared.fit.Fit.{Fit}
use Rattle.fitting.specs.Fitting.{fits, verdict}
use Rattle.fitting.specs.Language.{Says, StandsFor}
use Rattle.fitting.proofs.Exact.{fits_by_equation, fits_named}
use Rattle.trial.specs.Labels.{read_labels, written}
use Rattle.trial.specs.Tries.{BothRead, Tries, same_bytes, try_answer}
use Rattle.trial.proofs.Joined.{accepts_labels}

-- fitting at spots is fitting at their bytes, which is by equation
says_fitting : (ss : List (Step Spot)) (ls : List Spot) → Says (verdict (fits same_bytes Closed ss ls)) (StandsFor ◌≡◌ (grammar.written ss) (written ls))
says_fitting ss ls =
    fits_by_equation bytes_eq bytes_eq-Decides [] Closed (grammar.written ss) (written ls) (verdict (fits same_bytes Closed ss ls))
    (ap verdict (sym (fits_named bytes_eq (λ (s : Spot). s.bytes) Closed ss ls)))

module _ (c : Classes) (a b : ℕ) (ls es : List ℕ) where
  pub tries : Tries c ls es (try_answer c a ls b es)
  tries = (tried, meant (read_labels c a ls) refl (read_path c b es) refl)
    where
      tried : (ks : List (List ℕ)) (ts : List (Step (List ℕ))) → BothRead c ls es ks ts → (fit : Fit) × (try_answer c a ls b es ≡ Ok fit) × Says fit (StandsFor ◌≡◌ ts ks)
      tried ks ts (text, names, path, few) =
          let (labels, l, lk) = (accepts_labels c a ls).1 ks text names in
          let (ss, s, st) = (accepts_paths c b es).1 ts path few in
          let told : Says (verdict (fits same_bytes Closed ss labels)) (StandsFor ◌≡◌ ts ks) =
          subst (λ (xs : List (List ℕ)). Says (verdict (fits same_bytes Closed ss labels)) (StandsFor ◌≡◌ ts xs)) lk
          (subst (λ (us : List (Step (List ℕ))). Says (verdict (fits same_bytes Closed ss labels)) (StandsFor ◌≡◌ us (written labels))) st (says_fitting ss labels)) in
          (verdict (fits same_bytes Closed ss labels), ap (λ r. onward r (λ labels. onward (read_path c b es) (λ ss. Ok (verdict (fits same_bytes Closed ss labels))))) l ∙ ap (λ r. onward r (λ ss. Ok (verdict (fits same_bytes Closed ss labels)))) s, told)

      meant : (p : Result (List Spot) PathFault) → read_labels c a ls ≡ p → (q : Result (List (Step Spot)) PathFault) → read_path c b es ≡ q
          → (fit : Fit) → onward p (λ labels. onward q (λ ss. Ok (verdict (fits same_bytes Closed ss labels)))) ≡ Ok fit
          → (ks : List (List ℕ)) × (ts : List (Step (List ℕ))) × BothRead c ls es ks ts × Says fit (StandsFor ◌≡◌ ts ks)
      meant (Ok labels) l (Ok ss) s fit e =
          let (text, names) = (accepts_labels c a ls).0 labels l in
          let (path, few) = (accepts_paths c b es).0 ss s in
          let is : verdict (fits same_bytes Closed ss labels) ≡ fit = cc in
          (written labels, grammar.written ss, (text, names, path, omega (arith, length-map ss (step_named (λ (s : Spot). s.bytes)))), subst (λ (r : Fit). Says r (StandsFor ◌≡◌ (grammar.written ss) (written labels))) is (says_fitting ss labels))
      meant (Ok labels) l (Err f) s fit e = absurd (let z : ◌≡◌ {A = ℕ} 0 1 = cc in omega arith)
      meant (Err f) l q s fit e = absurd (let z : ◌≡◌ {A = ℕ} 0 1 = cc in omega arith)

-- the answer of fitting at the names that were read is the answer of trying
pub tried_at_names : (c : Classes) (a b : ℕ) (ls es : List ℕ) (names : List Name) (steps : List (Step Name)) (r : Fit)
    → Ok (map spot names) ≡ read_labels c a ls → Ok (spelled steps) ≡ read_path c b es
    → r ≡ verdict (fits (λ x y. bytes_eq (spot x).bytes (spot y).bytes) Closed steps names) → Ok r ≡ try_answer c a ls b es
tried_at_names c a b ls es names steps r l s fit =
    let told : Fit → Result Fit PathFault = λ r. Ok r in
    ap told (fit ∙ ap verdict (sym (fits_named same_bytes spot Closed steps names)))
    ∙ (ap (λ r. onward r (λ ss. Ok (verdict (fits same_bytes Closed ss (map spot names))))) s
    ∙ ap (λ r. onward r (λ labels. onward (read_path c b es) (λ ss. Ok (verdict (fits same_bytes Closed ss labels))))) l)
