-- Fitting is membership in the language of a path, ways are descents, and conflict is both.
use Rattle.std.proofs.Common.{◌≡◌, ℕ, Bool, true, false, eqb, List, [], ◌∷◌, ◌++◌, length, Some, None, Option, sym, refl, ap, ◌∙◌}
use Rattle.std.proofs.lemmas.Bool.{true≢false, eqb-true, eq-eqb}
use Rattle.path.specs.declared.coded.CodedPath.{CodedPath}
use Rattle.path.specs.CodedPaths.{code_steps}
use Rattle.fitting.specs.declared.fit.Ending.{Ending}
use Rattle.fitting.specs.declared.fit.Ending.TheVariants.{Closed, Open}
use Rattle.fitting.specs.Language.{FitsPath, Says}
use Rattle.fitting.specs.Fitting as fitting
use Rattle.fitting.specs.Fitting.{verdict}
use Rattle.fitting.proofs.Exact.{fits_by_equation}
use Rattle.tree.specs.Lists.{In}
use Rattle.tree.specs.Trees.{Node, nodes}
use Rattle.model.specs.Ways.{way}
use Rattle.model.specs.Locks.{Lock, read, write, fits_way, conflict}
use Rattle.model.specs.Meanings.{Exactly, FitExact, Descends, here, below, WayExact, ConflictExact}
use Rattle.model.proofs.MixedRun.{Below, self, under}
use Rattle.model.proofs.Ways.{way_sound}
use Rattle.model.proofs.Turn.{tree_way, rises_up}

-- ── the language of a path ──
exactly : (b : Bool) {P : Type 0} → Says (verdict b) P → Exactly b P
exactly true h = ((λ e. h), λ p. refl)
exactly false h = ((λ e. absurd (true≢false (sym e))), λ p. absurd (h p))

pub fit_exact : FitExact
fit_exact ls p = (member Closed, member Open)
  where
    member : (e : Ending) → Exactly (fitting.fits eqb e (code_steps p) ls) (FitsPath ◌≡◌ e (code_steps p) ls)
    member e = exactly (fitting.fits eqb e (code_steps p) ls) (fits_by_equation eqb (λ x y. (eqb-true x y, eq-eqb x y)) 0 e (code_steps p) ls (verdict (fitting.fits eqb e (code_steps p) ls)) refl)

-- ── descents ──
module _ (ys : List Node) (n : ℕ) where
  to_below : {m : ℕ} {ls : List ℕ} → Descends ys n m ls → Below (λ y. In y ys) n m ls
  to_below here = self
  to_below (below y i nz d) = under y i nz (to_below d)

  from_below : {m : ℕ} {ls : List ℕ} → Below (λ y. In y ys) n m ls → Descends ys n m ls
  from_below self = here
  from_below (under y i nz d) = below y i nz (from_below d)

pub way_exact : WayExact
way_exact rs up tree n m ls = (
  (λ h. from_below (nodes rs) n (way_sound (nodes rs) (rises_up rs up) (length (nodes rs)) n m ls h)),
  λ d. tree_way (nodes rs) (rises_up rs up) tree.leads n m ls (to_below (nodes rs) n d),
)

-- ── conflict ──
pub conflict_exact : ConflictExact
conflict_exact rs up tree n m p = (
  (λ a. ((λ h. closed a (way (nodes rs) n m) refl h), λ x. ap (λ w. fits_way w (Some a) p) ((way_exact rs up tree n m x.0).1 x.1) ∙ (fit_exact (x.0 ++ (a ∷ [])) p).0.1 x.2)),
  ((λ h. any (way (nodes rs) n m) refl h), λ x. ap (λ w. fits_way w None p) ((way_exact rs up tree n m x.0).1 x.1) ∙ (fit_exact x.0 p).1.1 x.2),
  alike,
)
  where
    closed : (a : ℕ) (w : Option (List ℕ)) → way (nodes rs) n m ≡ w → fits_way w (Some a) p ≡ true → (ls : List ℕ) × Descends (nodes rs) n m ls × FitsPath ◌≡◌ Closed (code_steps p) (ls ++ (a ∷ []))
    closed a None e h = absurd (true≢false (sym h))
    closed a (Some ls) e h = (ls, (way_exact rs up tree n m ls).0 e, (fit_exact (ls ++ (a ∷ [])) p).0.0 h)

    any : (w : Option (List ℕ)) → way (nodes rs) n m ≡ w → fits_way w None p ≡ true → (ls : List ℕ) × Descends (nodes rs) n m ls × FitsPath ◌≡◌ Open (code_steps p) ls
    any None e h = absurd (true≢false (sym h))
    any (Some ls) e h = (ls, (way_exact rs up tree n m ls).0 e, (fit_exact ls p).1.0 h)

    alike : (l k : Lock CodedPath) → conflict (nodes rs) l k ≡ conflict (nodes rs) k l
    alike (read a q) (read b r) = refl
    alike (read a q) (write b f) = refl
    alike (write b f) (read a q) = refl
    alike (write a f) (write b g) = refl
