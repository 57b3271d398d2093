-- Histories without their kiosks: the state goes by the calls and their answers alone.
use Rattle.std.proofs.Common.{◌≡◌, ℕ, List, [], ◌∷◌, map, Some}
use Rattle.tree.specs.Trees.{actual}
use Rattle.model.specs.Rules.{replay}
use Rattle.model.specs.Scheduler.{Model, Making, make}
use Rattle.model.specs.Calls.{step}
use Rattle.model.specs.History.{History, After, Log, calls, second}

-- m is the state after the calls of l, which were answered so
abbrev pub Went : Making → Log → Model → Type 0
Went mk [] m = m ≡ make mk
Went mk ((c, a) ∷ l) m' = (m : Model) × Went mk l m × (step m c ≡ (m', a))

pub went : (mk : Making) (h : History) (m : Model) → After mk h m → Went mk (calls h) m
went mk [] m e = e
went mk ((u, a) ∷ h) m' (m, af, e) = (m, went mk h m af, e)

abbrev pub Agreed : Making → Log → Model → List ℕ → Type 0
Agreed mk l m ts = replay (actual mk.store) (map (λ x. x.0) (second l ts)) ≡ Some (map (λ x. x.1) (second l ts), actual m.records)
