use Rattle.std.proofs.Common.{◌≡◌, ℕ, eqb, [], ◌∷◌, Some, None, Option, sym, ap, ◌∙◌, subst}
use Rattle.path.specs.CodedPaths.{code_steps}
use Rattle.fitting.specs.declared.fit.Ending.TheVariants.{Closed, Open}
use Rattle.fitting.specs.Fitting.{Reads}
use Rattle.tree.specs.Trees.{nodes}
use Rattle.model.specs.Ways.{way}
use Rattle.model.specs.Locks.{fits_way}
use Rattle.walks.proofs.Climbs.{keep_any, any_ends, label_ends}
use Rattle.walks.proofs.climb.is_seen.Goals as goal
use Rattle.walks.proofs.climb.is_seen.Goals.{in-Some, in-None}

pub returns : goal.returns
returns g c =
    let rs = (g.S.Store.meaning c.args.store.now).records in
    let q = c.args.query.now in
    let steps = code_steps q.path in
    -- all nodes are kept, and the last label is as it was asked
    let asked : (o : Option ℕ) → c.args.last ≡ o → fits_way (way _ q.top c.args.at) o q.path ≡ fits_way (way (nodes rs) q.top c.args.at) c.args.last q.path =
    λ o is. (λ z. fits_way (way (nodes (keep_any rs z)) q.top c.args.at) o q.path) ∙ ap (λ (f : Option ℕ). fits_way (way (nodes rs) q.top c.args.at) f q.path) (sym is) in
    record {
      answer = elim c.match-last.branch [
        | in-Some w ↦ (let a = w.in-Some.label in
            let read = subst (Reads eqb Closed steps (a ∷ [])) (sym w.places-is) (w.back-places.ensures Closed [] w.begin.ensures) in
            c.climb.ensures Closed (a ∷ []) read ∙ (label_ends (way _ q.top c.args.at) a q.path ∙ asked (Some a) w.in-Some.is))
        | in-None w ↦ (let read = subst (Reads eqb Open steps []) (sym w.places-is) w.begin-places.ensures in c.climb.ensures Open [] read ∙ (any_ends (way _ q.top c.args.at) q.path ∙ asked None w.in-None.is))
      ];
    }
