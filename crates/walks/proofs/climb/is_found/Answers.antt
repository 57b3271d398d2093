use Rattle.std.proofs.Common.{[], ◌∙◌}
use Rattle.fitting.specs.declared.fit.Ending.TheVariants.{Closed}
use Rattle.tree.specs.Trees.{actual}
use Rattle.model.specs.Ways.{way}
use Rattle.walks.proofs.Climbs.{query_ends}
use Rattle.walks.proofs.climb.is_found.Goals as goal

pub returns : goal.returns
returns g c =
    let begun = c.begin-places.ensures in
    record { answer = c.climb.ensures Closed [] begun ∙ query_ends (way (actual ((g.S.Store.meaning c.args.store.now).records)) c.args.query.now.top c.args.at) c.args.query.now.path }
