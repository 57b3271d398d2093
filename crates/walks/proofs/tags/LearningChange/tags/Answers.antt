use Rattle.std.proofs.Common.{ℕ, ap}
use Rattle.tree.specs.Records.{with_tag}
use Rattle.walks.proofs.Words.{put_in}
use Rattle.walks.proofs.tags.LearningChange.tags.Goals as goal

pub returns : goal.returns
returns c =
    let r = c.args.node.now in
    ap (λ (w : ℕ). with_tag r.mark w r) (put_in c.with.result r.note c.args.self.now.place c.with.ensures)
