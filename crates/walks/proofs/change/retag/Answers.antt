use Rattle.std.proofs.Common.{sym, ap, ◌∙◌}
use Rattle.tree.specs.Stores.{holding}
use Rattle.walks.proofs.Tagged.{tag_changes, none_changes}
use Rattle.walks.proofs.change.retag.Goals as goal

pub returns-in-Some : goal.returns-in-Some
returns-in-Some g c =
    let s = c.args.store.now in
    let m = g.S.Store.meaning s in
    let r = c.in-Some.record in
    record {
      after = c.tag.ensures.after
          ∙ ap (holding m) (tag_changes c.args.name c.tags-mark.result.0 c.tags-mark.result.1 (g.C.Change.changed c.args.change.now) r m.records (g.met.S.Store.rising s) (sym c.look.ensures.answer ∙ c.in-Some.is) c.tags-mark.ensures);
    }

pub returns-in_default : goal.returns-in_default
returns-in_default g c =
    let m = g.S.Store.meaning c.args.store.now in
    record { after = ap (holding m) (none_changes c.args.name (g.C.Change.changed c.args.change.now) m.records (sym c.look.ensures.answer ∙ c.in_default.is)) }
