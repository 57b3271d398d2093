use Rattle.std.proofs.Common.{Bool, not, map, vec_items, ap, ◌∙◌, rules}
use Rattle.std.proofs.lemmas.Fn.{filter_same}
use Rattle.words.specs.Words.{bit}
use Rattle.model.specs.Locks.{Held}
use Rattle.book.specs.Rows.{row_of}
use Rattle.book.proofs.Kept.{filter_map}
use Rattle.book.proofs.book.Book.free.Goals as goal

pub returns : goal.returns
returns c =
    let f : Held → Bool = λ h. not (bit c.args.places h.holder) in
    ap (map row_of) (filter_same _ (λ r. f (row_of r)) _ (λ x b f' k. search rules) _ _ c.retain.ensures.filtered)
    ∙ filter_map row_of f (vec_items c.args.self.now.rows)
