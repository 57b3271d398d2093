use Rattle.std.proofs.Common.{rules}
use Rattle.std.proofs.lemmas.List.{get_or_default}
use Rattle.byte_classes.specs.declared.classes.Class.TheVariants.{Begins, Outside}
use Rattle.byte_classes.proofs.classes.Classes.class_of.Goals as goal

pub returns : goal.returns
returns c = let whole = c.args.self.now.whole in get_or_default c.args.self.now.table c.args.byte Begins Outside (search rules)
