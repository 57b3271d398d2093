use Rattle.std.proofs.Common.{sym, arith}
use Rattle.std.proofs.lemmas.List.{set_past}
use Rattle.walks.proofs.found.put.Goals as goal

pub returns-else-at-buffer : goal.returns-else-at-buffer
returns-else-at-buffer c = sym (set_past c.args.buffer.now c.args.at c.args.name (omega arith))
