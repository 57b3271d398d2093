use Rattle.std.proofs.Common.{◌≡◌, ℕ, ◌-◌, ◌++◌, take, drop, ap, ◌∙◌, arith}
use Rattle.walks.proofs.Buffers.{filled_front}
use Rattle.walks.proofs.fill.fill.Goals as goal

pub returns : goal.returns
returns g c =
    let items = c.args.items.now in
    let buffer = c.args.buffer.now in
    let n = c.min-count.result in
    let all : n - 0 ≡ n = omega arith in
    ap (λ ys. ys ++ drop (n - 0) buffer) c.copy_from_slice.ensures.after
    ∙ (ap (λ (k : ℕ). take k items ++ drop k buffer) all
    ∙ filled_front items buffer n c.min-count.ensures)
