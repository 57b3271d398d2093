use Rattle.std.proofs.Common.{ℕ, List, drop, sym, ap, ◌∙◌, arith, length-drop, rules}
use Rattle.std.proofs.lemmas.List.{drop_all, take_rest}
use Rattle.path.specs.Tokens.{name, sign_at, token_at}
use Rattle.name.proofs.Fronts.{before_between, before_within}
use Rattle.path.proofs.token.first.first_token.Goals as goal

pub returns-then-part : goal.returns-then-part
returns-then-part c = sym (ap (token_at c.args.part.at) (drop_all c.args.part.at c.args.part.text.now c.if-part.true))

pub slice_bounds-result-end : goal.slice_bounds-result-end
slice_bounds-result-end c =
    let rest = drop c.args.part.at c.args.part.text.now in
    let within = before_within 47 rest in
    let size = length-drop c.args.part.at c.args.part.text.now in
    search rules

pub returns-in-Some : goal.returns-in-Some
returns-in-Some c =
    let rest = ap sign_at (take_rest c.args.part.text.now c.args.part.at) in
    let token = c.in-Some.ensures in
    grind arith

pub returns-in-None : goal.returns-in-None
returns-in-None c =
    let p = c.args.part in
    let none = c.in-None.ensures ∙ ap sign_at (take_rest p.text.now p.at) in
    let bytes = before_between 47 p.text.now p.at c.end_before.result c.end_before.ensures in
    ap (λ (bs : List ℕ). name bs p.at) bytes ∙ grind arith
