use Rattle.std.proofs.Common.{◌≡◌, ℕ, ◌+◌, ◌<◌, Bool, true, false, List, drop, sym, subst, inl, inr, ◌⊎◌, arith}
use Rattle.std.proofs.lemmas.Result.{err_from_is_err_and}
use Rattle.byte_classes.specs.declared.classes.Classes.{Classes}
use Rattle.name.specs.Names.{spot}
use Rattle.path.specs.Reading.{step_named, steps_after}
use Rattle.path.specs.Tokens.{child, deep, token_at}
use Rattle.path.proofs.Slashes.{StepsFrom, ends_behind, faults_behind, goes_on_behind, next_is_child, next_is_deep}
use Rattle.path.proofs.read.read_next.Goals as goal
use Rattle.path.proofs.read.read_next.Goals.{in-Child, in-Deep}

-- the next step stands behind one slash, or behind two
abbrev Behind : ℕ → List ℕ → Bool × ℕ → Type 0
Behind at text d = (token_at at (drop at text) ≡ child) × (d ≡ (false, at + 1)) ⊎ (token_at at (drop at text) ≡ deep) × (d ≡ (true, at + 2))

next_behind : (k : Classes) (n at : ℕ) (text : List ℕ) (d : Bool × ℕ) → Behind at text d → StepsFrom k n d.0 d.1 text (steps_after k n at (drop at text)) × (at < d.1)
next_behind k n at text d (inl (one, is)) = subst (λ (d : Bool × ℕ). StepsFrom k n d.0 d.1 text (steps_after k n at (drop at text)) × (at < d.1)) (sym is) (next_is_child k n at text one, omega arith)
next_behind k n at text d (inr (two, is)) = subst (λ (d : Bool × ℕ). StepsFrom k n d.0 d.1 text (steps_after k n at (drop at text)) × (at < d.1)) (sym is) (next_is_deep k n at text two, omega arith)

pub returns-in_err-next-clause-steps : goal.returns-in_err-next-clause-steps
returns-in_err-next-clause-steps c =
    let p = c.args.part in
    let d = c.match-first_token.deep in
    let b : Behind p.at p.text.now d = elim c.match-first_token.branch [
      | in-Child w ↦ inl (sym w.in-Child.ensures, w.deep-is)
      | in-Deep w ↦ inr (sym w.in-Deep.ensures, w.deep-is)
    ] in
    let next = next_behind c.args.classes.now c.args.count p.at p.text.now d b in
    let e = faults_behind c.args.classes.now c.args.count d.1 d.0 p.text.now _ next.0 c.in_err-next.field-0.0 c.in_err-next.ensures in
    let q = err_from_is_err_and c.from_residual.result c.from_residual.ensures.1 in
    rw (q.1, q.2) e

pub returns : goal.returns
returns c =
    let p = c.args.part in
    let d = c.match-first_token.deep in
    let b : Behind p.at p.text.now d = elim c.match-first_token.branch [
      | in-Child w ↦ inl (sym w.in-Child.ensures, w.deep-is)
      | in-Deep w ↦ inr (sym w.in-Deep.ensures, w.deep-is)
    ] in
    let next = next_behind c.args.classes.now c.args.count p.at p.text.now d b in
    let s = c.in_ok-next.next in
    let e = goes_on_behind c.args.classes.now c.args.count d.1 d.0 p.text.now _ next.0 (step_named spot s.0) s.1 c.in_ok-next.ensures in
    let w = ends_behind c.args.classes.now c.args.count d.1 d.0 p.text.now (step_named spot s.0) s.1 c.in_ok-next.ensures in
    record { steps = e; ends = (w.0, omega (arith, next.1, w.2), w.3, w.4) }
