use Rattle.std.proofs.Common.{◌≡◌, ℕ, suc, false, List, [], ◌∷◌, ◌++◌, length, drop, Some, is_ok, Ok, Err, Result, sym, refl, ap, ◌∙◌, subst}
use Rattle.std.proofs.lemmas.Result.{err_from_is_err_and}
use Rattle.std.proofs.lemmas.Bool.{cond-true, lt-ltb}
use Rattle.byte_classes.specs.declared.classes.Classes.{Classes}
use Rattle.name.specs.declared.name.Name.{Name}
use Rattle.name.specs.Names.{bytes_of}
use Rattle.path.specs.declared.fault.PathFault.{PathFault}
use Rattle.path.specs.declared.path.Path.{Path}
use Rattle.path.specs.declared.step.Step.{Step}
use Rattle.path.specs.Grammar.{AcceptsPaths}
use Rattle.path.specs.Paths.{steps_of}
use Rattle.path.specs.Reading.{EndsWell, goes_on, read_path, seen_path, steps_after}
use Rattle.path.proofs.Accepted.{accepts_paths}
use Rattle.path.proofs.ReadSoFar.{ReadTo, all_read, fault_read, first_read, next_read}
use Rattle.path.proofs.Slashes.{faults_behind}
use Rattle.path.proofs.read.read_path.Goals as goal

-- an answer that is the reading's accepts exactly the paths
told : (k : Classes) (at : ℕ) (bs : List ℕ) (r : Result (Path Name) PathFault) → seen_path r ≡ read_path k at bs → AcceptsPaths k bs (seen_path r)
told k at bs r e = subst (AcceptsPaths k bs) (sym e) (accepts_paths k at bs)

pub returns-in_err-first : goal.returns-in_err-first
returns-in_err-first c =
    let p = c.args.part in
    let k = c.args.classes.now in
    let fault = faults_behind k 0 p.at false p.text.now (read_path k p.at (bytes_of p)) refl c.in_err-first.field-0.0 c.in_err-first.ensures in
    let q = err_from_is_err_and c.from_residual.result c.from_residual.ensures.1 in
    let e : seen_path c.from_residual.result ≡ read_path k p.at (bytes_of p) = ap seen_path (q.1 ∙ ap (λ (f : PathFault). Err f) q.2) ∙ sym fault in
    record { answer = e; accepts = told k p.at (bytes_of p) c.from_residual.result e }

pub loop-next-init : goal.loop-next-init
loop-next-init c = first_read c.args.classes.now c.args.part.text.now c.args.part.at c.in_ok-first.first c.in_ok-first.end (steps_of c.one-path.result) c.in_ok-first.ensures c.one-path.ensures

pub loop-next-preserved : goal.loop-next-preserved
loop-next-preserved c =
    let p = c.args.part in
    let k = c.args.classes.now in
    let text = p.text.now in
    let qs = steps_of c.loop-next.path in
    let at = c.loop-next.at in
    let s = c.in-Some.step in
    let end = c.in-Some.end in
    let count : c.len.result ≡ length qs = c.len.ensures.value in
    let some : Ok c.in-Ok.next ≡ Ok (Some (s, end)) = ap (λ o. Ok o) c.in-Some.is in
    let well : EndsWell (length qs) at text (Ok (Some (s, end))) = subst (EndsWell (length qs) at text) some (subst (λ (n : ℕ). EndsWell n at text (Ok c.in-Ok.next)) count c.in-Ok.ensures.ends) in
    let read : steps_after k c.len.result at (drop at text) ≡ goes_on (λ end. steps_after k (suc c.len.result) end (drop end text)) (Ok c.in-Ok.next) = c.in-Ok.ensures.steps in
    let next = subst (λ (n : ℕ). steps_after k n at (drop at text) ≡ goes_on (λ end. steps_after k (suc n) end (drop end text)) (Ok c.in-Ok.next)) count read ∙ ap (goes_on (λ end. steps_after k (suc (length qs)) end (drop end text))) some in
    let pushed : steps_of c.push.new.self ≡ qs ++ s ∷ [] = c.push.ensures.after ∙ cond-true _ _ _ (ap is_ok (c.push.ensures.answer ∙ cond-true _ _ _ (lt-ltb _ _ well.0))) in
    let S = read_path k p.at (bytes_of p) in
    (subst (λ (us : List (Step Name)). ReadTo k text S us end) (sym pushed) (next_read k text S qs at s end c.loop-next.invariant.0 next), well.2, well.3)

pub returns-in_default : goal.returns-in_default
returns-in_default c =
    let p = c.args.part in
    let k = c.args.classes.now in
    let text = p.text.now in
    let at = c.loop-next.at in
    let count : c.len.result ≡ length (steps_of c.loop-next.path) = c.len.ensures.value in
    let read : steps_after k c.len.result at (drop at text) ≡ goes_on (λ end. steps_after k (suc c.len.result) end (drop end text)) (Ok c.in-Ok.next) = c.in-Ok.ensures.steps in
    let none = ap (λ (n : ℕ). steps_after k n at (drop at text)) (sym count) ∙ (read ∙ ap (λ o. goes_on (λ end. steps_after k (suc c.len.result) end (drop end text)) (Ok o)) c.in_default.is) in
    let e = all_read k text (read_path k p.at (bytes_of p)) (steps_of c.loop-next.path) at c.loop-next.invariant.0 none in
    record { answer = e; accepts = told k p.at (bytes_of p) (Ok c.loop-next.path) e }

pub returns-in-Err : goal.returns-in-Err
returns-in-Err c =
    let p = c.args.part in
    let k = c.args.classes.now in
    let at = c.loop-next.at in
    let count : c.len.result ≡ length (steps_of c.loop-next.path) = c.len.ensures.value in
    let read : steps_after k c.len.result at (drop at p.text.now) ≡ Err c.in-Err.fault = c.in-Err.ensures.steps in
    let fault = ap (λ (n : ℕ). steps_after k n at (drop at p.text.now)) (sym count) ∙ read in
    let e = fault_read k p.text.now (read_path k p.at (bytes_of p)) (steps_of c.loop-next.path) at c.in-Err.fault c.loop-next.invariant.0 fault in
    record { answer = e; accepts = told k p.at (bytes_of p) (Err c.in-Err.fault) e }
