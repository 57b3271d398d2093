use Rattle.std.proofs.Common.{◌≡◌, ℕ, ◌+◌, Bool, true, not, ◌&&◌, ◌||◌, eqb, ltb, List, [], ◌∷◌, ◌++◌, map, length, refl, ap, ◌∙◌}
use Rattle.std.proofs.lemmas.Bool.{cond-true, le-ltb}
use Rattle.words.specs.Words.{bit}
use Rattle.path.specs.declared.coded.CodedPath.{CodedPath}
use Rattle.model.specs.Locks as model
use Rattle.model.specs.Locks.{Held}
use Rattle.model.specs.Changes.{grant}
use Rattle.seats.specs.Places.{added_at}
use Rattle.book.specs.declared.lock.Lock.{Lock}
use Rattle.book.specs.Rows.{held_of, lock_of, rows_for}
use Rattle.arrows.specs.Between.{between}
use Rattle.desk.specs.States.{state}
use Rattle.desk.proofs.States.{same_state, low_and}
use Rattle.desk.proofs.desk.Desk.grant.Goals as goal

held_rows : (p : ℕ) (ls : List Lock) → rows_for p ls ≡ map (λ (l : model.Lock CodedPath). record { holder = p; lock = l }) (map lock_of ls)
held_rows p [] = refl
held_rows p (l ∷ ls) = ap (λ (hs : List Held). record { holder = p; lock = lock_of l } ∷ hs) (held_rows p ls)

pub returns : goal.returns
returns c rs ss limit low room word =
    let d = c.args.self.now in
    let p = c.args.claim.place in
    let ls = c.args.claim.locks.now in
    let m = state rs limit d in
    let fits : (ltb p 32 && not (ltb 256 (length (held_of d.book) + length ls))) ≡ true = low_and p _ low ∙ ap not (le-ltb 256 (length (held_of d.book) + length ls) room) in
    same_state _ (grant m p (map lock_of ls) ss (added_at d.seats)) refl refl refl refl (λ i. refl) (λ i. refl)
    (c.grant.ensures ∙ ap (λ (hs : List Held). held_of d.book ++ hs) (cond-true _ (rows_for p ls) [] fits ∙ held_rows p ls))
    (λ i j. c.put.ensures i j ∙ (ap (λ (b : Bool). between d.arrows i j || b) (low_and p (eqb j p && bit c.args.rivals i) low) ∙ ap (λ (b : Bool). between d.arrows i j || (eqb j p && b)) (word i)))
    refl
