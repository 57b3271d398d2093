-- A list of turns that is made one by one: the history so far, and what the turns that are left give.
use Rattle.std.proofs.Common.{◌≡◌, ℕ, suc, ◌<◌, ◌≤◌, List, [], ◌∷◌, ◌++◌, map, length, get_or, drop, zip, sym, refl, ap, ◌∙◌, subst, drop-cons, arith}
use Rattle.std.proofs.lemmas.List.{drop-map, drop_all}
use Rattle.calls.specs.declared.call.Turn as calls
use Rattle.calls.specs.Answers.{call_of, turn_of}
use Rattle.model.specs.Rules.{Answer}
use Rattle.model.specs.Scheduler.{Model, Making, make}
use Rattle.model.specs.Calls.{step}
use Rattle.model.specs.History.{Turn, History, After, in_order, play, run}
use Rattle.model.specs.Law.{Kept}
use Rattle.model.proofs.Law.{agreement, play_after}
use Rattle.model.proofs.Lists.{map_append, map_length, append_length}
use Rattle.sched.specs.Turns.{Agreed}
use Rattle.sched.specs.Runs.{Owned, answer_in, turns_of, happened}

zip_none : {A B : Type 0} (us : List A) → zip {K = A} {X = B} us [] ≡ []
zip_none [] = refl
zip_none (u ∷ us) = refl

no_next : {A : Type 0} (u : A) (rest : List A) → [] ≡ u ∷ rest → ⊥
no_next {A} u rest e = let z : ◌≡◌ {A = ℕ} 0 (suc (length rest)) = ap (λ (vs : List A). length vs) e in omega arith

zip_more : {A B : Type 0} (us : List A) (xs : List B) (u : A) (x : B) (rest : List A) → drop (length xs) us ≡ u ∷ rest → zip us (xs ++ x ∷ []) ≡ zip us xs ++ (u, x) ∷ []
zip_more [] [] u x rest e = absurd (no_next u rest e)
zip_more {A} {B} (v ∷ us) [] u x rest e =
    ap (λ (vs : List A). zip vs (x ∷ [])) e ∙ ap (λ (ps : List (A × B)). (u, x) ∷ ps) (zip_none rest)
zip_more [] (y ∷ ys) u x rest e = absurd (no_next u rest e)
zip_more {A} {B} (v ∷ us) (y ∷ ys) u x rest e = ap (λ (ps : List (A × B)). (v, y) ∷ ps) (zip_more us ys u x rest e)

order_more : {A : Type 0} (ps : List A) (p : A) → in_order (ps ++ p ∷ []) ≡ p ∷ in_order ps
order_more [] p = refl
order_more {A} (q ∷ ps) p = ap (λ (ys : List A). ys ++ q ∷ []) (order_more ps p)

-- the turns us, made from the state m₀ on, have so far been answered xs and led to m
abbrev pub Playing : Model → List Turn → List Answer → Model → Type 0
Playing m₀ us xs m = play m₀ us [] ≡ play m (drop (length xs) us) (happened us xs)

pub none_made : (m : Model) (us : List Turn) (xs : List Answer) → xs ≡ [] → Playing m us xs m
none_made m us xs none = (λ z. play m us (in_order (sym (zip_none us) z))) ∙ (λ z. play m (drop (length (sym none z)) us) (happened us (sym none z)))

pub one_more : (m₀ : Model) (us : List Turn) (xs : List Answer) (m : Model) (u : Turn) (a : Answer) (m' : Model) (rest : List Turn) → drop (length xs) us ≡ u ∷ rest → step m u.call ≡ (m', a) → Playing m₀ us xs m
    → play m₀ us [] ≡ play m' rest (happened us (xs ++ a ∷ []))
one_more m₀ us xs m u a m' rest next e so_far =
    so_far ∙ (ap (λ (vs : List Turn). play m vs (happened us xs)) next
    ∙ ((λ z. play (e z).0 rest ((u, (e z).1) ∷ happened us xs))
    ∙ ap (λ (h : History). play m' rest h) (sym (ap (λ (ps : List (Turn × Answer)). in_order ps) (zip_more us xs u a rest next) ∙ order_more (zip us xs) (u, a)))))

pub turn_more : (m₀ m m' : Model) (us : List calls.Turn) (names tickets : ℕ) (os : List Owned) (i : ℕ) (u : calls.Turn) (o : Owned)
    → length os ≡ i → i < length us → u ≡ get_or us i u → step m (call_of u.call names tickets) ≡ (m', answer_in o)
    → Playing m₀ (turns_of us names tickets) (map answer_in os) m → Playing m₀ (turns_of us names tickets) (map answer_in (os ++ o ∷ [])) m'
turn_more m₀ m m' us names tickets os i u o count lt at e so_far =
    let f = λ (v : calls.Turn). turn_of v names tickets in
    let made = map_length answer_in os ∙ count in
    let next : drop (length (map answer_in os)) (map f us) ≡ f u ∷ map f (drop (suc i) us) =
    ap (λ (j : ℕ). drop j (map f us)) made ∙ (drop-map f i us ∙ ap (λ (vs : List calls.Turn). map f vs) (drop-cons us i u lt ∙ ap (λ (v : calls.Turn). v ∷ drop (suc i) us) (sym at))) in
    let more = map_append answer_in os (o ∷ []) in
    let after : length (map answer_in (os ++ o ∷ [])) ≡ suc i = (let a = map_length answer_in (os ++ o ∷ []) in let b = append_length os (o ∷ []) in omega arith) in
    one_more m₀ (map f us) (map answer_in os) m (f u) (answer_in o) m' (map f (drop (suc i) us)) next e so_far
    ∙ λ z. play m' (sym (ap (λ (j : ℕ). drop j (map f us)) after ∙ drop-map f (suc i) us) z) (happened (map f us) (sym more z))

pub all_made : (m₀ m : Model) (us : List Turn) (xs : List Answer) → length us ≤ length xs → Playing m₀ us xs m → play m₀ us [] ≡ (happened us xs, m)
all_made m₀ m us xs done so_far = so_far ∙ ap (λ (vs : List Turn). play m vs (happened us xs)) (drop_all (length xs) us done)

pub agreed : (mk : Making) → Kept mk → (us : List Turn) (h : History) (m : Model) → run mk us ≡ (h, m) → Agreed mk h m
agreed mk kept us h m e =
    let after : After mk h m = subst (λ (r : History × Model). After mk r.0 r.1) e (play_after mk us (make mk) [] refl) in
    let law = agreement mk kept h m after in
    record { after = after; agrees = law.0; order = law.1 }

-- from the making on, where the buffers' lengths are known
pub run_is : (mk : Making) (m₀ m : Model) (us : List calls.Turn) (n k names tickets : ℕ) (xs : List Answer) → m₀ ≡ make mk → n ≡ names → k ≡ tickets
    → play m₀ (turns_of us n k) [] ≡ (happened (turns_of us n k) xs, m) → run mk (turns_of us names tickets) ≡ (happened (turns_of us names tickets) xs, m)
run_is mk m₀ m us n k names tickets xs made e f played =
    (λ z. play (sym made z) (turns_of us (sym e z) (sym f z)) []) ∙ (played ∙ λ z. (happened (turns_of us (e z) (f z)) xs, m))
