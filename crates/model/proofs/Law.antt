-- The law: agreement, what lasts, and whole lists of turns.
use Rattle.std.proofs.Common.{◌≡◌, ℕ, suc, ◌+◌, Bool, true, false, cond, ◌⊎◌, List, [], ◌∷◌, ◌++◌, map, length, sym, refl, ap, ◌∙◌, subst, inl, inr, arith}
use Rattle.std.proofs.lemmas.Bool.{cases_Bool, true≢false}
use Rattle.tree.specs.declared.record.Record.{Record}
use Rattle.tree.specs.Trees.{node_of, nodes}
use Rattle.model.specs.Rules.{Action, Answer, finished, found, made, ordered, refused, removed, ticket, withdrawn}
use Rattle.model.specs.Scheduler.{Call, Model, acts, finishes, make, opens, orders, withdraws, Making, order}
use Rattle.model.specs.Changes.{fallen, falling, free, undone, ended}
use Rattle.model.specs.Refusals.{finish_rows, withdraw_rows}
use Rattle.model.specs.Calls.{step}
use Rattle.model.specs.History.{Log, accepted, block, in_order, past, past_tickets, calls, Turn, History, After, play, run}
use Rattle.model.specs.Law.{Agreement, Arrangement, Lasting, Kept, Whole}
use Rattle.model.proofs.Events.{In}
use Rattle.model.proofs.Keys.{map_from}
use Rattle.model.proofs.Tied.{judged, Passed}
use Rattle.model.proofs.Reached.{sorted_from}
use Rattle.model.proofs.Rooted.{agrees_rooted}
use Rattle.model.proofs.Orderly.{Orderly, orderly}
use Rattle.model.proofs.Order.{order_arranged}
use Rattle.model.proofs.Still.{still, still_agrees}
use Rattle.model.proofs.Logs.{Went, Agreed, went}
use Rattle.model.proofs.Lists.{append_nil, append_assoc}
use Rattle.model.proofs.Decided.{kept_tree}

pub no_nodes : (rs : List Record) → nodes rs ≡ [] → rs ≡ []
no_nodes [] e = refl
no_nodes (r ∷ rs) e = absurd (subst One e tt)
  where
    One : {A : Type 0} → List A → Type 0
    One [] = ⊥
    One (x ∷ xs) = Unit {0}

agreed : (mk : Making) → Kept mk → (h : Log) (m : Model) → Went mk h m → ((ts : List ℕ) → Arrangement m ts → Agreed mk h m ts) × Arrangement m (order m)
agreed mk kept h m af = (λ ts a. go (cases_Bool (make mk).fit) (kept_tree mk kept).root ts a, order_arranged h m (orderly mk kept.ticket h m af))
  where
    go : ((make mk).fit ≡ true) ⊎ ((make mk).fit ≡ false) → (nodes mk.store ≡ []) ⊎ ((a : ℕ) × In (node_of 0 0 a) (nodes mk.store)) → (ts : List ℕ) → Arrangement m ts → Agreed mk h m ts
    go (inr e) r ts a = still_agrees mk h m (still mk (inl e) h m af) ts
    go (inl e) (inl r) ts a = still_agrees mk h m (still mk (inr (no_nodes mk.store r)) h m af) ts
    go (inl e) (inr r) ts a = agrees_rooted mk kept e r.0 r.1 h m af ts a

pub agreement : Agreement
agreement mk kept h m af = agreed mk kept (calls h) m (went mk h m af)

-- ── what is finished stays ──
order_append : {A : Type 0} (xs ys : List A) → in_order (xs ++ ys) ≡ in_order ys ++ in_order xs
order_append [] ys = sym (append_nil (in_order ys))
order_append (x ∷ xs) ys = ap (λ zs. zs ++ (x ∷ [])) (order_append xs ys) ∙ append_assoc (in_order ys) (in_order xs) (x ∷ [])

longer : (c : Call) (a : Answer) (h : Log) → (more : List (Action × Answer)) × (in_order (past ((c, a) ∷ h)) ≡ in_order (past h) ++ more)
longer opens a h = ([], sym (append_nil (in_order (past h))))
longer (acts room b) a h = ([], sym (append_nil (in_order (past h))))
longer (finishes t) a h = (in_order (cond (accepted a) (block t h) []), order_append (cond (accepted a) (block t h) []) (past h))
longer (withdraws room t) a h = ([], sym (append_nil (in_order (past h))))
longer (orders room) a h = ([], sym (append_nil (in_order (past h))))

-- the tickets that an answer says are withdrawn
abbrev written : Answer → List ℕ
written (found names) = []
written (made name) = []
written removed = []
written (ticket t) = []
written (finished place) = []
written (withdrawn ts) = ts
written (ordered ts) = []
written (refused number) = []

-- the place that an answer gives a finished ticket
abbrev place_in : Answer → ℕ
place_in (found names) = 0
place_in (made name) = 0
place_in removed = 0
place_in (ticket t) = 0
place_in (finished place) = place
place_in (withdrawn ts) = 0
place_in (ordered ts) = 0
place_in (refused number) = 0

abbrev is_finished : Answer → Bool
is_finished (found names) = false
is_finished (made name) = false
is_finished removed = false
is_finished (ticket t) = false
is_finished (finished place) = true
is_finished (withdrawn ts) = false
is_finished (ordered ts) = false
is_finished (refused number) = false

pub lasting : Lasting
lasting mk kept h' m af = (by_place, (λ x. longer x.0.call x.1 (calls h')), λ room t m' ts e u i. off room t m' ts e u i)
  where
    o : Orderly (calls h') m
    o = orderly mk kept.ticket (calls h') m (went mk h' m af)

    by_place : (t k : ℕ) (m' : Model) → step m (finishes t) ≡ (m', finished k) → k ≡ suc (length (past_tickets (calls h')))
    by_place t k m' e = go (judged (finish_rows m t) m (ended m t))
      where
        go : ((n : ℕ) × (step m (finishes t) ≡ (m, refused n))) ⊎ (Passed (finish_rows m t) × (step m (finishes t) ≡ ended m t)) → k ≡ suc (length (past_tickets (calls h')))
        go (inl q) = absurd (true≢false (ap (λ (y : Model × Answer). is_finished y.1) (sym e ∙ q.1)))
        go (inr q) =
            let same : k ≡ m.done + 1 = ap (λ (y : Model × Answer). place_in y.1) (sym e ∙ q.1) in
            let done = o.done_is in
            omega arith

    off : (room t : ℕ) (m' : Model) (ts : List ℕ) → step m (withdraws room t) ≡ (m', withdrawn ts) → (u : ℕ) → In u ts → ¬ (In u (past_tickets (calls h')))
    off room t m' ts e u i = go (judged (withdraw_rows m room t) m (free m (falling m t) (undone m t) 0, withdrawn (fallen m t)))
      where
        go : ((k : ℕ) × (step m (withdraws room t) ≡ (m, refused k))) ⊎ (Passed (withdraw_rows m room t) × (step m (withdraws room t) ≡ (free m (falling m t) (undone m t) 0, withdrawn (fallen m t)))) → ¬ (In u (past_tickets (calls h')))
        go (inl q) p = absurd (subst (In u) (ap (λ (y : Model × Answer). written y.1) (sym e ∙ q.1)) i)
        go (inr q) p =
            let same : ts ≡ fallen m t = ap (λ (y : Model × Answer). written y.1) (sym e ∙ q.1) in
            let w = map_from m.tickets (falling m t) u (sorted_from (map m.tickets (falling m t)) u (subst (In u) same i)) in
            (o.past_off u p).1 w.0 (sym w.2)

-- ── a whole list of turns ──
pub play_after : (mk : Making) (us : List Turn) (m : Model) (h : History) → After mk h m → After mk (play m us h).0 (play m us h).1
play_after mk [] m h af = af
play_after mk (u ∷ us) m h af = play_after mk us (step m u.call).0 ((u, (step m u.call).1) ∷ h) (m, af, refl)

pub whole : Whole
whole mk kept us =
    let r = agreement mk kept (run mk us).0 (run mk us).1 (play_after mk us (make mk) [] refl) in
    r.0 (order (run mk us).1) r.1
