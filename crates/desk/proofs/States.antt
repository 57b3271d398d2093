-- Equations between states.
use Rattle.std.proofs.Common.{◌≡◌, ℕ, ◌<◌, Bool, ◌&&◌, ltb, ap}
use Rattle.std.proofs.lemmas.Bool.{lt-ltb}
use Rattle.model.specs.Scheduler.{Model}

-- two states whose parts agree are one
pub same_state : (m n : Model) → m.records ≡ n.records → m.limit ≡ n.limit → m.fit ≡ n.fit → m.next ≡ n.next → ((i : ℕ) → m.tickets i ≡ n.tickets i)
    → ((i : ℕ) → m.added i ≡ n.added i) → m.locks ≡ n.locks → ((i j : ℕ) → m.arrows i j ≡ n.arrows i j) → m.done ≡ n.done → m ≡ n
same_state m n rs limit fit next tickets added locks arrows done =
    λ x. record { records = rs x; limit = limit x; fit = fit x; next = next x; tickets = λ i. tickets i x; added = λ i. added i x; locks = locks x; arrows = λ i j. arrows i j x; done = done x }

-- a test of a place that is there
pub low_and : (p : ℕ) (b : Bool) → p < 32 → (ltb p 32 && b) ≡ b
low_and p b h = ap (λ (a : Bool). a && b) (lt-ltb p 32 h)
