-- Two runs on a small tree, by computation. Assumes nothing.
--     site                 the tree `0.0` site, `0.1` bank under it, and `0.2` slip, `0.3` slip, `0.4` mark, `0.5` mark under the bank;
--                          the label codes are 1 site, 2 bank, 3 slip, 4 mark
--     bank/slip ..         the paths of the runs
--     a c, b c             a turn with the call c, of the one kiosk and of the other
--     worked, told         the worked example: sixteen turns, and the answers to them
--     mixed, mixed_told    a run with conflicts, a withdrawal that takes another ticket with it, and two finishes;
--                          it leaves the tickets 5 and 6 open, with an arrow from 5 to 6
--     answers us           the answers that the turns us get
--     Computes us xs       they are xs, and at their end the arrangement that order writes agrees
--     Examples             both runs do so, and the store of their making keeps the store meaning
use Rattle.std.specs.Prelude.{◌≡◌, ℕ, false, List, [], ◌∷◌, map, refl}
use Rattle.std.proofs.Common.{zero-le, suc-le-suc}
use Rattle.path.specs.declared.step.Step.{Step}
use Rattle.path.specs.declared.step.Test.TheVariants.{Star, Name}
use Rattle.path.specs.declared.coded.CodedPath.{CodedPath}
use Rattle.tree.specs.Names.{name_of}
use Rattle.tree.specs.Records.{fresh}
use Rattle.model.specs.declared.kiosk.Kiosk.TheVariants.{Zero, One}
use Rattle.model.specs.Rules.{asks, adds, removes, Answer, found, made, removed, ticket, finished, withdrawn, ordered, refused}
use Rattle.model.specs.Scheduler.{Making, Call, opens, acts, finishes, withdraws, orders, order}
use Rattle.model.specs.History.{Turn, After, in_order, run}
use Rattle.model.specs.Law.{Kept, Agrees}

abbrev pub site : Making
site = record {
  store = fresh 0 0 1 ∷ fresh 1 0 2 ∷ fresh 2 1 3 ∷ fresh 3 1 3 ∷ fresh 4 1 4 ∷ fresh 5 1 4 ∷ [];
  limit = 1024;
  first = 1;
}

-- ── paths ──
abbrev pub star : Step ℕ
star = record { deep = false; test = Star }

abbrev pub label : ℕ → Step ℕ
label a = record { deep = false; test = Name a }

abbrev pub all : CodedPath
all = record {
  path = record { steps = record { row = star ∷ star ∷ star ∷ star ∷ star ∷ star ∷ star ∷ star ∷ []; len = 1; full = refl; within = suc-le-suc zero-le }; some = suc-le-suc zero-le; plain = refl };
  codes = refl;
}

abbrev pub bank/slip : CodedPath
bank/slip = record {
  path = record { steps = record { row = label 2 ∷ label 3 ∷ star ∷ star ∷ star ∷ star ∷ star ∷ star ∷ []; len = 2; full = refl; within = suc-le-suc (suc-le-suc zero-le) }; some = suc-le-suc zero-le; plain = refl };
  codes = refl;
}

abbrev pub bank/mark : CodedPath
bank/mark = record {
  path = record { steps = record { row = label 2 ∷ label 4 ∷ star ∷ star ∷ star ∷ star ∷ star ∷ star ∷ []; len = 2; full = refl; within = suc-le-suc (suc-le-suc zero-le) }; some = suc-le-suc zero-le; plain = refl };
  codes = refl;
}

-- ── turns of the two kiosks ──
abbrev pub a : Call → Turn
a c = record { kiosk = Zero; call = c }

abbrev pub b : Call → Turn
b c = record { kiosk = One; call = c }

abbrev pub worked : List Turn
worked =
    a opens ∷ b opens ∷ a (acts 8 (asks 1 0 bank/slip)) ∷ b (acts 8 (asks 2 0 bank/mark))
    ∷ a (acts 0 (removes 1 2)) ∷ b (acts 0 (removes 2 4)) ∷ b (acts 8 (asks 2 0 bank/slip)) ∷ a (acts 8 (asks 1 0 bank/mark))
    ∷ b (finishes 2) ∷ a (withdraws 32 1) ∷ a opens ∷ a (acts 8 (asks 3 0 bank/slip))
    ∷ a (acts 0 (adds 3 1 3)) ∷ a (acts 8 (asks 3 0 all)) ∷ a (acts 0 (adds 3 1 3)) ∷ a (finishes 3) ∷ []

abbrev pub told : List Answer
told =
    ticket 1 ∷ ticket 2 ∷ found (2 ∷ 3 ∷ []) ∷ found (4 ∷ 5 ∷ [])
    ∷ removed ∷ removed ∷ found (3 ∷ []) ∷ refused 11
    ∷ refused 12 ∷ withdrawn (1 ∷ 2 ∷ []) ∷ ticket 3 ∷ found (2 ∷ 3 ∷ [])
    ∷ refused 3 ∷ found (1 ∷ []) ∷ made (name_of 3 1) ∷ finished 1 ∷ []

abbrev pub mixed : List Turn
mixed =
    a opens ∷ b opens ∷ a opens ∷ a (acts 8 (asks 1 0 bank/slip)) ∷ b (acts 8 (asks 2 0 bank/mark)) ∷ b (acts 0 (removes 2 4))
    ∷ a (acts 8 (asks 3 0 bank/mark)) ∷ a (finishes 3) ∷ a (acts 0 (removes 1 2)) ∷ a (finishes 1) ∷ b (withdraws 32 2)
    ∷ a opens ∷ a (acts 8 (asks 4 0 bank/mark)) ∷ a (acts 0 (removes 4 4)) ∷ b opens ∷ b (acts 8 (asks 5 0 bank/mark)) ∷ a (finishes 4)
    ∷ a opens ∷ a (acts 8 (asks 6 0 all)) ∷ a (acts 0 (adds 6 1 4)) ∷ b (orders 32) ∷ []

abbrev pub mixed_told : List Answer
mixed_told =
    ticket 1 ∷ ticket 2 ∷ ticket 3 ∷ found (2 ∷ 3 ∷ []) ∷ found (4 ∷ 5 ∷ []) ∷ removed
    ∷ found (5 ∷ []) ∷ refused 12 ∷ removed ∷ finished 1 ∷ withdrawn (2 ∷ 3 ∷ [])
    ∷ ticket 4 ∷ found (4 ∷ 5 ∷ []) ∷ removed ∷ ticket 5 ∷ found (5 ∷ []) ∷ finished 2
    ∷ ticket 6 ∷ found (1 ∷ []) ∷ made (name_of 6 1) ∷ ordered (5 ∷ 6 ∷ []) ∷ []

-- ── what they compute ──
abbrev pub answers : List Turn → List Answer
answers us = map (λ x. x.1) (in_order (run site us).0)

abbrev pub Computes : List Turn → List Answer → Type 0
Computes us given = (answers us ≡ given) × After site (run site us).0 (run site us).1 × Agrees site (run site us).0 (run site us).1 (order (run site us).1)

abbrev pub Examples : Type 0
Examples = Kept site × Computes worked told × Computes mixed mixed_told
