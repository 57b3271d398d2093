-- What the grammar derives within the sizes, reading accepts.
-- Assumes nothing.
use Rattle.std.proofs.Common.{◌≡◌, ℕ, suc, ◌+◌, ◌<◌, ◌≤◌, Bool, true, false, eqb, List, [], ◌∷◌, ◌++◌, length, drop, Ok, Result, sym, ap, ◌∙◌, subst, ⊎_elim, arith, length-append}
use Rattle.std.proofs.lemmas.List.{drop_all, length-map, map-append}
use Rattle.std.proofs.lemmas.Bool.{cases_Bool}
use Rattle.std.proofs.lemmas.Bool.Decides.{nat_tests}
use Rattle.byte_classes.specs.declared.classes.Classes.{Classes}
use Rattle.name.specs.Names.{Spot}
use Rattle.path.specs.declared.fault.PathFault.{PathFault}
use Rattle.path.specs.declared.step.Step.{Step}
use Rattle.path.specs.declared.step.Test.{Test}
use Rattle.path.specs.Grammar.{AcceptsPaths, PathText, one, child, deep, written}
use Rattle.path.specs.Pieces.{piece}
use Rattle.path.specs.Reading.{add_step, read_path, step, step_named, step_test, steps_after}
use Rattle.path.proofs.Derived.{path_derived}
use Rattle.path.proofs.Pieces.{one_piece, piece_append, slash_free}
use Rattle.path.proofs.Slashes.{at_none, at_one, at_two, passes_piece}
use Rattle.path.proofs.Steps.{StepRead, add_step_from, add_step_parts, by_bytes, step_accepted}

module _ (c : Classes) where
  -- behind a text whose steps are read, reading goes on at a slash
  pub reads_on : (n at : ℕ) (p f : List ℕ) (us vs : List (Step Spot)) → steps_after c n at p ≡ Ok us → steps_after c (n + length us) (at + length p) (47 ∷ f) ≡ Ok vs
      → steps_after c n at (p ++ 47 ∷ f) ≡ Ok (us ++ vs)
  reads_on n at [] f us vs e more =
      let none : [] ≡ us = cc in
      let here : steps_after c (n + 0) (at + 0) (47 ∷ f) ≡ Ok vs = subst (λ (xs : List (Step Spot)). steps_after c (n + length xs) (at + 0) (47 ∷ f) ≡ Ok vs) (sym none) more in
      let z : n + 0 ≡ n = omega arith in
      let y : at + 0 ≡ at = omega arith in
      subst (λ (xs : List (Step Spot)). steps_after c n at (47 ∷ f) ≡ Ok (xs ++ vs)) none (subst (λ (k : ℕ). steps_after c n k (47 ∷ f) ≡ Ok vs) y (subst (λ (k : ℕ). steps_after c k (at + 0) (47 ∷ f) ≡ Ok vs) z here))
  reads_on n at (b ∷ []) f us vs e more = ⊎_elim slash plain (cases_Bool (eqb b 47))
    where
      slash : eqb b 47 ≡ true → steps_after c n at (b ∷ 47 ∷ f) ≡ Ok (us ++ vs)
      slash hit =
          let nothing = (add_step_parts c n (at + 1) false [] (Ok []) us (rw hit at e)).3 in
          absurd (let z : ◌≡◌ {A = ℕ} 0 1 = cc in omega arith)

      plain : eqb b 47 ≡ false → steps_after c n at (b ∷ 47 ∷ f) ≡ Ok (us ++ vs)
      plain miss =
          let none : [] ≡ us = let k : Ok [] ≡ Ok us = rw miss at e in cc in
          let z : n + length us ≡ n = omega (arith, ap length none) in
          rw miss (subst (λ (xs : List (Step Spot)). steps_after c n (at + 1) (47 ∷ f) ≡ Ok (xs ++ vs)) none (subst (λ (k : ℕ). steps_after c k (at + 1) (47 ∷ f) ≡ Ok vs) z more))
  reads_on n at (b ∷ x ∷ bs) f us vs e more =
      ⊎_elim
      (λ hit. ⊎_elim (two_slashes hit (λ ws. reads_on (suc n) (at + 2) bs f ws vs)) (one_slash hit (λ ws. reads_on (suc n) (at + 1) (x ∷ bs) f ws vs)) (cases_Bool (eqb x 47)))
      (λ miss. plain miss (reads_on n (at + 1) (x ∷ bs) f us vs))
      (cases_Bool (eqb b 47))
    where
      whole : List ℕ
      whole = b ∷ x ∷ (bs ++ 47 ∷ f)

      -- the first step of the text, read from r, and the others
      first_then : (place : ℕ) (d : Bool) (r : List ℕ) → add_step c n d place r (steps_after c (suc n) place r) ≡ Ok us → place + length r ≡ at + length (b ∷ x ∷ bs)
          → ((ws : List (Step Spot)) → steps_after c (suc n) place r ≡ Ok ws → steps_after c (suc n + length ws) (place + length r) (47 ∷ f) ≡ Ok vs → steps_after c (suc n) place (r ++ 47 ∷ f) ≡ Ok (ws ++ vs))
          → add_step c n d place (r ++ 47 ∷ f) (steps_after c (suc n) place (r ++ 47 ∷ f)) ≡ Ok (us ++ vs)
      first_then place d r e size go =
          let (t, rest, few, reads, behind, is) = add_step_parts c n place d r (steps_after c (suc n) place r) us e in
          let count : n + length us ≡ suc n + length rest = omega (arith, ap length is) in
          let tail = go rest behind (subst (λ (k : ℕ). steps_after c k (place + length r) (47 ∷ f) ≡ Ok vs) count (subst (λ (k : ℕ). steps_after c (n + length us) k (47 ∷ f) ≡ Ok vs) (sym size) more)) in
          let head : step_test c place (piece (r ++ 47 ∷ f)) ≡ Ok t = ap (step_test c place) (piece_append r f) ∙ reads in
          ap (add_step c n d place (r ++ 47 ∷ f)) tail ∙ (add_step_from c n place d (r ++ 47 ∷ f) t (rest ++ vs) few head ∙ ap (λ (xs : List (Step Spot)). Ok (xs ++ vs)) (sym is))

      two_slashes : eqb b 47 ≡ true → ((ws : List (Step Spot)) → steps_after c (suc n) (at + 2) bs ≡ Ok ws → steps_after c (suc n + length ws) (at + 2 + length bs) (47 ∷ f) ≡ Ok vs → steps_after c (suc n) (at + 2) (bs ++ 47 ∷ f) ≡ Ok (ws ++ vs))
          → eqb x 47 ≡ true → steps_after c n at whole ≡ Ok (us ++ vs)
      two_slashes hit go two = at_two c n at b x (bs ++ 47 ∷ f) hit two ∙ first_then (at + 2) true bs (sym (at_two c n at b x bs hit two) ∙ e) (omega arith) go

      one_slash : eqb b 47 ≡ true → ((ws : List (Step Spot)) → steps_after c (suc n) (at + 1) (x ∷ bs) ≡ Ok ws → steps_after c (suc n + length ws) (at + 1 + length (x ∷ bs)) (47 ∷ f) ≡ Ok vs → steps_after c (suc n) (at + 1) (x ∷ (bs ++ 47 ∷ f)) ≡ Ok (ws ++ vs))
          → eqb x 47 ≡ false → steps_after c n at whole ≡ Ok (us ++ vs)
      one_slash hit go miss = at_one c n at b x (bs ++ 47 ∷ f) hit miss ∙ first_then (at + 1) false (x ∷ bs) (sym (at_one c n at b x bs hit miss) ∙ e) (omega arith) go

      plain : eqb b 47 ≡ false → (steps_after c n (at + 1) (x ∷ bs) ≡ Ok us → steps_after c (n + length us) (at + 1 + length (x ∷ bs)) (47 ∷ f) ≡ Ok vs → steps_after c n (at + 1) (x ∷ (bs ++ 47 ∷ f)) ≡ Ok (us ++ vs))
          → steps_after c n at whole ≡ Ok (us ++ vs)
      plain miss go =
          let size : at + length (b ∷ x ∷ bs) ≡ at + 1 + length (x ∷ bs) = omega arith in
          at_none c n at b x (bs ++ 47 ∷ f) miss ∙ go (sym (at_none c n at b x bs miss) ∙ e) (subst (λ (k : ℕ). steps_after c (n + length us) k (47 ∷ f) ≡ Ok vs) size more)

  -- a step without a slash in it, and nothing behind it
  last_step : (n at : ℕ) (d : Bool) (f : List ℕ) (t : Test (List ℕ)) (s : StepRead c at f t) → n < 8
      → add_step c n d at f (steps_after c (suc n) at f) ≡ Ok (step d s.said ∷ [])
  last_step n at d f t s few =
      let whole = one_piece f s.free in
      let none : drop (length (piece f)) f ≡ [] = drop_all (length (piece f)) f (omega (arith, ap length whole)) in
      let end : steps_after c (suc n) at f ≡ Ok [] = passes_piece c (suc n) at f ∙ ap (steps_after c (suc n) (at + length (piece f))) none in
      ap (add_step c n d at f) end ∙ add_step_from c n at d f s.said [] few (ap (step_test c at) whole ∙ s.reads)

  -- behind one slash a step that is not empty and has no slash is a child
  behind_one : (n at : ℕ) (f : List ℕ) → slash_free f ≡ true → 0 < length f → steps_after c n at (47 ∷ f) ≡ add_step c n false (at + 1) f (steps_after c (suc n) (at + 1) f)
  behind_one n at [] h some = absurd (omega arith)
  behind_one n at (b ∷ bs) h some = grind (arith, nat_tests)

  -- a path that is read, by what it says
  pub record PathRead (at : ℕ) (bs : List ℕ) (ts : List (Step (List ℕ))) : Type 0 where
    pub said : List (Step Spot)
    pub reads : read_path c at bs ≡ Ok said
    pub says : written said ≡ ts

  -- one step more behind a path that is read: it stands in g, behind a slash
  one_more : (at : ℕ) (p g : List ℕ) (ss : List (Step (List ℕ))) (d : Bool) (t : Test (List ℕ)) (said : Test Spot) → by_bytes said ≡ t → (r : PathRead at p ss)
      → length (ss ++ step d t ∷ []) ≤ 8
      → ((n : ℕ) → n < 8 → steps_after c n (at + length p) (47 ∷ g) ≡ Ok (step d said ∷ [])) → PathRead at (p ++ 47 ∷ g) (ss ++ step d t ∷ [])
  one_more at p g ss d t said says r few last =
      let parts = add_step_parts c 0 at false p (steps_after c 1 at p) r.said r.reads in
      let rest = parts.1 in
      let head : step_test c at (piece (p ++ 47 ∷ g)) ≡ Ok parts.0 = ap (step_test c at) (piece_append p g) ∙ parts.3 in
      let count : 1 + length rest ≡ length ss = omega (arith, ap length parts.5, length-map r.said (step_named (λ s. s.bytes)), ap length r.says) in
      let room : 1 + length rest < 8 = omega (arith, length-append ss (step d t ∷ [])) in
      let tail = reads_on 1 at p g rest (step d said ∷ []) parts.4 (last (1 + length rest) room) in
      record {
        said = r.said ++ step d said ∷ [];
        reads = ap (add_step c 0 false at (p ++ 47 ∷ g)) tail
            ∙ (add_step_from c 0 at false (p ++ 47 ∷ g) parts.0 (rest ++ step d said ∷ []) (omega arith) head
            ∙ ap (λ (xs : List (Step Spot)). Ok (xs ++ step d said ∷ [])) (sym parts.5));
        says = map-append (step_named (λ s. s.bytes)) r.said (step d said ∷ [])
            ∙ (ap (λ (xs : List (Step (List ℕ))). xs ++ step d (by_bytes said) ∷ []) r.says ∙ ap (λ (u : Test (List ℕ)). ss ++ step d u ∷ []) says);
      }

  pub path_accepted : (at : ℕ) {bs : List ℕ} {ts : List (Step (List ℕ))} → PathText c bs ts → length ts ≤ 8 → PathRead at bs ts
  path_accepted at (one {f} {t} s) few =
      let r = step_accepted c at s in
      record { said = step false r.said ∷ []; reads = last_step 0 at false f t r (omega arith); says = ap (λ (u : Test (List ℕ)). step false u ∷ []) r.says }
  path_accepted at (child {p} {f} {ss} {t} path s) few =
      let r = step_accepted c (at + length p + 1) s in
      let size = length-append ss (step false t ∷ []) in
      one_more at p f ss false t r.said r.says (path_accepted at path (omega arith)) few
      (λ n lt. behind_one n (at + length p) f r.free r.some ∙ last_step n (at + length p + 1) false f t r lt)
  path_accepted at (deep {p} {f} {ss} {t} path s) few =
      let r = step_accepted c (at + length p + 2) s in
      let size = length-append ss (step true t ∷ []) in
      one_more at p (47 ∷ f) ss true t r.said r.says (path_accepted at path (omega arith)) few
      (λ n lt. last_step n (at + length p + 2) true f t r lt)

  few_more : (n at : ℕ) (d : Bool) (r : List ℕ) (behind : Result (List (Step Spot)) PathFault) (ss : List (Step Spot)) → add_step c n d at r behind ≡ Ok ss
      → ((rest : List (Step Spot)) → behind ≡ Ok rest → suc n + length rest ≤ 8) → n + length ss ≤ 8
  few_more n at d r behind ss e go =
      let parts = add_step_parts c n at d r behind ss e in
      omega (arith, ap length parts.5, go parts.1 parts.4)

  few_steps : (n at : ℕ) (bs : List ℕ) (ss : List (Step Spot)) → n ≤ 8 → steps_after c n at bs ≡ Ok ss → n + length ss ≤ 8
  few_steps n at [] ss le e = let none : [] ≡ ss = cc in omega (arith, ap length none)
  few_steps n at (b ∷ []) ss le e =
      ⊎_elim
      (λ hit. let parts = add_step_parts c n (at + 1) false [] (Ok []) ss (rw hit at e) in let nothing = parts.3 in absurd (let z : ◌≡◌ {A = ℕ} 0 1 = cc in omega arith))
      (λ miss. let k : Ok [] ≡ Ok ss = rw miss at e in let none : [] ≡ ss = cc in omega (arith, ap length none))
      (cases_Bool (eqb b 47))
  few_steps n at (b ∷ x ∷ bs) ss le e =
      ⊎_elim
      (λ hit. ⊎_elim
      (λ two. let h = sym (at_two c n at b x bs hit two) ∙ e in let lt = (add_step_parts c n (at + 2) true bs (steps_after c (suc n) (at + 2) bs) ss h).2 in few_more n (at + 2) true bs _ ss h (λ rest. few_steps (suc n) (at + 2) bs rest (omega arith)))
      (λ miss. let h = sym (at_one c n at b x bs hit miss) ∙ e in let lt = (add_step_parts c n (at + 1) false (x ∷ bs) (steps_after c (suc n) (at + 1) (x ∷ bs)) ss h).2 in few_more n (at + 1) false (x ∷ bs) _ ss h (λ rest. few_steps (suc n) (at + 1) (x ∷ bs) rest (omega arith)))
      (cases_Bool (eqb x 47)))
      (λ miss. few_steps n (at + 1) (x ∷ bs) ss le (sym (at_none c n at b x bs miss) ∙ e))
      (cases_Bool (eqb b 47))

  pub accepts_paths : (at : ℕ) (bs : List ℕ) → AcceptsPaths c bs (read_path c at bs)
  accepts_paths at bs = (
    (λ ss e. (path_derived c at bs ss e, let few = few_more 0 at false bs (steps_after c 1 at bs) ss e (λ rest. few_steps 1 at bs rest (omega arith)) in omega arith)),
    λ ts path few. let r = path_accepted at path few in (r.said, r.reads, r.says),
  )
