-- The cuts do not matter, of any machine that is fed bytes.
-- Assumes nothing.
use Prim.Native.Nat.{ℕ}
use mathlib.Core.Path.{◌≡◌, refl, sym, ap, ◌∙◌}
use mathlib.Core.List.{List, [], ◌∷◌, ◌++◌, append_assoc, append-nil, flatten}
use Rattle.records.specs.Machine.{Done, and_then, ran, in_pieces}

module _ {S A : Type 0} (feed : S → ℕ → Done S A) where
  pub ran_append : (s : S) (xs ys : List ℕ) → ran feed s (xs ++ ys) ≡ and_then (ran feed s xs) (ran feed (ran feed s xs).state ys)
  unfolding ran
  ran_append s [] ys = refl
  ran_append s (x ∷ xs) ys =
      let d = feed s x in
      let e = ran feed d.state xs in
      let f = ran feed e.state ys in
      ap (and_then d) (ran_append d.state xs ys)
      ∙ ap (λ (l : List A). record { state = f.state; answers = l }) (sym (append_assoc d.answers e.answers f.answers))

  pub any_cuts : (s : S) (ps : List (List ℕ)) → in_pieces feed s ps ≡ ran feed s (flatten ps)
  unfolding in_pieces ran flatten
  any_cuts s [] = refl
  any_cuts s (p ∷ ps) = ap (and_then (ran feed s p)) (any_cuts (ran feed s p).state ps) ∙ sym (ran_append s p (flatten ps))

  -- nothing more comes
  pub then_nothing : (d : Done S A) → and_then d (record { state = d.state; answers = [] }) ≡ d
  then_nothing d = ap (λ (l : List A). record { state = d.state; answers = l }) (append-nil d.answers)

  pub ran_one : (s : S) (b : ℕ) → ran feed s (b ∷ []) ≡ feed s b
  unfolding ran
  ran_one s b = then_nothing (feed s b)
