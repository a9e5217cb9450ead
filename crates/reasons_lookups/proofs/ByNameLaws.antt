-- A register of the limit reasons by its number: where there is none, and where it is the register at its offset. Assumes nothing.
use Prim.Native.Nat.{ℕ, ◌*◌, ◌≤◌, ◌<◌}
use mathlib.Core.Path.{◌≡◌, ap, sym, ◌∙◌}
use mathlib.Core.Bool.{Bool}
use mathlib.Core.List.{[], ◌∷◌}
use native.Mathlib.Nat.{mul-mod_left}
use native.Mathlib.Omega.{arith}
use borrow.Author.Tests.{lt-ltb, le-ltb}
use Rattle.words.specs.Answers.{Answer, refused, unless, first, earliest}
use Rattle.words.proofs.AnswerLaws.{first_skip, first_take, unless_number, two_zero}
use Rattle.words.proofs.TestLaws.{as_must, or_skip}
use Rattle.capture.specs.Capture.{Capture}
use Rattle.tpmi_features.specs.Instances.{instance_number}
use Rattle.tpmi_registers.specs.Registers.{outside, register_number, register_place_of, register_of}
use Rattle.reasons_lookups.specs.ByName.{missing, number_for, place_for, content_for}

module _ (c : Capture) (i r : ℕ) where
  -- ---- no register has the number

  module _ (h : 3 < r) where
    unnamed : number_for c i r ≡ earliest (instance_number c 12 i ∷ 17 ∷ [])
    unfolding number_for missing
    unnamed = ap (λ (n : ℕ). earliest (instance_number c 12 i ∷ n ∷ [])) (first_take _ _ (lt-ltb 3 r h))

    refuses : (a : Answer) → unless (number_for c i r) a ≡ refused (earliest (instance_number c 12 i ∷ 17 ∷ []))
    refuses a = ap (λ (n : ℕ). unless n a) unnamed ∙ unless_number _ a (λ z. omega (arith, ((two_zero (instance_number c 12 i) 17).0 z).1))

    pub place_unnamed : place_for c i r ≡ refused (earliest (instance_number c 12 i ∷ 17 ∷ []))
    unfolding place_for
    place_unnamed = refuses _

    pub content_unnamed : content_for c i r ≡ refused (earliest (instance_number c 12 i ∷ 17 ∷ []))
    unfolding content_for
    content_unnamed = refuses _

  -- ---- one of the four

  module _ (h : r ≤ 3) where
    named : number_for c i r ≡ register_number c 12 i (r * 8)
    unfolding number_for missing register_number outside
    named =
        ap (λ (n : ℕ). earliest (instance_number c 12 i ∷ n ∷ []))
        (first_skip _ _ (le-ltb 3 r h) ∙ ap (λ (t : Bool). first ((t, 14) ∷ [])) (sym (or_skip _ (as_must (mul-mod_left r 8)))))

    answers : (a : Answer) → unless (number_for c i r) a ≡ unless (register_number c 12 i (r * 8)) a
    answers a = ap (λ (n : ℕ). unless n a) named

    pub place_named : place_for c i r ≡ register_place_of c 12 i (r * 8)
    unfolding place_for register_place_of
    place_named = answers _

    pub content_named : content_for c i r ≡ register_of c 12 i (r * 8)
    unfolding content_for register_of
    content_named = answers _
