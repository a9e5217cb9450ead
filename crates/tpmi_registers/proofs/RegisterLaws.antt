-- An offset into an instance, way by way, and the register there. Assumes nothing.
use Prim.Native.Nat.{ℕ, ◌+◌, ◌%◌, ◌≤◌, ◌<◌}
use mathlib.Core.Path.{◌≡◌, ◌∙◌}
use mathlib.Core.Bool.{not}
use mathlib.Core.List.{[], ◌∷◌}
use mathlib.Core.Logic.{◌≢◌}
use borrow.Author.Tests.{lt-ltb, le-ltb, ltb-false, eqb-true, not-false}
use lib.Dec.{eqb}
use Rattle.words.specs.Answers.{refused, gives}
use Rattle.words.specs.Bytes.{number_at}
use Rattle.words.proofs.TestLaws.{as_must, not_as_must, or_skip, or_take, or_second, or_neither}
use Rattle.words.proofs.AnswerLaws.{first_skip, first_take, first_end, first_zero, stage_passes, stage_last, unless_number, unless_stops, unless_passes}
use Rattle.capture.specs.Capture.{Capture}
use Rattle.tpmi_discovery.specs.Table.{bir_of, bar_of}
use Rattle.tpmi_features.specs.Instances.{size_for, start_for, instance_number}
use Rattle.tpmi_registers.specs.Registers.{outside, register_number, register_place_of, register_of}
use Rattle.capture.specs.Told.{numbers}
use Rattle.capture.specs.declared.places.Place.{Place}
use Rattle.capture.proofs.PartLaws.{Placed, placed_is}

-- ---- an offset into an instance

module _ (size offset : ℕ) where
  pub outside_odd : offset % 8 ≢ 0 → outside size offset ≡ 14
  unfolding outside
  outside_odd h = first_take _ _ (or_take _ (not_as_must h))

  pub outside_past : size < offset + 8 → outside size offset ≡ 14
  unfolding outside
  outside_past l = first_take _ _ (or_second (not (eqb (offset % 8) 0)) (lt-ltb _ _ l))

  pub outside_none : offset % 8 ≡ 0 → offset + 8 ≤ size → outside size offset ≡ 0
  unfolding outside
  outside_none e l = first_skip _ _ (or_skip _ (as_must e) ∙ le-ltb _ _ l) ∙ first_end

  -- an offset that is not outside leaves eight bytes
  pub outside_room : outside size offset ≡ 0 → (offset % 8 ≡ 0) × (offset + 8 ≤ size)
  unfolding outside
  outside_room e =
      let f = or_neither _ _ (first_zero _ tt e).0 in
      (eqb-true _ _ (not-false _ f.0), ltb-false _ _ f.1)

-- ---- over a capture

abbrev pub RegisterPlace : Capture → ℕ → ℕ → ℕ → Place → Type 0
RegisterPlace c id n offset p = Placed (register_number c id n offset) (bir_of c) (start_for c id n + offset) 8 1 p

module _ (c : Capture) where
  pub register_at : (id n offset : ℕ) {p : Place} → register_place_of c id n offset ≡ gives (numbers p) → RegisterPlace c id n offset p
  unfolding register_place_of
  register_at id n offset e = placed_is (register_number c id n offset) e

  pub register_refused : (id n offset : ℕ) → instance_number c id n ≡ 0 → outside (size_for c id) offset ≢ 0 → register_place_of c id n offset ≡ refused (outside (size_for c id) offset)
  unfolding register_place_of register_number
  register_refused id n offset z h = stage_passes _ _ z (stage_last _ _ ∙ unless_number _ _ h)

  pub register_inside : (id n offset : ℕ) → instance_number c id n ≡ 0 → outside (size_for c id) offset ≡ 0
      → register_place_of c id n offset ≡ gives (bir_of c ∷ (start_for c id n + offset) ∷ 8 ∷ 1 ∷ [])
  unfolding register_place_of register_number
  register_inside id n offset z e = stage_passes _ _ z (stage_last _ _ ∙ unless_passes _ e)

  pub content_refused : (id n offset : ℕ) {m : ℕ} → register_place_of c id n offset ≡ refused m → register_of c id n offset ≡ refused m
  unfolding register_place_of register_of
  content_refused id n offset e = unless_stops (register_number c id n offset) _ _ e

  pub content_found : (id n offset : ℕ) → register_number c id n offset ≡ 0 → register_of c id n offset ≡ gives (number_at (bar_of c) (start_for c id n + offset) 8 ∷ [])
  unfolding register_of
  content_found id n offset z = unless_passes _ z
