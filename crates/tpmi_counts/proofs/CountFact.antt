-- The count of valid instances is the number of accepted lookups. Assumes nothing.
use Prim.Native.Nat.{ℕ, ◌<◌}
use mathlib.Core.Path.{◌≡◌, refl, sym, ap, ◌∙◌}
use mathlib.Core.Bool.{Bool, true, false, not}
use mathlib.Core.List.{[], ◌∷◌}
use borrow.Author.Tests.{lt-leb}
use lib.Dec.{eqb}
use Rattle.words.specs.Answers.{gives, first}
use Rattle.words.proofs.AnswerLaws.{unless_number, first_skip, two_pass}
use Rattle.fields.specs.Masks.{how_many}
use Rattle.fields.proofs.MaskLaws.{many_le, many_same}
use Rattle.capture.specs.Capture.{Capture}
use Rattle.tpmi_discovery.specs.Table.{bar_of}
use Rattle.tpmi_features.specs.Instances.{bank_for, size_for, feature_number, start_for, invalid_at, unusable, instance_number}
use Rattle.tpmi_counts.specs.Valid.{valid_in, valid_count_in, valid_count_of}
use Rattle.tpmi_counts.specs.Facts.{found, CountFact}
use Rattle.tpmi_counts.proofs.CountLaws.{count_found}

-- where 12 is past, an instance is found exactly if it does not read all ones
last_passes : (b : Bool) → not b ≡ eqb (first ((b, 13) ∷ [])) 0
unfolding first
last_passes true = refl
last_passes false = refl

module _ (c : Capture) (id : ℕ) where
  valid_found : feature_number c id ≡ 0 → (i : ℕ) → i < (bank_for c id).instances
      → valid_in (bar_of c) (bank_for c id).start (size_for c id) i ≡ found c id i
  unfolding instance_number unusable
  valid_found z i l =
      last_passes (invalid_at (bar_of c) (start_for c id i)) ∙ ap (λ (n : ℕ). eqb n 0) (sym (two_pass _ z ∙ first_skip _ _ (lt-leb _ _ l)))

  counted : feature_number c id ≡ 0
      → valid_count_in (bar_of c) (bank_for c id).start (size_for c id) (bank_for c id).instances ≡ how_many (found c id) (bank_for c id).instances
  unfolding valid_count_in
  counted z = many_same _ (found c id) (bank_for c id).instances (valid_found z)

  pub count_fact : CountFact c id
  unfolding valid_count_of
  count_fact =
      record {
        handed_on = unless_number (feature_number c id) _;
        counts = λ z. count_found c id z ∙ ap (λ (n : ℕ). gives (n ∷ [])) (counted z);
        most = many_le (found c id) (bank_for c id).instances;
      }
