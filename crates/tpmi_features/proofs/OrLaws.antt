-- Calls that look an instance up and ask its bytes: the instance's refusal handed on, or what is said of the bytes. Assumes nothing.
use Prim.Native.Nat.{ℕ}
use Rattle.std.specs.Prelude.{Ok, Err}
use mathlib.Core.Path.{◌≡◌, sym, ap, ◌∙◌}
use mathlib.Core.List.{List}
use mathlib.Core.Logic.{◌≢◌}
use Rattle.words.specs.Answers.{Answer, refused, gives}
use Rattle.words.proofs.AnswerLaws.{unless_refused, unless_stops, unless_passes}
use Rattle.capture.specs.Capture.{Capture}
use Rattle.capture.specs.Places.{part_of}
use Rattle.capture.specs.Told.{numbers, told}
use Rattle.capture.specs.declared.places.Place.{Place}
use Rattle.words.specs.declared.answers.Refusal.{Refusal}
use Rattle.tpmi_features.specs.Instances.{instance_number, instance_of, instance_part, instance_or}
use Rattle.tpmi_features.proofs.InstanceLaws.{instance_at}
use Rattle.tpmi_features.proofs.InsideLaws.{part_at}

-- a refusal's number is not 0
pub refused_some : (c : Capture) (id n : ℕ) {m : ℕ} → instance_of c id n ≡ refused m → m ≢ 0
unfolding instance_of
refused_some c id n e = (unless_refused (instance_number c id n) _ e).1

module _ (c : Capture) (id n : ℕ) (a : List ℕ → Answer) where
  pub or_refused : {m : ℕ} → instance_of c id n ≡ refused m → instance_or c id n a ≡ refused m
  unfolding instance_of
  or_refused e = unless_stops (instance_number c id n) _ _ e

  pub or_found : {p : Place} {s : List ℕ} → instance_of c id n ≡ gives (numbers p) → s ≡ part_of p c.lo c.low c.hi c.high → a s ≡ instance_or c id n a
  or_found e same =
      let q = instance_at c id n e in
      ap a (same ∙ part_at c id n q) ∙ sym (unless_passes (a (instance_part c id n)) q.zero)

  -- the same of the answer of the lookup, as a call finds it
  pub handed_on : {r : Refusal} → told (Err r) ≡ instance_of c id n → refused r.0 ≡ instance_or c id n a
  handed_on is = sym (or_refused (sym is))

  pub said_of : {p : Place} {s : List ℕ} {v : Answer} → told (Ok p) ≡ instance_of c id n → s ≡ part_of p c.lo c.low c.hi c.high → v ≡ a s → v ≡ instance_or c id n a
  said_of is part says = says ∙ or_found (sym is) part
