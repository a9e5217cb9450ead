-- `uncore_writes::control_write::write` meets its contract: refused, both captures are as they were; permitted, the register's bytes are
-- stored in one. Assumes nothing.
use Prim.Native.Nat.{ℕ}
use mathlib.Core.Path.{◌≡◌, sym, ap, ◌∙◌}
use mathlib.Core.List.{List, [], ◌∷◌}
use Rattle.words.specs.Answers.{Answer, gives}
use Rattle.words.specs.Bytes.{number_at}
use Rattle.words.proofs.DoneLaws.{handed_on}
use Rattle.capture.specs.Capture.{Capture, captured}
use Rattle.capture.specs.Places.{part_of}
use Rattle.capture.specs.Told.{numbers}
use Rattle.capture.specs.declared.places.Place.{Place}
use Rattle.tpmi_features.specs.Instances.{instance_of, instance_part}
use Rattle.tpmi_features.proofs.InstanceLaws.{instance_at}
use Rattle.tpmi_features.proofs.InsideLaws.{part_at}
use Rattle.tpmi_features.proofs.OrLaws.{refused_some, or_refused}
use Rattle.uncore_clusters.specs.Clusters.{place_in}
use Rattle.uncore_permits.specs.ControlFields.{word_of}
use Rattle.uncore_writes.specs.ControlNext.{next_of, next_for}
use Rattle.uncore_writes.proofs.ControlNextLaws.{next_refused, word_last}
use Rattle.uncore_writes.proofs.ControlWriteLaws.{refused_write, refused_inside, permitted_write}
use Rattle.uncore_writes.proofs.control_write.write.Goals as goal

-- what is said of the instance's bytes, as the parts at the place that was found hold them: where the register stands, and what it holds next
module _ (a : Capture) (i die n r which value : ℕ) {p : Place} {s : List ℕ} (found : instance_of a 2 i ≡ gives (numbers p)) (part : s ≡ part_of p a.lo a.low a.hi a.high) where
  same : s ≡ instance_part a 2 i
  same = part ∙ part_at a 2 i (instance_at a 2 i found)

  stands : {v : Answer} → v ≡ place_in s die n r → place_in (instance_part a 2 i) die n r ≡ v
  stands e = sym (e ∙ ap (λ (s : List ℕ). place_in s die n r) same)

  shows : {at held : ℕ} {v : Answer} → gives (at ∷ []) ≡ place_in s die n r → held ≡ number_at s at 8 → v ≡ word_of r which held value
      → next_of (instance_part a 2 i) die n r which value ≡ v
  shows {at} e h w = sym (w ∙ word_last _ _ _ _ _ _ (stands e) (h ∙ ap (λ (s : List ℕ). number_at s at 8) same))

pub returns-in_err-p : goal.returns-in_err-p
unfolding next_for
returns-in_err-p c =
    let a = captured c.args.config.now c.args.lo c.args.low.now c.args.hi c.args.high.now in
    let r = sym c.in_err-p.ensures.answer in
    let w = refused_write a _ _ _ _ _ _ (or_refused a 2 _ (λ (s : List ℕ). next_of s c.args.die c.args.n c.args.r c.args.which c.args.value) r) (refused_some a 2 _ r) in
    record { answer = handed_on (λ u. []) c.from_residual.result c.from_residual.ensures.1 ∙ w.0; in_low = w.1.0; in_high = w.1.1 }

pub returns-in_err-at : goal.returns-in_err-at
returns-in_err-at c =
    let a = captured c.args.config.now c.args.lo c.args.low.now c.args.hi c.args.high.now in
    let found = sym c.in_ok-p.ensures.answer in
    let w = refused_inside a _ _ _ _ _ _ found (next_refused _ _ _ _ c.args.which c.args.value (stands a _ c.args.die c.args.n c.args.r c.args.which c.args.value found c.part.ensures.part c.in_err-at.ensures.answer)) in
    record { answer = handed_on (λ u. []) c.from_residual-in_err-at.result c.from_residual-in_err-at.ensures.1 ∙ w.0; in_low = w.1.0; in_high = w.1.1 }

pub returns-in_err-x : goal.returns-in_err-x
returns-in_err-x c =
    let a = captured c.args.config.now c.args.lo c.args.low.now c.args.hi c.args.high.now in
    let found = sym c.in_ok-p.ensures.answer in
    let next = shows a c.args.i c.args.die c.args.n c.args.r c.args.which c.args.value found c.part.ensures.part c.in_ok-at.ensures.answer (c.u64_at-held.ensures.answer ∙ ap (λ (s : List ℕ). number_at s c.in_ok-at.at 8) (c.part-2.ensures.part ∙ sym c.part.ensures.part)) c.in_err-x.ensures.answer in
    let w = refused_inside a _ _ _ _ _ _ found next in
    record { answer = handed_on (λ u. []) c.from_residual-in_err-x.result c.from_residual-in_err-x.ensures.1 ∙ w.0; in_low = w.1.0; in_high = w.1.1 }

pub returns : goal.returns
returns c =
    let a = captured c.args.config.now c.args.lo c.args.low.now c.args.hi c.args.high.now in
    let found = sym c.in_ok-p.ensures.answer in
    let register = stands a _ c.args.die c.args.n c.args.r c.args.which c.args.value found c.part.ensures.part c.in_ok-at.ensures.answer in
    let next = shows a c.args.i c.args.die c.args.n c.args.r c.args.which c.args.value found c.part.ensures.part c.in_ok-at.ensures.answer (c.u64_at-held.ensures.answer ∙ ap (λ (s : List ℕ). number_at s c.in_ok-at.at 8) (c.part-2.ensures.part ∙ sym c.part.ensures.part)) c.in_ok-x.ensures.answer in
    let e = permitted_write a _ _ _ _ _ _ found register next c.store.ensures.in_low c.store.ensures.in_high in
    record { answer = e.0; in_low = e.1.0; in_high = e.1.1 }
