-- `rapl_writes::write::write` meets its contract: refused, both captures are as they were; permitted, the register's bytes are stored in one.
-- Assumes nothing.
use Prim.Native.Nat.{ℕ, ◌≤◌}
use mathlib.Core.Path.{◌≡◌, sym, ap, ◌∙◌}
use mathlib.Core.List.{List, [], ◌∷◌}
use native.Mathlib.Omega.{arith}
use Rattle.words.specs.Answers.{Answer, gives}
use Rattle.words.proofs.AnswerLaws.{unless_passes}
use Rattle.words.proofs.DoneLaws.{handed_on}
use Rattle.capture.specs.Capture.{Capture, captured}
use Rattle.capture.specs.Places.{part_of}
use Rattle.capture.specs.Told.{numbers}
use Rattle.capture.specs.declared.places.Place.{Place}
use Rattle.tpmi_features.specs.Instances.{instance_of, instance_part}
use Rattle.tpmi_features.proofs.InstanceLaws.{instance_at}
use Rattle.tpmi_features.proofs.InsideLaws.{part_at}
use Rattle.tpmi_features.proofs.OrLaws.{refused_some, or_refused}
use Rattle.rapl_writes.specs.Next.{next_of, next_for}
use Rattle.rapl_writes.proofs.NextLaws.{stopped_by}
use Rattle.rapl_writes.proofs.WriteLaws.{refused_write, small, permitted_write}
use Rattle.rapl_writes.proofs.write.write.Goals as goal

-- what is said of the instance's bytes, as the part at the place that was found holds them
shows : (a : Capture) (i n limit which value : ℕ) {p : Place} {s : List ℕ} {v : Answer} → instance_of a 0 i ≡ gives (numbers p) → s ≡ part_of p a.lo a.low a.hi a.high
    → v ≡ next_of s n limit which value → next_of (instance_part a 0 i) n limit which value ≡ v
shows a i n limit which value found part says = sym (says ∙ ap (λ (s : List ℕ). next_of s n limit which value) (part ∙ part_at a 0 i (instance_at a 0 i found)))

-- so the numbers of a permitted write are small
bounds : (a : Capture) (i n limit which value : ℕ) {p : Place} {s : List ℕ} {x : ℕ} → instance_of a 0 i ≡ gives (numbers p) → s ≡ part_of p a.lo a.low a.hi a.high
    → gives (x ∷ []) ≡ next_of s n limit which value → (n ≤ 255) × (limit ≤ 2)
bounds a i n limit which value found part says = small a i n limit which value found (shows a i n limit which value found part says)

pub returns-in_err-p : goal.returns-in_err-p
unfolding next_for
returns-in_err-p c =
    let a = captured c.args.config.now c.args.lo c.args.low.now c.args.hi c.args.high.now in
    let r = sym c.in_err-p.ensures.answer in
    let w = refused_write a _ _ _ _ _ (or_refused a 0 _ (λ (s : List ℕ). next_of s c.args.n c.args.limit c.args.which c.args.value) r) (refused_some a 0 _ r) in
    record { answer = handed_on (λ u. []) c.from_residual.result c.from_residual.ensures.1 ∙ w.0; in_low = w.1.0; in_high = w.1.1 }

pub returns-in_err-x : goal.returns-in_err-x
unfolding next_for
returns-in_err-x c =
    let a = captured c.args.config.now c.args.lo c.args.low.now c.args.hi c.args.high.now in
    let found = sym c.in_ok-p.ensures.answer in
    let r = shows a c.args.i c.args.n c.args.limit c.args.which c.args.value found c.part.ensures.part c.in_err-x.ensures.answer in
    let w = refused_write a _ _ _ _ _ (unless_passes _ (instance_at a 0 _ found).zero ∙ r) (stopped_by _ _ _ _ _ r).1 in
    record { answer = handed_on (λ u. []) c.from_residual-in_err-x.result c.from_residual-in_err-x.ensures.1 ∙ w.0; in_low = w.1.0; in_high = w.1.1 }

pub overflow_mul-offset : goal.overflow_mul-offset
overflow_mul-offset c = let b = bounds (captured c.args.config.now c.args.lo c.args.low.now c.args.hi c.args.high.now) c.args.i c.args.n c.args.limit c.args.which c.args.value (sym c.in_ok-p.ensures.answer) c.part.ensures.part c.in_ok-x.ensures.answer in omega (arith, b.0)

pub overflow_add-offset : goal.overflow_add-offset
overflow_add-offset c = let b = bounds (captured c.args.config.now c.args.lo c.args.low.now c.args.hi c.args.high.now) c.args.i c.args.n c.args.limit c.args.which c.args.value (sym c.in_ok-p.ensures.answer) c.part.ensures.part c.in_ok-x.ensures.answer in omega (arith, b.1)

pub overflow_mul-offset-2 : goal.overflow_mul-offset-2
overflow_mul-offset-2 c = let b = bounds (captured c.args.config.now c.args.lo c.args.low.now c.args.hi c.args.high.now) c.args.i c.args.n c.args.limit c.args.which c.args.value (sym c.in_ok-p.ensures.answer) c.part.ensures.part c.in_ok-x.ensures.answer in omega (arith, b.1)

pub overflow_add-offset-2 : goal.overflow_add-offset-2
overflow_add-offset-2 c = let b = bounds (captured c.args.config.now c.args.lo c.args.low.now c.args.hi c.args.high.now) c.args.i c.args.n c.args.limit c.args.which c.args.value (sym c.in_ok-p.ensures.answer) c.part.ensures.part c.in_ok-x.ensures.answer in omega (arith, b.0, b.1)

pub returns : goal.returns
returns c =
    let a = captured c.args.config.now c.args.lo c.args.low.now c.args.hi c.args.high.now in
    let found = sym c.in_ok-p.ensures.answer in
    let r = shows a c.args.i c.args.n c.args.limit c.args.which c.args.value found c.part.ensures.part c.in_ok-x.ensures.answer in
    let e = permitted_write a _ _ _ _ _ found r c.store.ensures.in_low c.store.ensures.in_high in
    record { answer = e.0; in_low = e.1.0; in_high = e.1.1 }
