-- `replay_trace::trace::meant` meets its contract: a gap limit and a boot number have at most 4 bytes in each kind that has one. Assumes nothing.
use Prim.Native.Nat.{ℕ, ◌^◌, ◌≤◌, ◌<◌}
use mathlib.Core.Path.{◌≡◌, subst}
use mathlib.Core.List.{List}
use mathlib.Core.Logic.{◌⊎◌, inl, inr}
use native.Mathlib.Omega.{arith}
use lib.ListN.{get_or}
use Rattle.records_body.specs.Body.{size}
use Rattle.records_body.specs.Facts.{Fit}
use Rattle.replay_trace.specs.Trace.{row_of}
use Rattle.replay_trace.proofs.TraceLaws.{fit_at}
use Rattle.replay_trace.proofs.trace.meant.Goals as goal

-- a number of at most 4 bytes, of kind j or k
narrow : (j k i : ℕ) {n : ℕ} (vs : List ℕ) → Fit (row_of n) vs → (n ≡ j) ⊎ (n ≡ k)
    → 256 ^ size (get_or (row_of j) i 0) ≤ 2 ^ 32 → 256 ^ size (get_or (row_of k) i 0) ≤ 2 ^ 32 → get_or vs i 0 < 2 ^ 32
narrow j k i vs f (inl e) h l = omega (arith, fit_at (row_of j) vs (subst (λ m. Fit (row_of m) vs) e f) i, h)
narrow j k i vs f (inr e) h l = omega (arith, fit_at (row_of k) vs (subst (λ m. Fit (row_of m) vs) e f) i, l)

pub opening_in-requires : goal.opening_in-requires
unfolding size
opening_in-requires c = (narrow 1 5 2 c.args.values c.requires c.in-1.is (omega arith) (omega arith), narrow 1 5 5 c.args.values c.requires c.in-1.is (omega arith) (omega arith))

pub reading_in-requires : goal.reading_in-requires
unfolding size
reading_in-requires c = narrow 2 6 3 c.args.values c.requires c.in-2.is (omega arith) (omega arith)

pub reading_in-requires-in-3 : goal.reading_in-requires-in-3
unfolding size
reading_in-requires-in-3 c = narrow 3 7 3 c.args.values c.requires c.in-3.is (omega arith) (omega arith)
