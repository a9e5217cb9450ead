-- An input is readable exactly if it has all that it speaks of, and its parts are as long as it says. Assumes nothing.
use Prim.Native.Nat.{ℕ, ◌+◌, ◌≤◌}
use mathlib.Core.Path.{◌≡◌, sym, ap, ◌∙◌}
use mathlib.Core.Bool.{true}
use mathlib.Core.List.{List}
use native.Mathlib.Omega.{arith}
use borrow.Author.Tests.{leb-true}
use lib.ListN.{length, drop, length-drop}
use lib.Seq.{length-take-le}
use Rattle.list_input.specs.Layout.{first_of, second_of, middle_of, end_of, readable}
use Rattle.list_input.specs.Facts.{LayoutFact}
use Rattle.list_input.proofs.LayoutLaws.{tests, input_whole, config_there, low_there, high_there}

pub layout_fact : (s : List ℕ) → LayoutFact s
layout_fact s =
    record {
      exactly = (λ r. (leb-true _ _ (tests s r).0, leb-true _ _ (tests s r).1.0, whole r), λ h. input_whole s h.0 h.1 h.2);
      config = λ r. ap length (sym (config_there s r)) ∙ length-take-le 4096 s (omega (arith, whole r));
      low = λ r. ap length (sym (low_there s r)) ∙ length-take-le (first_of s) (drop 4101 s) (omega (arith, whole r, length-drop 4101 s));
      high = λ r. ap length (sym (high_there s r)) ∙ length-take-le (second_of s) (drop (middle_of s + 5) s) (omega (arith, whole r, length-drop (middle_of s + 5) s));
    }
  where
    whole : readable s ≡ true → end_of s ≤ length s
    whole r = leb-true _ _ (tests s r).1.1
