-- The lines of reasons, of an exchange and of a test: how long they can be, and that a page so long shows them whole. Assumes nothing.
use Prim.Native.Nat.{ℕ, zero, suc, ◌+◌, ◌≤◌, ◌<◌, ◌^◌}
use mathlib.Core.Bool.{Bool, true, false, cond}
use mathlib.Core.List.{[], ◌∷◌, ◌++◌}
use lib.Dec.{eqb}
use lib.ListN.{length, get_or, length-append}
use native.Mathlib.Omega.{arith}
use Rattle.fields.specs.Bits.{field}
use Rattle.fields.specs.Masks.{is_set}
use Rattle.text.specs.Page.{joined}
use Rattle.text.specs.Words.{line_feed}
use Rattle.text.proofs.LinesLaws.{length_joined, number_short, hex_short, refusal_short, line_fits}
use Rattle.report.specs.Endings.{taken_text, refusal_runs, outcome_runs}
use Rattle.reasons_mailbox.specs.declared.mailbox.Reply.{Reply}
use Rattle.reasons_mailbox.specs.declared.mailbox.Reply.TheVariants.{Waits, Store, StoreBoth, Read, Written, Refused, Nothing}
use Rattle.reasons_lines.specs.ReasonLines.{reserved_text, none_text, names, name_runs, names_below, end_text, reply_runs}
use Rattle.reasons_lines.specs.Facts.{ReasonsLineFact, ExchangeLineFact, Sized, TestLineFact}

-- ---- a line of reasons

-- the names of the first k bits, all of them
abbrev all_below : ℕ → ℕ
all_below zero = 0
all_below (suc k) = all_below k + length (get_or names k [])

name_short : (k : ℕ) (b : Bool) → length (joined (name_runs k b)) ≤ length (get_or names k [])
name_short k true = simp length-append (omega arith)
name_short k false = omega arith

below_short : (x k : ℕ) → length (joined (names_below x k)) ≤ all_below k
unfolding names_below
below_short x zero = omega arith
below_short x (suc k) =
    omega (arith, length_joined (names_below x k) (name_runs k (is_set x k)), below_short x k, name_short k (is_set x k))

end_short : (x : ℕ) → length (end_text x) ≤ 10
end_short x = by (eqb (field 10 54 x) 0)
  where
    by : (b : Bool) → length (cond b line_feed reserved_text) ≤ 10
    by true = omega arith
    by false = omega arith

pub reasons_line_fact : ReasonsLineFact
reasons_line_fact ws x h = line_fits 88 _ (by (eqb x 0))
  where
    by : (b : Bool) → length (joined (ws ∷ cond b (none_text ∷ []) (names_below x 10 ++ end_text x ∷ []))) ≤ 88
    by true = simp length-append (omega arith)
    by false =
        omega (
          arith,
          length-append ws (joined (names_below x 10 ++ end_text x ∷ [])),
          length_joined (names_below x 10) (end_text x ∷ []),
          length-append (end_text x) [],
          below_short x 10,
          end_short x,
        )

-- ---- the line of an exchange

outcome_short : (n : ℕ) → n < 2 ^ 8 → length (joined (outcome_runs n)) ≤ 14
outcome_short n h = by (eqb n 0)
  where
    by : (b : Bool) → length (joined (cond b (taken_text ∷ []) (refusal_runs n))) ≤ 14
    by true = omega arith
    by false = simp length-append (omega (arith, refusal_short n h))

pub exchange_line_fact : ExchangeLineFact
exchange_line_fact c d i r k n hc hd hi hr hk hn =
    line_fits 145 _
    (simp length-append
    (omega (
      arith,
      number_short c hc,
      number_short d hd,
      number_short i hi,
      hex_short r hr,
      number_short k hk,
      outcome_short n hn,
    )))

-- ---- the line of a test

reply_short : (r : Reply) → Sized r → length (joined (reply_runs r)) ≤ 62
reply_short Waits h = omega arith
reply_short (Store w) h = simp length-append (omega (arith, hex_short w h))
reply_short (StoreBoth d w) h = simp length-append (omega (arith, hex_short d h.0, hex_short w h.1))
reply_short (Read d) h = simp length-append (omega (arith, hex_short d h))
reply_short Written h = omega arith
reply_short (Refused n) h = simp length-append (omega (arith, refusal_short n h))
reply_short Nothing h = omega arith

pub test_line_fact : TestLineFact
test_line_fact n x d r hn hx hd hr =
    line_fits 140 _
    (simp length-append (omega (arith, number_short n hn, hex_short x hx, hex_short d hd, reply_short r hr)))
