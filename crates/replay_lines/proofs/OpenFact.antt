-- The lines of open channels: one by one, and how long they can be. Assumes nothing.
use Prim.Native.Nat.{ℕ, zero, suc, ◌+◌, ◌*◌, ◌≤◌}
use mathlib.Core.Path.{◌≡◌, refl, ap, ◌∙◌}
use mathlib.Core.Bool.{cond}
use mathlib.Core.List.{List, [], ◌∷◌, ◌++◌, append-nil}
use borrow.Author.Tests.{ltb-false}
use lib.Dec.{eqb, ltb}
use lib.ListN.{length, get_or, take, drop, length-append}
use lib.Seq.{take-append_seam, drop-append_seam}
use native.Mathlib.Nat.{zero-add}
use native.Mathlib.Omega.{arith}
use Rattle.words.proofs.AnswerLaws.{first_zero}
use Rattle.text.specs.Page.{over, joined}
use Rattle.text.proofs.PageLaws.{over_fits}
use Rattle.energy_channel.specs.Channel.{closed}
use Rattle.energy_channel.specs.declared.channel.Channel.{Channel}
use Rattle.replay_lines.specs.Spoken.{channel_runs, open_below, open_text, longest, open_number, open_left}
use Rattle.replay_lines.specs.Facts.{BelowFact, OpenFact}
use Rattle.replay_lines.proofs.SpokenLaws.{channel_shut, channel_there, channel_short, open_next}

module _ (cs : List Channel) where
  -- ---- channel by channel

  -- what the line of channel k is, once it is known
  adds : (k : ℕ) {yss : List (List ℕ)} → channel_runs k (get_or cs k closed) ≡ yss → open_below cs (k + 1) ≡ open_below cs k ++ joined yss
  adds k e = open_next cs k ∙ ap (λ (yss : List (List ℕ)). open_below cs k ++ joined yss) e

  pub below_fact : (k : ℕ) → BelowFact cs k
  unfolding open_below
  below_fact k =
      record {
        starts = refl;
        shut = λ e. adds k (channel_shut k (get_or cs k closed) e) ∙ append-nil (open_below cs k);
        there = λ e. adds k (channel_there k (get_or cs k closed) e);
      }

  -- ---- how long

  all_short : (k : ℕ) → k ≤ 64 → length (open_below cs k) ≤ k * 42
  unfolding open_below
  all_short zero h = omega arith
  all_short (suc k) h =
      let c = get_or cs k closed in
      omega (arith, all_short k (omega arith), channel_short k c (omega arith), length-append (open_below cs k) (joined (channel_runs k c)))

  it_fits : length (open_text cs) ≤ longest
  it_fits = all_short 64 (omega arith)

  -- a page that is taken: the text at its start, and the rest
  on_page : (xs : List ℕ) → open_number xs ≡ 0 → open_left xs cs ≡ open_text cs ++ drop (length (open_text cs)) xs
  unfolding open_left
  on_page xs z =
      let room : longest ≤ length xs = ltb-false (length xs) longest (first_zero ((ltb (length xs) longest, 25) ∷ []) tt z).0 in
      ap (λ (m : ℕ). cond (eqb m 0) (over xs 0 (open_text cs)) xs) z
      ∙ over_fits xs 0 (open_text cs) (omega (arith, it_fits))
      ∙ ap (λ (m : ℕ). open_text cs ++ drop m xs) (zero-add (length (open_text cs)))

  pub open_fact : OpenFact cs
  open_fact =
      record {
        fits = it_fits;
        shows = λ xs z. ap (take (length (open_text cs))) (on_page xs z) ∙ take-append_seam (open_text cs) (drop (length (open_text cs)) xs);
        keeps = λ xs z. ap (drop (length (open_text cs))) (on_page xs z) ∙ drop-append_seam (open_text cs) (drop (length (open_text cs)) xs);
      }
