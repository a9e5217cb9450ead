-- `uncore_writes::control_next::next` meets its contract: the instance's refusal, or what is said of its bytes. Assumes nothing.
use Prim.Native.Nat.{ℕ}
use mathlib.Core.Path.{◌∙◌}
use mathlib.Core.List.{List, [], ◌∷◌}
use Rattle.words.proofs.DoneLaws as done
use Rattle.capture.specs.Capture.{capture_of}
use Rattle.tpmi_features.proofs.OrLaws.{handed_on, said_of}
use Rattle.uncore_writes.specs.ControlNext.{next_of, next_for}
use Rattle.uncore_writes.proofs.control_next.next.Goals as goal

pub returns-in_err-p : goal.returns-in_err-p
unfolding next_for
returns-in_err-p c = record {
  answer = done.handed_on (λ x. x ∷ []) c.from_residual.result c.from_residual.ensures.1
      ∙ handed_on (capture_of c.args.capture) 2 _ (λ (s : List ℕ). next_of s c.args.die c.args.n c.args.r c.args.which c.args.value) c.in_err-p.ensures.answer;
}

pub returns : goal.returns
unfolding next_for
returns c = record { answer = said_of (capture_of c.args.capture) 2 _ (λ (s : List ℕ). next_of s c.args.die c.args.n c.args.r c.args.which c.args.value) c.in_ok-p.ensures.answer c.part.ensures.part c.next_in.ensures.answer }
