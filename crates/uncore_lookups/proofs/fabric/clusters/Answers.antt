-- `uncore_lookups::fabric::clusters` meets its contract: the instance's refusal, or what is said of its bytes. Assumes nothing.
use Prim.Native.Nat.{ℕ}
use mathlib.Core.Path.{ap, ◌∙◌}
use mathlib.Core.List.{List, [], ◌∷◌}
use Rattle.words.specs.Answers.{gives}
use Rattle.words.proofs.DoneLaws as done
use Rattle.capture.specs.Capture.{capture_of}
use Rattle.uncore_clusters.specs.Clusters.{clusters_in}
use Rattle.uncore_lookups.specs.Fabric.{clusters_for}
use Rattle.tpmi_features.proofs.OrLaws.{handed_on, said_of}
use Rattle.uncore_lookups.proofs.fabric.clusters.Goals as goal

pub returns-in_err-p : goal.returns-in_err-p
unfolding clusters_for
returns-in_err-p c = record {
  answer = done.handed_on (λ x. x ∷ []) c.from_residual.result c.from_residual.ensures.1
      ∙ handed_on (capture_of c.args.capture) 2 _ (λ (s : List ℕ). gives (clusters_in s ∷ [])) c.in_err-p.ensures.answer;
}

pub returns : goal.returns
unfolding clusters_for
returns c = record { answer = said_of (capture_of c.args.capture) 2 _ (λ (s : List ℕ). gives (clusters_in s ∷ [])) c.in_ok-p.ensures.answer c.part.ensures.part (ap (λ (x : ℕ). gives (x ∷ [])) c.clusters_in.ensures.answer) }
