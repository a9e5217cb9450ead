-- The three lookups over a capture are the instance's refusal, or what is said of its bytes. Assumes nothing.
use Prim.Native.Nat.{ℕ}
use Rattle.words.proofs.AnswerLaws.{unless_number, unless_passes}
use Rattle.capture.specs.Capture.{Capture}
use Rattle.tpmi_features.specs.Instances.{instance_number}
use Rattle.rapl_lookups.specs.Lookups.{domain_for, content_for, chain_for}
use Rattle.rapl_lookups.specs.Facts.{CaptureFact}

pub capture_fact : (c : Capture) (i n r : ℕ) → CaptureFact c i n r
unfolding domain_for content_for chain_for
capture_fact c i n r =
    record {
      handed_on = λ a h. unless_number (instance_number c 0 i) _ h;
      domain = λ z. unless_passes _ z;
      register = λ z. unless_passes _ z;
      chain = λ z. unless_passes _ z;
    }
