-- What is proved of the three lookups over every capture. To be read without its proof, which is in proofs/CaptureFact.antt under the same
-- name with underscores.
-- Assumes nothing.
use Rattle.std.specs.Prelude.{ℕ, ◌≡◌, List, ◌≢◌}
use Rattle.words.specs.Answers.{Answer, refused}
use Rattle.capture.specs.Capture.{Capture}
use Rattle.tpmi_features.specs.Instances.{instance_number, instance_part, instance_or}
use Rattle.rapl_domains.specs.Domains.{domain_of}
use Rattle.rapl_registers.specs.Contents.{content_of}
use Rattle.rapl_chains.specs.Chains.{chain_of}
use Rattle.rapl_lookups.specs.Lookups.{domain_for, content_for, chain_for}

-- The instance's own refusal is handed on; where there is none the three calls say of its bytes what the crates below say.
pub record CaptureFact (c : Capture) (i n r : ℕ) : Type 0 where
  pub handed_on : (a : List ℕ → Answer) → instance_number c 0 i ≢ 0 → instance_or c 0 i a ≡ refused (instance_number c 0 i)
  pub domain : instance_number c 0 i ≡ 0 → domain_for c i n ≡ domain_of (instance_part c 0 i) n
  pub register : instance_number c 0 i ≡ 0 → content_for c i n r ≡ content_of (instance_part c 0 i) n r
  pub chain : instance_number c 0 i ≡ 0 → chain_for c i n ≡ chain_of (instance_part c 0 i) n
