-- Domains over a capture (document 01, "Refusal table": a domain lookup tests 12, 15, 16 after 13). Domains are those of feature 0.
--   domain_for, content_for, chain_for   the refusal of instance i's lookup, or of its bytes a domain's header, a register's content, a chain's
--                                     length
-- Assumes nothing.
use Rattle.std.specs.Prelude.{ℕ}
use Rattle.words.specs.Answers.{Answer}
use Rattle.capture.specs.Capture.{Capture}
use Rattle.tpmi_features.specs.Instances.{instance_or}
use Rattle.rapl_domains.specs.Domains.{domain_of}
use Rattle.rapl_registers.specs.Contents.{content_of}
use Rattle.rapl_chains.specs.Chains.{chain_of}

unfoldable pub domain_for : Capture → ℕ → ℕ → Answer
domain_for c i n = instance_or c 0 i (λ s. domain_of s n)

unfoldable pub content_for : Capture → ℕ → ℕ → ℕ → Answer
content_for c i n r = instance_or c 0 i (λ s. content_of s n r)

unfoldable pub chain_for : Capture → ℕ → ℕ → Answer
chain_for c i n = instance_or c 0 i (λ s. chain_of s n)
