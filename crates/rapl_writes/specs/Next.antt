-- What a limit's register holds next, after a write of one field (document 01, "RAPL domains" and "Refusal table": a limit write continues
-- with 26, 27, 17, 18 after the domain lookup; which of these is the crate rapl_permits').
--   next_content s n ..    the register with the field's bits replaced
--   next_number, next_of    the domain's refusal, then the write's own; or the next content
--   next_for c i ..        the same over a capture
-- Assumes nothing.
use Rattle.std.specs.Prelude.{ℕ, ◌+◌, List, [], ◌∷◌}
use Rattle.words.specs.Answers.{Answer, gives, unless, earliest}
use Rattle.fields.specs.Bits.{with_field}
use Rattle.capture.specs.Capture.{Capture}
use Rattle.tpmi_features.specs.Instances.{instance_or}
use Rattle.rapl_domains.specs.Domains.{header_in, domain_number}
use Rattle.rapl_registers.specs.Contents.{register_at}
use Rattle.rapl_permits.specs.Permits.{lowest_of, refusal_of, width_of}

unfoldable pub next_content : List ℕ → ℕ → ℕ → ℕ → ℕ → ℕ
next_content s n limit which value = with_field (lowest_of which) (width_of which) (register_at s n (limit + 1)) value

unfoldable pub next_number : List ℕ → ℕ → ℕ → ℕ → ℕ → ℕ
next_number s n limit which value = earliest (domain_number s n ∷ refusal_of (header_in s n) limit which value (register_at s n (limit + 1)) ∷ [])

unfoldable pub next_of : List ℕ → ℕ → ℕ → ℕ → ℕ → Answer
next_of s n limit which value = unless (next_number s n limit which value) (gives (next_content s n limit which value ∷ []))

unfoldable pub next_for : Capture → ℕ → ℕ → ℕ → ℕ → ℕ → Answer
next_for c i n limit which value = instance_or c 0 i (λ s. next_of s n limit which value)
