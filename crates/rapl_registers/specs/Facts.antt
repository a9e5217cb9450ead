-- What is proved of a domain's registers, for the bytes of every instance. To be read without its proof, which is in proofs/ContentFact.antt.
-- Assumes nothing.
use Rattle.std.specs.Prelude.{ℕ, ◌≤◌, ◌<◌, ◌≡◌, List, [], ◌∷◌, ◌⊎◌, ◌↔◌, ◌≢◌}
use Rattle.words.specs.Answers.{refused, gives}
use Rattle.fields.specs.Bits.{bit}
use Rattle.rapl_domains.specs.Domains.{header_in, domain_number}
use Rattle.rapl_registers.specs.Contents.{register_at, content_of}

-- registers 0, 1 and 9, and those whose bit of the sixteen of FLAGS is 1
abbrev pub Present : ℕ → ℕ → Type 0
Present flags r = (r ≡ 0) ⊎ ((r ≡ 1) ⊎ ((r ≡ 9) ⊎ ((r ≤ 15) × (bit r flags ≡ 1))))

pub record RegisterFact (s : List ℕ) (n r : ℕ) : Type 0 where
  pub handed_on : domain_number s n ≢ 0 → content_of s n r ≡ refused (domain_number s n)
  pub seventeen : (content_of s n r ≡ refused 17) ↔ ((domain_number s n ≡ 0) × (15 < r))
  pub absent : (content_of s n r ≡ refused 26) ↔ ((domain_number s n ≡ 0) × (r ≤ 15) × (Present (header_in s n).flags r → ⊥))
  pub content : (x : ℕ) → (content_of s n r ≡ gives (x ∷ [])) ↔ ((domain_number s n ≡ 0) × (r ≤ 15) × Present (header_in s n).flags r × (register_at s n r ≡ x))
