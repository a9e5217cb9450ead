-- What is proved of parent chains, for the bytes of every instance. To be read without its proof, which is in proofs/ChainFact.antt under the
-- same name with underscores.
-- Assumes nothing.
use Rattle.std.specs.Prelude.{ℕ, zero, suc, ◌≤◌, ◌<◌, ◌≡◌, List, [], ◌∷◌, ◌⊎◌, ◌↔◌, ◌≢◌}
use Rattle.words.specs.Answers.{refused, gives}
use Rattle.rapl_domains.specs.Domains.{domain_number}
use Rattle.rapl_domains.specs.Facts.{Sound}
use Rattle.rapl_chains.specs.Chains.{parent_of, chain_of}

-- the domain k steps up from n
unfoldable pub ancestor : List ℕ → ℕ → ℕ → ℕ
ancestor s n zero = n
ancestor s n (suc k) = ancestor s (parent_of s n) k

abbrev pub Root : List ℕ → ℕ → Type 0
Root s n = parent_of s n ≡ n

-- k steps up from n stands a root, the first, and all on the way to it are sound domains
pub record IsChain (s : List ℕ) (n k : ℕ) : Type 0 where
  pub sound : (j : ℕ) → j ≤ k → Sound s (ancestor s n j)
  pub root : Root s (ancestor s n k)
  pub first : (j : ℕ) → j < k → Root s (ancestor s n j) → ⊥

-- The answer is k exactly if the chain has k steps, 24 exactly if the domain is sound and there is no such k, and else the domain's own
-- refusal. That a chain has at most 255 steps is a consequence: no number comes twice on the way to the first root.
pub record ChainFact (s : List ℕ) (n : ℕ) : Type 0 where
  pub own : domain_number s n ≢ 0 → chain_of s n ≡ refused (domain_number s n)
  pub steps : (k : ℕ) → (chain_of s n ≡ gives (k ∷ [])) ↔ IsChain s n k
  pub broken : (chain_of s n ≡ refused 24) ↔ (Sound s n × ((k : ℕ) → IsChain s n k → ⊥))
  pub most : (k : ℕ) → IsChain s n k → k ≤ 255
  pub complete : Sound s n → (chain_of s n ≡ refused 24) ⊎ ((k : ℕ) × (chain_of s n ≡ gives (k ∷ [])))
