-- Parent chains (document 01, "RAPL domains"). A domain whose parent is itself is a root. The chain is followed to its root and its steps
-- are counted, at most 255; an ancestor that is no sound domain, or a chain without a root, is refusal 24.
--   Step, step_at s n    what stands at n: no sound domain, a root, or a domain with another parent
--   climb_from s left n  the chain from n on, with so many steps left of 255
--   chain_of s n         the domain's own refusal, 24, or the chain's length
-- Assumes nothing.
use Rattle.std.specs.Prelude.{ℕ, zero, suc, ◌-◌, Bool, true, false, List, [], ◌∷◌, eqb}
use Rattle.words.specs.Answers.{Answer, refused, gives, unless}
use Rattle.rapl_domains.specs.Domains.{header_in, domain_number}

abbrev pub parent_of : List ℕ → ℕ → ℕ
parent_of s n = (header_in s n).parent

pub data Step : Type 0 where
  broken : Step
  root : Step
  up : ℕ → Step

abbrev pub step_of : ℕ → Bool → ℕ → Step
step_of zero true parent = root
step_of zero false parent = up parent
step_of (suc m) itself parent = broken

unfoldable pub step_at : List ℕ → ℕ → Step
step_at s n = step_of (domain_number s n) (eqb (parent_of s n) n) (parent_of s n)

-- where the chain goes from a step: on to the parent, where steps are left
abbrev pub onward : Step → ℕ → (ℕ → Answer) → Answer
onward broken gone go = refused 24
onward root gone go = gives (gone ∷ [])
onward (up parent) gone go = go parent

abbrev pub none_left : ℕ → Answer
none_left parent = refused 24

unfoldable pub climb_from : List ℕ → ℕ → ℕ → Answer
climb_from s zero n = onward (step_at s n) 255 none_left
climb_from s (suc left) n = onward (step_at s n) (255 - suc left) (climb_from s left)

unfoldable pub chain_of : List ℕ → ℕ → Answer
chain_of s n = unless (domain_number s n) (climb_from s 255 n)
