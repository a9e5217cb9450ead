-- Worked chains over the bytes of small instances; each is computed. Assumes nothing.
use mathlib.Core.Path.{◌≡◌, refl}
use mathlib.Core.List.{[], ◌∷◌, ◌++◌, map}
use Rattle.words.specs.Answers.{refused, gives, first}
use Rattle.words.specs.Bytes.{number_at}
use Rattle.fields.specs.Bits.{field}
use Rattle.rapl_domains.specs.Domains.{header_of, header_in, missing, unused, wrong, unsound, domain_number}
use Rattle.rapl_chains.specs.Chains.{step_at, climb_from, chain_of}
use Rattle.rapl_domains.proofs.Cases.{block, six}

-- a root has 0 steps; domain 2 has its own refusal, and domain 3, which is under it, 24
chains : map (chain_of six) (0 ∷ 1 ∷ 2 ∷ 3 ∷ []) ≡ gives (0 ∷ []) ∷ gives (1 ∷ []) ∷ refused 15 ∷ refused 24 ∷ []
unfolding chain_of climb_from step_at domain_number first missing unused unsound wrong header_in header_of number_at field
chains = refl

-- two domains that name each other: a ring, given up after 255 steps
ring : chain_of (block 1 3 1 1 ++ block 1 3 1 0) 0 ≡ refused 24
unfolding chain_of climb_from step_at domain_number first missing unused unsound wrong header_in header_of number_at field
ring = refl
