-- Two instances of one length with the same headers: the lookup of a domain answers the same in both. Assumes nothing.
use Prim.Native.Nat.{ℕ, ◌+◌}
use mathlib.Core.Path.{ap₂}
use mathlib.Core.Bool.{◌||◌}
use mathlib.Core.List.{List, [], ◌∷◌}
use lib.Dec.{ltb}
use Rattle.words.specs.Answers.{gives, unless, first}
use Rattle.rapl_domains.specs.Domains.{block_at, values, missing, unused, unsound, wrong, domain_number, domain_of}
use Rattle.rapl_domains.specs.Facts.{HangsOnHeaders}
use Rattle.rapl_domains.specs.declared.domains.Header.{Header}

-- the tests of domain n, as the instance's length and the header have it
abbrev decided : ℕ → ℕ → Header → ℕ
decided n l h = first ((ltb 255 n || ltb l (block_at n + 128), 12) ∷ (unused h, 15) ∷ (wrong h, 16) ∷ [])

pub hangs_on_headers : (s t : List ℕ) → HangsOnHeaders s t
unfolding domain_of domain_number missing unsound
hangs_on_headers s t same n = (
  ap₂ (decided n) same.0 (same.1 n),
  ap₂ (λ (l : ℕ) (h : Header). unless (decided n l h) (gives (values h))) same.0 (same.1 n),
)
