-- Worked reads of registers; each is computed. Assumes nothing.
use mathlib.Core.Path.{◌≡◌, refl}
use mathlib.Core.List.{[], ◌∷◌, map}
use Rattle.words.specs.Answers.{refused, gives, first, or_else, earliest}
use Rattle.words.specs.Bytes.{number_at}
use Rattle.fields.specs.Bits.{field}
use Rattle.rapl_domains.specs.Domains.{header_of, header_in, missing, unused, wrong, unsound, domain_number}
use Rattle.rapl_registers.specs.Contents.{present, register_at, absent, content_number, content_of}
use Rattle.rapl_domains.proofs.Cases.{six}

-- the package's registers: 0 is its header, 1 and 9 are there without their bits, 2 by its bit; 3 and 15 have no bit
registers : map (content_of six 0) (0 ∷ 1 ∷ 9 ∷ 2 ∷ 3 ∷ 15 ∷ 16 ∷ []) ≡ gives (0x400010201 ∷ []) ∷ gives (0x11 ∷ []) ∷ gives (0x99 ∷ []) ∷ gives (0x22 ∷ []) ∷ refused 26 ∷ refused 26 ∷ refused 17 ∷ []
unfolding content_of content_number earliest or_else absent register_at domain_number first missing unused unsound wrong present header_in header_of number_at field
registers = refl

-- a domain's own refusal comes before 17
own_first : map (λ n. content_of six n 16) (0 ∷ 2 ∷ 4 ∷ 6 ∷ []) ≡ refused 17 ∷ refused 15 ∷ refused 16 ∷ refused 12 ∷ []
unfolding content_of content_number earliest or_else absent domain_number first missing unused unsound wrong header_in header_of number_at field
own_first = refl
