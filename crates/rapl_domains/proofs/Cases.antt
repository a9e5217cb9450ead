-- Worked examples over the bytes of small instances, good and refused ones side by side; each is computed. Assumes nothing.
use Prim.Native.Nat.{ℕ, ◌*◌}
use mathlib.Core.Path.{◌≡◌, refl}
use mathlib.Core.List.{List, [], ◌∷◌, ◌++◌, map}
use lib.ListN.{replicate}
use Rattle.words.specs.Answers.{refused, gives, first}
use Rattle.words.specs.Bytes.{number_at}
use Rattle.fields.specs.Bits.{field}
use Rattle.rapl_domains.specs.Domains.{header_of, header_in, missing, unused, wrong, unsound, domain_number, domain_of}

-- a block without FLAGS, its registers zeros: version, type, SIZE, parent
abbrev pub block : ℕ → ℕ → ℕ → ℕ → List ℕ
block version kind size parent = version ∷ kind ∷ size ∷ parent ∷ replicate 124 0

-- a package that is its own parent, with bit 2 of FLAGS; register 1 is 0x11, 2 is 0x22, 3 is 0x33, 9 is 0x99
abbrev top : List ℕ
top = 1 ∷ 2 ∷ 1 ∷ 0 ∷ 4 ∷ replicate 3 0 ++ 0x11 ∷ replicate 7 0 ++ 0x22 ∷ replicate 7 0 ++ 0x33 ∷ replicate 47 0 ++ 0x99 ∷ replicate 55 0

-- the package, a domain under it, one of type 0, a domain under that one, one of SIZE 2, one of version 2
abbrev pub six : List ℕ
six = top ++ block 1 3 1 0 ++ block 1 0 1 0 ++ block 1 3 1 2 ++ block 1 3 2 0 ++ block 2 3 1 0

-- version, type, SIZE, parent, FLAGS, reserved; the last lies past the end
domains : map (domain_of six) (0 ∷ 1 ∷ 2 ∷ 4 ∷ 5 ∷ 6 ∷ []) ≡ gives (1 ∷ 2 ∷ 1 ∷ 0 ∷ 4 ∷ 0 ∷ []) ∷ gives (1 ∷ 3 ∷ 1 ∷ 0 ∷ 0 ∷ 0 ∷ []) ∷ refused 15 ∷ refused 16 ∷ refused 16 ∷ refused 12 ∷ []
unfolding domain_of domain_number first missing unused unsound wrong header_in header_of number_at field
domains = refl

-- a block of 127 bytes
one_byte_short : domain_of (1 ∷ 2 ∷ 1 ∷ 0 ∷ replicate 123 0) 0 ≡ refused 12
unfolding domain_of domain_number first missing
one_byte_short = refl

-- of 257 blocks the last is no domain
last_domain : map (domain_of (replicate (257 * 128) 1)) (255 ∷ 256 ∷ []) ≡ gives (1 ∷ 1 ∷ 1 ∷ 1 ∷ 0x101 ∷ 0x101 ∷ []) ∷ refused 12 ∷ []
unfolding domain_of domain_number first missing unused unsound wrong header_in header_of number_at field
last_domain = refl
