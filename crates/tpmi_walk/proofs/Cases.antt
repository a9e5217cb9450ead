-- Worked walks, good and refused ones side by side; each is computed. Assumes nothing.
use Prim.Native.Nat.{ℕ}
use mathlib.Core.Path.{◌≡◌, refl}
use mathlib.Core.List.{List, [], ◌∷◌, ◌++◌}
use lib.ListN.{replicate}
use Rattle.words.specs.Answers.{refused, gives, first}
use Rattle.words.specs.Bytes.{number_at}
use Rattle.fields.specs.Bits.{field}
use Rattle.tpmi_structure.specs.Structure.{vsec_of, vsec_at, fixed_wrong}
use Rattle.tpmi_walk.specs.Walk.{identifier_at, next_at, vsec_id_at, followed, taken_at, header_at, walk_from, empty_list, walk_of}
use Rattle.tpmi_structure.proofs.Cases.{sample}

-- a configuration space with so many bytes before what is given, and zeros after it
abbrev space : ℕ → List ℕ → List ℕ
space n bytes = replicate n 0 ++ bytes ++ replicate 4096 0

-- the structure is the first header
walk_first : walk_of (space 0x100 sample) ≡ gives (0x100 ∷ [])
unfolding walk_of empty_list walk_from header_at taken_at followed identifier_at next_at vsec_id_at first fixed_wrong vsec_at vsec_of field number_at
walk_first = refl

-- a header of another kind comes first, and its next offset, 0x110, leads to the structure
walk_second : walk_of (space 0x100 (0x01 ∷ 0x00 ∷ 0x01 ∷ 0x11 ∷ replicate 12 0 ++ sample)) ≡ gives (0x110 ∷ [])
unfolding walk_of empty_list walk_from header_at taken_at followed identifier_at next_at vsec_id_at first fixed_wrong vsec_at vsec_of field number_at
walk_second = refl

-- a header that names itself as the next: a ring, given up after 960 headers
walk_ring : walk_of (space 0x100 (0x01 ∷ 0x00 ∷ 0x01 ∷ 0x10 ∷ [])) ≡ refused 4
unfolding walk_of empty_list walk_from header_at taken_at followed identifier_at next_at vsec_id_at first fixed_wrong vsec_at vsec_of field number_at
walk_ring = refl

-- a board half way through reset shows all ones: an empty list
walk_reset : walk_of (replicate 4096 0xFF) ≡ refused 3
unfolding walk_of empty_list walk_from header_at taken_at followed identifier_at next_at vsec_id_at first fixed_wrong vsec_at vsec_of field number_at
walk_reset = refl
