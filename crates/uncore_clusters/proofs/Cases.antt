-- Worked examples, good and refused ones side by side; each is computed. Assumes nothing.
use Prim.Native.Nat.{ℕ}
use mathlib.Core.Path.{◌≡◌, refl}
use mathlib.Core.List.{List, [], ◌∷◌, ◌++◌}
use lib.ListN.{replicate}
use Rattle.words.specs.Answers.{refused, gives, first}
use Rattle.words.specs.Bytes.{number_at}
use Rattle.fields.specs.Bits.{field}
use Rattle.fields.specs.Masks.{how_many}
use Rattle.uncore_registers.specs.Header.{header_of}
use Rattle.uncore_clusters.specs.Clusters.{ones_in, clusters_in, fabric_number, fabric_of, start_in, place_of, unnamed, past, unread, place_number, place_in, content_in}

-- an instance with this mask, whose clusters 0 and 1 start so many eights of bytes on; n bytes of 7 follow header and offsets
abbrev board : ℕ → ℕ → ℕ → ℕ → List ℕ
board mask a b n = 1 ∷ mask ∷ replicate 6 0 ++ (a ∷ b ∷ replicate 6 0) ++ replicate n 7

-- document 002's first example: two clusters a dielet, dies 0 to 3; local number 2 and die 256 there are not
two_a_dielet : fabric_of (board 3 2 6 64) 0 0 ∷ fabric_of (board 3 2 6 64) 0 1 ∷ fabric_of (board 3 2 6 64) 1 0 ∷ fabric_of (board 3 2 6 64) 3 1 ∷ fabric_of (board 3 2 6 64) 255 1 ∷ fabric_of (board 3 2 6 64) 0 2 ∷ fabric_of (board 3 2 6 64) 256 0 ∷ []
    ≡ gives (0 ∷ []) ∷ gives (1 ∷ []) ∷ gives (2 ∷ []) ∷ gives (7 ∷ []) ∷ gives (511 ∷ []) ∷ refused 17 ∷ refused 17 ∷ []
unfolding fabric_of fabric_number first clusters_in ones_in how_many header_of field number_at
two_a_dielet = refl

-- its second: one cluster a dielet
one_a_dielet : fabric_of (board 1 2 0 32) 0 0 ∷ fabric_of (board 1 2 0 32) 1 0 ∷ fabric_of (board 1 2 0 32) 1 1 ∷ [] ≡ gives (0 ∷ []) ∷ gives (1 ∷ []) ∷ refused 17 ∷ []
unfolding fabric_of fabric_number first clusters_in ones_in how_many header_of field number_at
one_a_dielet = refl

-- bits are counted, wherever they stand; an empty mask has none
counts : clusters_in (board 0 2 6 0) ∷ clusters_in (board 5 2 6 0) ∷ clusters_in (board 128 2 6 0) ∷ clusters_in (board 255 2 6 0) ∷ ones_in 0xFFFFFFFFFFFFFFFF ∷ [] ≡ 0 ∷ 2 ∷ 1 ∷ 8 ∷ 64 ∷ []
unfolding clusters_in ones_in how_many header_of field number_at
counts = refl

-- the map page: header 0, offsets 8, then the four of cluster 0 from 16 on; mask 0b101 has its second cluster by byte 1
places : place_in (board 5 2 6 64) 0 0 0 ∷ place_in (board 5 2 6 64) 0 0 1 ∷ place_in (board 5 2 6 64) 0 0 2 ∷ place_in (board 5 2 6 64) 0 0 5 ∷ place_in (board 5 2 6 64) 0 1 2 ∷ place_in (board 5 2 6 64) 0 1 5 ∷ []
    ≡ gives (0 ∷ []) ∷ gives (8 ∷ []) ∷ gives (16 ∷ []) ∷ gives (40 ∷ []) ∷ gives (48 ∷ []) ∷ gives (72 ∷ []) ∷ []
unfolding place_in place_number first unnamed unread past place_of start_in clusters_in ones_in how_many header_of field number_at
places = refl

-- no register 6, no die 256, no cluster 2; the header stays readable with an empty mask and whatever local number, its die is tested all
-- the same; 17 before 14; one byte too few for the last register; an offset past the instance
refusals : place_in (board 3 2 6 64) 0 0 6 ∷ place_in (board 3 2 6 64) 256 0 3 ∷ place_in (board 3 2 6 64) 0 2 3 ∷ place_in (board 0 2 6 64) 0 200 0 ∷ place_in (board 0 2 6 64) 256 0 0 ∷ place_in (board 0 2 255 64) 0 1 3 ∷ place_in (board 3 2 6 63) 0 1 5 ∷ place_in (board 3 2 255 64) 0 1 2 ∷ []
    ≡ refused 17 ∷ refused 17 ∷ refused 17 ∷ gives (0 ∷ []) ∷ refused 17 ∷ refused 17 ∷ refused 14 ∷ refused 14 ∷ []
unfolding place_in place_number first unnamed unread past place_of start_in clusters_in ones_in how_many header_of field number_at
refusals = refl

-- an instance of 12 bytes: the header is there, the offset register is not, and so no cluster's register, though offset 0 would lead inside
cut : place_in (1 ∷ 1 ∷ replicate 10 0) 0 0 0 ∷ place_in (1 ∷ 1 ∷ replicate 10 0) 0 0 1 ∷ place_in (1 ∷ 1 ∷ replicate 10 0) 0 0 2 ∷ [] ≡ gives (0 ∷ []) ∷ refused 14 ∷ refused 14 ∷ []
unfolding place_in place_number first unnamed unread past place_of start_in clusters_in ones_in how_many header_of field number_at
cut = refl

-- offsets 0 and 1 put a cluster over header and offsets: its status is the header, its control the offset register; nothing forbids it
over_the_head : content_in (board 3 0 1 64) 0 0 2 ∷ content_in (board 3 0 1 64) 0 0 3 ∷ content_in (board 3 0 1 64) 0 1 2 ∷ content_in (board 3 0 1 64) 0 1 3 ∷ []
    ≡ gives (0x301 ∷ []) ∷ gives (0x100 ∷ []) ∷ gives (0x100 ∷ []) ∷ gives (0x707070707070707 ∷ []) ∷ []
unfolding content_in place_number first unnamed unread past place_of start_in clusters_in ones_in how_many header_of field number_at
over_the_head = refl
