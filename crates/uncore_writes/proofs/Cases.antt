-- Worked writes in the bytes of an instance, good and refused ones side by side; each is computed. Assumes nothing.
use Prim.Native.Nat.{ℕ}
use mathlib.Core.Path.{◌≡◌, refl}
use mathlib.Core.Bool.{true, false}
use mathlib.Core.List.{List, [], ◌∷◌, ◌++◌}
use lib.ListN.{replicate}
use Rattle.words.specs.Answers.{Answer, refused, gives, first, or_else, earliest}
use Rattle.words.specs.Bytes.{number_at, put, stored}
use Rattle.fields.specs.Bits.{field, with_field}
use Rattle.fields.specs.Masks.{how_many}
use Rattle.uncore_registers.specs.Header.{header_of}
use Rattle.uncore_controls.specs.Control.{control_of}
use Rattle.uncore_clusters.specs.Clusters.{ones_in, clusters_in, start_in, place_of, unnamed, past, unread, place_number, place_in, content_in}
use Rattle.uncore_permits.specs.ControlFields.{fields_of, lowest_of, width_of, next_word, ratio, above, word_number}
use Rattle.uncore_writes.specs.ControlNext.{held_in, next_content, next_number, next_of}

-- two clusters, whose registers start so many eights of bytes on; controls with 002's default, all else 0
abbrev board : ℕ → ℕ → List ℕ
board a b = 1 ∷ 3 ∷ replicate 6 0 ++ (a ∷ b ∷ replicate 14 0) ++ (1 ∷ 127 ∷ replicate 30 0) ++ (1 ∷ 127 ∷ replicate 22 0)

-- the instance once field `which` of register r of cluster n was written
abbrev after_write : List ℕ → ℕ → ℕ → ℕ → ℕ → List ℕ
after_write s n r which value = stored s (place_of s n r) 8 (next_content s n r which value)

-- maximum 30 and minimum 8 of cluster 1, then throttle mode 0: its control, and that of cluster 0, which is as it was
three_writes : content_in (after_write (after_write (after_write (board 2 6) 1 3 1 30) 1 3 2 8) 1 3 0 0) 0 1 3 ∷ content_in (after_write (after_write (after_write (board 2 6) 1 3 1 30) 1 3 2 8) 1 3 0 0) 0 0 3 ∷ []
    ≡ gives (0x41E00 ∷ []) ∷ gives (0x7F01 ∷ []) ∷ []
unfolding content_in place_number first unnamed unread past clusters_in ones_in how_many header_of place_of start_in next_content held_in next_word fields_of lowest_of width_of with_field field put number_at
three_writes = refl

-- status asked to be written of a cluster that there is not is 17, of one that there is 27; a header write with local number 200 is 27; the
-- lookup's 17 before 14, and 14 before 27; 27 before 17 and 17 before 28
abbrev asked : List Answer
asked =
    next_of (board 2 6) 0 2 2 0 0
    ∷ next_of (board 2 6) 0 1 2 0 0
    ∷ next_of (board 2 6) 0 200 0 0 0
    ∷ next_of (board 2 255) 0 2 3 9 999
    ∷ next_of (board 2 255) 0 1 3 9 999
    ∷ next_of (board 2 6) 0 1 3 9 999
    ∷ next_of (board 2 6) 0 1 3 2 999
    ∷ next_of (after_write (board 2 6) 1 3 1 30) 0 1 3 2 31
    ∷ []

asked_cases : asked ≡ refused 17 ∷ refused 27 ∷ refused 27 ∷ refused 17 ∷ refused 14 ∷ refused 27 ∷ refused 17 ∷ refused 28 ∷ []
unfolding next_of next_number earliest or_else word_number ratio above control_of place_number first unnamed unread past clusters_in ones_in how_many header_of place_of start_in next_content held_in next_word fields_of lowest_of width_of with_field field put number_at
asked_cases = refl

-- why reading back asks that the offset register is not among the written bytes: with offset 0 the control of cluster 0 is the offset
-- register, and a throttle mode of 2 written to it moves the cluster two eights of bytes on
moved : place_in (board 0 6) 0 0 3 ∷ place_in (after_write (board 0 6) 0 3 0 2) 0 0 3 ∷ [] ≡ gives (8 ∷ []) ∷ gives (24 ∷ []) ∷ []
unfolding place_in place_number first unnamed unread past clusters_in ones_in how_many header_of place_of start_in next_content held_in next_word fields_of lowest_of width_of with_field field put number_at
moved = refl

-- two clusters at one offset have one control: a write to the one is read in the other
shared : content_in (after_write (board 2 2) 1 3 1 30) 0 0 3 ≡ gives (0x1E01 ∷ [])
unfolding content_in place_number first unnamed unread past clusters_in ones_in how_many header_of place_of start_in next_content held_in next_word fields_of lowest_of width_of with_field field put number_at
shared = refl

-- why a pair is kept only where no byte is shared: with offsets 2 and 3 the first advanced control of cluster 0 is the control of cluster 1, and its
-- BASE 0 takes the maximum, 30, below the minimum, 8
abbrev paired : List ℕ
paired = after_write (after_write (board 2 3) 1 3 1 30) 1 3 2 8

crossed_beside : above (held_in paired 1 3) ∷ above (held_in (after_write paired 0 4 1 0) 1 3) ∷ [] ≡ false ∷ true ∷ []
unfolding place_of start_in next_content held_in next_word fields_of lowest_of width_of with_field field above control_of put number_at
crossed_beside = refl
