-- Worked examples of fields, tables and masks; each is computed. Assumes nothing.
use Prim.Native.Nat.{ℕ, ◌-◌, ◌*◌, ◌^◌}
use mathlib.Core.Path.{◌≡◌, refl}
use mathlib.Core.List.{List, [], ◌∷◌}
use Rattle.words.specs.Bytes.{number_at}
use Rattle.fields.specs.Bits.{field, with_field, field_stored}
use Rattle.fields.specs.Tables.{fields, with_fields}
use Rattle.fields.specs.Masks.{how_many, mask_of, onwards}
use Rattle.words.proofs.Cases.{sample, fives}

abbrev widths : List ℕ
widths = 8 ∷ 8 ∷ 16 ∷ 16 ∷ 2 ∷ 14 ∷ []

-- all ones but for the field, which holds 5
field_written : with_field 18 7 (2 ^ 64 - 1) 5 ≡ 2 ^ 64 - 1 - 122 * 2 ^ 18
unfolding with_field
field_written = refl

-- a field that would pass bit 63 is not written
field_past_the_end : field_stored 64 60 5 7 1 ≡ 7
field_past_the_end = refl

-- RAPL, one instance of 0x60 words at 4 KiB, for the operating system
table_read : fields 0 widths (number_at sample 0 8) ≡ 0 ∷ 1 ∷ 0x60 ∷ 4 ∷ 1 ∷ 0 ∷ []
unfolding fields field number_at
table_read = refl

table_written : with_fields 0 widths 0 (0 ∷ 1 ∷ 0x60 ∷ 4 ∷ 1 ∷ 0 ∷ []) ≡ 0x0001000400600100
unfolding with_fields with_field
table_written = refl

mask_of_five : mask_of fives 6 ≡ 32
unfolding mask_of fives
mask_of_five = refl

count_from_four : how_many (onwards fives 4) 2 ≡ 1
unfolding how_many fives
count_from_four = refl
