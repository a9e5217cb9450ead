-- Registers of an instance (document 01, "PFS and register places"): a register is named by its offset into the instance.
--   outside size offset   14 where the offset is no multiple of 8 or its 8 bytes end past the instance
--   register_number        the instance's, then 14;   register_place_of, register_of   or the register's place; its content
-- Assumes nothing.
use Rattle.std.specs.Prelude.{ℕ, ◌+◌, ◌%◌, not, ◌||◌, [], ◌∷◌, ltb, eqb}
use Rattle.words.specs.Answers.{Answer, gives, unless, first, earliest}
use Rattle.words.specs.Bytes.{number_at}
use Rattle.capture.specs.Capture.{Capture}
use Rattle.tpmi_discovery.specs.Table.{bir_of, bar_of}
use Rattle.tpmi_features.specs.Instances.{size_for, start_for, instance_number}

-- an offset into an instance of so many bytes: 14 where it is no multiple of 8 or its 8 bytes end past the instance
unfoldable pub outside : ℕ → ℕ → ℕ
outside size offset = first ((not (eqb (offset % 8) 0) || ltb size (offset + 8), 14) ∷ [])

unfoldable pub register_number : Capture → ℕ → ℕ → ℕ → ℕ
register_number c id n offset = earliest (instance_number c id n ∷ outside (size_for c id) offset ∷ [])

unfoldable pub register_place_of : Capture → ℕ → ℕ → ℕ → Answer
register_place_of c id n offset = unless (register_number c id n offset) (gives (bir_of c ∷ (start_for c id n + offset) ∷ 8 ∷ 1 ∷ []))

unfoldable pub register_of : Capture → ℕ → ℕ → ℕ → Answer
register_of c id n offset = unless (register_number c id n offset) (gives (number_at (bar_of c) (start_for c id n + offset) 8 ∷ []))
