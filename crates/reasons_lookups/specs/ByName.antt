-- The registers of the limit reasons over a capture (document 02, request 6): feature 12 (0xC), and of each of its instances the header,
-- the mailbox's interface, its data and the die level, numbers 0 to 3 in document 004's order, at offsets 0, 8, 16, 24. The instance's
-- lookup tests 1 to 13.
--   missing size r     17 where no register has the number, then 14 where its 8 bytes end past an instance of so many bytes
--   number_for c i r    the instance's, then these two
--   place_for c i r     or where register r stands: BAR number, start, 8 bytes, 1 piece
--   content_for c i r   or its content
-- Assumes nothing.
use Rattle.std.specs.Prelude.{ℕ, ◌+◌, ◌*◌, [], ◌∷◌, ltb}
use Rattle.words.specs.Answers.{Answer, gives, unless, first, earliest}
use Rattle.words.specs.Bytes.{number_at}
use Rattle.capture.specs.Capture.{Capture}
use Rattle.tpmi_discovery.specs.Table.{bir_of, bar_of}
use Rattle.tpmi_features.specs.Instances.{size_for, start_for, instance_number}

unfoldable pub missing : ℕ → ℕ → ℕ
missing size r = first ((ltb 3 r, 17) ∷ (ltb size (r * 8 + 8), 14) ∷ [])

unfoldable pub number_for : Capture → ℕ → ℕ → ℕ
number_for c i r = earliest (instance_number c 12 i ∷ missing (size_for c 12) r ∷ [])

unfoldable pub place_for : Capture → ℕ → ℕ → Answer
place_for c i r = unless (number_for c i r) (gives (bir_of c ∷ (start_for c 12 i + r * 8) ∷ 8 ∷ 1 ∷ []))

unfoldable pub content_for : Capture → ℕ → ℕ → Answer
content_for c i r = unless (number_for c i r) (gives (number_at (bar_of c) (start_for c 12 i + r * 8) 8 ∷ []))
