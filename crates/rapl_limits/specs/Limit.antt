-- Limits 1 and 2 of a domain, registers 2 and 3, which have one layout (document 01, "RAPL domains"; document 001, "PL1, PL2 (idx 2,3)").
-- Reserved bits are kept.
--   widths        the register's fields from bit 0 up, the reserved one too
--   limit_of x     the limit that a register's content says
--   values l      its numbers in the order of the table
--   written_of l   what writing it answers: 17, or the content that says it
-- Assumes nothing.
use Rattle.std.specs.Prelude.{ℕ, List, [], ◌∷◌}
use Rattle.words.specs.Answers.{Answer}
use Rattle.fields.specs.Bits.{field}
use Rattle.fields.specs.Tables.{written_word}
use Rattle.rapl_limits.specs.declared.limit.Limit.{Limit}

-- PWR_LIM, TIME_WINDOW, reserved 61:25, PWR_LIM_EN, LOCK
abbrev pub widths : List ℕ
widths = 18 ∷ 7 ∷ 37 ∷ 1 ∷ 1 ∷ []

unfoldable pub limit_of : ℕ → Limit
limit_of x = record { power = field 0 18 x; window = field 18 7 x; reserved25 = field 25 37 x; enable = field 62 1 x; lock = field 63 1 x }

abbrev pub values : Limit → List ℕ
values l = l.power ∷ l.window ∷ l.reserved25 ∷ l.enable ∷ l.lock ∷ []

abbrev pub written_of : Limit → Answer
written_of l = written_word widths (values l)
