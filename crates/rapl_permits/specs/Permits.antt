-- What refuses a write of one field of limit 1 or 2 (document 01, "RAPL domains" and "Refusal table": 26, 27, 17, 18, in this order). The
-- fields by their numbers: 0 PWR_LIM, 1 TIME_WINDOW, 2 PWR_LIM_EN, 3 LOCK. Limit l stands in register l + 1.
--   span_of which          a field's lowest bit, its bits, and the first number too wide for it
--   a_limit limit          the limit number is 1 or 2
--   unwritable            a field that is none of the four, or TIME_WINDOW of limit 2 in a package domain (type 2)
--   tests, refusal_of      26, 27, 17, 18 in this order; 26 is not tested for a number that is no limit's
-- Assumes nothing.
use Rattle.std.specs.Prelude.{ℕ, ◌+◌, ◌^◌, Bool, not, ◌&&◌, ◌||◌, List, [], ◌∷◌, ltb, leb, eqb, get_or}
use Rattle.words.specs.Answers.{first}
use Rattle.fields.specs.Bits.{field}
use Rattle.rapl_registers.specs.Contents.{present}
use Rattle.rapl_domains.specs.declared.domains.Header.{Header}
use Rattle.rapl_permits.specs.declared.permits.Span.{Span}

-- ---- the fields

unfoldable pub lowest_of : ℕ → ℕ
lowest_of which = get_or (0 ∷ 18 ∷ 62 ∷ 63 ∷ []) which 0

unfoldable pub width_of : ℕ → ℕ
width_of which = get_or (18 ∷ 7 ∷ 1 ∷ 1 ∷ []) which 0

abbrev pub span_of : ℕ → Span
span_of which = record { at = lowest_of which; width = width_of which; room = 2 ^ width_of which }

-- ---- what refuses a write

unfoldable pub a_limit : ℕ → Bool
a_limit limit = eqb limit 1 || eqb limit 2

unfoldable pub unwritable : ℕ → ℕ → ℕ → Bool
unwritable kind limit which = ltb 3 which || (eqb which 1 && (eqb limit 2 && eqb kind 2))

-- of a domain with this header, whose register for the limit holds x
abbrev pub tests : Header → ℕ → ℕ → ℕ → ℕ → List (Bool × ℕ)
tests h limit which value x =
    (a_limit limit && not (present h.flags (limit + 1)), 26)
    ∷ (not (a_limit limit) || unwritable h.kind limit which, 27)
    ∷ (leb (2 ^ width_of which) value, 17)
    ∷ (eqb (field 63 1 x) 1, 18)
    ∷ []

unfoldable pub refusal_of : Header → ℕ → ℕ → ℕ → ℕ → ℕ
refusal_of h limit which value x = first (tests h limit which value x)
