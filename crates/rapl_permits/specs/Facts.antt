-- What is proved of the refusals of a write, for every header, number and content. To be read without its proof, which is in
-- proofs/PermitFact.antt.
-- Assumes nothing.
use Rattle.std.specs.Prelude.{ℕ, ◌+◌, ◌^◌, ◌≤◌, ◌<◌, ◌≡◌, ◌⊎◌, ◌↔◌}
use Rattle.fields.specs.Bits.{bit}
use Rattle.rapl_registers.specs.Facts.{Present}
use Rattle.rapl_permits.specs.Permits.{width_of, refusal_of}
use Rattle.rapl_domains.specs.declared.domains.Header.{Header}

-- limit 1 or limit 2
abbrev pub ALimit : ℕ → Type 0
ALimit limit = (limit ≡ 1) ⊎ (limit ≡ 2)

-- one of the four fields, and not TIME_WINDOW of limit 2 in a package domain
abbrev pub Writable : ℕ → ℕ → ℕ → Type 0
Writable kind limit which = (which ≤ 3) × ((which ≡ 1) × (limit ≡ 2) × (kind ≡ 2) → ⊥)

-- a limit whose register is absent
abbrev pub Absent : Header → ℕ → Type 0
Absent h limit = ALimit limit × (Present h.flags (limit + 1) → ⊥)

-- no limit, or a limit that is present, but not this field (presence is not tested for a number that is no limit's)
abbrev pub Shut : Header → ℕ → ℕ → Type 0
Shut h limit which = (ALimit limit → Present h.flags (limit + 1)) × (ALimit limit × Writable h.kind limit which → ⊥)

-- the field stands open to a write: all but the number and LOCK
pub record Open (h : Header) (limit which : ℕ) : Type 0 where
  pub a_limit_law : ALimit limit
  pub present : Present h.flags (limit + 1)
  pub writable : Writable h.kind limit which

-- bit 63 of the register's content is 1
abbrev pub Locked : ℕ → Type 0
Locked x = bit 63 x ≡ 1

-- Complete and first wins, in the order 26, 27, 17, 18: each number exactly on its condition and none tested before it, and none exactly
-- where the write is permitted.
pub record PermitFact (h : Header) (limit which value x : ℕ) : Type 0 where
  pub absent : (refusal_of h limit which value x ≡ 26) ↔ Absent h limit
  pub unwritable : (refusal_of h limit which value x ≡ 27) ↔ Shut h limit which
  pub wide : (refusal_of h limit which value x ≡ 17) ↔ (Open h limit which × (2 ^ width_of which ≤ value))
  pub locked : (refusal_of h limit which value x ≡ 18) ↔ (Open h limit which × (value < 2 ^ width_of which) × Locked x)
  pub permitted : (refusal_of h limit which value x ≡ 0) ↔ (Open h limit which × (value < 2 ^ width_of which) × (Locked x → ⊥))
