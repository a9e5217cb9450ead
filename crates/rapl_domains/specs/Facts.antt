-- What is proved of domains, for the bytes of every instance. Each is to be read without its proof; the proofs stand
-- under the same names with underscores: proofs/DomainFact.antt, proofs/SameHeaders.antt.
-- Assumes nothing.
use Rattle.std.specs.Prelude.{ℕ, ◌+◌, ◌*◌, ◌^◌, ◌≤◌, ◌<◌, ◌≡◌, List, ◌↔◌, ◌≢◌, length}
use Rattle.words.specs.Answers.{gives}
use Rattle.fields.specs.Tables.{fields, with_fields}
use Rattle.rapl_domains.specs.Domains.{widths, header_of, header_in, values, domain_number, domain_of}

-- ---- the header

-- The header's numbers are the fields of the table of widths, and nothing of the register is lost: they give its 64 bits back.
pub record HeaderFact (x : ℕ) : Type 0 where
  pub table : values (header_of x) ≡ fields 0 widths x
  pub back : x < 2 ^ 64 → with_fields 0 widths 0 (values (header_of x)) ≡ x

-- ---- the lookup of a domain

-- 128 bytes at 128 × n, wholly inside the instance, and n at most 255
abbrev pub There : List ℕ → ℕ → Type 0
There s n = (n ≤ 255) × (n * 128 + 128 ≤ length s)

abbrev pub One : List ℕ → ℕ → Type 0
One s n = ((header_in s n).version ≡ 1) × ((header_in s n).size ≡ 1)

abbrev pub Sound : List ℕ → ℕ → Type 0
Sound s n = domain_number s n ≡ 0

-- Complete and first wins: each number exactly on its condition and none tested before it.
pub record DomainFact (s : List ℕ) (n : ℕ) : Type 0 where
  pub missing : (domain_number s n ≡ 12) ↔ (There s n → ⊥)
  pub unused : (domain_number s n ≡ 15) ↔ (There s n × ((header_in s n).kind ≡ 0))
  pub unsound : (domain_number s n ≡ 16) ↔ (There s n × ((header_in s n).kind ≢ 0) × (One s n → ⊥))
  pub sound : Sound s n ↔ (There s n × ((header_in s n).kind ≢ 0) × One s n)
  pub answer : (domain_of s n ≡ gives (values (header_in s n))) ↔ Sound s n

-- two instances of one length, with the same header at every place where a domain can start
abbrev pub SameHeaders : List ℕ → List ℕ → Type 0
SameHeaders s t = (length s ≡ length t) × ((n : ℕ) → header_in s n ≡ header_in t n)

-- The lookup hangs on the length and the headers alone: what else an instance holds does not change it.
abbrev pub HangsOnHeaders : List ℕ → List ℕ → Type 0
HangsOnHeaders s t = SameHeaders s t → (n : ℕ) → (domain_number s n ≡ domain_number t n) × (domain_of s n ≡ domain_of t n)
