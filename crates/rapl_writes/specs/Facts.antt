-- What is proved of the write of one field, for every number, instance and capture. Each is to be read without its proof; the proofs stand
-- under the same names with underscores: proofs/NextFact.antt, proofs/WriteFact.antt, proofs/ReadBack.antt.
-- Assumes nothing.
use Rattle.std.specs.Prelude.{ℕ, ◌+◌, ◌^◌, ◌≤◌, ◌<◌, ◌≡◌, List, [], ◌∷◌, ◌⊎◌, ◌↔◌, ◌≢◌, length, get_or}
use Rattle.words.specs.Answers.{refused, gives}
use Rattle.words.specs.Bytes.{AllBytes, number_at}
use Rattle.fields.specs.Bits.{field, bit}
use Rattle.capture.specs.Capture.{Capture}
use Rattle.tpmi_discovery.specs.Table.{bar_of}
use Rattle.tpmi_features.specs.Instances.{start_for, size_for, instance_part}
use Rattle.tpmi_store.specs.Store.{after_store}
use Rattle.tpmi_store.specs.Facts.{Within}
use Rattle.rapl_domains.specs.Domains.{header_in, domain_number}
use Rattle.rapl_domains.specs.Facts.{Sound}
use Rattle.rapl_lookups.specs.Lookups.{domain_for, content_for, chain_for}
use Rattle.rapl_registers.specs.Contents.{register_place, register_at}
use Rattle.rapl_permits.specs.Permits.{lowest_of, width_of}
use Rattle.rapl_writes.specs.Next.{next_content, next_of, next_for}
use Rattle.rapl_writes.specs.Write.{write_number, limit_place, left, bar_left}
use Rattle.rapl_permits.specs.Facts.{Absent, Shut, Open, Locked}

-- ---- what the register holds next

-- Complete and first wins, in the order 26, 27, 17, 18 after the domain's lookup: each number exactly on its condition and none tested before
-- it, and the next content exactly where none is. (Absent, Shut, Open, Locked: crate rapl_permits, specs/Facts.)
pub record NextFact (s : List ℕ) (n limit which value : ℕ) : Type 0 where
  pub handed_on : domain_number s n ≢ 0 → next_of s n limit which value ≡ refused (domain_number s n)
  pub absent : (next_of s n limit which value ≡ refused 26) ↔ (Sound s n × Absent (header_in s n) limit)
  pub unwritable : (next_of s n limit which value ≡ refused 27) ↔ (Sound s n × Shut (header_in s n) limit which)
  pub wide : (next_of s n limit which value ≡ refused 17) ↔ (Sound s n × (Open (header_in s n) limit which × (2 ^ width_of which ≤ value)))
  pub locked : (next_of s n limit which value ≡ refused 18)
      ↔ (Sound s n × (Open (header_in s n) limit which × (value < 2 ^ width_of which) × Locked (register_at s n (limit + 1))))
  pub content : (y : ℕ) → (next_of s n limit which value ≡ gives (y ∷ []))
      ↔ (Sound s n
      × (Open (header_in s n) limit which × (value < 2 ^ width_of which) × (Locked (register_at s n (limit + 1)) → ⊥))
      × (next_content s n limit which value ≡ y))

-- ---- the write

-- A refused write leaves the capture as it was. A permitted one is the one store of the next content, in 8 bytes that lie inside the
-- instance: what both BAR captures then hold, that the place reads back, that no other byte changes and that every lookup which does not
-- read these bytes answers as before is said of every such store (`Stores` of the crate tpmi_store). The answer is that of the next content.
pub record CapturesFact (c : Capture) (i n limit which value : ℕ) : Type 0 where
  pub refused_kept : write_number c i n limit which value ≢ 0 → left c i n limit which value ≡ c
  pub permitted_stored : write_number c i n limit which value ≡ 0
      → left c i n limit which value ≡ after_store c 0 i (register_place n (limit + 1)) (next_content (instance_part c 0 i) n limit which value)
  pub within : write_number c i n limit which value ≡ 0 → Within c 0 i (register_place n (limit + 1))
  pub same_answer : (write_number c i n limit which value ≡ 0) ↔ ((y : ℕ) × (next_for c i n limit which value ≡ gives (y ∷ [])))
  pub same_number : (m : ℕ) → m ≢ 0 → (write_number c i n limit which value ≡ m) ↔ (next_for c i n limit which value ≡ refused m)

-- What a permitted write must leave: it stores its number and changes nothing else. Of any list `bar` that the BAR capture may hold
-- afterwards: the field reads back as the number; every other bit of the register, and every other byte of the capture, is as it was; the
-- register lies inside the instance.
pub record StoredIn (bar : List ℕ) (c : Capture) (i n limit which value : ℕ) : Type 0 where
  pub reads : field (lowest_of which) (width_of which) (number_at bar (limit_place c i n limit) 8) ≡ value
  pub bits : (k : ℕ) → (k < lowest_of which) ⊎ (lowest_of which + width_of which ≤ k)
      → bit k (number_at bar (limit_place c i n limit) 8) ≡ bit k (number_at (bar_of c) (limit_place c i n limit) 8)
  pub bytes : (k : ℕ) → (k < limit_place c i n limit) ⊎ (limit_place c i n limit + 8 ≤ k) → get_or bar k 0 ≡ get_or (bar_of c) k 0
  pub size : length bar ≡ length (bar_of c)
  pub inside : limit_place c i n limit + 8 ≤ start_for c 0 i + size_for c 0
  pub whole : start_for c 0 i + size_for c 0 ≤ length (bar_of c)

-- The same of what our write leaves.
abbrev pub Stored : Capture → ℕ → ℕ → ℕ → ℕ → ℕ → Type 0
Stored c i n limit which value = StoredIn (bar_left c i n limit which value) c i n limit which value

-- (That the BAR capture is a list of bytes is what its type says.)
abbrev pub WriteFact : Capture → ℕ → ℕ → ℕ → ℕ → ℕ → Type 0
WriteFact c i n limit which value = AllBytes (bar_of c) → write_number c i n limit which value ≡ 0 → Stored c i n limit which value

-- Read back by the meter's own calls, in the capture that a permitted write leaves: the limit's register is read as the next content, and
-- every other lookup answers as before: every domain, every other register of a domain, every chain.
pub record ReadsBack (c : Capture) (i n limit which value : ℕ) : Type 0 where
  pub content : content_for (left c i n limit which value) i n (limit + 1) ≡ gives (next_content (instance_part c 0 i) n limit which value ∷ [])
  pub domain : (i' n' : ℕ) → domain_for (left c i n limit which value) i' n' ≡ domain_for c i' n'
  pub register : (i' n' r : ℕ) → ((i ≡ i') × (n ≡ n') × (limit + 1 ≡ r) → ⊥) → content_for (left c i n limit which value) i' n' r ≡ content_for c i' n' r
  pub chain : (i' n' : ℕ) → chain_for (left c i n limit which value) i' n' ≡ chain_for c i' n'

abbrev pub ReadBack : Capture → ℕ → ℕ → ℕ → ℕ → ℕ → Type 0
ReadBack c i n limit which value = AllBytes (bar_of c) → write_number c i n limit which value ≡ 0 → ReadsBack c i n limit which value
