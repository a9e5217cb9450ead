-- What is proved of the table's location and of discovery, for every capture. Each is to be read without its proof; proofs/LocationFact.antt
-- and proofs/DiscoveryFact.antt have the proofs, under the same names with underscores.
-- Assumes nothing.
use Rattle.std.specs.Prelude.{ℕ, ◌+◌, ◌*◌, ◌≤◌, ◌<◌, ◌≡◌, ◌⊎◌, ◌↔◌, ◌≢◌, List, [], ◌∷◌, length}
use Rattle.words.specs.Answers.{refused, gives}
use Rattle.words.specs.Bytes.{number_at}
use Rattle.tpmi_walk.specs.Facts.{Ends}
use Rattle.tpmi_structure.specs.Structure.{vsec_at}
use Rattle.tpmi_banks.specs.Faults.{bank_in, fault_at}
use Rattle.tpmi_banks.specs.Facts.{Filled, Clean}
use Rattle.capture.specs.Capture.{Capture}
use Rattle.capture.specs.Places.{named}
use Rattle.tpmi_discovery.specs.Table.{location_number, location_of}
use Rattle.tpmi_discovery.specs.Discovery.{discovery_number, discovery_of}

-- a configuration space of 4,096 bytes and two BAR numbers of 0 to 5 that differ
pub record Shaped (c : Capture) : Type 0 where
  pub config : length c.config ≡ 4096
  pub lo : c.lo ≤ 5
  pub hi : c.hi ≤ 5
  pub differ : c.lo ≢ c.hi

abbrev pub Vendor : Capture → Type 0
Vendor c = number_at c.config 0 2 ≡ 0x8086

-- the walk takes the header at a, and tBIR there names one of the two BAR captures
abbrev pub bar_at : Capture → ℕ → List ℕ
bar_at c a = named (vsec_at c.config a).bir c.lo c.low c.hi c.high

abbrev pub Named : Capture → ℕ → Type 0
Named c a = ((vsec_at c.config a).bir ≡ c.lo) ⊎ ((vsec_at c.config a).bir ≡ c.hi)

-- a table of 1 or more entries ends inside it
abbrev pub Fits : Capture → ℕ → Type 0
Fits c a = (vsec_at c.config a).entries ≢ 0 → (vsec_at c.config a).offset + (vsec_at c.config a).entries * 8 ≤ length (bar_at c a)

-- a table stands in the capture: every rule that comes before its entries
pub record HasTable (c : Capture) : Type 0 where
  pub shaped : Shaped c
  pub vendor : Vendor c
  pub place : ℕ
  pub taken : Ends c.config (gives (place ∷ []))
  pub «named» : Named c place
  pub fits : Fits c place

-- how none can stand there, in the order in which that is tested, and the number that is given
pub data LacksTable (c : Capture) : ℕ → Type 0 where
  shape : (Shaped c → ⊥) → LacksTable c 1
  vendor : Shaped c → (Vendor c → ⊥) → LacksTable c 2
  walk : {n : ℕ} → Shaped c → Vendor c → Ends c.config (refused n) → LacksTable c n
  bir : {a : ℕ} → Shaped c → Vendor c → Ends c.config (gives (a ∷ [])) → (Named c a → ⊥) → LacksTable c 6
  table : {a : ℕ} → Shaped c → Vendor c → Ends c.config (gives (a ∷ [])) → Named c a → (Fits c a → ⊥) → LacksTable c 7

-- Located exactly, and refused exactly: 0 if and only if a table stands there, n if and only if it lacks one so. The table that is located
-- is the one that discovery gives, where it accepts.
pub record LocationFact (c : Capture) : Type 0 where
  pub located : (location_number c ≡ 0) ↔ HasTable c
  pub refused_by : (n : ℕ) → n ≢ 0 → (location_number c ≡ n) ↔ LacksTable c n
  pub same : discovery_number c ≡ 0 → location_of c ≡ discovery_of c

-- a capture whose tables keep document 01's rules: the table is there, and its entries that are not empty keep theirs
pub record Keeps (c : Capture) : Type 0 where
  pub has : HasTable c
  pub clean : (k : ℕ) → k < (vsec_at c.config has.place).entries → Filled (bank_in (bar_at c has.place) (vsec_at c.config has.place).offset k)
      → Clean (bar_at c has.place) (vsec_at c.config has.place).offset (vsec_at c.config has.place).entries k

-- how a capture can break them, in the order in which that is tested, and the number that is given
pub data Breaks (c : Capture) : ℕ → Type 0 where
  lacks : {n : ℕ} → LacksTable c n → Breaks c n
  -- the first faulty entry in table order, by its own smallest number (EntryFaults of the crate tpmi_banks says when it has which)
  entry : (h : HasTable c) {k m : ℕ} → k < (vsec_at c.config h.place).entries → m ≢ 0
      → fault_at (bar_at c h.place) (vsec_at c.config h.place).offset (vsec_at c.config h.place).entries k ≡ m
      → ((i : ℕ) → i < k → fault_at (bar_at c h.place) (vsec_at c.config h.place).offset (vsec_at c.config h.place).entries i ≡ 0) → Breaks c m

-- Accepted exactly, and refused exactly: 0 if and only if the capture keeps the rules, n if and only if it breaks them so.
pub record DiscoveryFact (c : Capture) : Type 0 where
  pub accepted : (discovery_number c ≡ 0) ↔ Keeps c
  pub refused_by : (n : ℕ) → n ≢ 0 → (discovery_number c ≡ n) ↔ Breaks c n
