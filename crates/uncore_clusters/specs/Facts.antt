-- What is proved of clusters and of the places of their registers, for the bytes of every instance. Each is to be read without its proof,
-- which stands in proofs/ClustersFact.antt, proofs/PlaceFact.antt and proofs/HangsOnHead.antt under the same name with underscores.
-- Assumes nothing.
use Rattle.std.specs.Prelude.{ℕ, ◌+◌, ◌*◌, ◌≤◌, ◌<◌, ◌≡◌, List, [], ◌∷◌, ◌⊎◌, ◌↔◌, length, get_or}
use Rattle.words.specs.Answers.{refused, gives}
use Rattle.words.specs.Bytes.{AllBytes, number_at}
use Rattle.fields.specs.Masks.{how_many, is_set}
use Rattle.uncore_registers.specs.Header.{header_of}
use Rattle.uncore_registers.specs.Offsets.{offsets_of, values}
use Rattle.uncore_clusters.specs.Clusters.{clusters_in, fabric_of, start_in, place_of, place_number, place_in, content_in}

-- ---- clusters

-- As many clusters as the mask's eight bits have ones; so at most eight.
pub record ClustersFact (s : List ℕ) : Type 0 where
  pub ones : clusters_in s ≡ how_many (is_set (header_of (number_at s 0 8)).mask) 8
  pub most : clusters_in s ≤ 8

-- The global fabric number: 17 exactly for a die above 255 or a cluster that is not there, else exactly die × clusters + n. Of dies with as
-- many clusters each no two clusters bear one number.
pub record FabricFact (s : List ℕ) (die n : ℕ) : Type 0 where
  pub seventeen : (fabric_of s die n ≡ refused 17) ↔ ((255 < die) ⊎ (clusters_in s ≤ n))
  pub number : (g : ℕ) → (fabric_of s die n ≡ gives (g ∷ [])) ↔ ((die ≤ 255) × (n < clusters_in s) × (die * clusters_in s + n ≡ g))
  pub once : (t : List ℕ) (die' n' g : ℕ) → clusters_in t ≡ clusters_in s → fabric_of s die n ≡ gives (g ∷ []) → fabric_of t die' n' ≡ gives (g ∷ []) → (die ≡ die') × (n ≡ n')

-- Byte n of the offset register is local cluster n's, in eights of bytes: of the register as a value, and of the instance's bytes.
pub record OffsetFact (s : List ℕ) (n : ℕ) : Type 0 where
  pub named : n < 8 → start_in s n ≡ get_or (values (offsets_of (number_at s 8 8))) n 0 * 8
  pub byte : AllBytes s → n < 8 → start_in s n ≡ get_or s (8 + n) 0 * 8

-- ---- registers

-- no such register, no such die, or a cluster's register and no such cluster
abbrev pub Unnamed : List ℕ → ℕ → ℕ → ℕ → Type 0
Unnamed s die n r = (5 < r) ⊎ ((255 < die) ⊎ ((2 ≤ r) × (clusters_in s ≤ n)))

-- the register's 8 bytes lie inside the instance, and so does the offset register where it says where they stand
abbrev pub Inside : List ℕ → ℕ → ℕ → Type 0
Inside s n r = (2 ≤ r → 16 ≤ length s) × (place_of s n r + 8 ≤ length s)

-- Complete and first wins: 17, then 14, each exactly on its condition, else exactly the place, or the content.
pub record PlaceFact (s : List ℕ) (die n r : ℕ) : Type 0 where
  pub seventeen : (place_in s die n r ≡ refused 17) ↔ Unnamed s die n r
  pub fourteen : (place_in s die n r ≡ refused 14) ↔ ((Unnamed s die n r → ⊥) × (Inside s n r → ⊥))
  pub place : (at : ℕ) → (place_in s die n r ≡ gives (at ∷ [])) ↔ ((Unnamed s die n r → ⊥) × Inside s n r × (place_of s n r ≡ at))
  pub content : (x : ℕ) → (content_in s die n r ≡ gives (x ∷ [])) ↔ ((Unnamed s die n r → ⊥) × Inside s n r × (number_at s (place_of s n r) 8 ≡ x))
  pub same_refusal : (m : ℕ) → (content_in s die n r ≡ refused m) ↔ (place_in s die n r ≡ refused m)

-- Where each stands: header and offsets at the instance's start, and four registers in a row from the cluster's start on.
pub record StandsFact (s : List ℕ) (n : ℕ) : Type 0 where
  pub header : place_of s n 0 ≡ 0
  pub offsets : place_of s n 1 ≡ 8
  pub status : place_of s n 2 ≡ start_in s n
  pub control : place_of s n 3 ≡ start_in s n + 8
  pub advanced1 : place_of s n 4 ≡ start_in s n + 16
  pub advanced2 : place_of s n 5 ≡ start_in s n + 24

-- some byte lies in the 8 from a on and in the 8 from b on
abbrev pub SharesAByte : ℕ → ℕ → Type 0
SharesAByte a b = (k : ℕ) × (a ≤ k) × (k < a + 8) × (b ≤ k) × (k < b + 8)

-- Registers of two clusters, or of one, share a byte only where their offsets say so, and then all eight. (No rule forbids it.)
abbrev pub SharedFact : List ℕ → ℕ → ℕ → ℕ → ℕ → Type 0
SharedFact s n r m q = 2 ≤ r → 2 ≤ q
    → (SharesAByte (place_of s n r) (place_of s m q) ↔ (start_in s n + r * 8 ≡ start_in s m + q * 8))
    × (SharesAByte (place_of s n r) (place_of s m q) → place_of s n r ≡ place_of s m q)

-- ---- what the lookups hang on

-- as long, with the same header and the same offset register
pub record SameHead (s t : List ℕ) : Type 0 where
  pub size : length s ≡ length t
  pub header : number_at s 0 8 ≡ number_at t 0 8
  pub offsets : number_at s 8 8 ≡ number_at t 8 8

-- How many clusters there are hangs on the header alone; where a register stands, and whether it is refused, on the length, the header and the
-- offset register.
pub record HangsOnHead (s t : List ℕ) : Type 0 where
  pub clusters : number_at s 0 8 ≡ number_at t 0 8 → clusters_in s ≡ clusters_in t
  pub fabric : (die n : ℕ) → number_at s 0 8 ≡ number_at t 0 8 → fabric_of s die n ≡ fabric_of t die n
  pub place : SameHead s t → (n r : ℕ) → place_of s n r ≡ place_of t n r
  pub number : SameHead s t → (die n r : ℕ) → place_number s die n r ≡ place_number t die n r
