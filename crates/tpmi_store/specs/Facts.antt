-- What is proved of a store into an instance, for every capture, every feature and any 8 bytes inside the instance. Each is to be read
-- without its proof; the proofs stand under the same names with underscores: proofs/StoreLeaves.antt, proofs/StoreLaws.antt
-- (PlacedStore), proofs/FieldStores.antt, proofs/AsBefore.antt.
-- Assumes nothing.
use Rattle.std.specs.Prelude.{ℕ, ◌+◌, ◌%◌, ◌^◌, ◌≤◌, ◌<◌, ◌≡◌, ◌⊎◌, ◌≢◌, List, [], ◌∷◌, length, get_or}
use Rattle.words.specs.Answers.{Answer, gives}
use Rattle.words.specs.Bytes.{AllBytes, number_at, stored}
use Rattle.fields.specs.Bits.{field, bit, with_field}
use Rattle.capture.specs.Capture.{Capture}
use Rattle.capture.specs.Told.{numbers}
use Rattle.capture.specs.declared.places.Place.{Place}
use Rattle.tpmi_discovery.specs.Table.{bir_of, bar_of, location_of}
use Rattle.tpmi_discovery.specs.Discovery.{discovery_of}
use Rattle.tpmi_features.specs.Instances.{size_for, feature_of, start_for, instance_number, instance_of, instance_part, instance_or}
use Rattle.tpmi_features.specs.Entries.{entry_for}
use Rattle.tpmi_registers.specs.Registers.{register_place_of, register_of}
use Rattle.tpmi_counts.specs.Valid.{valid_count_of}
use Rattle.tpmi_store.specs.Store.{low_with, high_with, stored_at, after_store}

-- 8 bytes wholly inside an instance that is found
pub record Within (c : Capture) (id n offset : ℕ) : Type 0 where
  pub found : instance_number c id n ≡ 0
  pub inside : offset + 8 ≤ size_for c id

-- The BAR capture that tBIR names holds the content there, and the other one is as it was; the place reads back; no other byte changes, nor
-- the length; the place lies inside the instance, and that inside the capture.
pub record StoreLeaves (c : Capture) (id n offset x : ℕ) : Type 0 where
  pub in_low_law : bir_of c ≡ c.lo → ((after_store c id n offset x).low ≡ stored c.low (stored_at c id n offset) 8 x) × ((after_store c id n offset x).high ≡ c.high)
  pub in_high_law : bir_of c ≢ c.lo → ((after_store c id n offset x).low ≡ c.low) × ((after_store c id n offset x).high ≡ stored c.high (stored_at c id n offset) 8 x)
  pub bar : bar_of (after_store c id n offset x) ≡ stored (bar_of c) (stored_at c id n offset) 8 x
  pub content : x < 2 ^ 64 → number_at (bar_of (after_store c id n offset x)) (stored_at c id n offset) 8 ≡ x
  pub bytes : (k : ℕ) → (k < stored_at c id n offset) ⊎ (stored_at c id n offset + 8 ≤ k) → get_or (bar_of (after_store c id n offset x)) k 0 ≡ get_or (bar_of c) k 0
  pub size : length (bar_of (after_store c id n offset x)) ≡ length (bar_of c)
  pub inside : stored_at c id n offset + 8 ≤ start_for c id n + size_for c id
  pub whole : start_for c id n + size_for c id ≤ length (bar_of c)

-- The call: of the place that the instance's lookup gives, `store` leaves this capture.
abbrev pub PlacedStore : Capture → ℕ → ℕ → ℕ → ℕ → Place → Type 0
PlacedStore c id n offset x p = instance_of c id n ≡ gives (numbers p) → offset + 8 ≤ size_for c id
    → (low_with p offset x c.lo c.low ≡ (after_store c id n offset x).low) × (high_with p offset x c.lo c.hi c.high ≡ (after_store c id n offset x).high)

-- ---- one field written

-- What the write of v to the field of w bits from bit p on must leave, in the register at an offset of an instance: it stores its number and
-- changes nothing else. Of any list `bar` that the BAR capture may hold afterwards: the field reads back as the number; every other bit of the
-- register, and every other byte of the capture, is as it was; the register lies inside the instance.
pub record FieldStoredIn (bar : List ℕ) (c : Capture) (id n offset p w v : ℕ) : Type 0 where
  pub reads : field p w (number_at bar (stored_at c id n offset) 8) ≡ v
  pub bits : (k : ℕ) → (k < p) ⊎ (p + w ≤ k) → bit k (number_at bar (stored_at c id n offset) 8) ≡ bit k (number_at (bar_of c) (stored_at c id n offset) 8)
  pub bytes : (k : ℕ) → (k < stored_at c id n offset) ⊎ (stored_at c id n offset + 8 ≤ k) → get_or bar k 0 ≡ get_or (bar_of c) k 0
  pub size : length bar ≡ length (bar_of c)
  pub inside : stored_at c id n offset + 8 ≤ start_for c id n + size_for c id
  pub whole : start_for c id n + size_for c id ≤ length (bar_of c)

-- A store of what the register holds with the field replaced leaves that, where the field lies in 64 bits and the number fits it. (That the
-- BAR capture is a list of bytes is what its type says.)
abbrev pub FieldStores : Capture → ℕ → ℕ → ℕ → ℕ → ℕ → ℕ → Type 0
FieldStores c id n offset p w v = Within c id n offset → AllBytes (bar_of c) → p + w ≤ 64 → v < 2 ^ w
    → FieldStoredIn (bar_of (after_store c id n offset (with_field p w (number_at (instance_part c id n) offset 8) v))) c id n offset p w v

-- ---- every lookup that does not read these bytes

-- instance n' of feature id' is another one
abbrev pub Other : ℕ → ℕ → ℕ → ℕ → Type 0
Other id n id' n' = (id ≡ id') × (n ≡ n') → ⊥

-- the first 8 bytes of that instance, which say whether it is valid, are not among the stored ones
abbrev pub Untouched : ℕ → ℕ → ℕ → ℕ → ℕ → Type 0
Untouched id n offset id' n' = (8 ≤ offset) ⊎ Other id n id' n'

-- nor are the 8 bytes at the offset o of it
abbrev pub Beside : ℕ → ℕ → ℕ → ℕ → ℕ → ℕ → Type 0
Beside id n offset id' n' o = Other id n id' n' ⊎ ((o + 8 ≤ offset) ⊎ (offset + 8 ≤ o))

-- Where the table stands, whether the capture is accepted, its entries and its features: as before, whatever was stored. An instance, a
-- register, the bytes of an instance and the valid count: as before where the stored bytes are not read. So is whatever is asked of an
-- instance's bytes (`asked`: domains, clusters), if of the instance stored into it is answered as before. That instance holds the content at
-- its offset, and a register there is read as it was stored.
pub record AsBefore (c : Capture) (id n offset x : ℕ) : Type 0 where
  pub location : location_of (after_store c id n offset x) ≡ location_of c
  pub discovery : discovery_of (after_store c id n offset x) ≡ discovery_of c
  pub entry : (k : ℕ) → entry_for (after_store c id n offset x) k ≡ entry_for c k
  pub feature : (id' : ℕ) → feature_of (after_store c id n offset x) id' ≡ feature_of c id'
  pub instance_number_law : (id' n' : ℕ) → Untouched id n offset id' n' → instance_number (after_store c id n offset x) id' n' ≡ instance_number c id' n'
  pub instance : (id' n' : ℕ) → Untouched id n offset id' n' → instance_of (after_store c id n offset x) id' n' ≡ instance_of c id' n'
  pub part : (id' n' : ℕ) → Other id n id' n' → instance_part (after_store c id n offset x) id' n' ≡ instance_part c id' n'
  pub register_place : (id' n' o : ℕ) → Untouched id n offset id' n' → register_place_of (after_store c id n offset x) id' n' o ≡ register_place_of c id' n' o
  pub register : (id' n' o : ℕ) → Untouched id n offset id' n' → Beside id n offset id' n' o → register_of (after_store c id n offset x) id' n' o ≡ register_of c id' n' o
  pub asked : (id' n' : ℕ) (a : List ℕ → Answer) → Untouched id n offset id' n'
      → ((id ≡ id') × (n ≡ n') → a (instance_part (after_store c id n offset x) id n) ≡ a (instance_part c id n))
      → instance_or (after_store c id n offset x) id' n' a ≡ instance_or c id' n' a
  pub count : (id' : ℕ) → (8 ≤ offset) ⊎ (id ≢ id') → valid_count_of (after_store c id n offset x) id' ≡ valid_count_of c id'
  pub own_part : 8 ≤ offset → instance_part (after_store c id n offset x) id n ≡ stored (instance_part c id n) offset 8 x
  pub read_back : 8 ≤ offset → offset % 8 ≡ 0 → x < 2 ^ 64 → register_of (after_store c id n offset x) id n offset ≡ gives (x ∷ [])

-- Both, of 8 bytes inside an instance that is found.
abbrev pub Stores : Capture → ℕ → ℕ → ℕ → ℕ → Type 0
Stores c id n offset x = Within c id n offset → StoreLeaves c id n offset x × AsBefore c id n offset x
