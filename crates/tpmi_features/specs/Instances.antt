-- Features and instances (document 01, "PFS and register places"; 000, "Discovery and Access"). A feature is a non-empty
-- entry and is named by its TPMI_ID; instance numbers run over all NumEntries places, valid or not.
--   bears, index_in       entry k is the feature with an identifier; the first such entry of a table, or n
--   bank_for c id         the bank of a feature;  size_for  the bytes of one of its instances
--   feature_number c id   discovery's, then 12;   feature_of   or the bank: BAR number, start, bytes of an instance, instances
--   start_for c id n      where instance n starts: table offset + CapOffset × 1,024 + n × EntrySize × 4
--   invalid_at s k        the 8 bytes at a place are all ones
--   instance_number       the feature's, then 12, 13;   instance_of   or the place of the instance
--   instance_part         the instance's bytes, none where it is refused
--   instance_or c id n a  the refusal of the instance's lookup, or what a says of the instance's bytes
-- Assumes nothing.
use Rattle.std.specs.Prelude.{ℕ, ◌+◌, ◌*◌, ◌-◌, ◌^◌, ◌<◌, Bool, cond, not, ◌&&◌, List, [], ◌∷◌, leb, eqb, take, drop}
use Rattle.words.specs.Answers.{Answer, gives, unless, first, earliest}
use Rattle.words.specs.Below.{least}
use Rattle.words.specs.Bytes.{number_at}
use Rattle.tpmi_banks.specs.Faults.{bank_in, empty_bank}
use Rattle.tpmi_banks.specs.declared.faults.Bank.{Bank}
use Rattle.capture.specs.declared.places.Place.{Place}
use Rattle.capture.specs.Capture.{Capture}
use Rattle.tpmi_discovery.specs.Table.{bir_of, bar_of, table_of, entries_of}
use Rattle.tpmi_discovery.specs.Discovery.{discovery_number}

abbrev pub bears : List ℕ → ℕ → ℕ → ℕ → Bool
bears s t id k = not (empty_bank (bank_in s t k)) && eqb (bank_in s t k).id id

unfoldable pub index_in : List ℕ → ℕ → ℕ → ℕ → ℕ
index_in s t n id = least (bears s t id) n 0

-- a table of n entries at t: 12 where no entry is the feature
unfoldable pub unlisted : List ℕ → ℕ → ℕ → ℕ → ℕ
unlisted s t n id = first ((leb n (index_in s t n id), 12) ∷ [])

-- the feature's bank in the BAR capture s with the number b
unfoldable pub feature_in : List ℕ → ℕ → ℕ → ℕ → ℕ → Answer
feature_in s b t n id =
    unless (unlisted s t n id)
    (gives
    (b
    ∷ (bank_in s t (index_in s t n id)).start
    ∷ (bank_in s t (index_in s t n id)).words * 4
    ∷ (bank_in s t (index_in s t n id)).instances
    ∷ []))

unfoldable pub bank_for : Capture → ℕ → Bank
bank_for c id = bank_in (bar_of c) (table_of c) (index_in (bar_of c) (table_of c) (entries_of c) id)

abbrev pub size_for : Capture → ℕ → ℕ
size_for c id = (bank_for c id).words * 4

unfoldable pub feature_number : Capture → ℕ → ℕ
feature_number c id = earliest (discovery_number c ∷ unlisted (bar_of c) (table_of c) (entries_of c) id ∷ [])

unfoldable pub feature_of : Capture → ℕ → Answer
feature_of c id = unless (feature_number c id) (gives (bir_of c ∷ (bank_for c id).start ∷ size_for c id ∷ (bank_for c id).instances ∷ []))

abbrev pub start_for : Capture → ℕ → ℕ → ℕ
start_for c id n = (bank_for c id).start + n * size_for c id

unfoldable pub invalid_at : List ℕ → ℕ → Bool
invalid_at s k = eqb (number_at s k 8) (2 ^ 64 - 1)

-- instance n of so many, of so many bytes each from a start
unfoldable pub unusable : List ℕ → ℕ → ℕ → ℕ → ℕ → ℕ
unusable s start size many n = first ((leb many n, 12) ∷ (invalid_at s (start + n * size), 13) ∷ [])

-- a bank, as a place, leaves room for all sums
pub record Roomy (p : Place) : Type 0 where
  pub start : p.start < 2 ^ 34
  pub size : p.size < 2 ^ 20
  pub count : p.count < 256

unfoldable pub instance_in : List ℕ → Place → ℕ → Answer
instance_in s p n = unless (unusable s p.start p.size p.count n) (gives (p.bir ∷ (p.start + n * p.size) ∷ p.size ∷ 1 ∷ []))

unfoldable pub instance_number : Capture → ℕ → ℕ → ℕ
instance_number c id n = earliest (feature_number c id ∷ unusable (bar_of c) (bank_for c id).start (size_for c id) (bank_for c id).instances n ∷ [])

unfoldable pub instance_of : Capture → ℕ → ℕ → Answer
instance_of c id n = unless (instance_number c id n) (gives (bir_of c ∷ start_for c id n ∷ size_for c id ∷ 1 ∷ []))

unfoldable pub instance_part : Capture → ℕ → ℕ → List ℕ
instance_part c id n = cond (eqb (instance_number c id n) 0) (take (size_for c id) (drop (start_for c id n) (bar_of c))) []

abbrev pub instance_or : Capture → ℕ → ℕ → (List ℕ → Answer) → Answer
instance_or c id n a = unless (instance_number c id n) (a (instance_part c id n))
