-- The worked captures, each computed: one that discovery accepts, a write that is permitted, document 01's two lines, two domains.
-- Assumes nothing.
use Prim.Native.Nat.{ℕ, zero, suc, ◌-◌, ◌^◌}
use mathlib.Core.Path.{◌≡◌, refl}
use mathlib.Core.Bool.{Bool, true, ◌&&◌}
use mathlib.Core.List.{List, [], ◌∷◌}
use native.Mathlib.Omega.{arith}
use borrow.Author.Tests.{ltb-true}
use lib.Dec.{ltb}
use Rattle.words.specs.Answers.{Answer, gives, first, or_else, earliest}
use Rattle.words.specs.Below.{any_below, first_below, least}
use Rattle.words.specs.Bytes.{AllBytes, number_at, put}
use Rattle.words.proofs.TestLaws.{and_both}
use Rattle.fields.specs.Bits.{field}
use Rattle.fields.specs.Masks.{how_many}
use Rattle.tpmi_structure.specs.Structure.{vsec_of, vsec_at, fixed_wrong}
use Rattle.tpmi_walk.specs.Walk.{identifier_at, next_at, vsec_id_at, followed, taken_at, header_at, walk_from, empty_list, walk_of}
use Rattle.tpmi_entries.specs.Entry.{entry_of, entry_at}
use Rattle.tpmi_banks.specs.Faults.{bank_of, bank_in, empty_bank, repeats, meets, fault_at, faults_of}
use Rattle.capture.specs.Places.{named}
use Rattle.tpmi_discovery.specs.Table.{structure_of, bar_of, misshapen, before_walk, bir_number, table_number, location_number}
use Rattle.tpmi_discovery.specs.Discovery.{discovery_number}
use Rattle.tpmi_features.specs.Instances.{index_in, unlisted, bank_for, size_for, feature_number, invalid_at, unusable, instance_number, instance_part}
use Rattle.tpmi_counts.specs.Facts.{found}
use Rattle.tpmi_store.specs.Store.{in_low, in_high, after_store}
use Rattle.rapl_domains.specs.Domains.{header_of, header_in, unused, wrong, domain_number, missing, unsound}
use Rattle.rapl_registers.specs.Contents.{present, register_at}
use Rattle.rapl_chains.specs.Chains.{step_at, climb_from, chain_of}
use Rattle.rapl_permits.specs.Permits.{lowest_of, width_of, a_limit, unwritable, refusal_of}
use Rattle.rapl_writes.specs.Next.{next_content, next_number, next_of, next_for}
use Rattle.rapl_writes.specs.Write.{write_number, limit_place}
use Rattle.stamp.specs.Table.{blank, board}
use Rattle.stamp.specs.Dummies.{two_lines, family}

pub blank_accepted : discovery_number (blank 4 6528) ≡ 0
unfolding first or_else earliest any_below first_below number_at field vsec_of vsec_at fixed_wrong identifier_at next_at vsec_id_at followed taken_at header_at walk_from empty_list walk_of entry_of entry_at bank_of bank_in empty_bank repeats meets fault_at faults_of structure_of named bar_of misshapen before_walk bir_number table_number location_number discovery_number
blank_accepted = refl

pub board_permitted : write_number board 0 0 1 0 1000 ≡ 0
unfolding first or_else earliest any_below first_below least number_at field vsec_of vsec_at fixed_wrong identifier_at next_at vsec_id_at followed taken_at header_at walk_from empty_list walk_of entry_of entry_at bank_of bank_in empty_bank repeats meets fault_at faults_of structure_of named bar_of misshapen before_walk bir_number table_number location_number discovery_number index_in unlisted bank_for feature_number invalid_at unusable instance_number instance_part header_of header_in unused wrong missing unsound domain_number present register_at lowest_of width_of a_limit unwritable refusal_of next_content next_number next_of next_for write_number
board_permitted = refl

pub board_zero : field (lowest_of 0) (width_of 0) (number_at (bar_of board) (limit_place board 0 0 1) 8) ≡ 0
unfolding first least number_at field vsec_of vsec_at fixed_wrong identifier_at next_at vsec_id_at followed taken_at header_at walk_from empty_list walk_of entry_of entry_at bank_of bank_in empty_bank structure_of named bar_of index_in bank_for lowest_of width_of
board_zero = refl

pub board_found : (instance_number board 0 0 ≡ 0) × (size_for board 0 ≡ 384)
unfolding first or_else earliest any_below first_below least number_at field vsec_of vsec_at fixed_wrong identifier_at next_at vsec_id_at followed taken_at header_at walk_from empty_list walk_of entry_of entry_at bank_of bank_in empty_bank repeats meets fault_at faults_of structure_of named bar_of misshapen before_walk bir_number table_number location_number discovery_number index_in unlisted bank_for feature_number invalid_at unusable instance_number
board_found = (refl, refl)

pub board_invalid : instance_number (after_store board 0 0 0 (2 ^ 64 - 1)) 0 0 ≡ 13
unfolding first or_else earliest any_below first_below least number_at field vsec_of vsec_at fixed_wrong identifier_at next_at vsec_id_at followed taken_at header_at walk_from empty_list walk_of entry_of entry_at bank_of bank_in empty_bank repeats meets fault_at faults_of structure_of named bar_of misshapen before_walk bir_number table_number location_number discovery_number index_in unlisted bank_for feature_number invalid_at unusable instance_number put in_low in_high
board_invalid = refl

abbrev pub all_bytes : List ℕ → Bool
all_bytes [] = true
all_bytes (x ∷ xs) = ltb x 256 && all_bytes xs

pub bytes_all : (xs : List ℕ) → all_bytes xs ≡ true → AllBytes xs
bytes_all [] e k = omega arith
bytes_all (x ∷ xs) e zero = ltb-true x 256 (and_both (ltb x 256) (all_bytes xs) e).0
bytes_all (x ∷ xs) e (suc k) = bytes_all xs (and_both (ltb x 256) (all_bytes xs) e).1 k

board_tested : all_bytes (bar_of board) ≡ true
unfolding first number_at field vsec_of vsec_at fixed_wrong identifier_at next_at vsec_id_at followed taken_at header_at walk_from empty_list walk_of structure_of named bar_of
board_tested = refl

pub board_bytes : AllBytes (bar_of board)
board_bytes = bytes_all (bar_of board) board_tested

-- the two features of document 01's two lines, each of one instance: what is counted
abbrev pub counted : ℕ → List ℕ
counted id = feature_number two_lines id ∷ (bank_for two_lines id).instances ∷ how_many (found two_lines id) (bank_for two_lines id).instances ∷ []

pub two_counted : (counted 0 ≡ 0 ∷ 1 ∷ 1 ∷ []) × (counted 2 ≡ 0 ∷ 1 ∷ 0 ∷ [])
unfolding first or_else earliest any_below first_below least number_at field vsec_of vsec_at fixed_wrong identifier_at next_at vsec_id_at followed taken_at header_at walk_from empty_list walk_of entry_of entry_at bank_of bank_in empty_bank repeats meets fault_at faults_of structure_of named bar_of misshapen before_walk bir_number table_number location_number discovery_number index_in unlisted bank_for feature_number invalid_at unusable instance_number how_many
two_counted = (refl, refl)

-- the second domain is a root, or one step below one
abbrev pub climbed : ℕ → ℕ × Answer
climbed parent = (instance_number (family parent) 0 0, chain_of (instance_part (family parent) 0 0) 1)

pub two_climbed : (climbed 1 ≡ (0, gives (0 ∷ []))) × (climbed 0 ≡ (0, gives (1 ∷ [])))
unfolding first or_else earliest any_below first_below least number_at field vsec_of vsec_at fixed_wrong identifier_at next_at vsec_id_at followed taken_at header_at walk_from empty_list walk_of entry_of entry_at bank_of bank_in empty_bank repeats meets fault_at faults_of structure_of named bar_of misshapen before_walk bir_number table_number location_number discovery_number index_in unlisted bank_for feature_number invalid_at unusable instance_number instance_part header_of header_in unused wrong missing unsound domain_number step_at climb_from chain_of
two_climbed = (refl, refl)
