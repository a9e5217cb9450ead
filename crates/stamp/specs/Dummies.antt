-- The wrong meters that must fall (document 01, "What the stamp certifies"), each by a theorem: what the meter must do is stated of any
-- function in the place of ours, ours keeps it, and no such meter does. (Of the total, always 0 or the first rise only: crate
-- energy_account, specs/Dummies.)
--   AcceptsExactly number   discovery accepts a capture exactly if it keeps the rules
--   PermitsExactly number   the write of a field is permitted exactly if Permitted says so
--   StoresOf left           what a permitted write leaves in the BAR capture: the field stored, and no other bit changed
--   CountsOf count          the valid count of a feature that is there is the number of its accepted instances
--   ChainsOf chain          the length of a parent chain is k exactly if the chain has k steps
--   two_lines, family        worked captures: document 01's two lines, and two domains
--   DummiesFall             what is proved
-- Assumes nothing.
use Rattle.std.specs.Prelude.{ℕ, ◌+◌, ◌^◌, ◌<◌, ◌≡◌, ◌↔◌, ◌≢◌, List, [], ◌∷◌, ◌++◌, replicate}
use Rattle.words.specs.Answers.{Answer, gives}
use Rattle.words.specs.Bytes.{AllBytes}
use Rattle.fields.specs.Masks.{how_many}
use Rattle.capture.specs.Capture.{Capture, captured}
use Rattle.tpmi_discovery.specs.Table.{bar_of}
use Rattle.tpmi_discovery.specs.Discovery.{discovery_number}
use Rattle.tpmi_discovery.specs.Facts.{Keeps}
use Rattle.tpmi_features.specs.Instances.{bank_for, feature_number, instance_number, instance_part}
use Rattle.tpmi_counts.specs.Valid.{valid_count_of}
use Rattle.tpmi_counts.specs.Facts.{found}
use Rattle.rapl_domains.specs.Domains.{header_in}
use Rattle.rapl_domains.specs.Facts.{Sound}
use Rattle.rapl_registers.specs.Contents.{register_at}
use Rattle.rapl_lookups.specs.Lookups.{chain_for}
use Rattle.rapl_chains.specs.Facts.{IsChain}
use Rattle.rapl_permits.specs.Permits.{width_of}
use Rattle.rapl_permits.specs.Facts.{Open, Locked}
use Rattle.rapl_writes.specs.Write.{write_number, bar_left}
use Rattle.rapl_writes.specs.Facts.{StoredIn}
use Rattle.stamp.specs.Table.{config, rapl, capture, board}

-- ---- what a meter must do

abbrev pub AcceptsExactly : (Capture → ℕ) → Type 0
AcceptsExactly number = (c : Capture) → (number c ≡ 0) ↔ Keeps c

-- a write is asked of instance i, domain n, limit and field, with a number
abbrev pub OfAWrite : Type 0 → Type 0
OfAWrite A = (c : Capture) (i n limit which value : ℕ) → A

-- The instance is found, the domain sound, the field open to a write, the number within the field, and the register not locked.
pub record Permitted (c : Capture) (i n limit which value : ℕ) : Type 0 where
  pub instance_found : instance_number c 0 i ≡ 0
  pub sound : Sound (instance_part c 0 i) n
  pub opened : Open (header_in (instance_part c 0 i) n) limit which
  pub narrow : value < 2 ^ width_of which
  pub unlocked : Locked (register_at (instance_part c 0 i) n (limit + 1)) → ⊥

abbrev pub PermitsExactly : OfAWrite ℕ → Type 0
PermitsExactly number = (c : Capture) (i n limit which value : ℕ) → (number c i n limit which value ≡ 0) ↔ Permitted c i n limit which value

abbrev pub StoresOf : OfAWrite (List ℕ) → Type 0
StoresOf left = (c : Capture) (i n limit which value : ℕ) → AllBytes (bar_of c) → write_number c i n limit which value ≡ 0
    → StoredIn (left c i n limit which value) c i n limit which value

abbrev pub CountsOf : (Capture → ℕ → Answer) → Type 0
CountsOf count = (c : Capture) (id : ℕ) → feature_number c id ≡ 0 → count c id ≡ gives (how_many (found c id) (bank_for c id).instances ∷ [])

abbrev pub ChainsOf : (Capture → ℕ → ℕ → Answer) → Type 0
ChainsOf chain = (c : Capture) (i n k : ℕ) → instance_number c 0 i ≡ 0 → (chain c i n ≡ gives (k ∷ [])) ↔ IsChain (instance_part c 0 i) n k

-- ---- worked captures

-- document 01's two lines: RAPL's one instance at 6,144, and a second feature's at 10,240, which reads all ones
abbrev pub two_lines : Capture
two_lines = captured config 0 [] 1 (replicate 2048 0 ++ rapl 4 ++ 2 ∷ 1 ∷ 8 ∷ 0 ∷ 8 ∷ 0 ∷ 1 ∷ 0 ∷ replicate 8176 0 ++ replicate 32 0xFF)

-- a root and, after it, a second domain with this parent: version, type, SIZE, parent
abbrev pub family : ℕ → Capture
family parent = capture 4 (replicate 4080 0 ++ 1 ∷ 2 ∷ 1 ∷ 0 ∷ replicate 124 0 ++ 1 ∷ 3 ∷ 1 ∷ parent ∷ replicate 252 0)

-- ---- the dummies

pub record DummiesFall : Type 0 where
  -- one that refuses everything: some capture keeps the rules, and some write is permitted
  pub ours_accepts : AcceptsExactly discovery_number
  pub refuses_everything : (number : Capture → ℕ) → ((c : Capture) → number c ≢ 0) → AcceptsExactly number → ⊥
  pub ours_permits : PermitsExactly write_number
  pub refuses_every_write : (number : OfAWrite ℕ) → ((c : Capture) (i n limit which value : ℕ) → number c i n limit which value ≢ 0) → PermitsExactly number → ⊥
  -- one that writes no field: what is left of the board after PWR_LIM 1,000 of limit 1 is not what it was
  pub ours_stores : StoresOf bar_left
  pub writes_no_field : (left : OfAWrite (List ℕ)) → StoresOf left → left board 0 0 1 0 1000 ≢ bar_of board
  -- an invented valid count, even one that hangs on the number of instances: the bytes decide
  pub ours_counts : CountsOf valid_count_of
  pub invents_a_count : (count : Capture → ℕ → Answer) → CountsOf count
      → (f : ℕ → ℕ) → ((c : Capture) (id : ℕ) → feature_number c id ≡ 0 → count c id ≡ gives (f (bank_for c id).instances ∷ [])) → ⊥
  -- an invented chain length, even one that hangs on the numbers of the instance and the domain: the bytes decide
  pub ours_climbs : ChainsOf chain_for
  pub invents_a_length : (chain : Capture → ℕ → ℕ → Answer) → ChainsOf chain
      → (f : ℕ → ℕ → ℕ) → ((c : Capture) (i n k : ℕ) → instance_number c 0 i ≡ 0 → IsChain (instance_part c 0 i) n k → chain c i n ≡ gives (f i n ∷ [])) → ⊥
