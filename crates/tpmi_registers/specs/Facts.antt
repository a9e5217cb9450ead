-- What is proved of registers in an instance, for every capture. To be read without its proof, which is in proofs/RegisterPlaceFact.antt.
-- Assumes nothing.
use Rattle.std.specs.Prelude.{ℕ, ◌+◌, ◌%◌, ◌≤◌, ◌≡◌, ◌↔◌, ◌≢◌}
use Rattle.capture.specs.Capture.{Capture}
use Rattle.tpmi_features.specs.Instances.{size_for, instance_number}
use Rattle.tpmi_registers.specs.Registers.{register_number}

-- Each number exactly on its condition and none tested before it.
pub record RegisterPlaceFact (c : Capture) (id n offset : ℕ) : Type 0 where
  pub handed_on : instance_number c id n ≢ 0 → register_number c id n offset ≡ instance_number c id n
  pub outside : (register_number c id n offset ≡ 14) ↔ ((instance_number c id n ≡ 0) × ((offset % 8 ≡ 0) × (offset + 8 ≤ size_for c id) → ⊥))
  pub found : (register_number c id n offset ≡ 0) ↔ ((instance_number c id n ≡ 0) × (offset % 8 ≡ 0) × (offset + 8 ≤ size_for c id))
