-- The theorem of Facts.antt on the store, whole. Assumes nothing.
use Prim.Native.Nat.{ℕ}
use Rattle.capture.specs.Capture.{Capture}
use Rattle.tpmi_store.specs.Facts.{Stores}
use Rattle.tpmi_store.proofs.StoreLeaves.{store_leaves}
use Rattle.tpmi_store.proofs.AsBefore.{as_before}

pub stores : (c : Capture) (id n offset x : ℕ) → Stores c id n offset x
stores c id n offset x w = (store_leaves c id n offset x w, as_before c id n offset x w)
