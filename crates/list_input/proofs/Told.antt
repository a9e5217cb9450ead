-- Two layouts that say the same are the same. Assumes nothing.
use Prim.Native.Nat.{ℕ}
use Rattle.std.specs.Prelude.{Option, Some, None}
use mathlib.Core.Path.{◌≡◌, refl}
use mathlib.Core.List.{List, [], ◌∷◌}
use lib.ListN.{get_or}
use Rattle.words.proofs.AnswerLaws.{once}
use Rattle.list_input.specs.Told.{told, ToldOnce}
use Rattle.list_input.specs.declared.layout.Layout.{Layout}

untold : List ℕ → Option Layout
untold [] = None
untold (a ∷ l) = Some (record { lo = a; low_end = get_or l 0 0; hi = get_or l 1 0; high_end = get_or l 2 0 })

pub told_once : ToldOnce
unfolding untold
told_once = once told untold back
  where
    back : (a : Option Layout) → untold (told a) ≡ a
    back (Some l) = refl
    back None = refl
