-- The loops of `rapl_windows::windows::window_code`: as long as neither is left, what is found from here on is what is found, and the answer
-- stands at 19. Assumes nothing.
use Prim.Native.Nat.{◌+◌, ◌*◌}
use mathlib.Core.Path.{◌≡◌}
use Rattle.words.specs.Answers.{refused}
use Rattle.words.specs.Told.{told}
use Rattle.rapl_windows.proofs.CodeLaws.{Onward}
use Rattle.rapl_windows.proofs.windows.window_code.Given as goal

abbrev pub invariant-search : goal.invariant-search
invariant-search l = record { none : told l.answer ≡ refused 19; onward : Onward l.ms l.unit (l.y * 4) }

abbrev pub invariant-loop-x : goal.invariant-loop-x
invariant-loop-x l = record { none : told l.answer ≡ refused 19; onward : Onward l.ms l.unit (l.y * 4 + l.x) }
