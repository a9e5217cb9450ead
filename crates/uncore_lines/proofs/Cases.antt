-- Worked lines, each computed from what the registers hold to the bytes of the text. Assumes nothing.
use Prim.Native.Nat.{ℕ, ◌-◌, ◌^◌}
use mathlib.Core.Path.{◌≡◌, refl}
use mathlib.Core.List.{[], ◌∷◌}
use lib.ListN.{length}
use Rattle.words.specs.Answers.{refused, gives}
use Rattle.words.specs.Below.{least}
use Rattle.fields.specs.Bits.{field}
use Rattle.text.specs.Page.{joined}
use Rattle.text.specs.Numerals.{digits, places_of}
use Rattle.text.proofs.Spelled.{codes}
use Rattle.uncore_registers.specs.Status.{status_of}
use Rattle.uncore_controls.specs.Control.{control_of}
use Rattle.uncore_lines.specs.ClockLines.{instance_runs, agents, cluster_runs, refused_runs}

-- ---- instances: their clusters, all ones, another refusal

accepted : joined (instance_runs 0 (gives (2 ∷ []))) ≡ codes "instance 0 clusters 2\n"
unfolding least places_of digits codes
accepted = refl

invalid : joined (instance_runs 1 (refused 13)) ≡ codes "instance 1 invalid\n"
unfolding least places_of digits codes
invalid = refl

without_header : joined (instance_runs 254 (refused 14)) ≡ codes "instance 254 refused 14\n"
unfolding least places_of digits codes
without_header = refl

-- ---- clusters: the two throttle modes, and one that is reserved; some agents, none, all four

proportional :
    joined (cluster_runs 0 10256 (status_of 0x3018E6698) (control_of 0x41E01))
    ≡ codes "cluster 0 at 10256 current 24 minimum 8 maximum 30 throttle proportional agents core cache\n"
unfolding least places_of digits codes status_of control_of field
proportional = refl

ordered :
    joined (cluster_runs 1 10288 (status_of 0x60D9990) (control_of 0xA1400))
    ≡ codes "cluster 1 at 10288 current 16 minimum 20 maximum 20 throttle ordered agents memory io\n"
unfolding least places_of digits codes status_of control_of field
ordered = refl

-- all bits of both registers 0
bare_cluster :
    joined (cluster_runs 0 16 (status_of 0) (control_of 0))
    ≡ codes "cluster 0 at 16 current 0 minimum 0 maximum 0 throttle ordered agents none\n"
unfolding least places_of digits codes status_of control_of field
bare_cluster = refl

-- all bits of both registers 1
full_cluster :
    joined (cluster_runs 7 2056 (status_of 0xFFFFFFFFFFFFFFFF) (control_of 0xFFFFFFFFFFFFFFFF))
    ≡ codes "cluster 7 at 2056 current 127 minimum 127 maximum 127 throttle reserved agents core cache memory io\n"
unfolding least places_of digits codes status_of control_of field
full_cluster = refl

-- the other reserved mode, 2
reserved_mode :
    joined (cluster_runs 0 2064 (status_of 0x800018) (control_of 0x41E02))
    ≡ codes "cluster 0 at 2064 current 24 minimum 8 maximum 30 throttle reserved agents core\n"
unfolding least places_of digits codes status_of control_of field
reserved_mode = refl

-- a status that no register says: an agent is there by the number 1 alone
other_number :
    agents (record { ratio = 0; voltage = 0; core = 2; cache = 0; memory = 1; io = 3; reserved27 = 0; throttled = 0 }) ≡ codes " memory" ∷ []
unfolding codes
other_number = refl

-- the longest line there is, of numbers that no register says
greatest : ℕ
greatest = 2 ^ 64 - 1

longest :
    length
    (joined
    (cluster_runs greatest greatest
    (record { ratio = greatest; voltage = 0; core = 1; cache = 1; memory = 1; io = 1; reserved27 = 0; throttled = 0 })
    (record { mode = 1; reserved2 = 0; maximum = greatest; minimum = greatest; floor = 0; reserved29 = 0; threshold = 0; reserved39 = 0 })))
    ≡ 190
unfolding least places_of digits greatest
longest = refl

-- ---- clusters that are refused

past_the_instance : joined (refused_runs 1 14) ≡ codes "cluster 1 refused 14\n"
unfolding least places_of digits codes
past_the_instance = refl
