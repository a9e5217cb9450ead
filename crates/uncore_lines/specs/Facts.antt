-- What is proved of the lines: how long each can be, and that a page so long shows it whole (`LineFits` of the crate text). Each is to be read
-- without its proof; proofs/LineFits.antt has the proofs, under the same names with underscores.
-- Assumes nothing.
use Rattle.std.specs.Prelude.{ℕ, ◌^◌, ◌<◌, Result, Ok, Err}
use Rattle.words.specs.Told.{told}
use Rattle.words.specs.declared.answers.Refusal.{Refusal}
use Rattle.text.specs.Facts.{LineFits}
use Rattle.uncore_registers.specs.declared.status.Status.{Status}
use Rattle.uncore_controls.specs.declared.control.Control.{Control}
use Rattle.uncore_lines.specs.ClockLines.{instance_runs, cluster_runs, refused_runs}

-- An answer as the code has it: a number of 64 bits, a refusal's number of 8.
abbrev pub Sized : Result ℕ Refusal → Type 0
Sized (Ok k) = k < 2 ^ 64
Sized (Err r) = r.0 < 2 ^ 8

-- The line of an instance has at most 60 bytes: its words and line feed 20, the instance and the clusters 20 each.
abbrev pub InstanceLineFact : Type 0
InstanceLineFact = (i : ℕ) (v : Result ℕ Refusal) → i < 2 ^ 64 → Sized v → LineFits 60 (instance_runs i (told v))

-- The line of a cluster has at most 190, whatever its status and control say: its words and line feed 90, five numbers of 64 bits 20 each.
abbrev pub ClusterLineFact : Type 0
ClusterLineFact =
    (n s : ℕ) (t : Status) (k : Control) → n < 2 ^ 64 → s < 2 ^ 64 → t.ratio < 2 ^ 64 → k.minimum < 2 ^ 64 → k.maximum < 2 ^ 64
    → LineFits 190 (cluster_runs n s t k)

-- The line of a cluster that is refused has at most 41: its words and line feed 18, the cluster 20, the number 3.
abbrev pub RefusedLineFact : Type 0
RefusedLineFact = (n m : ℕ) → n < 2 ^ 64 → m < 2 ^ 8 → LineFits 41 (refused_runs n m)
