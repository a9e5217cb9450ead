-- The line of an instance, of a cluster and of one that is refused: how long they can be, and that a page so long shows them whole. Assumes
-- nothing.
use Prim.Native.Nat.{ℕ, ◌≤◌}
use mathlib.Core.Bool.{Bool, true, false, cond}
use mathlib.Core.List.{List, [], ◌∷◌, ◌++◌}
use lib.Dec.{eqb}
use lib.ListN.{length, length-append}
use native.Mathlib.Omega.{arith}
use Rattle.words.specs.Told.{told}
use Rattle.std.specs.Prelude.{Result, Ok, Err}
use Rattle.words.specs.declared.answers.Refusal.{Refusal}
use Rattle.text.specs.Page.{joined}
use Rattle.text.specs.Numerals.{numeral_of}
use Rattle.text.specs.Words.{line_feed, refused_word}
use Rattle.text.proofs.LinesLaws.{length_joined, number_short, refusal_short, line_fits}
use Rattle.uncore_registers.specs.declared.status.Status.{Status}
use Rattle.uncore_lines.specs.ClockLines.{invalid_word, ordered_words, proportional_words, reserved_words, agents_word, core_word, cache_word, memory_word, io_word, none_word, clusters_runs, throttle_words, agent_runs, agents, bare, agents_runs}
use Rattle.uncore_lines.specs.Facts.{Sized, InstanceLineFact, ClusterLineFact, RefusedLineFact}

-- ---- the line of an instance

came_short : (v : Result ℕ Refusal) → Sized v → length (joined (clusters_runs (told v))) ≤ 30
came_short (Ok k) h = simp length-append (omega (arith, number_short k h))
came_short (Err r) h = by (eqb r.0 13)
  where
    by : (b : Bool) → length (joined (cond b (invalid_word ∷ []) (refused_word ∷ numeral_of 10 r.0 ∷ []))) ≤ 30
    by true = omega arith
    by false = simp length-append (omega (arith, refusal_short r.0 h))

pub instance_line_fact : InstanceLineFact
instance_line_fact i v hi hv =
    line_fits 60 _
    (simp length-append (omega (arith, number_short i hi, length_joined (clusters_runs (told v)) (line_feed ∷ []), came_short v hv)))

-- ---- the line of a cluster

-- ` throttle proportional` is the longest
throttle_short : (m : ℕ) → length (throttle_words m) ≤ 22
throttle_short m = by (eqb m 0) (eqb m 1)
  where
    by : (a b : Bool) → length (cond a ordered_words (cond b proportional_words reserved_words)) ≤ 22
    by true b = omega arith
    by false true = omega arith
    by false false = omega arith

agent_short : (ws : List ℕ) (n : ℕ) → length (joined (agent_runs ws n)) ≤ length ws
agent_short ws n = by (eqb n 1)
  where
    by : (b : Bool) → length (joined (cond b (ws ∷ []) [])) ≤ length ws
    by true = simp length-append (omega arith)
    by false = omega arith

named_short : (t : Status) → length (joined (agents t)) ≤ 21
named_short t =
    let j = agent_runs core_word t.core in
    let k = agent_runs cache_word t.cache in
    let l = agent_runs memory_word t.memory in
    let m = agent_runs io_word t.io in
    omega (
      arith,
      length_joined (j ++ k ++ l) m,
      length_joined (j ++ k) l,
      length_joined j k,
      agent_short core_word t.core,
      agent_short cache_word t.cache,
      agent_short memory_word t.memory,
      agent_short io_word t.io,
    )

-- ` agents` and the words of all four is the longest
agents_short : (t : Status) → length (joined (agents_runs t)) ≤ 28
agents_short t = by (bare (agents t))
  where
    by : (b : Bool) → length (joined (agents_word ∷ cond b (none_word ∷ []) (agents t))) ≤ 28
    by true = omega arith
    by false = omega (arith, length-append agents_word (joined (agents t)), named_short t)

pub cluster_line_fact : ClusterLineFact
cluster_line_fact n s t k hn hs hr ha hb =
    line_fits 190 _
    (simp length-append
    (omega (
      arith,
      number_short n hn,
      number_short s hs,
      number_short t.ratio hr,
      number_short k.minimum ha,
      number_short k.maximum hb,
      throttle_short k.mode,
      length_joined (agents_runs t) (line_feed ∷ []),
      agents_short t,
    )))

pub refused_line_fact : RefusedLineFact
refused_line_fact n m hn hm = line_fits 41 _ (simp length-append (omega (arith, number_short n hn, refusal_short m hm)))
