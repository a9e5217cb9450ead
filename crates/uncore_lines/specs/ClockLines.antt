-- What the program `clocks` says of feature 2 (document 02, request 2; document 002, "Throttle Modes", STATUS and CONTROL), as bytes: words
-- and decimal numbers with one blank between, each line ended by a line feed.
--   clusters_runs a        what came where an instance's clusters were asked for: their number, `invalid` for the refusal 13 (the instance
--                         reads all ones), `refused` and the number for any other
--   instance_runs i a      the line of instance i, where that came
--   ratio_runs t k         the current ratio, the minimum and the maximum
--   throttle_words m       the throttle mode m: 0 is ordered, 1 proportional, and all others are reserved
--   agent_runs ws n        an agent's word where its number is 1, nothing where it is another
--   agents t              the words of the agents that the status t names;   bare yss   there is none
--   agents_runs t          those words, `none` where there is none
--   cluster_runs n s t k   the line of local cluster n, whose registers start at the place s: its status is t and its control k
--   refused_runs n m       the line of local cluster n where it is refused with m
-- Assumes nothing.
use Rattle.std.specs.Prelude.{ℕ, Bool, true, false, cond, List, [], ◌∷◌, ◌++◌, eqb, get_or}
use Rattle.words.specs.Answers.{Answer, refused, gives}
use Rattle.text.specs.Numerals.{numeral_of}
use Rattle.text.specs.Words.{line_feed, at_word, refused_word}
use Rattle.uncore_registers.specs.declared.status.Status.{Status}
use Rattle.uncore_controls.specs.declared.control.Control.{Control}

-- ---- the words, in ASCII

-- `instance `
abbrev pub instance_word : List ℕ
instance_word = 105 ∷ 110 ∷ 115 ∷ 116 ∷ 97 ∷ 110 ∷ 99 ∷ 101 ∷ 32 ∷ []

-- ` clusters `
abbrev pub clusters_word : List ℕ
clusters_word = 32 ∷ 99 ∷ 108 ∷ 117 ∷ 115 ∷ 116 ∷ 101 ∷ 114 ∷ 115 ∷ 32 ∷ []

-- ` invalid`
abbrev pub invalid_word : List ℕ
invalid_word = 32 ∷ 105 ∷ 110 ∷ 118 ∷ 97 ∷ 108 ∷ 105 ∷ 100 ∷ []

-- `cluster `
abbrev pub cluster_word : List ℕ
cluster_word = 99 ∷ 108 ∷ 117 ∷ 115 ∷ 116 ∷ 101 ∷ 114 ∷ 32 ∷ []

-- ` current `
abbrev pub current_word : List ℕ
current_word = 32 ∷ 99 ∷ 117 ∷ 114 ∷ 114 ∷ 101 ∷ 110 ∷ 116 ∷ 32 ∷ []

-- ` minimum `
abbrev pub minimum_word : List ℕ
minimum_word = 32 ∷ 109 ∷ 105 ∷ 110 ∷ 105 ∷ 109 ∷ 117 ∷ 109 ∷ 32 ∷ []

-- ` maximum `
abbrev pub maximum_word : List ℕ
maximum_word = 32 ∷ 109 ∷ 97 ∷ 120 ∷ 105 ∷ 109 ∷ 117 ∷ 109 ∷ 32 ∷ []

-- ` throttle ordered`
abbrev pub ordered_words : List ℕ
ordered_words = 32 ∷ 116 ∷ 104 ∷ 114 ∷ 111 ∷ 116 ∷ 116 ∷ 108 ∷ 101 ∷ 32 ∷ 111 ∷ 114 ∷ 100 ∷ 101 ∷ 114 ∷ 101 ∷ 100 ∷ []

-- ` throttle proportional`
abbrev pub proportional_words : List ℕ
proportional_words =
    32 ∷ 116 ∷ 104 ∷ 114 ∷ 111 ∷ 116 ∷ 116 ∷ 108 ∷ 101 ∷ 32
    ∷ 112 ∷ 114 ∷ 111 ∷ 112 ∷ 111 ∷ 114 ∷ 116 ∷ 105 ∷ 111 ∷ 110 ∷ 97 ∷ 108 ∷ []

-- ` throttle reserved`
abbrev pub reserved_words : List ℕ
reserved_words = 32 ∷ 116 ∷ 104 ∷ 114 ∷ 111 ∷ 116 ∷ 116 ∷ 108 ∷ 101 ∷ 32 ∷ 114 ∷ 101 ∷ 115 ∷ 101 ∷ 114 ∷ 118 ∷ 101 ∷ 100 ∷ []

-- ` agents`
abbrev pub agents_word : List ℕ
agents_word = 32 ∷ 97 ∷ 103 ∷ 101 ∷ 110 ∷ 116 ∷ 115 ∷ []

-- ` core`
abbrev pub core_word : List ℕ
core_word = 32 ∷ 99 ∷ 111 ∷ 114 ∷ 101 ∷ []

-- ` cache`
abbrev pub cache_word : List ℕ
cache_word = 32 ∷ 99 ∷ 97 ∷ 99 ∷ 104 ∷ 101 ∷ []

-- ` memory`
abbrev pub memory_word : List ℕ
memory_word = 32 ∷ 109 ∷ 101 ∷ 109 ∷ 111 ∷ 114 ∷ 121 ∷ []

-- ` io`
abbrev pub io_word : List ℕ
io_word = 32 ∷ 105 ∷ 111 ∷ []

-- ` none`
abbrev pub none_word : List ℕ
none_word = 32 ∷ 110 ∷ 111 ∷ 110 ∷ 101 ∷ []

-- ---- the line of an instance

abbrev pub clusters_runs : Answer → List (List ℕ)
clusters_runs (refused n) = cond (eqb n 13) (invalid_word ∷ []) (refused_word ∷ numeral_of 10 n ∷ [])
clusters_runs (gives xs) = clusters_word ∷ numeral_of 10 (get_or xs 0 0) ∷ []

abbrev pub instance_runs : ℕ → Answer → List (List ℕ)
instance_runs i a = instance_word ∷ numeral_of 10 i ∷ clusters_runs a ++ line_feed ∷ []

-- ---- the lines of clusters

abbrev pub ratio_runs : Status → Control → List (List ℕ)
ratio_runs t k =
    current_word ∷ numeral_of 10 t.ratio ∷ minimum_word ∷ numeral_of 10 k.minimum ∷ maximum_word ∷ numeral_of 10 k.maximum ∷ []

abbrev pub throttle_words : ℕ → List ℕ
throttle_words m = cond (eqb m 0) ordered_words (cond (eqb m 1) proportional_words reserved_words)

abbrev pub agent_runs : List ℕ → ℕ → List (List ℕ)
agent_runs ws n = cond (eqb n 1) (ws ∷ []) []

abbrev pub agents : Status → List (List ℕ)
agents t = agent_runs core_word t.core ++ agent_runs cache_word t.cache ++ agent_runs memory_word t.memory ++ agent_runs io_word t.io

abbrev pub bare : List (List ℕ) → Bool
bare [] = true
bare (ys ∷ yss) = false

abbrev pub agents_runs : Status → List (List ℕ)
agents_runs t = agents_word ∷ cond (bare (agents t)) (none_word ∷ []) (agents t)

abbrev pub cluster_runs : ℕ → ℕ → Status → Control → List (List ℕ)
cluster_runs n s t k =
    cluster_word ∷ numeral_of 10 n ∷ at_word ∷ numeral_of 10 s ∷ ratio_runs t k ++ throttle_words k.mode ∷ agents_runs t ++ line_feed ∷ []

abbrev pub refused_runs : ℕ → ℕ → List (List ℕ)
refused_runs n m = cluster_word ∷ numeral_of 10 n ∷ refused_word ∷ numeral_of 10 m ∷ line_feed ∷ []
