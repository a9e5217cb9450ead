-- `uncore_lines::clock_lines::cluster_line` meets its contract: its parts and a line feed, one after the other. Assumes nothing.
use mathlib.Core.List.{[], ◌∷◌, ◌++◌}
use Rattle.text.specs.Numerals.{numeral_of}
use Rattle.text.specs.Words.{line_feed, at_word}
use Rattle.text.proofs.PageLaws.{wrote_on}
use Rattle.uncore_lines.specs.ClockLines.{cluster_word, ratio_runs, throttle_words, agents_runs}
use Rattle.uncore_lines.proofs.clock_lines.cluster_line.Goals as goal

pub returns : goal.returns
returns c =
    let p = cluster_word ∷ numeral_of 10 c.args.n ∷ [] in
    let q = at_word ∷ numeral_of 10 c.args.start ∷ [] in
    let r = ratio_runs c.args.t c.args.k in
    let m = throttle_words c.args.k.mode ∷ [] in
    let w = agents_runs c.args.t in
    let a = wrote_on p q c.labelled.ensures.wrote c.labelled-2.ensures.wrote in
    let b = wrote_on (p ++ q) r a c.ratios_part.ensures.wrote in
    let d = wrote_on (p ++ q ++ r) m b c.throttle_part.ensures.wrote in
    let e = wrote_on (p ++ q ++ r ++ m) w d c.agents_part.ensures.wrote in
    record { wrote = wrote_on (p ++ q ++ r ++ m ++ w) (line_feed ∷ []) e c.put.ensures.wrote }
