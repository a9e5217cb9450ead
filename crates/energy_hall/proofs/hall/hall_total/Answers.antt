-- `energy_hall::hall::hall_total` meets its contract: what is summed is each channel's share, in order. Assumes nothing.
use Rattle.std.proofs.Common.{ℕ, [], ◌∷◌, ap, sym, ◌∙◌, arith, rules, tests}
use Rattle.words.specs.Answers.{gives}
use Rattle.std.proofs.lemmas.Iterator.{YieldsList-from_slice, YieldsList-from_map}
use Rattle.std.proofs.lemmas.Iterator.Consumers.{sum_by_from_yields_List, fits_by_from_yields_list}
use Rattle.energy_channel.specs.Channel.{share}
use Rattle.energy_hall.proofs.HallLaws.{shares_summed, shares_most, hall_17, hall_sum}
use Rattle.energy_hall.proofs.hall.hall_total.Goals as goal

pub returns-then-unit-gt31 : goal.returns-then-unit-gt31
returns-then-unit-gt31 c = record { answer = sym (hall_17 _ _ c.if-unit-gt31.true) }

pub sum-requires-clause-fits : goal.sum-requires-clause-fits
sum-requires-clause-fits c = fits_by_from_yields_list (share c.args.unit) c.args.channels c.map.result _
    (YieldsList-from_map _ (share c.args.unit) (YieldsList-from_slice c.args.channels cc) c.map.ensures.closure (λ x r q k. search (rules, tests)))
    (omega (arith, shares_summed c.args.unit c.args.channels, shares_most c.args.unit c.args.channels))

pub returns : goal.returns
returns c =
    let e = sum_by_from_yields_List (share c.args.unit) c.args.channels c.map.result c.sum.result c.sum.ensures.ran
    (YieldsList-from_map _ (share c.args.unit) (YieldsList-from_slice c.args.channels cc) c.map.ensures.closure (λ x r q k. search (rules, tests))) in
    record { answer = sym (hall_sum c.args.channels c.args.unit c.if-unit-gt31.false ∙ ap (λ (n : ℕ). gives (n ∷ [])) (shares_summed c.args.unit c.args.channels ∙ sym e)) }
