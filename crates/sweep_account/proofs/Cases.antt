-- The night in sweeps: its calls are computed, and the rest is the theorem of calls and sweeps, and the night of energy_account. Assumes nothing.
use mathlib.Core.Path.{◌≡◌, refl, ap, ◌∙◌}
use mathlib.Core.List.{List}
use lib.ListN.{length-replicate}
use Rattle.words.specs.Answers.{first}
use Rattle.fields.specs.Bits.{field, with_field}
use Rattle.energy_channel.specs.Channel.{closed}
use Rattle.energy_hall.specs.Hall.{all_closed, answer_on, answers_to, leaves_all, hall_total}
use Rattle.energy_account.specs.Account.{calls}
use Rattle.energy_account.specs.Night.{night}
use Rattle.energy_account.proofs.Night.{night_fact}
use Rattle.sweep_readings.specs.Swept.{tests}
use Rattle.sweep_account.specs.Mix.{leaves_steps}
use Rattle.sweep_account.specs.Facts.{Recorded}
use Rattle.sweep_account.specs.Cases.{night_steps, NightSwept}
use Rattle.sweep_account.proofs.Theorems.{any_mix}
use Rattle.energy_calls.specs.declared.calls.Call.TheVariants.{Ask}
use Rattle.energy_channel.specs.declared.channel.Channel.{Channel}

made : Recorded night_steps night
unfolding tests first field with_field
made = refl

pub night_swept : NightSwept
night_swept =
    let mix = any_mix all_closed (length-replicate 64 closed) night_steps in
    let left : leaves_steps all_closed night_steps ≡ leaves_all all_closed (calls night) = mix.leaves ∙ ap (leaves_all all_closed) made in
    record {
      made = made;
      answered = mix.answers ∙ ap (answers_to all_closed) made ∙ night_fact.answered;
      summed = ap (λ (cs : List Channel). answer_on cs 3 Ask) left ∙ night_fact.summed;
      hall = ap (λ (cs : List Channel). hall_total cs 14) left ∙ night_fact.hall;
    }
