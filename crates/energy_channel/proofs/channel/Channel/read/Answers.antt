-- `energy_channel::channel::Channel::read` meets its contract: the total of an open channel leaves room for the rise. Assumes nothing.
use mathlib.Core.Path.{sym, ◌∙◌}
use native.Mathlib.Omega.{arith}
use Rattle.energy_channel.proofs.ChannelLaws.{open_holds}
use Rattle.energy_channel.proofs.channel.Channel.read.Goals as goal

pub overflow_add-total : goal.overflow_add-total
overflow_add-total c = omega (arith, (open_holds _ (sym c.is_open.ensures.answer ∙ c.if-not-is_open.false)).2, c.rise.ensures.answer)
