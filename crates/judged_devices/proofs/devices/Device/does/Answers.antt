use Rattle.std.proofs.Common.{sym, ◌∙◌}
use Rattle.judged_devices.specs.Taking.{event_of}
use Rattle.judged_devices.proofs.Plainly.{shows_nothing}
use Rattle.judged_devices.proofs.devices.Device.does.Goals as goal

pub returns-in_default : goal.returns-in_default
returns-in_default c =
    shows_nothing c.args.boots c.args.self.now (event_of c.args.event.now) c.args.done.now c.requires (sym c.plain_in.ensures ∙ c.in_default.is)
