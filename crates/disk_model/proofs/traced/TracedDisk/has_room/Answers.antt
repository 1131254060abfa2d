use Rattle.std.proofs.Common.{sym, ◌∙◌, ap, arith}
use Rattle.std.proofs.lemmas.Bool.Decides.{nat_tests}
use Rattle.disk_model.specs.Trace.{has_room}
use Rattle.disk_model.proofs.Kept.{room_is}
use Rattle.disk_model.proofs.traced.TracedDisk.has_room.Goals as goal

pub returns-then-len-self : goal.returns-then-len-self
returns-then-len-self c =
    let is = sym (room_is c.args.bytes c.self.inside c.self.invariant) ∙ ap (has_room c.args.bytes) c.self.view_is in
    let calls = c.self.inside.calls.ok.0 in
    let bytes = c.self.inside.bytes.ok.0 in
    rw (← is) (grind (arith, nat_tests))

pub returns-else-len-self : goal.returns-else-len-self
returns-else-len-self c =
    let is = sym (room_is c.args.bytes c.self.inside c.self.invariant) ∙ ap (has_room c.args.bytes) c.self.view_is in
    let calls = c.self.inside.calls.ok.0 in
    rw (← is) (grind (arith, nat_tests))
