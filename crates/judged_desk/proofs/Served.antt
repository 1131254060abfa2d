-- What a desk that stands for own entries can take.
use Rattle.std.proofs.Common.{◌≡◌, ◌<◌, ℕ, false, List, [], length, Option, Some, None, sym, ap, subst, arith}
use Rattle.seata_types.specs.declared.acts.Act.{Act}
use Rattle.seata_types.specs.declared.messages.Step.{Step}
use Rattle.history_rules.specs.Own.{Event, Own}
use Rattle.history_rules.specs.CoordinatorMemory.{Times, sessions_left}
use Rattle.history_rules.specs.Nodes.{Role}
use Rattle.session_log.specs.declared.sessions.Snapshot.{Snapshot}
use Rattle.judged_devices.specs.declared.limits.TheConstants.{OWN_ENTRIES}
use Rattle.judged_devices.specs.Noting.{IsDevice, noted}
use Rattle.judged_devices.specs.Taking.{Takes, one_more}
use Rattle.judged_devices.proofs.Taking.{device_after}
use Rattle.judged_desk.specs.Following.{CanTake, Follows}
use Rattle.judged_desk.specs.Leaving.{CanServe}
use Rattle.judged_desk.specs.Standing.{Stands}
use Rattle.judged_desk.specs.declared.desks.Desk.{Desk}
use Rattle.judged_desk.proofs.Counts.{records_few}

pub can_serve : (d : Desk) → CanTake d → d.device.taken < OWN_ENTRIES → CanServe d.coordinator
can_serve d (t, os, f) room =
    let few = records_few os in
    let same = f.device.taken in
    let known : d.coordinator.memory.acts ≡ length (sessions_left [] os).records = ap (λ (s : Snapshot). s.acts) f.stands.knows.tracks.known in
    record { acts = omega (arith, few, same, known, room); comes = f.stands.comes }

-- a desk follows the entries with one more, where its coordinator stands for them
pub follows_on : (role : Role) (t : Times) (os : List Own) (event : Event) (now : ℕ) (done : Act) (old new : Desk) → IsDevice false os old.device
    → new.device ≡ noted false event done old.device → (result : Option Step)
    → Takes role os event now done (λ after. Stands t after new.coordinator) result
    → Takes role os event now done (λ after. Follows t after new) result
follows_on role t os event now done old new is noted (Some step) took =
    (took.0, record { device = subst (IsDevice false (one_more os event now step)) (sym noted) (device_after false os old.device event now step done is took.0.same_act); stands = took.1 })
follows_on role t os event now done old new is noted None took = took
