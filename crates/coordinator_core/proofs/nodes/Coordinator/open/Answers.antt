use Rattle.std.proofs.Common.{refl, sym, ap, subst, ◌∙◌}
use Rattle.session_log.specs.declared.sessions.Snapshot.{Snapshot}
use Rattle.seata_types.specs.declared.errors.OpenError.TheVariants as open_error
use Rattle.disk_model.specs.Stop.{below}
use Rattle.coordinator_core.specs.Opening.{HandsBack}
use Rattle.coordinator_rules.specs.Starting.{start_in, started_on, no_moments}
use Rattle.coordinator_core.proofs.Disks.{stopped}
use Rattle.coordinator_core.proofs.Opened.{settled_below, is_opened, hands_back, hands_opened}
use Rattle.coordinator_core.proofs.nodes.Coordinator.open.Goals as goal

pub open-requires-clause-first : goal.open-requires-clause-first
open-requires-clause-first g c = settled_below g.D.Disk.state c.args.first c.new-first.result c.new-first.ensures.below c.requires.first

pub open-requires-clause-second : goal.open-requires-clause-second
open-requires-clause-second g c = settled_below g.D.Disk.state c.args.second c.new-second.result c.new-second.ensures.below c.requires.second

pub returns-in-Err-clause-refused : goal.returns-in-Err-clause-refused
returns-in-Err-clause-refused g c =
    let e = c.in-Err.ensures in
    subst (HandsBack g.D.Disk.state c.args.first c.args.second c.args.managers c.args.resources) (sym c.give_back.ensures)
    (hands_back g.D.Disk.state (stopped g.D.Disk.state g.met.D.Disk.lawful) c.args.managers c.args.resources c.args.first c.args.second c.new-first.result c.new-second.result
    c.new-first.ensures.below c.new-second.ensures.below c.new-first.ensures.off c.new-second.ensures.off c.in-Err.error c.in-Err.first c.in-Err.second e.opens.images e.opens.not_due e.opens.first_disk e.opens.second_disk
    e.stands.recovers e.opens.damaged e.opens.not_full e.opens.failed)

pub returns-in-Ok-started-clause-opened : goal.returns-in-Ok-started-clause-opened
returns-in-Ok-started-clause-opened g c =
    let e = c.in-Ok.ensures in
    is_opened g.D.Disk.state (stopped g.D.Disk.state g.met.D.Disk.lawful) c.args.managers c.args.resources c.args.first c.args.second c.new-first.result c.new-second.result
    c.new-first.ensures.below c.new-second.ensures.below c.new-first.ensures.off c.new-second.ensures.off c.requires.managers _ e.stands.keeps e.opens.place e.opens.opened e.opens.images e.opens.not_due e.opens.first_disk e.opens.second_disk
    e.stands.managers e.stands.resources e.opens.up (c.start_of-start.ensures ∙ ap start_in c.memory.ensures) (c.in-Ok-started.ensures ∙ ap (λ (s : Snapshot). started_on c.start_of-start.result s.sessions no_moments) c.memory-2.ensures) refl

pub returns-in-Err-started-clause-refused : goal.returns-in-Err-started-clause-refused
returns-in-Err-started-clause-refused g c =
    let e = c.in-Ok.ensures in
    subst (HandsBack g.D.Disk.state c.args.first c.args.second c.args.managers c.args.resources)
    (sym (c.give_back-in-Err-started.ensures ∙ ap (λ q. (open_error.NoMemory, below q.0, below q.1)) c.into_disks-first.ensures))
    (hands_opened g.D.Disk.state (stopped g.D.Disk.state g.met.D.Disk.lawful) c.args.managers c.args.resources c.args.first c.args.second c.new-first.result c.new-second.result
    c.new-first.ensures.below c.new-second.ensures.below c.new-first.ensures.off c.new-second.ensures.off open_error.NoMemory _ _ e.opens.images e.opens.not_due e.opens.first_disk e.opens.second_disk)
