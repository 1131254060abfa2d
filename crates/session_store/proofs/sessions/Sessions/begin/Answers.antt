use Rattle.std.proofs.Common.{ℕ, ◌+◌, ◌∙◌, ap, subst}
use Rattle.durable_records.specs.declared.coordinators.SessionRecord.TheVariants as log
use Rattle.session_log.specs.declared.sessions.Snapshot.{Snapshot}
use Rattle.session_store.specs.Keeping.{Fails}
use Rattle.session_store.proofs.sessions.Sessions.begin.Goals as goal

pub returns-in-Err-clause-made : goal.returns-in-Err-clause-made
returns-in-Err-clause-made g c =
    subst (λ (n : ℕ). Fails g.D.Disk.state (log.Begun (record { 0 = n }) c.args.manager c.args.now c.args.timeout) c.in-Err.error c.args.self.now c.make.new.self)
    (c.next_xid-xid.ensures ∙ ap (λ (s : Snapshot). s.begun + 1) c.memory.ensures) c.in-Err.ensures
