use Rattle.std.proofs.Common.{ap}
use Rattle.memory_store.proofs.ListKeeping.{read_keeps}
use Rattle.session_store.specs.declared.machine.SessionMachine.{SessionMachine}
use Rattle.session_store.specs.Keeping.{store_of}
use Rattle.session_store.specs.Meaning.{meaning_of}
use Rattle.session_store.specs.Standing.{lists_of}
use Rattle.memory_store.proofs.Openings.{reads_in, reads_none}
use Rattle.session_store.proofs.ListLaws.{lists_lawful}
use Rattle.session_store.proofs.SessionLaws.{keeps_of, not_damaged}
use Rattle.session_store.proofs.sessions.Sessions.read.Goals as goal

pub returns-in-Ok-clause-stands : goal.returns-in-Ok-clause-stands
returns-in-Ok-clause-stands g c = record {
  keeps = λ rs a b is too stands.
      keeps_of g.D.Disk.state (record { managers = c.args.managers; resources = c.args.resources }) rs (record { store = c.in-Ok.store }) c.in-Ok.ensures.machine
      (read_keeps (lists_of c.args.managers c.args.resources) (lists_lawful c.args.managers c.args.resources) g.D.Disk.state a b c.in-Ok.store (c.in-Ok.ensures.reads.read a b is too) rs stands);
  recovers = tt;
  managers = ap (λ (q : SessionMachine). q.managers) c.in-Ok.ensures.machine;
  resources = ap (λ (q : SessionMachine). q.resources) c.in-Ok.ensures.machine;
}

pub returns-in-Ok-clause-reads : goal.returns-in-Ok-clause-reads
returns-in-Ok-clause-reads g c = reads_in g.D.Disk.state (meaning_of c.args.managers c.args.resources) store_of c.args.first c.args.second (record { store = c.in-Ok.store }) c.in-Ok.ensures.reads

pub returns-in-Err-clause-stands : goal.returns-in-Err-clause-stands
returns-in-Err-clause-stands g c = record {
  keeps = tt;
  recovers = λ rs a b is too stands. not_damaged c.args.managers c.args.resources a b c.in-Err.failed.0 (c.in-Err.ensures.reads.damaged a b is too) rs stands;
  managers = tt;
  resources = tt;
}

pub returns-in-Err-clause-reads : goal.returns-in-Err-clause-reads
returns-in-Err-clause-reads g c = reads_none g.D.Disk.state (meaning_of c.args.managers c.args.resources) store_of c.args.first c.args.second c.in-Err.failed c.in-Err.ensures.reads
