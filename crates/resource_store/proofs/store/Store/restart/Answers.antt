use Rattle.memory_store.proofs.ListKeeping.{restarted_back}
use Rattle.memory_store.proofs.Lists.{goes_on}
use Rattle.memory_store.proofs.Openings.{back_in}
use Rattle.resource_store.specs.Keeping.{setting_of, store_of}
use Rattle.resource_store.specs.Meaning.{meaning_of}
use Rattle.resource_store.specs.Standing.{lists_of}
use Rattle.resource_store.proofs.ListLaws.{lists_lawful}
use Rattle.resource_store.proofs.OpeningLaws.{restart_recovers}
use Rattle.resource_store.proofs.store.Store.restart.Goals as goal

pub returns-clause-back : goal.returns-clause-back
returns-clause-back g c =
    let t = setting_of c.args.self.now in
    restarted_back (lists_of t) (lists_lawful t) g.D.Disk.state c.args.pick c.args.self.now.kept c.restart.new.self c.restart.result c.restart.ensures.back

pub returns-clause-recovers : goal.returns-clause-recovers
returns-clause-recovers g c =
    let e = c.restart.ensures.comes in
    restart_recovers g.D.Disk.state g.met.D.Disk.lawful c.args.self.now (record { kept = c.restart.new.self }) c.restart.result e.damaged e.images e.first.kind e.second.kind

pub returns-clause-comes : goal.returns-clause-comes
returns-clause-comes g c =
    let t = setting_of c.args.self.now in
    back_in g.D.Disk.state (meaning_of t) store_of (goes_on (lists_of t) (lists_lawful t)) c.args.pick c.args.self.now (record { kept = c.restart.new.self }) c.restart.result c.restart.ensures.comes
