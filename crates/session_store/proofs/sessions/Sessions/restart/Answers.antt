use Rattle.std.proofs.Common.{sym, subst}
use Rattle.std.specs.Prelude.{OnOk}
use Rattle.journal_checkpoint.specs.Keeping.{first_disk, second_disk}
use Rattle.memory_store.specs.Keeping.{IsTold}
use Rattle.memory_store.specs.ListKeeping.{BringsBack}
use Rattle.memory_store.proofs.ListKeeping.{restarted_back}
use Rattle.memory_store.proofs.Lists.{goes_on}
use Rattle.memory_store.proofs.Openings.{back_in}
use Rattle.session_store.specs.declared.machine.SessionMachine.{SessionMachine}
use Rattle.session_store.specs.Keeping.{store_of, managers_of, resources_of, twin, lists}
use Rattle.session_store.specs.Meaning.{meaning_of}
use Rattle.session_store.specs.Standing.{lists_of}
use Rattle.session_store.proofs.ListLaws.{lists_lawful}
use Rattle.session_store.proofs.SessionLaws.{same_opening}
use Rattle.session_store.proofs.sessions.Sessions.restart.Goals as goal

pub returns-clause-back : goal.returns-clause-back
returns-clause-back g c =
    let old = c.args.self.now in
    let state = g.D.Disk.state in
    subst (λ (q : SessionMachine). OnOk c.restart.result (IsTold (state (first_disk (twin old))) → IsTold (state (second_disk (twin old)))
    → BringsBack state (lists_of q.managers q.resources) c.args.pick old.store c.restart.new.self)) (sym c.restart.ensures.machine)
    (restarted_back (lists old) (lists_lawful (managers_of old) (resources_of old)) state c.args.pick old.store c.restart.new.self c.restart.result c.restart.ensures.back)

pub returns-clause-comes : goal.returns-clause-comes
returns-clause-comes g c =
    let old = c.args.self.now in
    back_in g.D.Disk.state (meaning_of (managers_of old) (resources_of old)) store_of (goes_on (lists old) (lists_lawful (managers_of old) (resources_of old))) c.args.pick old (record { store = c.restart.new.self })
    c.restart.result c.restart.ensures.comes

pub returns-clause-opening : goal.returns-clause-opening
returns-clause-opening g c = same_opening c.args.self.now (record { store = c.restart.new.self }) c.restart.ensures.machine c.restart.ensures.found
