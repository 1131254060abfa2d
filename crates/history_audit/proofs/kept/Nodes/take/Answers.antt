use Rattle.std.proofs.Common.{sym, subst}
use Rattle.judged_devices.specs.Taking.{event_of}
use Rattle.history_audit.specs.Finding.{Finds}
use Rattle.history_audit.specs.Nodes.{AreNodes}
use Rattle.history_audit.specs.declared.kept.Found.{Found}
use Rattle.history_audit.proofs.NodeLaws.{at_desk, at_network, in_benches, in_talks}
use Rattle.history_audit.proofs.kept.Nodes.take.Goals as goal

pub returns-in_ok-step-in-Tc : goal.returns-in_ok-step-in-Tc
returns-in_ok-step-in-Tc c = λ w ms are brought.
    subst (λ (f : Found). Finds w ms c.args.next.now (AreNodes w (record c.args.self.now { desk = c.take.new.self })) f) (sym c.found.ensures)
    (at_desk w ms c.args.next.now (event_of c.args.event.now) brought c.args.self.now are c.in-Tc.is c.take.new.self c.in_ok-step-in-Tc.step c.in_ok-step-in-Tc.ensures)

pub returns-in-Res : goal.returns-in-Res
returns-in-Res c = in_benches c.args.next.now (event_of c.args.event.now) c.args.self.now c.in-Res.number c.in-Res.is c.at_resource.new.benches c.at_resource.result c.at_resource.ensures

pub returns-in-Man : goal.returns-in-Man
returns-in-Man c = in_talks c.args.next.now (event_of c.args.event.now) c.args.self.now c.in-Man.number c.in-Man.is c.at_manager.new.talks c.at_manager.result c.at_manager.ensures

pub returns-in-Net : goal.returns-in-Net
returns-in-Net c = λ w ms are brought. at_network w ms c.args.next.now (event_of c.args.event.now) brought c.args.self.now are c.in-Net.is
