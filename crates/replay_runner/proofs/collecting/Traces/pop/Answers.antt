use Rattle.std.proofs.Common.{◌∙◌, refl}
use Rattle.replay_runner.proofs.Collected.{pops_man, pops_net, pops_res, pops_tc}
use Rattle.replay_runner.proofs.collecting.Traces.pop.Goals as goal

pub returns-in-Net : goal.returns-in-Net
returns-in-Net c = λ m ms have stands.
    pops_net c.args.self.now (record c.args.self.now { network = c.pop_entry.new.trace }) c.pop_entry.result c.pop_entry.ensures refl refl refl m ms have (stands ∙ c.in-Net.is)

pub returns-in-Tc : goal.returns-in-Tc
returns-in-Tc c = λ m ms have stands.
    pops_tc c.args.self.now (record c.args.self.now { coordinator = c.pop_entry-in-Tc.new.trace }) c.pop_entry-in-Tc.result c.pop_entry-in-Tc.ensures refl refl refl m ms have (stands ∙ c.in-Tc.is)

pub returns-in-Res : goal.returns-in-Res
returns-in-Res c = λ m ms have stands.
    pops_res c.args.self.now (record c.args.self.now { resources = c.pop_among.new.traces }) c.pop_among.result c.in-Res.n c.pop_among.ensures refl refl refl m ms have (stands ∙ c.in-Res.is)

pub returns-in-Man : goal.returns-in-Man
returns-in-Man c = λ m ms have stands.
    pops_man c.args.self.now (record c.args.self.now { managers = c.pop_among-in-Man.new.traces }) c.pop_among-in-Man.result c.in-Man.n c.pop_among-in-Man.ensures refl refl refl m ms have
    (stands ∙ c.in-Man.is)
