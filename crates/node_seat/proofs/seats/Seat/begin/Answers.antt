use Rattle.std.proofs.Common.{ap, subst, sym}
use Rattle.history_rules.specs.Nodes.{no_past}
use Rattle.node_steps.specs.Ends.{no_starts}
use Rattle.node_seat.specs.Naming.{run_over}
use Rattle.node_seat.specs.Seating.{Seated, seated_of}
use Rattle.node_seat.specs.Turns.{AnswersBegin, HasDisksToStop, IsUnmoved}
use Rattle.node_seat.proofs.Beginning.{begin_keeps, begin_may}
use Rattle.node_seat.proofs.seats.Seat.begin.Goals as goal

pub begin-requires-clause-goes : goal.begin-requires-clause-goes
begin-requires-clause-goes g c = ((c.self.invariant no_past no_starts).runs (ap (λ (s : Seated _). s.runs) (subst IsUnmoved (sym c.self.view_is) c.requires.first))).goes

pub invariant_of-self : goal.invariant_of-self
invariant_of-self g c past starts =
    begin_keeps g.N.Node.state g.met.N.Node.lawful g.K.RunName.world past (run_over g.K.RunName.run (g.K.RunName.held past starts) starts) (seated_of c.self.inside.station) (c.self.invariant past starts)
    (subst IsUnmoved (sym c.self.view_is) c.requires.first) (subst (λ (s : Seated _). HasDisksToStop (g.N.Node.state s.node) s.plan) (sym c.self.view_is) c.requires.disks)
    (seated_of c.begin.new.self) c.begin.result c.begin.ensures

pub returns-clause-begun : goal.returns-clause-begun
returns-clause-begun g c =
    begin_may g.N.Node.state (seated_of c.self.inside.station) (seated_of c.begin.new.self) (subst IsUnmoved (sym c.self.view_is) c.requires.first) c.begin.result c.begin.ensures

pub returns-clause-stopped : goal.returns-clause-stopped
returns-clause-stopped g c =
    subst (λ (s : Seated _). AnswersBegin g.N.Node.state s (seated_of c.begin.new.self) c.begin.result) c.self.view_is c.begin.ensures
