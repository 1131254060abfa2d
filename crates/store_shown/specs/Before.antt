-- What the disks of the nodes hold, as a report begins with it.
use Rattle.std.specs.Prelude.{Result}
use Rattle.disk_model.specs.Disk.{DiskState}
use Rattle.disk_model.specs.Shelf.{ShelfState}
use Rattle.scenario_form.specs.declared.scenarios.Scenario.{Scenario}
use Rattle.node_seat.specs.declared.faults.RunFault.{RunFault}
use Rattle.scenario_nodes.specs.Nodes.{Held, server_names, servers_of}
use Rattle.scenario_nodes.specs.Reading.{ReadsNodes}
use Rattle.report_text.specs.declared.before.Before.{Before}
use Rattle.report_text.specs.Following.{IsRead}

-- what is read of disks is what their records say, which may come one after the other
abbrev pub SaysBefore : Scenario → Held → Before → Type 0
SaysBefore s held before = IsRead s before held.past

-- the disks of all nodes were read and given back, or why not
abbrev pub ReadsBefore : {D : Type 0} → (D → DiskState) → Scenario → (old new : ShelfState D) → Result Before RunFault → Type 0
ReadsBefore state s old new result = ReadsNodes state s (server_names s) (servers_of s) (SaysBefore s) old new result
