use Rattle.std.proofs.Common.{length}
use Rattle.history_text.specs.Worlds.{world_of}
use Rattle.node_steps.specs.Ends.{no_starts}
use Rattle.scenario_nodes.specs.Nodes.{Held, HoldAll}
use Rattle.run_links.specs.Linked.{queue_of}
use Rattle.run_links.specs.Plans.{stops_of}
use Rattle.thread_runner.proofs.runs.run.Given as goal

-- the run that is named
abbrev pub ghosts-run_named : goal.ghosts-run_named
ghosts-run_named g a = record {
  world = world_of a.scenario.now;
  held = λ past starts. HoldAll g.H.D.Disk.state (g.H.Shelf.state a.shelf.now) a.scenario.now (record { past = past; starts = starts });
  run = record {
    queue = queue_of a.links;
    stops = stops_of a.scenario.now;
    tells = (h : Held) × HoldAll g.H.D.Disk.state (g.H.Shelf.state a.shelf.now) a.scenario.now h;
    bytes = a.scenario.now.disk;
    starts = no_starts;
    managers = length a.scenario.now.managers;
    resources = length a.scenario.now.resources;
  };
}
