use Rattle.std.proofs.Common.{refl, ap, ◌∙◌}
use Rattle.session_log.specs.declared.sessions.Snapshot.{Snapshot}
use Rattle.coordinator_rules.specs.Starting.{started_on, no_moments}
use Rattle.coordinator_core.proofs.nodes.Coordinator.come_back.Goals as goal

pub returns-in-Ok : goal.returns-in-Ok
returns-in-Ok g c = record {
  sessions = refl;
  moments = c.in-Ok.ensures ∙ ap (λ (s : Snapshot). started_on c.args.now s.sessions no_moments) c.memory.ensures;
  rest = record { start = refl; retry = refl; forget = refl; flight = refl; records = refl; left = refl };
}

pub returns-in-Err : goal.returns-in-Err
returns-in-Err g c = record {
  disks = c.fall.ensures.disks;
  opening = c.fall.ensures.opening;
  down = c.fall.ensures.down;
  rest = record { start = refl; retry = refl; forget = refl; flight = refl; records = refl; left = refl };
}
