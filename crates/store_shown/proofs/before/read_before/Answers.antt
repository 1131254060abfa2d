use Rattle.std.proofs.Common.{subst}
use Rattle.scenario_nodes.specs.Reading.{ReadsServers}
use Rattle.store_shown.proofs.BeforeRead.{is_read}
use Rattle.store_shown.proofs.before.read_before.Goals as goal

pub returns-in-Ok : goal.returns-in-Ok
returns-in-Ok g c =
    let s = c.args.scenario.now in
    let r = subst (ReadsServers g.H.D.Disk.state s (g.H.Shelf.state c.args.shelf.now) (g.H.Shelf.state c.read_servers.new.shelf)) c.in-Ok.is c.read_servers.ensures in record {
      says = λ held holds. is_read s held c.in-Ok.memories (r.says held holds);
      sound = r.sound;
      back = r.back;
      refused = tt;
      cause = tt;
      still = r.still;
      keeps = r.keeps;
      returned = r.returned;
    }

pub returns-in-Err : goal.returns-in-Err
returns-in-Err g c =
    let s = c.args.scenario.now in
    let r = subst (ReadsServers g.H.D.Disk.state s (g.H.Shelf.state c.args.shelf.now) (g.H.Shelf.state c.read_servers.new.shelf)) c.in-Err.is c.read_servers.ensures in
    record { says = tt; sound = tt; back = tt; refused = r.refused; cause = r.cause; still = r.still; keeps = r.keeps; returned = r.returned }
