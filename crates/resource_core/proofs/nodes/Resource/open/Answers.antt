use Rattle.resource_core.proofs.NodeOpened.{not_opened, opened_by, refused_by, placed_by}
use Rattle.resource_core.proofs.nodes.Resource.open.Goals as goal

pub start-requires : goal.start-requires
start-requires g c = record { up = c.in-Ok.ensures.loaded.up }

pub returns-in-Ok-clause-opened : goal.returns-in-Ok-clause-opened
returns-in-Ok-clause-opened g c = opened_by g.D.Disk.state c.args.first c.args.second c.args.place c.args.setup c.in-Ok.loaded c.in-Ok.ensures.loaded c.start.result c.start.ensures.opened

pub returns-in-Ok-clause-at : goal.returns-in-Ok-clause-at
returns-in-Ok-clause-at g c = placed_by g.D.Disk.state c.args.first c.args.second c.args.place c.args.setup c.in-Ok.loaded c.in-Ok.ensures.loaded c.start.result c.start.ensures.at

pub returns-in-Ok-clause-refused : goal.returns-in-Ok-clause-refused
returns-in-Ok-clause-refused g c = refused_by g.D.Disk.state c.args.first c.args.second c.args.place c.args.setup c.in-Ok.loaded c.in-Ok.ensures.loaded c.start.result c.start.ensures.refused

pub returns-in-Err-clause-refused : goal.returns-in-Err-clause-refused
returns-in-Err-clause-refused g c = not_opened g.D.Disk.state c.args.first c.args.second c.args.place c.args.setup c.in-Err.failed c.in-Err.ensures.refused
