use Rattle.std.proofs.Common.{sym, subst, refl}
use Rattle.resource_core.specs.NodeOpening.{IsNotLoaded}
use Rattle.resource_core.proofs.NodeOpened.{settled_below, is_loaded, is_not_loaded}
use Rattle.resource_core.proofs.nodes.Resource.load.Goals as goal

pub load-requires-clause-first : goal.load-requires-clause-first
load-requires-clause-first g c = settled_below g.D.Disk.state c.args.first c.new-first.result c.new-first.ensures.below c.requires.first

pub load-requires-clause-second : goal.load-requires-clause-second
load-requires-clause-second g c = settled_below g.D.Disk.state c.args.second c.new-second.result c.new-second.ensures.below c.requires.second

pub load-requires-clause-opens : goal.load-requires-clause-opens
load-requires-clause-opens g c = c.requires.setup.opens.opens

pub load-requires-clause-fits : goal.load-requires-clause-fits
load-requires-clause-fits g c = c.requires.setup.opens.fits

pub returns-in-Err-clause-refused : goal.returns-in-Err-clause-refused
returns-in-Err-clause-refused g c =
    subst (IsNotLoaded g.D.Disk.state c.args.first c.args.second c.args.place c.args.setup) (sym c.give_back.ensures)
    (is_not_loaded g.D.Disk.state c.args.place c.args.setup c.args.first c.args.second c.new-first.result c.new-second.result
    c.new-first.ensures.below c.new-second.ensures.below c.new-first.ensures.off c.new-second.ensures.off c.in-Err.error c.in-Err.first c.in-Err.second c.in-Err.ensures.stands c.in-Err.ensures.opens)

pub returns-clause-loaded : goal.returns-clause-loaded
returns-clause-loaded g c =
    is_loaded g.D.Disk.state c.args.place c.args.setup c.args.first c.args.second c.new-first.result c.new-second.result
    c.new-first.ensures.below c.new-second.ensures.below c.new-first.ensures.off c.new-second.ensures.off c.requires.setup _ refl c.in-Ok.ensures.stands c.in-Ok.ensures.opens c.in-Ok.ensures.sound
