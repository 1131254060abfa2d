use Rattle.std.proofs.Common.{ap, ◌∙◌}
use Rattle.resource_log.specs.Records.{record_of}
use Rattle.resource_store.proofs.ListLaws.{written_back}
use Rattle.resource_store.proofs.StoreLaws.{changes}
use Rattle.resource_store.proofs.store.Store.add.Goals as goal

pub take-requires-clause-is : goal.take-requires-clause-is
take-requires-clause-is g c = ap record_of (c.deref.ensures.value ∙ c.in-Ok.ensures) ∙ written_back c.args.item c.requires.taken.fits

pub returns : goal.returns
returns g c =
    changes g.D.Disk.state c.args.self.now (record { kept = c.take.new.self }) c.args.item c.deref.result.now c.requires.taken.fits (c.deref.ensures.value ∙ c.in-Ok.ensures) c.requires.taken.allowed
    c.take.result c.take.ensures
