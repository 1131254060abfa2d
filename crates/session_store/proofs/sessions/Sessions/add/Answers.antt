use Rattle.std.proofs.Common.{◌∙◌}
use Rattle.session_store.specs.Keeping.{managers_of, resources_of}
use Rattle.session_store.proofs.ListLaws.{read_within}
use Rattle.session_store.proofs.SessionLaws.{makes}
use Rattle.session_store.proofs.sessions.Sessions.add.Goals as goal

pub add-requires-clause-is : goal.add-requires-clause-is
add-requires-clause-is g c =
    read_within (managers_of c.args.self.now) (resources_of c.args.self.now) c.args.item.now c.deref.result.now c.requires.fits (c.deref.ensures.value ∙ c.in-Ok.ensures) c.requires.within

pub returns : goal.returns
returns g c =
    makes g.D.Disk.state c.args.self.now (record { store = c.add.new.self }) c.args.item.now c.deref.result.now c.requires.fits (c.deref.ensures.value ∙ c.in-Ok.ensures) c.requires.allowed c.requires.within
    c.add.ensures.machine c.add.ensures.found c.add.ensures.any_moment c.add.ensures.not_begun c.add.result c.add.ensures.keeps c.add.ensures.memory c.add.ensures.took c.add.ensures.extent c.add.ensures.failed c.add.ensures.exact c.add.ensures.room c.add.ensures.down
