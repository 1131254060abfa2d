use Rattle.std.proofs.Common.{Err, sym, subst}
use Rattle.seata_types.specs.declared.errors.NodeError.{NodeError}
use Rattle.seata_types.specs.declared.errors.NodeError.TheVariants as error
use Rattle.local_txn.specs.Answers.{Tickets}
use Rattle.resource_core.specs.Stepping.{Answers}
use Rattle.resource_core.proofs.Making.{answered, may_follow, unmade, unopened}
use Rattle.resource_core.proofs.branches.Branches.make.Goals as goal

pub follow-requires : goal.follow-requires
follow-requires g c = may_follow c.args.self.now.txns c.args.answer.asked c.args.answer.change c.requires.ready.within.room c.requires.opens

pub returns-in-Ok-follow : goal.returns-in-Ok-follow
returns-in-Ok-follow g c = λ given are.
    answered g.D.Disk.state given c.args.answer c.args.self.now c.settle.new.self c.requires.ready are c.follow.new.txns c.in-Ok-follow.ensures.ok c.in-Ok.ensures.does c.in-Ok.ensures.leaves

pub returns-in-Err-follow : goal.returns-in-Err-follow
returns-in-Err-follow g c = λ given are.
    subst (λ (ts : Tickets). Answers g.D.Disk.state c.args.self.now (record { setup = c.args.self.now.setup; store = c.settle.new.self; txns = ts }) given (Err error.NoMemory)) (sym c.in-Err-follow.ensures.err)
    (unopened g.D.Disk.state given c.args.answer c.args.self.now c.settle.new.self c.requires.ready are c.in-Err-follow.ensures.opening c.in-Ok.ensures.does)

pub returns-in-Err : goal.returns-in-Err
returns-in-Err g c = λ given are.
    subst (λ (e : NodeError). Answers g.D.Disk.state c.args.self.now (record { setup = c.args.self.now.setup; store = c.settle.new.self; txns = c.args.self.now.txns }) given (Err e)) (sym c.node_error.ensures)
    (unmade g.D.Disk.state given c.args.answer c.args.self.now c.settle.new.self c.requires.ready are c.in-Err.error c.durable_of-at.result c.durable_of-at.ensures c.in-Err.ensures.does c.in-Err.ensures.leaves)
