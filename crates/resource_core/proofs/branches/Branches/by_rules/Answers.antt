use Rattle.std.proofs.Common.{sym, subst}
use Rattle.resource_memory.specs.Known.{Known}
use Rattle.resource_store.specs.Keeping.{known}
use Rattle.resource_rules.specs.Answers.{AreOpenOn}
use Rattle.resource_rules.proofs.ReadyLaws.{are_counted, are_open_on, has_places, serves_all}
use Rattle.resource_core.proofs.Making.{by_known, nothing, takes}
use Rattle.resource_core.proofs.branches.Branches.by_rules.Goals as goal

pub answer-requires-clause-room : goal.answer-requires-clause-room
answer-requires-clause-room g c = c.requires.ready.within.room

pub answer-requires-clause-counted : goal.answer-requires-clause-counted
answer-requires-clause-counted g c = are_counted c.args.self.now.setup (known c.args.self.now.store) c.args.self.now.txns c.requires.ready.within

pub answer-requires-clause-open_on : goal.answer-requires-clause-open_on
answer-requires-clause-open_on g c =
    subst (λ (k : Known). AreOpenOn k c.args.self.now.txns) (sym c.memory.ensures.known)
    (are_open_on c.args.self.now.setup (known c.args.self.now.store) c.args.self.now.txns c.requires.ready.within)

pub answer-requires-clause-served : goal.answer-requires-clause-served
answer-requires-clause-served g c = serves_all c.args.given.now c.requires.served

pub make-requires-clause-taken : goal.make-requires-clause-taken
make-requires-clause-taken g c =
    let are = by_known c.args.self.now.setup _ (known c.args.self.now.store) c.args.self.now.txns c.args.given.now c.in-Ok.answer c.memory.ensures.known c.in-Ok.ensures in
    takes c.args.self.now.store c.args.self.now.setup c.args.self.now.txns c.args.given.now
    (has_places c.args.self.now.setup (known c.args.self.now.store) c.args.self.now.txns c.requires.ready.within c.args.given.now c.requires.served) c.in-Ok.answer.asked are.taken

pub make-requires-clause-opens : goal.make-requires-clause-opens
make-requires-clause-opens g c = c.in-Ok.ensures.opens

pub returns-in-Ok : goal.returns-in-Ok
returns-in-Ok g c =
    c.make.ensures c.args.given.now (by_known c.args.self.now.setup _ (known c.args.self.now.store) c.args.self.now.txns c.args.given.now c.in-Ok.answer c.memory.ensures.known c.in-Ok.ensures)

pub returns-in-Err : goal.returns-in-Err
returns-in-Err g c = nothing g.D.Disk.state c.args.self.now c.args.given.now c.requires.ready.up
