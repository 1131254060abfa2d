use Rattle.run_ends.proofs.Giving.{gives, gives_named, loses, still_has}
use Rattle.run_ends.proofs.ended.Ended.give_sender.Goals as goal

pub invariant_of-self : goal.invariant_of-self
invariant_of-self g c =
    still_has g.K.RunName.run _ c.args.self.now c.self.invariant c.self.view_is c.as_slice.result.now c.as_slice.ensures.value c.args.to c.in_ok-k.k c.in_ok-k.ensures c.remove.result
    c.remove.ensures.value c.remove.new.self.items c.remove.ensures.items

pub returns-clause-given : goal.returns-clause-given
returns-clause-given g c =
    gives g.K.RunName.run _ c.args.self.now c.self.invariant c.self.view_is c.as_slice.result.now c.as_slice.ensures.value c.args.to c.in_ok-k.k c.in_ok-k.ensures c.remove.result
    c.remove.ensures.value c.remove.new.self.items c.remove.ensures.items

pub returns-clause-queue : goal.returns-clause-queue
returns-clause-queue g c =
    gives_named g.K.RunName.run _ c.args.self.now c.self.invariant c.self.view_is c.as_slice.result.now c.as_slice.ensures.value c.args.to c.in_ok-k.k c.in_ok-k.ensures c.remove.result
    c.remove.ensures.value c.remove.new.self.items c.remove.ensures.items

pub returns-clause-rest : goal.returns-clause-rest
returns-clause-rest g c =
    loses g.K.RunName.run _ c.args.self.now c.self.invariant c.self.view_is c.as_slice.result.now c.as_slice.ensures.value c.args.to c.in_ok-k.k c.in_ok-k.ensures c.remove.result
    c.remove.ensures.value c.remove.new.self.items c.remove.ensures.items
