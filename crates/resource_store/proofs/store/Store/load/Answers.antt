use Rattle.std.proofs.Common.{◌∙◌, Ok, Err}
use Rattle.memory_store.proofs.ListKeeping.{open_keeps}
use Rattle.memory_store.proofs.Lists.{goes_on, not_damaged}
use Rattle.memory_store.proofs.Openings.{opens_in, opens_none}
use Rattle.resource_store.specs.Keeping.{store_of}
use Rattle.resource_store.specs.Meaning.{setting, meaning_of}
use Rattle.resource_store.specs.Standing.{lists_of}
use Rattle.resource_store.proofs.OpeningLaws.{opens_of}
use Rattle.resource_store.proofs.ListLaws.{lists_lawful}
use Rattle.resource_store.proofs.store.Store.load.Goals as goal

pub returns-in-Ok-clause-stands : goal.returns-in-Ok-clause-stands
returns-in-Ok-clause-stands g c =
    let t = setting c.args.resource c.args.schema c.args.opening in
    let e = opens_of g.D.Disk.state c.args.first c.args.second (Ok c.in-Ok.kept) _ t c.new-machine.ensures c.in-Ok.ensures.opens in
    record {
      keeps = λ rs a b is too stands. open_keeps (lists_of t) (lists_lawful t) g.D.Disk.state a b c.in-Ok.kept (e.opened a b is too) rs stands;
      recovers = tt;
      setting = c.in-Ok.ensures.machine ∙ c.new-machine.ensures;
    }

pub returns-in-Ok-clause-opens : goal.returns-in-Ok-clause-opens
returns-in-Ok-clause-opens g c =
    let t = setting c.args.resource c.args.schema c.args.opening in
    opens_in g.D.Disk.state (meaning_of t) store_of c.args.first c.args.second (goes_on (lists_of t) (lists_lawful t)) (record { kept = c.in-Ok.kept })
    (opens_of g.D.Disk.state c.args.first c.args.second (Ok c.in-Ok.kept) _ t c.new-machine.ensures c.in-Ok.ensures.opens)

pub returns-in-Err-clause-stands : goal.returns-in-Err-clause-stands
returns-in-Err-clause-stands g c =
    let t = setting c.args.resource c.args.schema c.args.opening in
    let e = opens_of g.D.Disk.state c.args.first c.args.second (Err c.in-Err.failed) _ t c.new-machine.ensures c.in-Err.ensures.opens in
    record {
      keeps = tt;
      recovers = λ rs a b is too stands. not_damaged (lists_of t) (lists_lawful t) a b c.in-Err.failed.0 (e.damaged a b is too) rs stands;
      setting = tt;
    }

pub returns-in-Err-clause-opens : goal.returns-in-Err-clause-opens
returns-in-Err-clause-opens g c =
    let t = setting c.args.resource c.args.schema c.args.opening in
    opens_none g.D.Disk.state (meaning_of t) store_of c.args.first c.args.second (goes_on (lists_of t) (lists_lawful t)) c.in-Err.failed
    (opens_of g.D.Disk.state c.args.first c.args.second (Err c.in-Err.failed) _ t c.new-machine.ensures c.in-Err.ensures.opens)
