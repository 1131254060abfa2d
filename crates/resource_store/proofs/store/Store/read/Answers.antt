use Rattle.std.proofs.Common.{◌∙◌, Ok, Err}
use Rattle.memory_store.proofs.ListKeeping.{read_keeps}
use Rattle.memory_store.proofs.Lists.{not_damaged}
use Rattle.memory_store.proofs.Openings.{reads_in, reads_none}
use Rattle.resource_store.specs.Keeping.{store_of}
use Rattle.resource_store.specs.Meaning.{setting, meaning_of}
use Rattle.resource_store.specs.Standing.{lists_of}
use Rattle.resource_store.proofs.OpeningLaws.{reads_of}
use Rattle.resource_store.proofs.ListLaws.{lists_lawful}
use Rattle.resource_store.proofs.store.Store.read.Goals as goal

pub returns-in-Ok-clause-stands : goal.returns-in-Ok-clause-stands
returns-in-Ok-clause-stands g c =
    let t = setting c.args.resource c.args.schema c.args.opening in
    let e = reads_of g.D.Disk.state c.args.first c.args.second (Ok c.in-Ok.kept) _ t c.new-machine.ensures c.in-Ok.ensures.reads in
    record {
      keeps = λ rs a b is too stands. read_keeps (lists_of t) (lists_lawful t) g.D.Disk.state a b c.in-Ok.kept (e.read a b is too) rs stands;
      recovers = tt;
      setting = c.in-Ok.ensures.machine ∙ c.new-machine.ensures;
    }

pub returns-in-Ok-clause-reads : goal.returns-in-Ok-clause-reads
returns-in-Ok-clause-reads g c =
    let t = setting c.args.resource c.args.schema c.args.opening in
    reads_in g.D.Disk.state (meaning_of t) store_of c.args.first c.args.second (record { kept = c.in-Ok.kept })
    (reads_of g.D.Disk.state c.args.first c.args.second (Ok c.in-Ok.kept) _ t c.new-machine.ensures c.in-Ok.ensures.reads)

pub returns-in-Err-clause-stands : goal.returns-in-Err-clause-stands
returns-in-Err-clause-stands g c =
    let t = setting c.args.resource c.args.schema c.args.opening in
    let e = reads_of g.D.Disk.state c.args.first c.args.second (Err c.in-Err.failed) _ t c.new-machine.ensures c.in-Err.ensures.reads in
    record {
      keeps = tt;
      recovers = λ rs a b is too stands. not_damaged (lists_of t) (lists_lawful t) a b c.in-Err.failed.0 (e.damaged a b is too) rs stands;
      setting = tt;
    }

pub returns-in-Err-clause-reads : goal.returns-in-Err-clause-reads
returns-in-Err-clause-reads g c =
    let t = setting c.args.resource c.args.schema c.args.opening in
    reads_none g.D.Disk.state (meaning_of t) store_of c.args.first c.args.second c.in-Err.failed
    (reads_of g.D.Disk.state c.args.first c.args.second (Err c.in-Err.failed) _ t c.new-machine.ensures c.in-Err.ensures.reads)
