use Rattle.std.proofs.Common.{true}
use Rattle.judged_bench.proofs.First.{first_stands}
use Rattle.judged_bench.proofs.benches.Bench.new.Goals as goal

pub returns-in-Ok : goal.returns-in-Ok
returns-in-Ok c = record {
  device = c.new.ensures true;
  stands = first_stands c.args.setup c.args.schema c.args.opening c.in-Ok.memory c.new-in-Ok.result c.requires.counted c.in-Ok.ensures c.new-in-Ok.ensures;
}
