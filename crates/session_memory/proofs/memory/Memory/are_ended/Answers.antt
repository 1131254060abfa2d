use Rattle.session_memory.specs.Lookups.{branches_in}
use Rattle.session_memory.proofs.EndsLaws.{all_ended}
use Rattle.session_memory.proofs.memory.Memory.are_ended.Goals as goal

pub returns : goal.returns
returns c = all_ended c.next_open.result (branches_in c.args.self.now c.args.xid.0) c.is_none.result c.is_none.ensures c.next_open.ensures
