use Rattle.std.proofs.Common.{◌∙◌, map}
use Rattle.local_txn.specs.Answers.{open_of}
use Rattle.local_txn.proofs.CallLaws.{busy_is}
use Rattle.local_txn.proofs.local_txns.LocalTxns.busy.Goals as goal

pub returns : goal.returns
returns c =
    c.busy.ensures ∙ busy_is c.self.inside.boot c.self.inside.opened (map open_of c.self.inside.txns.items) c.self.inside.rows.entries c.args.effect.now c.as_slice-images.result.now c.as_slice.result.now c.args.self.now c.self.view_is c.self.invariant c.as_slice-images.ensures c.as_slice.ensures
