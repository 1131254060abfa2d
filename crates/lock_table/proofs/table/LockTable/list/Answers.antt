use Rattle.std.proofs.Common.{◌≡◌, ◌∙◌, ap}
use Rattle.lock_table.specs.Locks.{locks}
use Rattle.lock_table.specs.Counts.{locks_of}
use Rattle.lock_table.proofs.Holders.{rows_are}
use Rattle.lock_table.proofs.Firsts.{listed_as}
use Rattle.lock_table.proofs.table.LockTable.list.Goals as goal

pub returns : goal.returns
returns c =
    let same : c.self.inside.holds.entries ≡ c.args.self.now = c.self.view_is in
    let is : locks_of c.deref.result.now ≡ locks c.args.self.now = ap locks_of c.deref.ensures.value ∙ rows_are c.self.inside.rows.items c.self.inside.holds.entries c.self.invariant ∙ ap locks same in
    listed_as (locks_of c.deref.result.now) (locks c.args.self.now) is c.listed.result c.listed.ensures
