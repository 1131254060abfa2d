use Rattle.std.proofs.Common.{◌≡◌, ◌∙◌, ap, sym, length, subst, arith}
use Rattle.std.proofs.lemmas.List.{length-map}
use Rattle.seata_types.specs.declared.rows.RowKey.{RowKey}
use Rattle.lock_table.specs.declared.holder.Holder.{Holder}
use Rattle.lock_table.specs.Locks.{Locks, locks}
use Rattle.lock_table.specs.Counts.{locks_of}
use Rattle.lock_table.specs.Answers.{FindsConflict}
use Rattle.lock_table.proofs.Holders.{rows_are}
use Rattle.lock_table.proofs.table.LockTable.search.Goals as goal

pub returns-clause-found : goal.returns-clause-found
returns-clause-found g c =
    let is : locks_of c.deref.result.now ≡ locks c.args.self.now = ap locks_of c.deref.ensures.value ∙ rows_are c.self.inside.rows.items c.self.inside.holds.entries c.self.invariant ∙ ap locks c.self.view_is in
    subst (λ (ls : Locks). FindsConflict ls c.args.xid c.args.keys.now c.conflict.result) is c.conflict.ensures.found

pub returns-clause-cost : goal.returns-clause-cost
returns-clause-cost g c = λ d small.
    let is : locks_of c.deref.result.now ≡ locks c.args.self.now = ap locks_of c.deref.ensures.value ∙ rows_are c.self.inside.rows.items c.self.inside.holds.entries c.self.invariant ∙ ap locks c.self.view_is in
    let long : length c.deref.result.now ≡ length (locks c.args.self.now) = sym (length-map c.deref.result.now (λ (e : RowKey × Holder). (e.0, e.1.xid))) ∙ ap length is in
    c.conflict.ensures.cost d (omega (arith, long, small))
