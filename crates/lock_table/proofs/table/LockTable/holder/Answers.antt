use Rattle.std.proofs.Common.{◌≡◌, ◌∙◌, ap, sym, subst, arith, length}
use Rattle.std.proofs.lemmas.List.{length-map}
use Rattle.seata_types.specs.declared.rows.RowKey.{RowKey}
use Rattle.lock_table.specs.declared.holder.Holder.{Holder}
use Rattle.lock_table.specs.Locks.{Locks, Holds, HaveOneHolder, locked, locks}
use Rattle.lock_table.specs.Counts.{locks_of}
use Rattle.lock_table.proofs.Holders.{rows_are, one_holder}
use Rattle.lock_table.proofs.table.LockTable.holder.Goals as goal

pub returns-clause-holder : goal.returns-clause-holder
returns-clause-holder g c =
    let same : c.self.inside.holds.entries ≡ c.args.self.now = c.self.view_is in
    let is : locks_of c.deref.result.now ≡ locks c.args.self.now = ap locks_of c.deref.ensures.value ∙ rows_are c.self.inside.rows.items c.self.inside.holds.entries c.self.invariant ∙ ap locks same in
    c.holder.ensures.holder ∙ ap (λ (ls : Locks). locked ls c.args.key.now) is

pub returns-clause-cost : goal.returns-clause-cost
returns-clause-cost g c = λ d small.
    let same : c.self.inside.holds.entries ≡ c.args.self.now = c.self.view_is in
    let is : locks_of c.deref.result.now ≡ locks c.args.self.now = ap locks_of c.deref.ensures.value ∙ rows_are c.self.inside.rows.items c.self.inside.holds.entries c.self.invariant ∙ ap locks same in
    let long : length c.deref.result.now ≡ length (locks c.args.self.now) = sym (length-map c.deref.result.now (λ (e : RowKey × Holder). (e.0, e.1.xid))) ∙ ap length is in
    let one = c.holder.ensures.cost d (omega (arith, long, small)) in
    omega (arith, one)

pub returns-clause-alone : goal.returns-clause-alone
returns-clause-alone g c = subst (λ (hs : Holds). HaveOneHolder hs) c.self.view_is (one_holder c.self.inside.rows.items c.self.inside.holds.entries c.self.invariant)
