use Rattle.std.proofs.Common.{◌≡◌, ◌∙◌, Option, Some, None, ap, sym}
use Rattle.std.specs.Option.{option_copied}
use Rattle.undo_log.specs.Entries.{entry_at}
use Rattle.undo_log.specs.declared.records.UndoEntry.TheVariants as entry
use Rattle.resource_rules.proofs.Ends.{undone_ok, remarks, marks}
use Rattle.resource_rules.proofs.at_ends.at_rollback.Goals as goal

pub returns-in-Some-Normal : goal.returns-in-Some-Normal
returns-in-Some-Normal c =
    let e : entry_at c.args.memory.now.undo_log c.args.leg ≡ Some (entry.Normal c.in-Some-Normal.record) =
    sym (ap (λ (o : Option _). option_copied o) (sym c.in-Some-Normal.is) ∙ c.entry.ensures) ∙ ap Some c.in-Some-Normal.field-0-is in
    undone_ok c.args.memory.now c.args.txns.now.opens c.args.leg c.in-Some-Normal.record c.tables.result.now c.as_slice.result.now c.undo.result c.tables.ensures c.as_slice.ensures e
    c.in_range.ensures.xid c.in_range.ensures.branch c.undo.ensures

pub returns-in-Some-Finished : goal.returns-in-Some-Finished
returns-in-Some-Finished c =
    let e : entry_at c.args.memory.now.undo_log c.args.leg ≡ Some entry.Finished =
    sym (ap (λ (o : Option _). option_copied o) (sym c.in-Some-Finished.is) ∙ c.entry.ensures) ∙ ap Some c.in-Some-Finished.field-0-is in
    λ is ts manager call at from. remarks is c.args.memory.now ts c.args.leg manager call from e _ c.rollbacked.ensures

pub returns-in-None : goal.returns-in-None
returns-in-None c =
    let e : entry_at c.args.memory.now.undo_log c.args.leg ≡ None = sym (ap (λ (o : Option _). option_copied o) (sym c.in-None.is) ∙ c.entry.ensures) in
    λ is ts manager call at from. marks is c.args.memory.now ts c.args.leg manager call from e c.in_range.ensures.xid c.in_range.ensures.branch _ c.rollbacked-in-None.ensures
