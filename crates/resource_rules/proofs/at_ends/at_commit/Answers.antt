use Rattle.std.proofs.Common.{◌≡◌, ◌∙◌, Option, Some, None, ap, sym}
use Rattle.std.specs.Option.{option_copied}
use Rattle.undo_log.specs.Entries.{entry_at}
use Rattle.undo_log.specs.declared.records.UndoEntry.TheVariants as entry
use Rattle.resource_rules.proofs.Ends.{clears, marked_empty, none_empty}
use Rattle.resource_rules.proofs.at_ends.at_commit.Goals as goal

pub returns-in-Some-Normal : goal.returns-in-Some-Normal
returns-in-Some-Normal c =
    let e : entry_at c.args.memory.now.undo_log c.args.leg ≡ Some (entry.Normal c.in-Some-Normal.field-0-0) =
    sym (ap (λ (o : Option _). option_copied o) (sym c.in-Some-Normal.is) ∙ c.entry.ensures) ∙ ap Some c.in-Some-Normal.field-0-is in
    λ is ts manager call from. clears is c.args.memory.now ts c.args.leg manager call from c.in-Some-Normal.field-0-0 e c.in_range.ensures.xid c.in_range.ensures.branch _ c.committed.ensures

pub returns-in-Some-Finished : goal.returns-in-Some-Finished
returns-in-Some-Finished c =
    let e : entry_at c.args.memory.now.undo_log c.args.leg ≡ Some entry.Finished =
    sym (ap (λ (o : Option _). option_copied o) (sym c.in-Some-Finished.is) ∙ c.entry.ensures) ∙ ap Some c.in-Some-Finished.field-0-is in
    λ is ts manager call from. marked_empty is c.args.memory.now ts c.args.leg manager call from e _ c.empty.ensures

pub returns-in-None : goal.returns-in-None
returns-in-None c =
    let e : entry_at c.args.memory.now.undo_log c.args.leg ≡ None = sym (ap (λ (o : Option _). option_copied o) (sym c.in-None.is) ∙ c.entry.ensures) in
    λ is ts manager call from. none_empty is c.args.memory.now ts c.args.leg manager call from e _ c.empty-in-None.ensures
