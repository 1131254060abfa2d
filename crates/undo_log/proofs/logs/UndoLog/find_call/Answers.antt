use Rattle.std.proofs.Common.{rules, ◌≡◌, ◌∙◌, ap, sym, subst}
use Rattle.std.specs.BTreeMap.Range.{entries_between}
use Rattle.std.specs.declared.ops.Bound.TheVariants.{Included}
use Rattle.undo_log.specs.Entries.{Log, order, record_of_call, leg_at}
use Rattle.undo_log.proofs.RangeLaws.{in_range}
use Rattle.undo_log.proofs.logs.UndoLog.find_call.Goals as goal

pub loop-leg-init : goal.loop-leg-init
loop-leg-init c =
    let range : c.range-leg-items.result ≡ entries_between order (Included (leg_at c.args.xid.0 0)) c.past.result c.self.inside.entries.entries = search rules in
    let same : c.into_iter-leg-iterator.result ≡ c.range-leg-items.result = search rules in
    ap (record_of_call c.args.xid.0 c.args.call) (same ∙ range)
    ∙ in_range c.args.xid.0 c.args.call c.past.result c.past.ensures c.self.inside.entries.entries
    ∙ ap (record_of_call c.args.xid.0 c.args.call) c.self.view_is
