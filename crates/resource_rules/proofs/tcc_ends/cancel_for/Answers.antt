use Rattle.std.proofs.Common.{◌∙◌, ap, sym}
use Rattle.durable_records.specs.Fences.{on_cancel}
use Rattle.tcc_fence.specs.Meanings.{Fences, fence_at}
use Rattle.resource_memory.specs.Known.{Known}
use Rattle.resource_rules.proofs.TccEnds.{cancelled_known, cancelled_ok}
use Rattle.resource_rules.proofs.tcc_ends.cancel_for.Goals as goal

pub returns-clause-rules : goal.returns-clause-rules
returns-clause-rules c =
    cancelled_ok c.args.memory.now c.args.leg c.kept-known.ensures.kept.rows c.tables.result.now c.args.stmts.now _ (c.tables.ensures ∙ ap (λ (k : Known). k.tables) c.kept-known.ensures.same) c.in_range.ensures.xid c.in_range.ensures.branch c.cancel_by.result
    (sym (c.on_cancel-fence.ensures ∙ ap (λ (f : Fences). on_cancel (fence_at f c.args.leg)) (c.fence.ensures ∙ ap (λ (k : Known). k.fences) c.kept-known.ensures.same))) c.cancel_by.ensures

pub returns-clause-known : goal.returns-clause-known
returns-clause-known c =
    cancelled_known c.args.memory.now c.args.leg c.tables.result.now c.args.stmts.now _ (c.tables.ensures ∙ ap (λ (k : Known). k.tables) c.kept-known.ensures.same) c.cancel_by.result
    (sym (c.on_cancel-fence.ensures ∙ ap (λ (f : Fences). on_cancel (fence_at f c.args.leg)) (c.fence.ensures ∙ ap (λ (k : Known). k.fences) c.kept-known.ensures.same))) c.cancel_by.ensures
