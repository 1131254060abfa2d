use Rattle.std.proofs.Common.{◌∙◌, ap, sym}
use Rattle.durable_records.specs.Fences.{on_confirm}
use Rattle.tcc_fence.specs.Meanings.{Fences, fence_at}
use Rattle.resource_memory.specs.Known.{Known}
use Rattle.resource_rules.proofs.TccEnds.{confirmed_known, confirmed_ok}
use Rattle.resource_rules.proofs.tcc_ends.confirm_for.Goals as goal

pub returns-clause-rules : goal.returns-clause-rules
returns-clause-rules c =
    confirmed_ok c.args.memory.now c.args.leg c.kept-known.ensures.kept.rows c.tables.result.now c.args.stmts.now _ (c.tables.ensures ∙ ap (λ (k : Known). k.tables) c.kept-known.ensures.same) c.confirm_by.result
    (sym (c.on_confirm-fence.ensures ∙ ap (λ (f : Fences). on_confirm (fence_at f c.args.leg)) (c.fence.ensures ∙ ap (λ (k : Known). k.fences) c.kept-known.ensures.same))) c.confirm_by.ensures

pub returns-clause-known : goal.returns-clause-known
returns-clause-known c =
    confirmed_known c.args.memory.now c.args.leg c.tables.result.now c.args.stmts.now _ (c.tables.ensures ∙ ap (λ (k : Known). k.tables) c.kept-known.ensures.same) c.confirm_by.result
    (sym (c.on_confirm-fence.ensures ∙ ap (λ (f : Fences). on_confirm (fence_at f c.args.leg)) (c.fence.ensures ∙ ap (λ (k : Known). k.fences) c.kept-known.ensures.same))) c.confirm_by.ensures
