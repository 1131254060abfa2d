use Rattle.std.proofs.Common.{rules, ◌≡◌, ◌∙◌, ap}
use Rattle.std.specs.BTreeMap.{is_at}
use Rattle.std.specs.Map.{remove_entry}
use Rattle.tcc_fence.specs.Meanings.{fences_of, without_fence}
use Rattle.tcc_fence.proofs.MapLaws.{order, fences_removed}
use Rattle.tcc_fence.proofs.fences.Fence.remove.Goals as goal

pub returns : goal.returns
returns c =
    let left : c.remove.new.self.entries ≡ remove_entry (is_at (order c.args.leg)) c.self.inside.entries.entries = search rules in
    ap fences_of left ∙ fences_removed c.self.inside.entries.entries c.args.leg ∙ ap (λ fences. without_fence fences c.args.leg) c.self.view_is
