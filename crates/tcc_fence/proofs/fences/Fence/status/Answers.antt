use Rattle.std.proofs.Common.{rules, ◌≡◌, ◌∙◌, ap, sym, option_map, Some, None}
use Rattle.std.specs.BTreeMap.{is_at}
use Rattle.std.specs.Map.{lookup}
use Rattle.tcc_fence.specs.Meanings.{status_of, fence_at}
use Rattle.tcc_fence.proofs.MapLaws.{order, fences_found}
use Rattle.tcc_fence.proofs.fences.Fence.status.Goals as goal

pub returns-in-Some : goal.returns-in-Some
returns-in-Some c =
    let found : Some c.in-Some.status.now ≡ lookup (is_at (order c.args.leg)) c.self.inside.entries.entries = search rules in
    ap (option_map status_of) found ∙ fences_found c.self.inside.entries.entries c.args.leg ∙ ap (λ fences. fence_at fences c.args.leg) c.self.view_is

pub returns-in-None : goal.returns-in-None
returns-in-None c =
    let none : lookup (is_at (order c.args.leg)) c.self.inside.entries.entries ≡ None = search rules in
    sym (ap (option_map status_of) none) ∙ fences_found c.self.inside.entries.entries c.args.leg ∙ ap (λ fences. fence_at fences c.args.leg) c.self.view_is
