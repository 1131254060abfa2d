use Rattle.std.proofs.Common.{rules, ◌≡◌, ◌∙◌, ap, sym, None, option_map, Result, Ok, Err, OnErr}
use Rattle.std.specs.BTreeMap.{insert_entry, is_at}
use Rattle.std.specs.Map.{lookup}
use Rattle.durable_records.specs.Fences.{with_fence}
use Rattle.tcc_fence.specs.Meanings.{status_of, fences_of, fence_at}
use Rattle.tcc_fence.proofs.MapLaws.{order, fences_insert, fences_found}
use Rattle.tcc_fence.proofs.fences.Fence.set.Goals as goal

pub returns-clause-done : goal.returns-clause-done
returns-clause-done c =
    let put : c.insert.new.self.entries ≡ insert_entry order c.self.inside.entries.entries c.args.leg c.args.status = search rules in
    ap fences_of put ∙ fences_insert c.self.inside.entries.entries c.args.leg c.args.status
    ∙ ap (with_fence c.args.leg.xid.0 c.args.leg.branch.0 (status_of c.args.status)) c.self.view_is

on_err : {T E P : Type 0} (r : Result T E) → P → OnErr r P
on_err (Ok x) p = tt
on_err (Err e) p = p

pub returns-in_err-insert-clause-needless : goal.returns-in_err-insert-clause-needless
returns-in_err-insert-clause-needless c =
    let none : lookup (is_at (order c.args.leg)) c.self.inside.entries.entries ≡ None = search rules in
    on_err c.from_residual.result
    (ap (λ fences. fence_at fences c.args.leg) (sym c.self.view_is) ∙ sym (fences_found c.self.inside.entries.entries c.args.leg) ∙ ap (option_map status_of) none)
