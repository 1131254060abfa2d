use Rattle.std.proofs.Common.{◌+◌, ℕ, List, length, refl, subst}
use Rattle.std.proofs.lemmas.Option.{slice_get_read}
use Rattle.seata_types.specs.declared.statements.Work.{Work}
use Rattle.run_links.specs.Linked.{HaveMade}
use Rattle.run_links.specs.Routes.{routes_by}
use Rattle.run_links.proofs.Made.{manager_more}
use Rattle.run_links.proofs.linking.link_managers.Goals as goal

pub loop-k-preserved : goal.loop-k-preserved
loop-k-preserved c =
    let k = c.loop-k.k in
    let defs = c.args.defs.now in
    let def = c.index-defs-k.result in
    let at = slice_get_read defs (length defs) k def refl c.loop-k-test.true c.index-defs-k.is in
    manager_more k defs def c.args.links.now c.loop-k.links c.link_manager.new.links at c.loop-k.invariant
    (subst (λ (calls : List (ℕ × Work)). HaveMade (routes_by (k + 1) calls) c.loop-k.links c.link_manager.new.links) c.as_slice.ensures c.in_ok-link_manager.ensures)
