use Rattle.std.proofs.Common.{◌≡◌, ◌+◌, List, Some, suc, length, slice_get, ap, refl, sym, subst, arith}
use Rattle.std.proofs.lemmas.Option.{slice_get_read}
use Rattle.scenario_form.specs.Contents.{resource_numbered}
use Rattle.scenario_form.specs.declared.scenarios.ResourceDef.{ResourceDef}
use Rattle.history_text.specs.Worlds.{resources_from, setup_of}
use Rattle.judged_bench.specs.Following.{Follows}
use Rattle.judged_bench.specs.declared.benches.Bench.{Bench}
use Rattle.history_audit.proofs.SoFar.{AreSoFar, all_benches, none_so_far, one_so_far, resource_at}
use Rattle.history_audit.proofs.nodes.new_benches.Goals as goal

pub loop-k-init : goal.loop-k-init
loop-k-init c =
    let s = c.args.scenario.now in
    subst (λ (bs : List Bench). AreSoFar Follows (resources_from s 1 s.resources) bs 0) (sym c.new-benches.ensures.items) (none_so_far Follows (resources_from s 1 s.resources))

pub overflow_cast-k : goal.overflow_cast-k
overflow_cast-k c = let few = c.requires.servers in let size = ap length c.as_slice-def-items.ensures in let below = c.loop-k-test.true in omega (arith, few, size, below)

pub overflow_add-k : goal.overflow_add-k
overflow_add-k c = let few = c.requires.servers in let size = ap length c.as_slice-def-items.ensures in let below = c.loop-k-test.true in omega (arith, few, size, below)

pub new_bench-requires-clause-there : goal.new_bench-requires-clause-there
new_bench-requires-clause-there c =
    let next : suc c.loop-k.k ≡ c.loop-k.k + 1 = omega arith in
    subst (λ n. resource_numbered c.args.scenario.now.resources n ≡ Some c.def-item.result) next
    (subst (λ (ds : List ResourceDef). slice_get ds c.loop-k.k ≡ Some c.def-item.result) c.as_slice-def-items.ensures
    (slice_get_read c.as_slice-def-items.result.now _ c.loop-k.k _ refl c.loop-k-test.true c.def-item.is))

pub loop-k-preserved : goal.loop-k-preserved
loop-k-preserved c =
    let s = c.args.scenario.now in
    let settings = resources_from s 1 s.resources in
    let there = subst (λ (ds : List ResourceDef). slice_get ds c.loop-k.k ≡ Some c.def-item.result) c.as_slice-def-items.ensures
    (slice_get_read c.as_slice-def-items.result.now _ c.loop-k.k _ refl c.loop-k-test.true c.def-item.is) in
    subst (λ (bs : List Bench). AreSoFar Follows settings bs (c.loop-k.k + 1)) (sym c.in_ok-put.ensures)
    (one_so_far Follows settings c.loop-k.benches.items c.loop-k.k (setup_of s (c.loop-k.k + 1) c.def-item.result) c.in_ok-bench.bench c.loop-k.invariant
    (resource_at s s.resources c.loop-k.k c.def-item.result there) c.in_ok-bench.ensures)

pub returns : goal.returns
returns c =
    let past = c.loop-k-test.false in
    let end = c.loop-k.auto.k-end in
    let size = ap length c.as_slice-def-items.ensures in
    all_benches c.args.scenario.now c.loop-k.benches.items c.loop-k.k (omega (arith, past, end, size)) c.loop-k.invariant
