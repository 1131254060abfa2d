use Rattle.std.proofs.Common.{◌≡◌, ◌+◌, List, Some, length, slice_get, ap, refl, sym, subst, arith}
use Rattle.std.proofs.lemmas.Option.{slice_get_read}
use Rattle.scenario_form.specs.declared.scenarios.ManagerDef.{ManagerDef}
use Rattle.history_text.specs.Worlds.{managers_from, settings_of}
use Rattle.judged_talk.specs.Following.{Follows}
use Rattle.judged_talk.specs.declared.talks.Talk.{Talk}
use Rattle.scenario_setups.specs.Setups.{HasFewCalls}
use Rattle.history_audit.proofs.Served.{all_at}
use Rattle.scenario_setups.proofs.Calls.{few_calls}
use Rattle.history_audit.proofs.SoFar.{AreSoFar, all_talks, manager_at, none_so_far, one_so_far}
use Rattle.history_audit.proofs.nodes.new_talks.Goals as goal

pub loop-k-init : goal.loop-k-init
loop-k-init c =
    let s = c.args.scenario.now in
    subst (λ (ts : List Talk). AreSoFar Follows (managers_from s.lock_tries 1 s.managers) ts 0) (sym c.new-talks.ensures.items) (none_so_far Follows (managers_from s.lock_tries 1 s.managers))

pub overflow_cast-k : goal.overflow_cast-k
overflow_cast-k c = let few = c.requires.few in let size = ap length c.as_slice-def-items.ensures in let below = c.loop-k-test.true in omega (arith, few, size, below)

pub overflow_add-k : goal.overflow_add-k
overflow_add-k c = let few = c.requires.few in let size = ap length c.as_slice-def-items.ensures in let below = c.loop-k-test.true in omega (arith, few, size, below)

pub new-requires : goal.new-requires
new-requires c =
    let s = c.args.scenario.now in
    all_at HasFewCalls s.managers c.loop-k.k c.def-item.result (few_calls s c.requires)
    (subst (λ (ds : List ManagerDef). slice_get ds c.loop-k.k ≡ Some c.def-item.result) c.as_slice-def-items.ensures
    (slice_get_read c.as_slice-def-items.result.now _ c.loop-k.k _ refl c.loop-k-test.true c.def-item.is))

pub loop-k-preserved : goal.loop-k-preserved
loop-k-preserved c =
    let s = c.args.scenario.now in
    let settings = managers_from s.lock_tries 1 s.managers in
    let there = subst (λ (ds : List ManagerDef). slice_get ds c.loop-k.k ≡ Some c.def-item.result) c.as_slice-def-items.ensures
    (slice_get_read c.as_slice-def-items.result.now _ c.loop-k.k _ refl c.loop-k-test.true c.def-item.is) in
    subst (λ (ts : List Talk). AreSoFar Follows settings ts (c.loop-k.k + 1)) (sym c.in_ok-put.ensures)
    (one_so_far Follows settings c.loop-k.talks.items c.loop-k.k (settings_of s.lock_tries (c.loop-k.k + 1) c.def-item.result) c.in_ok-talk.talk c.loop-k.invariant
    (manager_at s.lock_tries s.managers c.loop-k.k c.def-item.result there) c.in_ok-talk.ensures)

pub returns : goal.returns
returns c =
    let past = c.loop-k-test.false in
    let end = c.loop-k.auto.k-end in
    let size = ap length c.as_slice-def-items.ensures in
    all_talks c.args.scenario.now c.loop-k.talks.items c.loop-k.k (omega (arith, past, end, size)) c.loop-k.invariant
