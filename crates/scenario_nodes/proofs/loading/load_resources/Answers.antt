use Rattle.std.proofs.Common.{◌≡◌, ◌∙◌, ◌+◌, ◌-◌, List, Some, map, take, length, length-take-le, refl, ap, slice_get, sym, subst, arith}
use Rattle.std.proofs.lemmas.Option.{slice_get_read}
use Rattle.scenario_form.specs.declared.scenarios.ResourceDef.{ResourceDef}
use Rattle.resource_core.specs.NodeOpening.{loaded_disks}
use Rattle.scenario_nodes.specs.Together.{AreApart, AreSecondNames, GivesBack, HaveBoth}
use Rattle.scenario_nodes.proofs.AllLoaded.{loading_all, loading_next, loading_none, loading_returned, loading_stops}
use Rattle.scenario_nodes.proofs.Apart.{servers_apart}
use Rattle.scenario_nodes.proofs.Closing.{second_at, seconds_count}
use Rattle.scenario_nodes.proofs.Cut.{apart_before, names_before, seconds_before}
use Rattle.scenario_nodes.proofs.Together.{have_still}
use Rattle.scenario_nodes.proofs.loading.load_resources.Goals as goal

pub loop-k-init : goal.loop-k-init
loop-k-init g c =
    let state = g.H.D.Disk.state in
    let s = c.args.scenario.now in
    let a = g.H.Shelf.state c.args.shelf.now in (
      loading_none state s a c.args.loaded.items c.requires.none,
      c.args.loaded.ok.0 ∙ ap length c.requires.none,
      refl,
    )

pub bounds-seconds-k : goal.bounds-seconds-k
bounds-seconds-k g c =
    let count = seconds_count c.args.scenario.now.resources c.args.seconds.now c.requires.seconds in
    let size = ap length c.as_slice-defs.ensures in
    let below = c.loop-k-test.true in
    omega (arith, count, size, below)

pub overflow_cast-k : goal.overflow_cast-k
overflow_cast-k g c = let few = c.requires.runnable.servers in let size = ap length c.as_slice-defs.ensures in let below = c.loop-k-test.true in omega (arith, few, size, below)

pub overflow_add-k : goal.overflow_add-k
overflow_add-k g c = let few = c.requires.runnable.servers in let size = ap length c.as_slice-defs.ensures in let below = c.loop-k-test.true in omega (arith, few, size, below)

pub load_resource-requires-clause-runnable : goal.load_resource-requires-clause-runnable
load_resource-requires-clause-runnable g c κs within = c.requires.runnable

pub load_resource-requires-clause-counted : goal.load_resource-requires-clause-counted
load_resource-requires-clause-counted g c κs within =
    let size = ap length c.as_slice-defs.ensures in
    let below = c.loop-k-test.true in
    (omega arith, omega (arith, size, below))

pub load_resource-requires-clause-there : goal.load_resource-requires-clause-there
load_resource-requires-clause-there g c κs within =
    let k = c.loop-k.k in
    ap (slice_get c.args.scenario.now.resources) (let same : k + 1 - 1 ≡ k = omega arith in same)
    ∙ subst (λ ds. slice_get ds k ≡ Some c.index-defs-k.result) c.as_slice-defs.ensures (slice_get_read c.as_slice-defs.result.now _ k c.index-defs-k.result refl c.loop-k-test.true c.index-defs-k.is)

pub load_resource-requires-clause-second : goal.load_resource-requires-clause-second
load_resource-requires-clause-second g c κs within =
    let rs = c.args.scenario.now.resources in
    let seconds = c.args.seconds.now in
    let k = c.loop-k.k in
    let count = seconds_count rs seconds c.requires.seconds in
    let size = ap length c.as_slice-defs.ensures in
    let below = c.loop-k-test.true in
    let here =
    subst (λ ds. slice_get ds k ≡ Some c.index-defs-k.result) c.as_slice-defs.ensures (slice_get_read c.as_slice-defs.result.now _ k c.index-defs-k.result refl c.loop-k-test.true c.index-defs-k.is) in
    let there = slice_get_read seconds _ k c.index-seconds-k.result refl (omega (arith, count, size, below)) c.index-seconds-k.is in
    c.as_str-second.ensures.value ∙ second_at rs seconds k c.index-defs-k.result c.index-seconds-k.result c.requires.seconds here there

pub push_back_reserved-requires : goal.push_back_reserved-requires
push_back_reserved-requires g c =
    let len = c.loop-k.invariant.1 in
    let capacity = c.loop-k.invariant.2 in
    let room = c.requires.room in
    let size = ap length c.as_slice-defs.ensures in
    let below = c.loop-k-test.true in
    omega (arith, len, capacity, room, size, below)

pub slice_bounds-close_loaded-end : goal.slice_bounds-close_loaded-end
slice_bounds-close_loaded-end g c = let below = c.loop-k-test.true in sym (length-take-le c.loop-k.k c.as_slice-defs.result.now (omega (arith, below)))

pub slice_bounds-close_loaded-end-in-Err : goal.slice_bounds-close_loaded-end-in-Err
slice_bounds-close_loaded-end-in-Err g c =
    let count = seconds_count c.args.scenario.now.resources c.args.seconds.now c.requires.seconds in
    let size = ap length c.as_slice-defs.ensures in
    let below = c.loop-k-test.true in
    sym (length-take-le c.loop-k.k c.args.seconds.now (omega (arith, count, size, below)))

pub close_loaded-requires-clause-seconds : goal.close_loaded-requires-clause-seconds
close_loaded-requires-clause-seconds g c κs within =
    let k = c.loop-k.k in
    subst (λ (ds : List ResourceDef). AreSecondNames (names_before ds k) (take k c.args.seconds.now)) (sym c.as_slice-defs.ensures)
    (seconds_before c.args.scenario.now.resources c.args.seconds.now k c.requires.seconds)

pub close_loaded-requires-clause-apart : goal.close_loaded-requires-clause-apart
close_loaded-requires-clause-apart g c κs within =
    let s = c.args.scenario.now in
    let k = c.loop-k.k in
    subst (λ (ds : List ResourceDef). AreApart (names_before ds k)) (sym c.as_slice-defs.ensures) (apart_before s.resources k (servers_apart s c.requires.runnable).1)

pub close_loaded-requires-clause-whole : goal.close_loaded-requires-clause-whole
close_loaded-requires-clause-whole g c κs within =
    let below = c.loop-k-test.true in
    let size = length-take-le c.loop-k.k c.as_slice-defs.result.now (omega (arith, below)) in
    let len = c.loop-k.invariant.1 in
    let items = c.loop-k.loaded.ok.0 in
    omega (arith, size, len, items)

pub close_loaded-requires-clause-taken : goal.close_loaded-requires-clause-taken
close_loaded-requires-clause-taken g c κs within =
    let rs = c.args.scenario.now.resources in
    let k = c.loop-k.k in
    let now = g.H.Shelf.state c.loop-k.shelf in
    let mid = g.H.Shelf.state c.load_resource.new.shelf in
    subst (λ (ds : List ResourceDef). HaveBoth mid (names_before ds k)) (sym c.as_slice-defs.ensures)
    (have_still now mid (names_before rs k) c.load_resource.ensures.keeps.places c.loop-k.invariant.0.takes.both)

pub returns-in-Err-clause-refused : goal.returns-in-Err-clause-refused
returns-in-Err-clause-refused g c =
    let s = c.args.scenario.now in
    let k = c.loop-k.k in
    let loaded = c.loop-k.loaded.items in
    let old = g.H.Shelf.state c.args.shelf.now in
    let now = g.H.Shelf.state c.loop-k.shelf in
    let mid = g.H.Shelf.state c.load_resource.new.shelf in
    let new = g.H.Shelf.state c.close_loaded.new.shelf in
    let here =
    subst (λ ds. slice_get ds k ≡ Some c.index-defs-k.result) c.as_slice-defs.ensures (slice_get_read c.as_slice-defs.result.now _ k c.index-defs-k.result refl c.loop-k-test.true c.index-defs-k.is) in
    λ held. loading_stops g.H.D.Disk.state s old now k loaded c.loop-k.invariant.0 c.index-defs-k.result here (servers_apart s c.requires.runnable).1 mid new c.in-Err.fault c.load_resource.ensures.keeps
    (subst (λ (ds : List ResourceDef). GivesBack (names_before ds k) (map loaded_disks loaded) mid new) c.as_slice-defs.ensures c.close_loaded.ensures) held (c.in-Err.ensures.refused held)

pub returns-in-Err-clause-shelf : goal.returns-in-Err-clause-shelf
returns-in-Err-clause-shelf g c =
    let s = c.args.scenario.now in
    let k = c.loop-k.k in
    let loaded = c.loop-k.loaded.items in
    let old = g.H.Shelf.state c.args.shelf.now in
    let now = g.H.Shelf.state c.loop-k.shelf in
    let mid = g.H.Shelf.state c.load_resource.new.shelf in
    let new = g.H.Shelf.state c.close_loaded.new.shelf in
    let here =
    subst (λ ds. slice_get ds k ≡ Some c.index-defs-k.result) c.as_slice-defs.ensures (slice_get_read c.as_slice-defs.result.now _ k c.index-defs-k.result refl c.loop-k-test.true c.index-defs-k.is) in
    loading_returned g.H.D.Disk.state s old now k loaded c.loop-k.invariant.0 c.index-defs-k.result here (servers_apart s c.requires.runnable).1 mid new c.in-Err.fault c.load_resource.ensures.keeps
    (subst (λ (ds : List ResourceDef). GivesBack (names_before ds k) (map loaded_disks loaded) mid new) c.as_slice-defs.ensures c.close_loaded.ensures) c.in-Err.fault c.in-Err.ensures.returned

pub loop-k-preserved : goal.loop-k-preserved
loop-k-preserved g c =
    let state = g.H.D.Disk.state in
    let s = c.args.scenario.now in
    let k = c.loop-k.k in
    let loaded = c.loop-k.loaded.items in
    let old = g.H.Shelf.state c.args.shelf.now in
    let now = g.H.Shelf.state c.loop-k.shelf in
    let mid = g.H.Shelf.state c.load_resource.new.shelf in
    let here =
    subst (λ ds. slice_get ds k ≡ Some c.index-defs-k.result) c.as_slice-defs.ensures (slice_get_read c.as_slice-defs.result.now _ k c.index-defs-k.result refl c.loop-k-test.true c.index-defs-k.is) in
    let pushed = c.push_back_reserved.ensures in (
      loading_next state s old now k loaded c.loop-k.invariant.0 c.index-defs-k.result here (servers_apart s c.requires.runnable).1 mid c.in-Ok.one c.push_back_reserved.new.self.items pushed.items c.in-Ok.ensures.loaded c.in-Ok.ensures.takes,
      let len = c.loop-k.invariant.1 in let more = pushed.len in omega (arith, len, more),
      let capacity = c.loop-k.invariant.2 in let same = pushed.capacity in omega (arith, capacity, same),
    )

pub returns-clause-loaded : goal.returns-clause-loaded
returns-clause-loaded g c =
    let size = ap length c.as_slice-defs.ensures in
    let past = c.loop-k-test.false in
    let end = c.loop-k.auto.k-end in
    (loading_all g.H.D.Disk.state c.args.scenario.now (g.H.Shelf.state c.args.shelf.now) (g.H.Shelf.state c.loop-k.shelf) c.loop-k.k c.loop-k.loaded.items c.loop-k.invariant.0 (omega (arith, size, past, end))).0

pub returns-clause-shelf : goal.returns-clause-shelf
returns-clause-shelf g c =
    let size = ap length c.as_slice-defs.ensures in
    let past = c.loop-k-test.false in
    let end = c.loop-k.auto.k-end in
    let takes =
    (loading_all g.H.D.Disk.state c.args.scenario.now (g.H.Shelf.state c.args.shelf.now) (g.H.Shelf.state c.loop-k.shelf) c.loop-k.k c.loop-k.loaded.items c.loop-k.invariant.0 (omega (arith, size, past, end))).1 in
    record { takes = takes; keeps = takes.keeps; returned = tt }
