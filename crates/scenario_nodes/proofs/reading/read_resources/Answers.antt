use Rattle.std.proofs.Common.{◌≡◌, ◌∙◌, ◌+◌, ◌-◌, Some, length, refl, ap, slice_get, subst, arith}
use Rattle.std.proofs.lemmas.Option.{slice_get_read}
use Rattle.scenario_nodes.specs.Reading.{ReadsResource, SaysResources}
use Rattle.scenario_nodes.specs.Together.{numbered}
use Rattle.scenario_nodes.proofs.Apart.{servers_apart}
use Rattle.scenario_nodes.proofs.Closing.{second_at, seconds_count}
use Rattle.scenario_nodes.proofs.ReadAll.{all_keep, all_read, all_says, all_sound, reading_failed, reading_next, reading_none}
use Rattle.scenario_nodes.proofs.reading.read_resources.Goals as goal

pub loop-k-init : goal.loop-k-init
loop-k-init g c =
    let state = g.H.D.Disk.state in
    let s = c.args.scenario.now in
    let a = g.H.Shelf.state c.args.shelf.now in (
      reading_none state s a c.args.read.items c.requires.none,
      c.args.read.ok.0 ∙ ap length c.requires.none,
      refl,
    )

pub bounds-seconds-k : goal.bounds-seconds-k
bounds-seconds-k g c =
    let count = seconds_count c.args.scenario.now.resources c.args.seconds.now c.requires.seconds in
    let size = ap length c.as_slice-defs.ensures in
    let below = c.loop-k-test.true in
    omega (arith, count, size, below)

pub overflow_cast-k : goal.overflow_cast-k
overflow_cast-k g c = let few = c.requires.runnable.servers in let size = ap length c.as_slice-defs.ensures in let below = c.loop-k-test.true in omega (arith, few, size, below)

pub overflow_add-k : goal.overflow_add-k
overflow_add-k g c = let few = c.requires.runnable.servers in let size = ap length c.as_slice-defs.ensures in let below = c.loop-k-test.true in omega (arith, few, size, below)

pub read_resource-requires-clause-runnable : goal.read_resource-requires-clause-runnable
read_resource-requires-clause-runnable g c κs within = c.requires.runnable

pub read_resource-requires-clause-there : goal.read_resource-requires-clause-there
read_resource-requires-clause-there g c κs within =
    let k = c.loop-k.k in
    ap (slice_get c.args.scenario.now.resources) (let same : k + 1 - 1 ≡ k = omega arith in same)
    ∙ subst (λ ds. slice_get ds k ≡ Some c.index-defs-k.result) c.as_slice-defs.ensures (slice_get_read c.as_slice-defs.result.now _ k c.index-defs-k.result refl c.loop-k-test.true c.index-defs-k.is)

pub read_resource-requires-clause-second : goal.read_resource-requires-clause-second
read_resource-requires-clause-second g c κs within =
    let rs = c.args.scenario.now.resources in
    let seconds = c.args.seconds.now in
    let k = c.loop-k.k in
    let count = seconds_count rs seconds c.requires.seconds in
    let size = ap length c.as_slice-defs.ensures in
    let below = c.loop-k-test.true in
    let here =
    subst (λ ds. slice_get ds k ≡ Some c.index-defs-k.result) c.as_slice-defs.ensures (slice_get_read c.as_slice-defs.result.now _ k c.index-defs-k.result refl c.loop-k-test.true c.index-defs-k.is) in
    let there = slice_get_read seconds _ k c.index-seconds-k.result refl (omega (arith, count, size, below)) c.index-seconds-k.is in
    c.as_str-second.ensures.value ∙ second_at rs seconds k c.index-defs-k.result c.index-seconds-k.result c.requires.seconds here there

pub push_reserved-requires : goal.push_reserved-requires
push_reserved-requires g c =
    let len = c.loop-k.invariant.1 in
    let capacity = c.loop-k.invariant.2 in
    let room = c.requires.room in
    let size = ap length c.as_slice-defs.ensures in
    let below = c.loop-k-test.true in
    omega (arith, len, capacity, room, size, below)

pub loop-k-preserved : goal.loop-k-preserved
loop-k-preserved g c =
    let state = g.H.D.Disk.state in
    let s = c.args.scenario.now in
    let k = c.loop-k.k in
    let def = c.index-defs-k.result in
    let old = g.H.Shelf.state c.args.shelf.now in
    let now = g.H.Shelf.state c.loop-k.shelf in
    let new = g.H.Shelf.state c.read_resource.new.shelf in
    let here = subst (λ ds. slice_get ds k ≡ Some def) c.as_slice-defs.ensures (slice_get_read c.as_slice-defs.result.now _ k def refl c.loop-k-test.true c.index-defs-k.is) in
    let pushed = c.push_reserved.ensures in (
      reading_next state s old now k c.loop-k.read.items c.loop-k.invariant.0 def here (servers_apart s c.requires.runnable).1 new c.in-Ok.memory c.push_reserved.new.self.items pushed.items
          (subst (ReadsResource state s (k + 1, def) now new) c.in-Ok.is c.read_resource.ensures),
      let len = c.loop-k.invariant.1 in let more = pushed.len in omega (arith, len, more),
      let capacity = c.loop-k.invariant.2 in let same = pushed.capacity in omega (arith, capacity, same),
    )

pub returns-in-Err : goal.returns-in-Err
returns-in-Err g c =
    let state = g.H.D.Disk.state in
    let s = c.args.scenario.now in
    let k = c.loop-k.k in
    let def = c.index-defs-k.result in
    let old = g.H.Shelf.state c.args.shelf.now in
    let now = g.H.Shelf.state c.loop-k.shelf in
    let new = g.H.Shelf.state c.read_resource.new.shelf in
    let here = subst (λ ds. slice_get ds k ≡ Some def) c.as_slice-defs.ensures (slice_get_read c.as_slice-defs.result.now _ k def refl c.loop-k-test.true c.index-defs-k.is) in
    reading_failed state s old now k c.loop-k.read.items c.loop-k.invariant.0 def here (servers_apart s c.requires.runnable).1 new c.in-Err.fault
    (subst (ReadsResource state s (k + 1, def) now new) c.in-Err.is c.read_resource.ensures) (λ held memories. SaysResources s (numbered 1 s.resources) held memories.items)

pub returns : goal.returns
returns g c =
    let state = g.H.D.Disk.state in
    let s = c.args.scenario.now in
    let old = g.H.Shelf.state c.args.shelf.now in
    let now = g.H.Shelf.state c.loop-k.shelf in
    let a = c.loop-k.invariant.0 in
    let size = ap length c.as_slice-defs.ensures in
    let past = c.loop-k-test.false in
    let last = c.loop-k.auto.k-end in
    let end : c.loop-k.k ≡ length s.resources = omega (arith, size, past, last) in
    record {
      says = all_says state s old now c.loop-k.k c.loop-k.read.items a end;
      sound = all_sound state s old now c.loop-k.k c.loop-k.read.items a end;
      back = all_read state s old now c.loop-k.k c.loop-k.read.items a end;
      refused = tt;
      cause = tt;
      still = a.still;
      keeps = all_keep state s old now c.loop-k.k c.loop-k.read.items a end;
      returned = a.returned;
    }
