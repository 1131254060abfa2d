use Rattle.std.proofs.Common.{◌≡◌, ◌+◌, ◌^◌, ◌<◌, slice_set, refl, arith}
use Rattle.std.specs.List.{insert}
use Rattle.std.proofs.lemmas.Grind.{common_steps}
use Rattle.lock_table.specs.Counts.{held_at, once_more}
use Rattle.lock_table.proofs.Places.{put_gap, put_place, put_order, put_there, more_fits}
use Rattle.lock_table.proofs.index.put.Goals as goal

pub returns-in-Err-clause-order : goal.returns-in-Err-clause-order
returns-in-Err-clause-order g c =
    let is : c.insert-inserted.new.self.items ≡ insert c.args.rows.now.items c.in-Err.at (c.args.key, record { xid = c.args.xid; more = 0 }) = grind (arith, common_steps) in
    put_order c.args.rows.now.items c.insert-inserted.new.self.items c.args.key (once_more c.args.xid (held_at c.args.rows.now.items c.args.key)) c.requires.order
    (put_gap c.args.rows.now.items c.insert-inserted.new.self.items c.args.key c.args.xid c.in-Err.at c.requires.order (rw c.deref.ensures.value at c.in-Err.ensures.missing) is)

pub returns-in-Err-clause-there : goal.returns-in-Err-clause-there
returns-in-Err-clause-there g c =
    let is : c.insert-inserted.new.self.items ≡ insert c.args.rows.now.items c.in-Err.at (c.args.key, record { xid = c.args.xid; more = 0 }) = grind (arith, common_steps) in
    put_there c.args.rows.now.items c.insert-inserted.new.self.items c.args.key (once_more c.args.xid (held_at c.args.rows.now.items c.args.key))
    (put_gap c.args.rows.now.items c.insert-inserted.new.self.items c.args.key c.args.xid c.in-Err.at c.requires.order (rw c.deref.ensures.value at c.in-Err.ensures.missing) is)

pub returns-in-Ok-clause-order : goal.returns-in-Ok-clause-order
returns-in-Ok-clause-order g c =
    let new = slice_set c.args.rows.now.items c.in-Ok.at (c.index_mut.result.now.0, record { xid = c.index_mut.result.now.1.xid; more = c.index_mut.result.now.1.more + 1 }) in
    put_order c.args.rows.now.items new c.args.key (once_more c.args.xid (held_at c.args.rows.now.items c.args.key)) c.requires.order
    (put_place c.args.rows.now.items new c.args.key c.args.xid c.in-Ok.at c.index_mut.result.now c.requires.order (rw c.deref.ensures.value at c.in-Ok.ensures.found) c.index_mut.ensures.value refl)

pub returns-in-Ok-clause-there : goal.returns-in-Ok-clause-there
returns-in-Ok-clause-there g c =
    let new = slice_set c.args.rows.now.items c.in-Ok.at (c.index_mut.result.now.0, record { xid = c.index_mut.result.now.1.xid; more = c.index_mut.result.now.1.more + 1 }) in
    put_there c.args.rows.now.items new c.args.key (once_more c.args.xid (held_at c.args.rows.now.items c.args.key))
    (put_place c.args.rows.now.items new c.args.key c.args.xid c.in-Ok.at c.index_mut.result.now c.requires.order (rw c.deref.ensures.value at c.in-Ok.ensures.found) c.index_mut.ensures.value refl)

pub overflow_add-index_mut : goal.overflow_add-index_mut
overflow_add-index_mut g c =
    let bound : c.index_mut.result.now.1.more + 1 < 2 ^ 128 =
    more_fits c.args.rows.now.items c.args.key c.in-Ok.at (2 ^ 128) c.index_mut.result.now c.requires.order (rw c.deref.ensures.value at c.in-Ok.ensures.found) c.index_mut.ensures.value c.requires.few in
    omega (arith, bound)
