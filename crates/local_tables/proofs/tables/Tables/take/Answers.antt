use Rattle.std.proofs.Common.{ap, ◌∙◌}
use Rattle.local_tables.specs.Checks.{table_of}
use Rattle.local_tables.specs.Refusals.{overflow_in, duplicate_in}
use Rattle.local_tables.specs.Rows.{put_all}
use Rattle.local_tables.proofs.TakeLaws.{keys_inside, step_inside, changes_after}
use Rattle.local_tables.proofs.tables.Tables.take.Goals as goal

pub touches-requires-clause-keyed : goal.touches-requires-clause-keyed
touches-requires-clause-keyed c =
    keys_inside _ c.args.self.now _ c.args.call.now (table_of c.args.stmt.now) c.args.def.now c.self.view_is c.call.view_is c.self.invariant c.call.invariant.0 c.requires.changes c.requires.named

pub readings-requires-clause-keyed : goal.readings-requires-clause-keyed
readings-requires-clause-keyed c =
    keys_inside _ c.args.self.now _ c.args.call.now (table_of c.args.stmt.now) c.args.def.now c.self.view_is c.call.view_is c.self.invariant c.call.invariant.0 c.requires.changes c.requires.named

pub returns-clause-meaning : goal.returns-clause-meaning
returns-clause-meaning c =
    let overflow = c.in_ok-overflow.ensures ∙ c.overflow_in.ensures ∙ ap (overflow_in c.args.stmt.now) c.deref.ensures.value in
    let taken = c.in_ok-taken.ensures ∙ c.duplicate_in.ensures ∙ ap (duplicate_in c.args.stmt.now (put_all c.self.inside.rows.entries c.call.inside.changes)) c.deref-2.ensures.value in
    step_inside _ c.args.self.now _ c.args.call.now _ c.go_on.new.self c.args.stmt.now c.args.def.now c.in_ok-made.made.items c.in_ok-read.read.items _ _ _ _ c.fault.result c.self.view_is c.call.view_is c.call-2.view_is c.requires.named
    c.requires.accepted c.in_ok-made.ensures c.in_ok-read.ensures c.in_ok-go_on.ensures overflow taken c.rows_seen.ensures c.rows_fit-fits.ensures c.fault.ensures

pub returns-clause-changes : goal.returns-clause-changes
returns-clause-changes c =
    changes_after _ c.args.self.now _ c.args.call.now c.go_on.new.self c.args.stmt.now c.args.def.now c.in_ok-made.made.items c.in_ok-read.read.items c.fault.result c.self.view_is c.call.view_is c.requires.named c.requires.accepted
    c.in_ok-made.ensures c.in_ok-go_on.ensures c.self.invariant c.call.invariant.0 c.requires.changes
