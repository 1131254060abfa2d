use Rattle.std.proofs.Common.{◌∙◌, ap}
use Rattle.std.specs.Prelude.{find, option_map}
use Rattle.session_log.specs.declared.sessions.Snapshot.{Snapshot}
use Rattle.session_memory.specs.Lookups.{xid_of}
use Rattle.coordinator_rules.specs.Choices.{is_late_entry, is_old_entry}
use Rattle.coordinator_rules.specs.Knowledge.{knows, waits}
use Rattle.coordinator_rules.proofs.TakesTurns.{takes_turn}
use Rattle.coordinator_rules.proofs.turning.turn.Goals as goal

pub returns : goal.returns
returns c = λ retry.
    takes_turn (knows (waits retry c.args.forget) c.args.memory.now c.args.moments.now) c.args.now c.ranges.now.fits c.least_late-late.result c.next_due-due.result c.least_old-old.result
    (c.least_late-late.ensures ∙ ap (λ l. option_map xid_of (find (is_late_entry c.args.now) l)) (c.as_slice-sessions.ensures ∙ ap (λ (s : Snapshot). s.sessions) c.snapshot.ensures))
    c.next_due-due.ensures
    (c.least_old-old.ensures ∙ ap (λ l. option_map xid_of (find (is_old_entry c.args.moments.now.rests c.args.forget c.args.now) l)) (c.as_slice-sessions.ensures ∙ ap (λ (s : Snapshot). s.sessions) c.snapshot.ensures))
    c.taken.result c.taken.ensures.value c.taken.ensures.sent
