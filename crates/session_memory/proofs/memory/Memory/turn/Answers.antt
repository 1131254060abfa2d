use Rattle.std.proofs.Common.{◌∙◌, ap}
use Rattle.session_log.specs.declared.sessions.Snapshot.{Snapshot}
use Rattle.session_memory.specs.Changes.{with_turned, locks_after, may_come}
use Rattle.session_memory.proofs.EndsLaws.{rising_each, spans_as, spans_turned}
use Rattle.session_memory.proofs.KeptLaws.{kept_as, kept_turned}
use Rattle.session_memory.proofs.OwnerLaws.{owned_as, owned_turned}
use Rattle.session_memory.proofs.memory.Memory.turn.Goals as goal

pub turn-requires-clause-branches : goal.turn-requires-clause-branches
turn-requires-clause-branches c =
    rising_each c.self.inside.snapshot.begun c.self.inside.snapshot.granted c.self.inside.snapshot.sessions c.self.invariant.0.counted.each

pub note-requires : goal.note-requires
note-requires c =
    let kept = kept_as (with_turned c.args.item.now c.self.inside.snapshot) c.turn.new.snapshot (locks_after c.args.item.now c.self.inside.locks) c.give_back.new.locks
    c.turn.ensures c.give_back.ensures
    (kept_turned c.args.item.now c.self.inside.snapshot c.self.inside.locks c.self.invariant.0 c.requires.turns
    (ap (λ (s : Snapshot). may_come s c.args.item.now) c.self.view_is ∙ c.requires.may.allowed)) in
    record {
      rising = rw c.as_slice.ensures kept.counted.rising;
      spans = rw c.as_slice.ensures (spans_as c.self.inside.ends (with_turned c.args.item.now c.self.inside.snapshot) c.turn.new.snapshot c.turn.ensures
          (spans_turned c.self.inside.ends c.args.item.now c.self.inside.snapshot c.self.invariant.2));
    }

pub invariant_of-self : goal.invariant_of-self
invariant_of-self c = (
  kept_as (with_turned c.args.item.now c.self.inside.snapshot) c.turn.new.snapshot (locks_after c.args.item.now c.self.inside.locks) c.give_back.new.locks
      c.turn.ensures c.give_back.ensures
      (kept_turned c.args.item.now c.self.inside.snapshot c.self.inside.locks c.self.invariant.0 c.requires.turns
      (ap (λ (s : Snapshot). may_come s c.args.item.now) c.self.view_is ∙ c.requires.may.allowed)),
  owned_as c.self.inside.owners (with_turned c.args.item.now c.self.inside.snapshot) c.turn.new.snapshot c.turn.ensures
      (owned_turned c.self.inside.owners c.args.item.now c.self.inside.snapshot c.self.invariant.1),
  rw c.as_slice.ensures at c.note.ensures,
)
