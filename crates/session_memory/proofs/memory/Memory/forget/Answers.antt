use Rattle.std.proofs.Common.{refl}
use Rattle.session_memory.proofs.EndsLaws.{spans_as, spans_forgot}
use Rattle.session_memory.proofs.KeptLaws.{kept_as, kept_forgot}
use Rattle.session_memory.proofs.OwnerLaws.{owned_as, forgot_owned}
use Rattle.session_memory.specs.Changes.{after}
use Rattle.lock_table.specs.Locks.{without_xid}
use Rattle.durable_records.specs.declared.coordinators.SessionRecord.TheVariants as log
use Rattle.session_memory.proofs.memory.Memory.forget.Goals as goal

pub invariant_of-self-2 : goal.invariant_of-self-2
invariant_of-self-2 c = (
  kept_as (after (log.Forgot c.args.xid) c.self.inside.snapshot) c.forget.new.snapshot (without_xid c.self.inside.locks c.args.xid) c.release_all.new.self
      c.in_ok-forget.ensures.ok c.release_all.ensures (kept_forgot c.self.inside.snapshot c.self.inside.locks c.args.xid c.self.invariant.0),
  owned_as c.forget.new.owners (after (log.Forgot c.args.xid) c.self.inside.snapshot) c.forget.new.snapshot c.in_ok-forget.ensures.ok
      (forgot_owned c.args.xid c.self.inside.owners c.forget.new.owners c.self.inside.snapshot c.forget.ensures.others c.self.invariant.0.counted.rising c.self.invariant.1),
  spans_as c.forget-2.new.self (after (log.Forgot c.args.xid) c.self.inside.snapshot) c.forget.new.snapshot c.in_ok-forget.ensures.ok
      (spans_forgot c.args.xid.0 c.self.inside.ends c.forget-2.new.self c.forget-2.ensures.span c.forget-2.ensures.others c.self.inside.snapshot c.args.xid refl c.self.invariant.2),
)
