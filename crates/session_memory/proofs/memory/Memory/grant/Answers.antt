use Rattle.std.proofs.Common.{◌≡◌, ◌∙◌, true, refl, sym, ap, List}
use Rattle.seata_types.specs.declared.rows.RowKey.{RowKey}
use Rattle.lock_table.specs.Locks.{Holds, first_held, with_rows, without_leg}
use Rattle.session_log.specs.declared.sessions.Snapshot.{Snapshot}
use Rattle.session_memory.specs.Lookups.{leg_of}
use Rattle.session_memory.specs.Changes.{is_new, granted_branch, granted_record, may_come, with_registered}
use Rattle.session_memory.specs.Owners.{IsOwned}
use Rattle.session_memory.proofs.EndsLaws.{spans_as, spans_granted}
use Rattle.session_memory.proofs.GrantParts.{grant_begins, grant_free, grant_new, grant_next}
use Rattle.session_memory.proofs.KeptLaws.{kept_as, kept_granted, given_back_again, where_err, where_ok}
use Rattle.session_memory.proofs.OwnerLaws.{owned_as, new_apart, stay_owned, granted_owned}
use Rattle.session_memory.proofs.memory.Memory.grant.Goals as goal

pub hold-requires : goal.hold-requires
hold-requires g c =
    let may = ap (λ (s : Snapshot). may_come s (granted_record c.args.xid c.args.branch.0 c.args.place c.args.hold.now)) c.self.view_is ∙ c.requires.allowed in
    ap (λ (hs : Holds). first_held hs c.args.xid c.args.hold.now) c.self.invariant.0.locks ∙ grant_free c.self.inside.snapshot c.args.xid c.args.branch.0 c.args.place c.args.hold.now may

pub invariant_of-self-then-is_err : goal.invariant_of-self-then-is_err
invariant_of-self-then-is_err g c =
    let place = c.args.place in
    let may = ap (λ (s : Snapshot). may_come s (granted_record c.args.xid c.args.branch.0 c.args.place c.args.hold.now)) c.self.view_is ∙ c.requires.allowed in
    let nb = granted_branch c.args.branch place.resource place.call place.ticket place.kind c.in_ok-rows.rows in
    let new : is_new c.self.inside.snapshot c.args.xid place.resource place.call place.ticket place.kind ≡ true = grant_new c.self.inside.snapshot c.args.xid c.args.branch.0 place c.args.hold.now may in
    let same : c.register.new.snapshot ≡ c.self.inside.snapshot = where_err c.register.result (c.register.new.snapshot ≡ c.self.inside.snapshot) (sym c.is_err.ensures.value ∙ c.if-is_err.true) c.register.ensures.err in (
      kept_as c.self.inside.snapshot c.register.new.snapshot c.self.inside.locks c.release.new.self same
          (c.release.ensures ∙ ap (λ (hs : Holds). without_leg hs (leg_of c.args.xid nb)) c.in_ok-hold.ensures.ok
          ∙ given_back_again c.self.inside.snapshot c.self.inside.locks c.args.xid nb c.self.invariant.0 refl (grant_next c.self.inside.snapshot c.args.xid c.args.branch.0 place c.args.hold.now may) c.args.hold.now)
          c.self.invariant.0,
      owned_as c.register.new.owners c.self.inside.snapshot c.register.new.snapshot same
          (stay_owned c.self.inside.owners c.register.new.owners nb c.register.ensures.others c.self.inside.snapshot.sessions c.self.invariant.1 (new_apart nb c.self.inside.snapshot c.args.xid new)),
      spans_as c.self.inside.ends c.self.inside.snapshot c.register.new.snapshot same c.self.invariant.2,
    )

pub invariant_of-self-2 : goal.invariant_of-self-2
invariant_of-self-2 g c =
    let place = c.args.place in
    let may = ap (λ (s : Snapshot). may_come s (granted_record c.args.xid c.args.branch.0 c.args.place c.args.hold.now)) c.self.view_is ∙ c.requires.allowed in
    let nb = granted_branch c.args.branch place.resource place.call place.ticket place.kind c.in_ok-rows.rows in
    let new : is_new c.self.inside.snapshot c.args.xid place.resource place.call place.ticket place.kind ≡ true = grant_new c.self.inside.snapshot c.args.xid c.args.branch.0 place c.args.hold.now may in
    let registered : c.register.new.snapshot ≡ with_registered c.self.inside.snapshot c.args.xid.0 nb =
    where_ok c.register.result (c.register.new.snapshot ≡ with_registered c.self.inside.snapshot c.args.xid.0 nb) (sym c.is_err.ensures.value ∙ c.if-is_err.false) c.register.ensures.ok in (
      kept_as (with_registered c.self.inside.snapshot c.args.xid.0 nb) c.register.new.snapshot (with_rows c.self.inside.locks (leg_of c.args.xid nb) nb.hold) c.hold.new.self registered
          (c.in_ok-hold.ensures.ok ∙ ap (λ (rows : List RowKey). with_rows c.self.inside.locks (leg_of c.args.xid nb) rows) (sym c.in_ok-rows.ensures))
          (kept_granted c.self.inside.snapshot c.self.inside.locks c.args.xid nb c.self.invariant.0
          (grant_begins c.self.inside.snapshot c.args.xid c.args.branch.0 place c.args.hold.now may) refl
          (grant_next c.self.inside.snapshot c.args.xid c.args.branch.0 place c.args.hold.now may)),
      owned_as c.register.new.owners (with_registered c.self.inside.snapshot c.args.xid.0 nb) c.register.new.snapshot registered
          (granted_owned c.self.inside.owners c.register.new.owners nb c.register.ensures.others c.args.xid
          (where_ok c.register.result (IsOwned c.register.new.owners c.args.xid nb) (sym c.is_err.ensures.value ∙ c.if-is_err.false) c.register.ensures.owned)
          c.self.inside.snapshot c.self.invariant.1 (new_apart nb c.self.inside.snapshot c.args.xid new)),
      spans_as c.forget.new.self (with_registered c.self.inside.snapshot c.args.xid.0 nb) c.register.new.snapshot registered
          (spans_granted c.args.xid.0 c.self.inside.ends c.forget.new.self c.forget.ensures.span c.forget.ensures.others nb c.self.inside.snapshot c.self.invariant.2),
    )
