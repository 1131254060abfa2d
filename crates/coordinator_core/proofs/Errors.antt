-- What a step does to the records, and the errors that it ends with.
use Rattle.std.proofs.Common.{◌≡◌, ◌<◌, ◌^◌, ℕ, true, refl, ap}
use Rattle.std.specs.Prelude.{Some, Err}
use Rattle.disk_model.specs.Disk.{DiskState}
use Rattle.seata_types.specs.declared.acts.Act.{Act}
use Rattle.seata_types.specs.declared.acts.Act.TheVariants as act
use Rattle.seata_types.specs.declared.acts.Durable.{Durable}
use Rattle.seata_types.specs.declared.errors.StoreError.{StoreError}
use Rattle.seata_types.specs.declared.errors.StoreError.TheVariants as store_error
use Rattle.seata_types.specs.declared.messages.Input.{Input}
use Rattle.seata_types.specs.declared.messages.Step.{Step}
use Rattle.durable_records.specs.declared.coordinators.SessionRecord.{SessionRecord}
use Rattle.durable_records.specs.declared.coordinators.SessionRecord.TheVariants as log
use Rattle.history_rules.specs.Own.{Event, Given}
use Rattle.history_rules.specs.CoordinatorMemory.{session_record}
use Rattle.session_memory.specs.Changes.{may_come, after}
use Rattle.session_memory.proofs.Small.{false_true}
use Rattle.session_store.specs.declared.sessions.Sessions.{Sessions}
use Rattle.session_store.specs.Keeping.{known, Fails}
use Rattle.coordinator_rules.specs.declared.moments.Moments.{Moments}
use Rattle.coordinator_rules.specs.Changes.{prepared, withdrawn, settled, GivesUp, IsPlannedFor, Makes}
use Rattle.coordinator_rules.specs.Tracks.{Course, due_on, rests_on, records}
use Rattle.coordinator_rules.proofs.Kept.{tracks_back, tracks_same}
use Rattle.coordinator_core.specs.declared.table.Table.{Table}
use Rattle.coordinator_core.specs.Plain.{is_failure, node_error}
use Rattle.coordinator_core.specs.Knowledge.{Knowledge, knowledge, memory}
use Rattle.coordinator_core.specs.Answers.{IsAnswered, IsUnanswered, WouldMake, Puts, AnswersWhere, IsUnmade}
use Rattle.coordinator_rules.specs.Answers.{is_unrecorded}

-- ---- what an error leaves

-- the due moments go by the retry
due_same : (retry retry' : ℕ) (owns : Course) (q : ℕ) → retry' ≡ retry → due_on retry' owns q ≡ due_on retry owns q
due_same retry retry' owns q e = ap (λ r. due_on r owns q) e

-- nothing of the table changed, or only what can't be told apart
pub unanswered_same : (t t' : Knowledge) → t'.memory ≡ t.memory → t'.moments ≡ t.moments → t'.retry ≡ t.retry → t'.forget ≡ t.forget → IsUnanswered t t'
unanswered_same t t' memory moments retry forget = record {
  stands = λ owns s. record {
    tracks = tracks_same t.memory t'.memory t.moments t'.moments (records owns) (records owns) (due_on t.retry owns) (due_on t'.retry owns) (rests_on owns) (rests_on owns) s.tracks
        memory moments refl (λ x. due_same t.retry t'.retry owns x retry) (λ x. refl);
  };
  same = record { retry = retry; forget = forget };
}

pub unanswered_back : (t t' : Knowledge) (r : SessionRecord) (now : ℕ) → now < 2 ^ 64 → may_come t.memory r ≡ true → t'.memory ≡ t.memory → t'.moments ≡ withdrawn r (prepared r now t.moments) → t'.retry ≡ t.retry → t'.forget ≡ t.forget → IsUnanswered t t'
unanswered_back t t' r now in_time may memory moments retry forget = record {
  stands = λ owns s. record {
    tracks = tracks_same t.memory t'.memory (withdrawn r (prepared r now t.moments)) t'.moments (records owns) (records owns) (due_on t.retry owns) (due_on t'.retry owns) (rests_on owns) (rests_on owns)
        (tracks_back t.memory t.moments (records owns) (due_on t.retry owns) (rests_on owns) s.tracks now in_time r may)
        memory moments refl (λ x. due_same t.retry t'.retry owns x retry) (λ x. refl);
  };
  same = record { retry = retry; forget = forget };
}

-- ---- a step without an answer

-- what is known after a record that may come
abbrev would_know : Knowledge → SessionRecord → ℕ → Knowledge
would_know k r now = record { retry = k.retry; forget = k.forget; memory = after r k.memory; moments = settled k.retry now r (prepared r now k.moments) }

would_makes : (k : Knowledge) (r : SessionRecord) (now : ℕ) → may_come k.memory r ≡ true → Makes k (would_know k r now) r now
would_makes k r now may = record { may = may; memory = refl; moments = λ planned. refl; same = record { retry = refl; forget = refl } }

-- a step with this act and record, and what would be known after it
pub would : (Applies : Course → Type 0) (old new : Knowledge) (given : Input) (now : ℕ) (step : Step) (done : Durable) (r : SessionRecord) → step.act ≡ act.Durable done
    → session_record now (Given given) done ≡ Some r → IsAnswered Applies old new given now step → WouldMake Applies old new given now done r
would Applies old new given now step done r durable asked answered = record { step = step; durable = durable; asked = asked; answered = answered }

module _ {D : Type 0} (state : D → DiskState) (Applies : Course → Type 0) (old new : Table D) (given : Input) (now : ℕ) (r : SessionRecord) where
  -- the answer of a step that ends with the error of its record, whatever act it has by what would be known
  pub unmade_where : (at : Knowledge → Durable) → ((k : Knowledge) → Makes (knowledge old) k r now → WouldMake Applies (knowledge old) k given now (at k) r)
      → (error : StoreError) → IsUnmade state old new r now error → AnswersWhere state Applies old new given now (Err (node_error error (at (knowledge new))))
  unmade_where at due store_error.Failed u = record { r = r; due = due (knowledge new) u.0; loses = u.1 }
  unmade_where at due (store_error.Full full) u = record {
    done = at (would_know (knowledge old) r now);
    r = r;
    after = would_know (knowledge old) r now;
    due = due (would_know (knowledge old) r now) (would_makes (knowledge old) r now u.0);
    no_room = u.1;
    unanswered = u.2;
    sessions = u.3;
  }
  unmade_where at due store_error.NoMemory u = u

-- ---- a record that may come

-- what a record plans anew is planned before it is prepared and after
planned_prepared : (r : SessionRecord) (now : ℕ) (m : Moments) → IsPlannedFor r m.turns → IsPlannedFor r (prepared r now m).turns
planned_prepared (log.Ended xid branch) now m p = p
planned_prepared (log.Retrying xid) now m p = p
planned_prepared _ now m p = tt

pub unmade_after : {D : Type 0} (state : D → DiskState) (old : Table D) (s : Sessions D) (m : Moments) (r : SessionRecord) (now : ℕ) → now < 2 ^ 64 → may_come (memory old) r ≡ true → (error : StoreError)
    → Fails state r error old.sessions s → GivesUp (is_failure error) old.retry now r (prepared r now old.moments) m
    → IsUnmade state old (record { retry = old.retry; forget = old.forget; sessions = s; moments = m }) r now error
unmade_after state old s m r now in_time may store_error.Failed l g =
    (record { may = may; memory = l.knows; moments = λ planned. g (planned_prepared r now old.moments planned); same = record { retry = refl; forget = refl } }, l)
unmade_after state old s m r now in_time may (store_error.Full full) (same, room) g = (
  may,
  room,
  unanswered_back (knowledge old) (knowledge (record { retry = old.retry; forget = old.forget; sessions = s; moments = m })) r now in_time may (ap known same) g refl refl,
  same,
)
unmade_after state old s m r now in_time may store_error.NoMemory same g =
    (unanswered_back (knowledge old) (knowledge (record { retry = old.retry; forget = old.forget; sessions = s; moments = m })) r now in_time may (ap known same) g refl refl, same)

-- ---- answers

pub puts_none : {D : Type 0} (state : D → DiskState) (event : Event) (now : ℕ) (done : Act) (old new : Sessions D) → is_unrecorded done ≡ true → new ≡ old → Puts state event now done old new
puts_none state event now (act.Durable done) old new u same = false_true u
puts_none state event now _ old new u same = same
