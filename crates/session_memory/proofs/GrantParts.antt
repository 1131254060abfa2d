-- Why the record of a branch may come: its transaction is undecided, its number is the next one, nothing is registered for it, and no
-- other transaction holds its rows.
use Rattle.std.proofs.Common.{◌≡◌, ◌==◌, ◌&&◌, ◌+◌, ℕ, true, List, None}
use Rattle.seata_types.specs.declared.ids.Xid.{Xid}
use Rattle.seata_types.specs.declared.rows.RowKey.{RowKey}
use Rattle.lock_table.specs.Locks.{first_held}
use Rattle.session_log.specs.declared.sessions.RegisterPlace.{RegisterPlace}
use Rattle.session_log.specs.declared.sessions.Snapshot.{Snapshot}
use Rattle.session_memory.specs.Changes.{are_free, granted_record, is_begin, is_new, may_come}
use Rattle.session_memory.specs.Holding.{held_in}
use Rattle.session_memory.specs.Lookups.{status_in}
use Rattle.session_memory.proofs.Small.{and_left, and_right, is_none_none, same_nat}

module _ (s : Snapshot) (x : Xid) (branch : ℕ) (place : RegisterPlace) (hold : List RowKey) (may : may_come s (granted_record x branch place hold) ≡ true) where
  after_begin : ((branch == s.granted + 1) && (is_new s x place.resource place.call place.ticket place.kind && are_free s x hold)) ≡ true
  after_begin = and_right (is_begin (status_in s x.0)) _ may

  after_number : (is_new s x place.resource place.call place.ticket place.kind && are_free s x hold) ≡ true
  after_number = and_right (branch == s.granted + 1) _ after_begin

  pub grant_begins : is_begin (status_in s x.0) ≡ true
  grant_begins = and_left (is_begin (status_in s x.0)) _ may

  pub grant_next : branch ≡ s.granted + 1
  grant_next = same_nat branch (s.granted + 1) (and_left (branch == s.granted + 1) _ after_begin)

  pub grant_new : is_new s x place.resource place.call place.ticket place.kind ≡ true
  grant_new = and_left (is_new s x place.resource place.call place.ticket place.kind) (are_free s x hold) after_number

  pub grant_free : first_held (held_in s) x hold ≡ None
  grant_free = is_none_none (first_held (held_in s) x hold) (and_right (is_new s x place.resource place.call place.ticket place.kind) (are_free s x hold) after_number)
