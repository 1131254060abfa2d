-- What is kept of a resource, after one more of its entries.
use Rattle.std.proofs.Common.{◌≡◌, ◌<◌, ◌≤◌, ◌^◌, ℕ, suc, true, if◌then◌else◌, List, [], ◌∷◌, length, Option, Some, None, option_map, refl, sym, ap, ◌∙◌, subst, arith}
use Rattle.std.specs.List.Sorted.{IsStrictlySortedBy}
use Rattle.std.specs.Map.{keys_of}
use Rattle.std.specs.Option.{option_and_then}
use Rattle.seata_types.specs.declared.acts.Act.{Act}
use Rattle.seata_types.specs.declared.acts.Act.TheVariants as act
use Rattle.seata_types.specs.declared.acts.Durable.{Durable}
use Rattle.seata_types.specs.declared.acts.Durable.TheVariants as durable
use Rattle.seata_types.specs.declared.ids.BranchId.{BranchId}
use Rattle.seata_types.specs.declared.ids.Ticket.{Ticket}
use Rattle.seata_types.specs.declared.ids.Xid.{Xid}
use Rattle.seata_types.specs.declared.statements.Stmt.{Stmt}
use Rattle.local_tables.specs.Rows.{Database}
use Rattle.durable_records.specs.declared.resources.ResourceRecord.{ResourceRecord}
use Rattle.durable_records.specs.declared.resources.ResourceRecord.TheVariants as log
use Rattle.durable_records.specs.ResourceOrder.{Allowed}
use Rattle.durable_records.specs.RowsKept.{tables}
use Rattle.durable_records.specs.UndoRecords.{boots}
use Rattle.resource_memory.specs.Changes.{may_come, after}
use Rattle.resource_memory.specs.Known.{Known, known_of}
use Rattle.resource_memory.proofs.Maps.{rising_insert, rising_remove}
use Rattle.resource_memory.proofs.RecordLaws.{allows, applies}
use Rattle.history_law.proofs.Tests.{and_both}
use Rattle.history_rules.specs.Own.{Event, added, asked_act, kept_part, kept_records, leaves, stood}
use Rattle.history_rules.specs.ResourceMemory.{Setup, Memory, Open, opening_tables, open_at, effect_on, or_empty, local_of, phase_two, committed_of, tried_of, local_committed_of, boot_over, resource_record, opened_for, opens_after, opened_after, with_first}
use Rattle.history_rules.specs.ResourceMemory.{booted as with_boot}
use Rattle.report_text.specs.Following.{Come, IsOfResource}
use Rattle.report_text.specs.Keeping.{ResourceKept, has_room, may_add, known_with, with_record, landed, ticket_in, less_ticket, less_open, asked_now, work_now, with_open, resource_taken, standing}
use Rattle.report_text.specs.Made.{committed_from, tried_from, local_from, next_boot, images_on}
use Rattle.report_text.specs.Opens.{Works, AreOpen, ticket_cmp, with_work, work_of}
use Rattle.report_text.specs.declared.kept.OpenWork.{OpenWork}
use Rattle.report_text.proofs.OpenLaws.{opened_kept, closed_kept, again_kept, counted_kept}
use Rattle.report_text.proofs.Tickets.{ticket_total, ticket_exact}
use Rattle.report_text.proofs.SessionLaws.{few_stand, room_for}

-- ---- records that come

pub allowed_of : (opening : Database) (rs : List ResourceRecord) → Come opening rs → Allowed opening rs
allowed_of opening [] c = tt
allowed_of opening (r ∷ rs) c = let a = allowed_of opening rs c.0 in (a, (allows opening rs a r).0 c.1)

-- the records that stand, and those with the one in flight, may come one after the other; they are counted in 32 bits
pub record MayStandAt (opening : Database) (m : Memory) : Type 0 where
  pub stand : Come opening m.left.records
  pub fly : Come opening (added m.left.flight m.left.records)
  pub few : length (added m.left.flight m.left.records) < 2 ^ 32

-- ---- one more record

pub known_now : (opening : Database) (k : Known) (r : ResourceRecord) (rs : List ResourceRecord) → k ≡ known_of opening rs → Come opening (r ∷ rs) → length (r ∷ rs) < 2 ^ 32
    → known_with r k ≡ known_of opening (r ∷ rs)
known_now opening k r rs is c few =
    let a = allowed_of opening rs c.0 in
    let may : may_add k r ≡ true =
    and_both (has_room k.acts) (may_come k r) (ap (λ (j : Known). has_room j.acts) is ∙ room_for (length rs) few) (ap (λ j. may_come j r) is ∙ c.1) in
    ap (λ b. if b then after r k else k) may ∙ ap (after r) is ∙ sym (applies opening rs a r ((allows opening rs a r).0 c.1))

known_added : (opening : Database) (k : ResourceKept) (o : Option ResourceRecord) (rs : List ResourceRecord) → k.known ≡ known_of opening rs → Come opening (added o rs) → length (added o rs) < 2 ^ 32
    → (with_record o k).known ≡ known_of opening (added o rs)
known_added opening k None rs is c few = is
known_added opening k (Some r) rs is c few = known_now opening k.known r rs is c few

pub flight_same : (o : Option ResourceRecord) (k : ResourceKept) → (with_record o k).flight ≡ k.flight
flight_same None k = refl
flight_same (Some r) k = refl

pub works_same : (o : Option ResourceRecord) (k : ResourceKept) → (with_record o k).works ≡ k.works
works_same None k = refl
works_same (Some r) k = refl

-- ---- boots

pub boots_few : (rs : List ResourceRecord) → boots rs ≤ length rs
boots_few [] = omega arith
boots_few (log.Boot number ∷ rs) = let below = boots_few rs in omega (arith, below)
boots_few (_ ∷ rs) = let below = boots_few rs in omega (arith, below)

pub boot_is : (opening : Database) (k : Known) (rs : List ResourceRecord) → k ≡ known_of opening rs → suc (length rs) < 2 ^ 32 → next_boot k ≡ boot_over rs
boot_is opening k rs is few =
    ap next_boot is ∙ ap (λ n. log.Boot n) (let below = boots_few rs in (omega (arith, below, few)))

-- ---- the record that is made

-- these statements are those of the rules
abbrev pub RunsFor : Setup → Event → Option (List Stmt) → Durable → Type 0
RunsFor s event run (durable.Confirmed xid b) = or_empty run ≡ phase_two s event
RunsFor s event run (durable.Cancelled xid b) = or_empty run ≡ phase_two s event
RunsFor s event run (durable.Outside n) = or_empty run ≡ or_empty (local_of s n)
RunsFor s event run _ = Unit {0}

-- this ticket is opened by the event, and is kept so
pub record OpensFor (s : Setup) (db : Database) (event : Event) (run tries : Option (List Stmt)) (t : Ticket) (call : ℕ) : Type 0 where
  pub opens : Open
  pub by_event : opened_for s db t event ≡ Some opens
  pub ticket : opens.ticket ≡ t
  pub kept : work_of opens ≡ work_now db call run tries

abbrev pub ActIs : Setup → Database → Event → (run tries : Option (List Stmt)) → Act → Type 0
ActIs s db event run tries (act.Durable d) = RunsFor s event run d
ActIs s db event run tries (act.Down kept (Some d)) = RunsFor s event run d
ActIs s db event run tries (act.Opened xid call t) = OpensFor s db event run tries t call
ActIs s db event run tries (act.OpenedLocal n t) = OpensFor s db event run None t 0
ActIs s db event run tries _ = Unit {0}

committed_is : (xid : Xid) (b : BranchId) (o : Option Open) → option_map (committed_from xid b) (option_map work_of o) ≡ option_map (committed_of xid b) o
committed_is xid b None = refl
committed_is xid b (Some o) = refl

tried_is : (xid : Xid) (b : BranchId) (db : Database) (o : Option Open) → option_map (tried_from xid b db) (option_map work_of o) ≡ option_map (tried_of xid b db) o
tried_is xid b db None = refl
tried_is xid b db (Some o) = refl

local_is : (n : ℕ) (o : Option Open) → option_map (local_from n) (option_map work_of o) ≡ option_map (local_committed_of n) o
local_is n None = refl
local_is n (Some o) = refl

module _ (s : Setup) (k : ResourceKept) (rs : List ResourceRecord) (opens : List Open) (is : k.known ≡ known_of (opening_tables s) rs) (are : AreOpen k.works opens)
    (few : suc (length rs) < 2 ^ 32) (event : Event) (run : Option (List Stmt)) where
  tables_are : k.known.tables ≡ tables (opening_tables s) rs
  tables_are = ap (λ (j : Known). j.tables) is

  images_are : (stmts : List Stmt) → or_empty run ≡ stmts → images_on k.known.tables run ≡ (effect_on (tables (opening_tables s) rs) stmts).images
  images_are stmts same = ap (λ db. (effect_on db (or_empty run)).images) tables_are ∙ ap (λ q. (effect_on (tables (opening_tables s) rs) q).images) same

  pub asked_is : (d : Durable) → RunsFor s event run d → asked_now run k d ≡ resource_record s rs opens event d
  asked_is durable.Boot runs = ap (λ r. Some r) (boot_is (opening_tables s) k.known rs is few)
  asked_is (durable.Committed xid b t) runs = ap (option_map (committed_from xid b)) (are t) ∙ committed_is xid b (open_at opens t)
  asked_is (durable.Tried xid b t) runs =
      ap (option_map (tried_from xid b k.known.tables)) (are t) ∙ tried_is xid b k.known.tables (open_at opens t)
      ∙ ap (λ db. option_map (tried_of xid b db) (open_at opens t)) tables_are
  asked_is (durable.LocalCommitted n t) runs = ap (option_map (local_from n)) (are t) ∙ local_is n (open_at opens t)
  asked_is (durable.Confirmed xid b) runs = ap (λ images. Some (log.Confirmed xid b images)) (images_are (phase_two s event) runs)
  asked_is (durable.Cancelled xid b) runs = ap (λ images. Some (log.Cancelled xid b images)) (images_are (phase_two s event) runs)
  asked_is (durable.Outside n) runs = ap (λ images. Some (log.Outside n images)) (images_are (or_empty (local_of s n)) runs)
  asked_is (durable.Cleared xid b) runs = refl
  asked_is (durable.Undone xid b) runs = refl
  asked_is (durable.Marked xid b) runs = refl
  asked_is (durable.Suspended xid b) runs = refl
  asked_is _ runs = refl

-- ---- the open tickets after an act

ordered_without : (o : Option Ticket) (works : Works) → IsStrictlySortedBy ticket_cmp (keys_of works) → IsStrictlySortedBy ticket_cmp (keys_of (less_ticket o works))
ordered_without None works order = order
ordered_without (Some t) works order = rising_remove ticket_cmp ticket_total ticket_exact works t order

ended_open : (s : Setup) (db : Database) (event : Event) (d : Durable) (works : Works) (opens : List Open) → IsStrictlySortedBy ticket_cmp (keys_of works) → AreOpen works opens
    → AreOpen (less_ticket (ticket_in d) works) (opens_after s db event (act.Durable d) opens)
ended_open s db event (durable.Committed xid b t) works opens order are = closed_kept works opens t order are
ended_open s db event (durable.Tried xid b t) works opens order are = closed_kept works opens t order are
ended_open s db event (durable.LocalCommitted n t) works opens order are = closed_kept works opens t order are
ended_open s db event _ works opens order are = are

-- no ticket is open after a fall
pub none_sorted : IsStrictlySortedBy ticket_cmp (keys_of {X = OpenWork} [])
unfolding IsStrictlySortedBy
none_sorted = tt

pub none_open : AreOpen [] []
none_open t = refl

-- ---- one more entry

-- what an entry leaves, by its event and act
abbrev pub memory_now : Setup → Event → Act → Memory → Memory
memory_now s event done m = record {
  left = with_boot done (leaves done (option_and_then (resource_record s (kept_records done m.left) m.opens event) (asked_act done)) m.left);
  opens = opens_after s (tables (opening_tables s) m.left.records) event done m.opens;
  opened = opened_after done m.opened;
}

-- the record that comes to stand with it
abbrev pub stands_now : Setup → Event → Act → Memory → Option ResourceRecord
stands_now s event done m = stood done (option_and_then (resource_record s (kept_records done m.left) m.opens event) (asked_act done)) m.left

kept_few : {R : Type 0} (kept : Option Durable) (flight : Option R) (rs : List R) → length (added (kept_part kept flight) rs) ≤ length (added flight rs)
kept_few None None rs = omega arith
kept_few None (Some r) rs = omega arith
kept_few (Some d) flight rs = omega arith

module _ (s : Setup) (k : ResourceKept) (m : Memory) (is : IsOfResource k (opening_tables s) m) (event : Event) (run tries : Option (List Stmt)) where
  abbrev opening : Database
  opening = opening_tables s

  abbrev records : Option Durable → List ResourceRecord
  records kept = added (kept_part kept m.left.flight) m.left.records

  -- what was in flight stands where it was kept
  landed_known : (kept : Option Durable) → Come opening (records kept) → length (records kept) < 2 ^ 32 → (landed kept k).known ≡ known_of opening (records kept)
  landed_known kept c few =
      ap (λ (f : Option ResourceRecord). (with_record (kept_part kept f) (record k { flight = None })).known) is.flight
      ∙ known_added opening (record k { flight = None }) (kept_part kept m.left.flight) m.left.records is.known c few

  landed_works : (kept : Option Durable) → (landed kept k).works ≡ k.works
  landed_works kept = works_same (kept_part kept k.flight) (record k { flight = None })

  landed_flight : (kept : Option Durable) → (landed kept k).flight ≡ None
  landed_flight kept = flight_same (kept_part kept k.flight) (record k { flight = None })

  landed_open : (kept : Option Durable) → AreOpen (landed kept k).works m.opens
  landed_open kept = subst (λ (w : Works). AreOpen w m.opens) (sym (landed_works kept)) is.works

  landed_sorted : (kept : Option Durable) → IsStrictlySortedBy ticket_cmp (keys_of (landed kept k).works)
  landed_sorted kept = subst (λ (w : Works). IsStrictlySortedBy ticket_cmp (keys_of w)) (sym (landed_works kept)) is.in_order

  -- the resource as it is kept now, and the record that came to stand
  pub record IsTaken (done : Act) : Type 0 where
    pub kept : IsOfResource (resource_taken run tries done k) opening (memory_now s event done m)
    pub stands : standing run done k ≡ stands_now s event done m

  opened_is : (t : Ticket) (call : ℕ) (more : Option (List Stmt)) → OpensFor s (tables opening m.left.records) event run more t call
      → AreOpen (with_open t call run more k).works (with_first (opened_for s (tables opening m.left.records) t event) m.opens)
  opened_is t call more f =
      let same_work : work_now k.known.tables call run more ≡ work_of f.opens = ap (λ (j : Known). work_now j.tables call run more) is.known ∙ sym f.kept in
      let put : with_work k.works t (work_now k.known.tables call run more) ≡ with_work k.works f.opens.ticket (work_of f.opens) =
      ap (with_work k.works t) same_work ∙ ap (λ u. with_work k.works u (work_of f.opens)) (sym f.ticket) in
      subst (λ (w : Works). AreOpen w (with_first (opened_for s (tables opening m.left.records) t event) m.opens)) (sym put)
      (subst (λ (n : Option Open). AreOpen (with_work k.works f.opens.ticket (work_of f.opens)) (with_first n m.opens)) (sym f.by_event)
      (opened_kept k.works m.opens f.opens is.works))

  module _ (before : MayStandAt opening m) (room : suc (length (added m.left.flight m.left.records)) < 2 ^ 32) where
    room_now : suc (length m.left.records) < 2 ^ 32
    room_now = let low : length m.left.records ≤ length (added m.left.flight m.left.records) = kept_few None m.left.flight m.left.records in omega (arith, room, low)

    room_kept : (kept : Option Durable) → suc (length (records kept)) < 2 ^ 32
    room_kept kept = let low = kept_few kept m.left.flight m.left.records in omega (arith, room, low)

    taken_durable : (d : Durable) → RunsFor s event run d → MayStandAt opening (memory_now s event (act.Durable d) m) → IsTaken (act.Durable d)
    taken_durable d runs after =
        let now = landed None k in
        let known = landed_known None before.stand (few_stand m.left.flight m.left.records before.few) in
        let made = asked_is s now m.left.records m.opens known (landed_open None) room_now event run d runs in
        record {
          kept = record {
            known =
                ap (λ q. (with_record q (less_open d now)).known) made
                ∙ known_added opening (less_open d now) (resource_record s m.left.records m.opens event d) m.left.records known after.stand after.few;
            flight = flight_same (asked_now run now d) (less_open d now) ∙ landed_flight None;
            in_order =
                subst (λ (w : Works). IsStrictlySortedBy ticket_cmp (keys_of w)) (sym (works_same (asked_now run now d) (less_open d now)))
                (ordered_without (ticket_in d) now.works (landed_sorted None));
            works =
                subst (λ (w : Works). AreOpen w (opens_after s (tables opening m.left.records) event (act.Durable d) m.opens)) (sym (works_same (asked_now run now d) (less_open d now)))
                (ended_open s (tables opening m.left.records) event d now.works m.opens (landed_sorted None) (landed_open None));
          };
          stands = made;
        }

    asked_after : (kept at : Option Durable) → Come opening (records kept) → length (records kept) < 2 ^ 32 → ActIs s (tables opening m.left.records) event run tries (act.Down kept at)
        → option_and_then (asked_now run (landed kept k)) at ≡ option_and_then (resource_record s (records kept) m.opens event) at
    asked_after kept None c few runs = refl
    asked_after kept (Some d) c few runs = asked_is s (landed kept k) (records kept) m.opens (landed_known kept c few) (landed_open kept) (room_kept kept) event run d runs

    taken_down : (kept at : Option Durable) → ActIs s (tables opening m.left.records) event run tries (act.Down kept at) → MayStandAt opening (memory_now s event (act.Down kept at) m)
        → IsTaken (act.Down kept at)
    taken_down kept at runs after =
        let few = few_stand (option_and_then (resource_record s (records kept) m.opens event) at) (records kept) after.few in
        record {
          kept = record {
            known = landed_known kept after.stand few;
            flight = asked_after kept at after.stand few runs;
            in_order = none_sorted;
            works = none_open;
          };
          stands = ap (kept_part kept) is.flight;
        }

    taken_restarted : (kept : Option Durable) → MayStandAt opening (memory_now s event (act.Restarted kept) m) → IsTaken (act.Restarted kept)
    taken_restarted kept after =
        let known = landed_known kept after.stand.0 (let more = after.few in omega (arith, more)) in
        record {
          kept = record {
            known =
                ap (λ r. known_with r (landed kept k).known) (boot_is opening (landed kept k).known (records kept) known (room_kept kept))
                ∙ known_now opening (landed kept k).known (boot_over (records kept)) (records kept) known after.stand after.few;
            flight = landed_flight kept;
            in_order = landed_sorted kept;
            works = landed_open kept;
          };
          stands = ap (kept_part kept) is.flight;
        }

    pub taken : (done : Act) → ActIs s (tables opening m.left.records) event run tries done → MayStandAt opening (memory_now s event done m) → IsTaken done
    taken (act.Durable d) runs after = taken_durable d runs after
    taken (act.Down kept at) runs after = taken_down kept at runs after
    taken (act.Restarted kept) runs after = taken_restarted kept after
    taken (act.Opened xid call t) runs after = record {
      kept = record {
        known = is.known;
        flight = is.flight;
        in_order = rising_insert ticket_cmp ticket_total ticket_exact k.works t (work_now k.known.tables call run tries) is.in_order;
        works = opened_is t call tries runs;
      };
      stands = refl;
    }
    taken (act.OpenedLocal n t) runs after = record {
      kept = record {
        known = is.known;
        flight = is.flight;
        in_order = rising_insert ticket_cmp ticket_total ticket_exact k.works t (work_now k.known.tables 0 run None) is.in_order;
        works = opened_is t 0 None runs;
      };
      stands = refl;
    }
    taken (act.Resent t) runs after =
        record { kept = record { known = is.known; flight = is.flight; in_order = is.in_order; works = again_kept k.works m.opens t is.works }; stands = refl }
    taken (act.Conflicted t n) runs after =
        record { kept = record { known = is.known; flight = is.flight; in_order = is.in_order; works = counted_kept k.works m.opens t n is.works }; stands = refl }
    taken (act.Dropped xid call t why) runs after = record {
      kept = record {
        known = is.known;
        flight = is.flight;
        in_order = rising_remove ticket_cmp ticket_total ticket_exact k.works t is.in_order;
        works = closed_kept k.works m.opens t is.in_order is.works;
      };
      stands = refl;
    }
    taken (act.DroppedLocal n t key holder) runs after = record {
      kept = record {
        known = is.known;
        flight = is.flight;
        in_order = rising_remove ticket_cmp ticket_total ticket_exact k.works t is.in_order;
        works = closed_kept k.works m.opens t is.in_order is.works;
      };
      stands = refl;
    }
    taken _ runs after = record { kept = record { known = is.known; flight = is.flight; in_order = is.in_order; works = is.works }; stands = refl }
