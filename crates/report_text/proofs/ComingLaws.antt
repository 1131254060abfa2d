-- The record that a resource's act asks for may come after those that stand.
use Rattle.std.proofs.Common.{◌≡◌, ◌⊎◌, inl, inr, ◌+◌, ◌≤◌, ℕ, Bool, true, false, List, [], ◌∷◌, length, Option, Some, None, option_map, is_none, is_some, Result, Ok, Err, refl, sym, ap, ◌∙◌, subst, arith}
use Rattle.std.proofs.lemmas.Bool.{and_from, leb-true, le-leb}
use Rattle.seata_types.specs.declared.acts.Act.{Act}
use Rattle.seata_types.specs.declared.acts.Act.TheVariants as act
use Rattle.seata_types.specs.declared.acts.Durable.{Durable}
use Rattle.seata_types.specs.declared.acts.Durable.TheVariants as durable
use Rattle.seata_types.specs.declared.errors.StmtError.{StmtError}
use Rattle.seata_types.specs.declared.ids.BranchId.{BranchId}
use Rattle.seata_types.specs.declared.ids.Leg.{Leg}
use Rattle.seata_types.specs.declared.ids.Ticket.{Ticket}
use Rattle.seata_types.specs.declared.ids.Xid.{Xid}
use Rattle.seata_types.specs.declared.limits.TheConstants.{CALL_ROWS}
use Rattle.seata_types.specs.declared.messages.Input.TheVariants as input
use Rattle.seata_types.specs.declared.messages.Message.TheVariants as message
use Rattle.seata_types.specs.declared.rows.Image.{Image}
use Rattle.seata_types.specs.declared.rows.ReadRow.{ReadRow}
use Rattle.seata_types.specs.declared.statements.Stmt.{Stmt}
use Rattle.seata_types.specs.declared.statements.Work.TheVariants as work
use Rattle.local_tables.specs.Calls.{effect}
use Rattle.local_tables.specs.Rows.{Database}
use Rattle.local_tables.specs.declared.schemas.Effect.{Effect}
use Rattle.durable_records.specs.declared.resources.ResourceRecord.{ResourceRecord}
use Rattle.durable_records.specs.Fences.{Fence, FenceAnswer, Runs, fence, fences, on_try, on_confirm, on_cancel}
use Rattle.durable_records.specs.ResourceOrder.{Allowed, only_read}
use Rattle.durable_records.specs.RowsKept.{tables}
use Rattle.durable_records.specs.UndoRecords.{Undo, undo_of, is_marked, boots}
use Rattle.resource_log.specs.Records.{leg_of}
use Rattle.resource_memory.specs.Changes.{fit, may_come, has_no_entry, has_undo_record, is_undo_record, runs, suspends}
use Rattle.resource_memory.specs.Keeping.{AreRows, IsKept}
use Rattle.resource_memory.specs.Known.{Known, known_of}
use Rattle.resource_memory.specs.Lookups.{entry_by}
use Rattle.resource_memory.proofs.Fits.{fits, fit_alike}
use Rattle.resource_memory.proofs.KeptLaws.{kept_after}
use Rattle.resource_memory.proofs.RecordLaws.{allows, applies, finds_undo_records, tables_of}
use Rattle.resource_memory.proofs.Steps.{kept_opened}
use Rattle.tcc_fence.specs.Meanings.{fence_at}
use Rattle.tcc_fence.proofs.RecordLaws.{fences_stand}
use Rattle.history_law.specs.Cover.{all_of}
use Rattle.history_law.specs.Points.{In}
use Rattle.history_law.proofs.ResourceFits.{ActFits}
use Rattle.history_law.proofs.ResourceSteps.{OnRecord, OpenFrom}
use Rattle.history_law.proofs.Tests.{found_in, nat_same, none_some}
use Rattle.durable_records.specs.Branches.{same_ticket}
use Rattle.history_rules.specs.Own.{Event, Given, Left, added, kept_part}
use Rattle.history_rules.specs.ResourceMemory.{Setup, Memory, Open, opening_tables, open_at, opened_for, effect_on, or_none, or_empty, local_of, no_effect, phase_two, committed_of, tried_of, local_committed_of, tries_of, boot_over, resource_record}
use Rattle.report_text.proofs.AskLaws.{ActAsks, AsksFor, AskedFits}
use Rattle.resource_memory.proofs.EffectFits.{effects_fit}
use Rattle.report_text.specs.Following.{Come}
use Rattle.report_text.proofs.ResourceLaws.{allowed_of, memory_now}

-- ---- an effect fits

effect_by : (db : Database) → AreRows db → (stmts : List Stmt) → (r : Result Effect (ℕ × StmtError)) → effect db stmts ≡ r → fit db (or_none r).images (or_none r).reads ≡ true
effect_by db rows stmts (Ok e) is = effects_fit db stmts e rows is
effect_by db rows stmts (Err fault) is = refl

effect_fits : (db : Database) → AreRows db → (stmts : List Stmt) → fit db (effect_on db stmts).images (effect_on db stmts).reads ≡ true
effect_fits db rows stmts = effect_by db rows stmts (effect db stmts) refl

less_few : (images : List Image) (reads : List ReadRow) → length images + length (only_read images reads) ≤ CALL_ROWS → length images + length (only_read images []) ≤ CALL_ROWS
less_few images reads few = omega (arith, few)

-- also without its reads
images_fit : (db : Database) (images : List Image) (reads : List ReadRow) → fit db images reads ≡ true → fit db images [] ≡ true
images_fit db images reads e =
    let f = fits db images reads e in
    let few = leb-true (length images + length (only_read images reads)) CALL_ROWS f.few in
    and_from _ _ f.touched
    (and_from _ _ f.images_rise (le-leb (length images + length (only_read images [])) CALL_ROWS (less_few images reads few)))

-- ---- what records that came one after the other say

pub come_kept : (u : Setup) (rs : List ResourceRecord) → Come (opening_tables u) rs → IsKept (known_of (opening_tables u) rs)
come_kept u [] c = kept_opened u.number u.schema u.opening
come_kept u (r ∷ rs) c =
    let a = allowed_of (opening_tables u) rs c.0 in
    subst IsKept (sym (applies (opening_tables u) rs a r ((allows (opening_tables u) rs a r).0 c.1))) (kept_after (known_of (opening_tables u) rs) (come_kept u rs c.0) r c.1)

-- each open ticket is of an effect that fits the tables
abbrev pub OpensFit : Database → List Open → Type 0
OpensFit opening opens = (o : Open) → In o opens → fit opening o.images o.reads ≡ true

no_entry_from : (o : Option Undo) (m : Bool) → o ≡ None → m ≡ false → is_none (entry_by o m) ≡ true
no_entry_from o m e f = ap (λ (p : Option Undo). is_none (entry_by p m)) e ∙ ap (λ (n : Bool). is_none (entry_by None n)) f

undo_is : (o : Option Undo) (m : Bool) → is_undo_record (entry_by o m) ≡ is_some o
undo_is (Some u) m = refl
undo_is None true = refl
undo_is None false = refl

module _ (u : Setup) (m : Memory) (c : Come (opening_tables u) m.left.records) (opens : OpensFit (opening_tables u) m.opens) where
  abbrev rs : List ResourceRecord
  rs = m.left.records

  abbrev opening : Database
  opening = opening_tables u

  abbrev k : Known
  k = known_of opening rs

  allowed : Allowed opening rs
  allowed = allowed_of opening rs c

  rows : AreRows (tables opening rs)
  rows = (come_kept u rs c).rows

  -- the tables have the opening's number and schema at all times
  fit_now : (images : List Image) (reads : List ReadRow) → fit opening images reads ≡ true → fit (tables opening rs) images reads ≡ true
  fit_now images reads e = let t = tables_of opening rs in fit_alike (tables opening rs) opening images reads t.resource t.schema ∙ e

  fit_then : (images : List Image) (reads : List ReadRow) → fit (tables opening rs) images reads ≡ true → fit opening images reads ≡ true
  fit_then images reads e = let t = tables_of opening rs in sym (fit_alike (tables opening rs) opening images reads t.resource t.schema) ∙ e

  effect_now : (stmts : List Stmt) → fit (tables opening rs) (effect_on (tables opening rs) stmts).images [] ≡ true
  effect_now stmts =
      images_fit (tables opening rs) (effect_on (tables opening rs) stmts).images (effect_on (tables opening rs) stmts).reads (effect_fits (tables opening rs) rows stmts)

  no_entry : (leg : Leg) → undo_of rs leg.xid.0 leg.branch.0 ≡ None → is_marked rs leg.xid.0 leg.branch.0 ≡ false → has_no_entry k leg ≡ true
  no_entry leg e f = ap is_none (finds_undo_records opening rs allowed leg) ∙ no_entry_from (undo_of rs leg.xid.0 leg.branch.0) (is_marked rs leg.xid.0 leg.branch.0) e f

  has_undo : (leg : Leg) → is_some (undo_of rs leg.xid.0 leg.branch.0) ≡ true → has_undo_record k leg ≡ true
  has_undo leg e = ap is_undo_record (finds_undo_records opening rs allowed leg) ∙ undo_is (undo_of rs leg.xid.0 leg.branch.0) (is_marked rs leg.xid.0 leg.branch.0) ∙ e

  runs_now : (f : Option Fence → FenceAnswer) (leg : Leg) → f (fence rs leg.xid.0 leg.branch.0) ≡ Runs → runs (f (fence_at (fences rs) leg)) ≡ true
  runs_now f leg e = ap runs (ap f (fences_stand rs leg) ∙ e)

  is_open : (t : Ticket) (o : Open) → open_at m.opens t ≡ Some o → fit (tables opening rs) o.images o.reads ≡ true
  is_open t o found = fit_now o.images o.reads (opens o (found_in (λ p. same_ticket p.ticket t) m.opens o found).0)

  abbrev Comes : Option ResourceRecord → Type 0
  Comes o = OnRecord (λ r. may_come k r ≡ true) o

  committed_comes : (xid : Xid) (b : BranchId) (t : Ticket) (o : Open) → open_at m.opens t ≡ Some o → is_marked rs xid.0 b.0 ≡ false → undo_of rs xid.0 b.0 ≡ None
      → Comes (option_map (committed_of xid b) (open_at m.opens t))
  committed_comes xid b t o found unmarked fresh =
      let may : may_come k (committed_of xid b o) ≡ true = and_from _ _ (no_entry (leg_of xid b) fresh unmarked) (is_open t o found) in
      subst (λ (p : Option Open). Comes (option_map (committed_of xid b) p)) (sym found) may

  tried_comes : (xid : Xid) (b : BranchId) (t : Ticket) (o : Open) → open_at m.opens t ≡ Some o → on_try (fence rs xid.0 b.0) ≡ Runs
      → Comes (option_map (tried_of xid b (tables opening rs)) (open_at m.opens t))
  tried_comes xid b t o found run =
      let may : may_come k (tried_of xid b (tables opening rs) o) ≡ true = and_from _ _ (runs_now on_try (leg_of xid b) run) (effect_now (tries_of o.owner)) in
      subst (λ (p : Option Open). Comes (option_map (tried_of xid b (tables opening rs)) p)) (sym found) may

  local_comes : (n : ℕ) (t : Ticket) (o : Open) → open_at m.opens t ≡ Some o → Comes (option_map (local_committed_of n) (open_at m.opens t))
  local_comes n t o found =
      let may : may_come k (local_committed_of n o) ≡ true = images_fit (tables opening rs) o.images o.reads (is_open t o found) in
      subst (λ (p : Option Open). Comes (option_map (local_committed_of n) p)) (sym found) may

  module _ (event : Event) where
    durable_comes : (d : Durable) → ActFits u m event (act.Durable d) → AsksFor m event d → Comes (resource_record u rs m.opens event d)
    durable_comes (durable.Committed xid b t) f asks = committed_comes xid b t f.open_ticket f.found f.unmarked f.fresh
    durable_comes (durable.Tried xid b t) f asks = tried_comes xid b t f.open_ticket f.found f.runs
    durable_comes (durable.LocalCommitted n t) f asks = local_comes n t f.open_ticket f.found
    durable_comes (durable.Undone xid b) f asks = has_undo (leg_of xid b) (ap is_some f.found)
    durable_comes (durable.Marked xid b) f asks = no_entry (leg_of xid b) f.1 asks
    durable_comes (durable.Cleared xid b) f asks = has_undo (leg_of xid b) f.1
    durable_comes (durable.Confirmed xid b) f asks = and_from _ _ (runs_now on_confirm (leg_of xid b) f.1) (effect_now (phase_two u event))
    durable_comes (durable.Cancelled xid b) f asks = and_from _ _ (runs_now on_cancel (leg_of xid b) f.1) (effect_now (phase_two u event))
    durable_comes (durable.Suspended xid b) f asks = ap suspends (ap on_cancel (fences_stand rs (leg_of xid b)) ∙ f.1)
    durable_comes (durable.Outside n) f asks = effect_now (or_empty (local_of u n))
    durable_comes durable.Boot f asks = absurd f
    durable_comes _ f asks = tt

    -- ---- the ticket that is opened

    new_fits : (t : Ticket) (o p : Open) (e : Effect) → fit (tables opening rs) e.images e.reads ≡ true → o.images ≡ e.images → o.reads ≡ e.reads → Some o ≡ Some p → fit opening p.images p.reads ≡ true
    new_fits t o p e is images reads same =
        let one : o ≡ p = cc in
        subst (λ (q : Open). fit opening q.images q.reads ≡ true) one
        (fit_then o.images o.reads (ap (λ l. fit (tables opening rs) l o.reads) images ∙ ap (λ l. fit (tables opening rs) e.images l) reads ∙ is))

    opened_fits : (given : Event) (t : Ticket) (p : Open) → opened_for u (tables opening rs) t given ≡ Some p → fit opening p.images p.reads ≡ true
    opened_fits (Given (input.Message from (message.Call xid man res c (work.At stmts)))) t p e =
        new_fits t _ p (effect_on (tables opening rs) stmts) (effect_fits (tables opening rs) rows stmts) refl refl e
    opened_fits (Given (input.Message from (message.Call xid man res c (work.Tcc a)))) t p e = new_fits t _ p no_effect refl refl refl e
    opened_fits (Given (input.Local n)) t p e =
        new_fits t _ p (effect_on (tables opening rs) (or_empty (local_of u n))) (effect_fits (tables opening rs) rows (or_empty (local_of u n))) refl refl e
    opened_fits _ t p e = none_some e

    pub from_fits : (n : Memory) (o : Open) → OpenFrom u m event n o → fit opening o.images o.reads ≡ true
    from_fits n o (inl (p, conflicts, i, is)) = ap (λ (q : Open). fit opening q.images q.reads) is ∙ opens p i
    from_fits n o (inr new) = opened_fits event _ o new.opened

-- ---- after an act

-- records with the one in flight may come one after the other
pub record ComesBoth (opening : Database) (left : Left ResourceRecord) : Type 0 where
  pub stand : Come opening left.records
  pub fly : Come opening (all_of left)

added_comes : (db : Database) (records : List ResourceRecord) (o : Option ResourceRecord) → Come db records → OnRecord (λ r. may_come (known_of db records) r ≡ true) o → Come db (added o records)
added_comes db records None c may = c
added_comes db records (Some r) c may = (c, may)

pub boot_comes : (db : Database) (records : List ResourceRecord) → Come db records → Come db (boot_over records ∷ records)
boot_comes db records c = (c, nat_same (boots records + 1) (boots records + 1) refl)

kept_comes : (db : Database) (left : Left ResourceRecord) (kept : Option Durable) → ComesBoth db left → Come db (added (kept_part kept left.flight) left.records)
kept_comes db left None both = both.stand
kept_comes db left (Some d) both = both.fly

module _ (u : Setup) (m : Memory) (both : ComesBoth (opening_tables u) m.left) (opens : OpensFit (opening_tables u) m.opens) (event : Event) where
  down_comes : (kept : Option Durable) (d : Durable) → AsksFor m event d → ((kept ≡ None) × ActFits u m event (act.Durable d)) ⊎ (d ≡ durable.Boot)
      → ComesBoth (opening_tables u) (memory_now u event (act.Down kept (Some d)) m).left
  down_comes None d asks (inl fits) = record {
    stand = both.stand;
    fly = added_comes (opening_tables u) m.left.records (resource_record u m.left.records m.opens event d) both.stand (durable_comes u m both.stand opens event d fits.1 asks);
  }
  down_comes (Some q) d asks (inl fits) = none_some (sym fits.0)
  down_comes kept d asks (inr is) =
      let records = added (kept_part kept m.left.flight) m.left.records in
      let stand = kept_comes (opening_tables u) m.left kept both in
      record {
        stand = stand;
        fly = subst (λ (e : Durable). Come (opening_tables u) (added (resource_record u records m.opens event e) records)) (sym is) (boot_comes (opening_tables u) records stand);
      }

  pub act_comes : (done : Act) → ActAsks m event done → AskedFits u m event done → ComesBoth (opening_tables u) (memory_now u event done m).left
  act_comes (act.Durable d) asks fits =
      let stands = added_comes (opening_tables u) m.left.records (resource_record u m.left.records m.opens event d) both.stand (durable_comes u m both.stand opens event d fits asks) in
      record { stand = stands; fly = stands }
  act_comes (act.Down kept None) asks fits = let stand = kept_comes (opening_tables u) m.left kept both in record { stand = stand; fly = stand }
  act_comes (act.Down kept (Some d)) asks fits = down_comes kept d asks fits
  act_comes (act.Restarted kept) asks fits =
      let stands = boot_comes (opening_tables u) (added (kept_part kept m.left.flight) m.left.records) (kept_comes (opening_tables u) m.left kept both) in
      record { stand = stands; fly = stands }
  act_comes _ asks fits = record { stand = both.stand; fly = both.fly }
