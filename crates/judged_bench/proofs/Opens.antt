-- Open tickets fit the tables, whatever entry comes.
use Rattle.std.proofs.Common.{◌≡◌, ◌≤◌, ℕ, Bool, true, false, cond, not, List, [], ◌∷◌, map, find, Option, Some, None, Result, Ok, Err, refl, sym, subst, ◌∙◌, arith}
use Rattle.std.specs.List.{AllByRecursion}
use Rattle.std.proofs.lemmas.Option.{none-some}
use Rattle.seata_types.specs.declared.acts.Act.{Act}
use Rattle.seata_types.specs.declared.acts.Act.TheVariants as act
use Rattle.seata_types.specs.declared.acts.Durable.TheVariants as durable
use Rattle.seata_types.specs.declared.errors.StmtError.{StmtError}
use Rattle.seata_types.specs.declared.ids.Ticket.{Ticket}
use Rattle.seata_types.specs.declared.limits.TheConstants.{FIELD_ITEMS}
use Rattle.seata_types.specs.declared.messages.Input.TheVariants as input
use Rattle.seata_types.specs.declared.messages.Message.TheVariants as message
use Rattle.seata_types.specs.declared.statements.Stmt.{Stmt}
use Rattle.seata_types.specs.declared.statements.Work.TheVariants as work
use Rattle.local_tables.specs.Calls.{effect}
use Rattle.local_tables.specs.Rows.{Database, AreRows}
use Rattle.local_tables.specs.declared.schemas.Effect.{Effect}
use Rattle.durable_records.specs.declared.resources.ResourceRecord.{ResourceRecord}
use Rattle.durable_records.specs.Branches.{same_ticket}
use Rattle.durable_records.specs.RowsKept.{tables}
use Rattle.local_txn.specs.OpenTickets.{Open, counting, open_at, sent_again, with_first, without}
use Rattle.history_rules.specs.Own.{Event, Given}
use Rattle.history_rules.specs.ResourceMemory.{Setup, effect_on, local_of, or_empty, or_none, opened_for, opens_after}
use Rattle.resource_memory.specs.Changes.{fit}
use Rattle.resource_memory.proofs.EffectFits.{effects_fit}
use Rattle.resource_memory.proofs.Fits.{fit_alike}
use Rattle.resource_memory.proofs.RecordLaws.{tables_of}
use Rattle.judged_bench.specs.Leaving.{ServesGiven}
use Rattle.judged_bench.specs.Standing.{IsFit}

some_is : {A : Type 0} (a b : A) → Some a ≡ Some b → a ≡ b
some_is a b e = cc

-- ---- lists

found_with : (P : Open → Type 0) (p : Open → Bool) (xs : List Open) (o : Open) → AllByRecursion P xs → find p xs ≡ Some o → P o
found_with P p [] o all e = absurd (none-some o e)
found_with P p (x ∷ xs) o all e = by (found_with P p xs o all.1) (p x) e
  where
    by : (find p xs ≡ Some o → P o) → (b : Bool) → cond b (Some x) (find p xs) ≡ Some o → P o
    by later true f = subst P (some_is x o f) all.0
    by later false f = later f

-- what holds of each open ticket holds of one that is found, of those that are left, and of those that were sent or counted
pub found_open : (P : Open → Type 0) (opens : List Open) (t : Ticket) (o : Open) → AllByRecursion P opens → open_at opens t ≡ Some o → P o
found_open P opens t o all e = found_with P _ opens o all e

all_left : (P : Open → Type 0) (opens : List Open) (t : Ticket) → AllByRecursion P opens → AllByRecursion P (without opens t)
all_left P [] t all = tt
all_left P (o ∷ os) t all = by (all_left P os t all.1) (not (same_ticket o.ticket t))
  where
    by : AllByRecursion P (without os t) → (b : Bool) → AllByRecursion P (cond b (o ∷ without os t) (without os t))
    by rest true = (all.0, rest)
    by rest false = rest

all_sent : (P : Open → Type 0) (opens : List Open) (t : Ticket) → AllByRecursion P opens → AllByRecursion P (sent_again t opens)
all_sent P opens t all = by (open_at opens t) refl
  where
    by : (p : Option Open) → open_at opens t ≡ p → AllByRecursion P (with_first p (without opens t))
    by None e = all_left P opens t all
    by (Some o) e = (found_open P opens t o all e, all_left P opens t all)

all_counted : (opening : Database) (t : Ticket) (n : ℕ) (opens : List Open) → AllByRecursion (IsFit opening) opens → AllByRecursion (IsFit opening) (map (counting t n) opens)
all_counted opening t n [] all = tt
all_counted opening t n (o ∷ os) all = (by (same_ticket o.ticket t), all_counted opening t n os all.1)
  where
    by : (b : Bool) → IsFit opening (cond b (record o { conflicts = n }) o)
    by true = record { rows = all.0.rows; tries = all.0.tries }
    by false = all.0

all_first : (P : Open → Type 0) (opens : List Open) (p : Option Open) → AllByRecursion P opens → ((o : Open) → p ≡ Some o → P o) → AllByRecursion P (with_first p opens)
all_first P opens None all first = all
all_first P opens (Some o) all first = (first o refl, all)

-- ---- the ticket that is opened

effect_by : (db : Database) → AreRows db → (stmts : List Stmt) (r : Result Effect (ℕ × StmtError)) → effect db stmts ≡ r → fit db (or_none r).images (or_none r).reads ≡ true
effect_by db rows stmts (Ok e) is = effects_fit db stmts e rows is
effect_by db rows stmts (Err fault) is = refl

none_few : 0 ≤ FIELD_ITEMS
none_few = omega arith

module _ (opening : Database) (rs : List ResourceRecord) (rows : AreRows (tables opening rs)) where
  abbrev db : Database
  db = tables opening rs

  effect_fits : (stmts : List Stmt) → fit opening (effect_on db stmts).images (effect_on db stmts).reads ≡ true
  effect_fits stmts =
      let t = tables_of opening rs in
      sym (fit_alike db opening (effect_on db stmts).images (effect_on db stmts).reads t.resource t.schema) ∙ effect_by db rows stmts (effect db stmts) refl

  is_fit : (o p : Open) → Some o ≡ Some p → IsFit opening o → IsFit opening p
  is_fit o p e fits = subst (IsFit opening) (some_is o p e) fits

  opened_fits : (s : Setup) (event : Event) (t : Ticket) → ServesGiven event → (p : Open) → opened_for s db t event ≡ Some p → IsFit opening p
  opened_fits s (Given (input.Message from (message.Call xid man res c (work.At stmts)))) t served p e =
      is_fit _ p e (record { rows = effect_fits stmts; tries = none_few })
  opened_fits s (Given (input.Message from (message.Call xid man res c (work.Tcc a)))) t served p e = is_fit _ p e (record { rows = refl; tries = served.1 })
  opened_fits s (Given (input.Local n)) t served p e = is_fit _ p e (record { rows = effect_fits (or_empty (local_of s n)); tries = none_few })
  opened_fits s _ t served p e = absurd (none-some p e)

  -- after any act each open ticket fits
  pub opens_stay : (s : Setup) (event : Event) → ServesGiven event → (done : Act) (opens : List Open) → AllByRecursion (IsFit opening) opens
      → AllByRecursion (IsFit opening) (opens_after s db event done opens)
  opens_stay s event served (act.Opened xid call t) opens all = all_first (IsFit opening) opens (opened_for s db t event) all (opened_fits s event t served)
  opens_stay s event served (act.OpenedLocal k t) opens all = all_first (IsFit opening) opens (opened_for s db t event) all (opened_fits s event t served)
  opens_stay s event served (act.Resent t) opens all = all_sent (IsFit opening) opens t all
  opens_stay s event served (act.Conflicted t n) opens all = all_counted opening t n opens all
  opens_stay s event served (act.Dropped xid call t cause) opens all = all_left (IsFit opening) opens t all
  opens_stay s event served (act.DroppedLocal k t key holder) opens all = all_left (IsFit opening) opens t all
  opens_stay s event served (act.Durable (durable.Committed xid b t)) opens all = all_left (IsFit opening) opens t all
  opens_stay s event served (act.Durable (durable.Tried xid b t)) opens all = all_left (IsFit opening) opens t all
  opens_stay s event served (act.Durable (durable.LocalCommitted n t)) opens all = all_left (IsFit opening) opens t all
  opens_stay s event served (act.Down kept at) opens all = tt
  opens_stay s event served _ opens all = all
