-- What statements that write no value do has places in each record, and so a store takes it.
use Rattle.std.proofs.Common.{◌≡◌, ◌≤◌, ℕ, true, cond, List, ◌∷◌, length, Some, Result, Ok, refl, sym, subst, arith}
use Rattle.std.specs.Prelude.{IfSome}
use Rattle.seata_types.specs.declared.errors.StmtError.{StmtError}
use Rattle.seata_types.specs.declared.ids.Leg.{Leg}
use Rattle.seata_types.specs.declared.ids.Ticket.{Ticket}
use Rattle.seata_types.specs.declared.limits.TheConstants.{FIELD_ITEMS}
use Rattle.seata_types.specs.declared.statements.Action.{Action}
use Rattle.seata_types.specs.declared.statements.Stmt.{Stmt}
use Rattle.seata_types.specs.declared.statements.Work.TheVariants as work
use Rattle.local_tables.specs.Calls.{effect}
use Rattle.local_tables.specs.Rows.{Database}
use Rattle.local_tables.specs.declared.schemas.Effect.{Effect}
use Rattle.durable_records.specs.declared.resources.ResourceRecord.TheVariants as log
use Rattle.local_txn.specs.OpenTickets.{OfCall, OfLocal, Open, Owner, no_effect, open_at, opening_of}
use Rattle.local_txn.specs.Answers.{Executed, Prepares, Tickets}
use Rattle.local_txn.proofs.Tests.{ticket_itself}
use Rattle.resource_memory.specs.Changes.{fit}
use Rattle.resource_memory.proofs.EffectFits.{effects_fit}
use Rattle.resource_memory.proofs.Fits.{fit_alone}
use Rattle.record_places.specs.Laws.{HaveRecordsPlaces}
use Rattle.record_places.specs.Within.{AreTablesWithin}
use Rattle.record_places.proofs.EffectLaws.{effects_have_places}
use Rattle.record_places.proofs.RecordLaws.{records_have_places}
use Rattle.resource_store.specs.Answers.{HasPlaces}
use Rattle.at_branch.specs.Grants as at
use Rattle.tcc_branch.specs.Tries as tcc
use Rattle.local_guard.specs.Locals as locals
use Rattle.branch_tests.specs.Deletions.{AreDeletions, IsDeletion}

-- statements are counted in two bytes
pub counted : (stmts : List Stmt) → IsDeletion stmts → length stmts ≤ FIELD_ITEMS
counted stmts is = let one = is.counted in omega (arith, one)

-- branch 1 of transaction 1
abbrev branch : Leg
branch = record { xid = record { 0 = 1 }; branch = record { 0 = 1 } }

-- ---- tickets that were just opened

module _ (t : Ticket) (owner : Owner) (e : Effect) (opens : List Open) (P : Open → Type 0) (has : P (opening_of t owner e)) where
  first_has : IfSome (cond true (Some (opening_of t owner e)) (open_at opens t)) P
  first_has = has

  has_it : IfSome (open_at (opening_of t owner e ∷ opens) t) P
  has_it = subst (λ b. IfSome (cond b (Some (opening_of t owner e)) (open_at opens t)) P) (sym (ticket_itself t)) first_has

pub executed_has : (old new : Tickets) (owner : Owner) (m : Result Effect (ℕ × StmtError)) (t : Ticket) (P : Open → Type 0) → Executed old owner m t new
    → ((e : Effect) → m ≡ Ok e → P (opening_of t owner e)) → IfSome (open_at new.opens t) P
executed_has old new owner m t P x has = subst (λ (u : Tickets). IfSome (open_at u.opens t) P) (sym x.opens) (has_it t owner x.effect old.opens P (has x.effect x.means))

pub prepared_has : (old new : Tickets) (owner : Owner) (t : Ticket) (P : Open → Type 0) → Prepares old owner (Ok t) new → P (opening_of t owner no_effect) → IfSome (open_at new.opens t) P
prepared_has old new owner t P x has = subst (λ (u : Tickets). IfSome (open_at u.opens t) P) (sym x.1) (has_it t owner no_effect old.opens P has)

-- ---- what the store takes

module _ (db : Database) (within : AreTablesWithin db) where
  module _ (stmts : List Stmt) (is : IsDeletion stmts) where
    places : (e : Effect) → effect db stmts ≡ Ok e → HaveRecordsPlaces e
    places e means = records_have_places e (effects_have_places db stmts e within is.within means)

    pub may_commit : (t : Ticket) (e : Effect) → effect db stmts ≡ Ok e → at.MayCommit db branch (opening_of t (OfCall 1 1 1 (work.At stmts)) e)
    may_commit t e means =
        let place = (places e means).committed branch 1 (omega arith, omega arith) (omega arith) in
        record { of_kind = refl; rows = record { fit = effects_fit db stmts e within.rows means; fits = place.fits; small = place.small } }

    pub may_commit_local : (t : Ticket) (e : Effect) → effect db stmts ≡ Ok e → locals.MayCommit db (opening_of t (OfLocal 1) e)
    may_commit_local t e means =
        let place = (places e means).local 1 (omega arith) in
        record { fit = fit_alone db e.images e.reads (effects_fit db stmts e within.rows means); fits = place.fits; small = place.small }

    pub tries_placed : HasPlaces db stmts (log.Tried branch.xid branch.branch 1)
    tries_placed = λ e means. let place = (places e means).tried branch 1 (omega arith, omega arith) (omega arith) in record { fits = place.fits; small = place.small }

    pub confirms_placed : HasPlaces db stmts (log.Confirmed branch.xid branch.branch)
    confirms_placed = λ e means. let place = (places e means).confirmed branch (omega arith, omega arith) in record { fits = place.fits; small = place.small }

    pub cancels_placed : HasPlaces db stmts (log.Cancelled branch.xid branch.branch)
    cancels_placed = λ e means. let place = (places e means).cancelled branch (omega arith, omega arith) in record { fits = place.fits; small = place.small }

    pub outside_placed : HasPlaces db stmts (log.Outside 1)
    outside_placed = λ e means. let place = (places e means).outside 1 (omega arith) in record { fits = place.fits; small = place.small }

  pub may_try : (action : Action) → AreDeletions action → (t : Ticket) → tcc.MayTry db branch (opening_of t (OfCall 1 1 1 (work.Tcc action)) no_effect)
  may_try action are t = record { of_kind = refl; statements = counted action.tries are.tries; places = tries_placed action.tries are.tries }
