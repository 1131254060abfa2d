-- Open tickets that have places: what holds of each of them holds of those that are left, counted, sent again or opened.
use Rattle.std.proofs.Common.{◌≡◌, ◌∙◌, ℕ, Bool, true, false, cond, not, List, [], ◌∷◌, map, find, Option, Some, None, refl, sym, subst}
use Rattle.std.specs.List.{AllByRecursion}
use Rattle.std.proofs.lemmas.Option.{none-some}
use Rattle.seata_types.specs.declared.ids.Ticket.{Ticket}
use Rattle.seata_types.specs.declared.statements.Work.TheVariants as work
use Rattle.durable_records.specs.Branches.{same_ticket}
use Rattle.local_tables.specs.Rows.{Database}
use Rattle.local_txn.specs.OpenTickets.{Open, Owner, OfCall, OfLocal, counting, last_of, open_at, sent_again, with_first, without}
use Rattle.local_txn.specs.Answers.{counted, open_of, raised}
use Rattle.resource_memory.proofs.Fits.{fit_alike}
use Rattle.record_places.specs.Laws.{HasKeysOf}
use Rattle.resource_rules.specs.Answers.{opens_by}
use Rattle.resource_rules.specs.Ready.{AreTicketsWithin, HasRows, IsOwnedWithin, IsTicketWithin, effect_in}
use Rattle.resource_rules.specs.declared.answers.Change.{Change}
use Rattle.resource_rules.specs.declared.answers.Change.TheVariants as change

-- a ticket that is opened has places
abbrev pub OpensWithin : Database → Change → Type 0
OpensWithin db (change.Opens txn) = IsTicketWithin db (open_of txn)
OpensWithin db _ = Unit {0}

some_is : {A : Type 0} (a b : A) → Some a ≡ Some b → a ≡ b
some_is a b e = cc

-- ---- lists

pub found_with : (P : Open → Type 0) (p : Open → Bool) (xs : List Open) (o : Open) → AllByRecursion P xs → find p xs ≡ Some o → P o
found_with P p [] o all e = absurd (none-some o e)
found_with P p (x ∷ xs) o all e = by (found_with P p xs o all.1) (p x) e
  where
    by : (find p xs ≡ Some o → P o) → (b : Bool) → cond b (Some x) (find p xs) ≡ Some o → P o
    by later true f = subst P (some_is x o f) all.0
    by later false f = later f

-- what holds of each open ticket holds of one that is found
pub found_open : (P : Open → Type 0) (opens : List Open) (t : Ticket) (o : Open) → AllByRecursion P opens → open_at opens t ≡ Some o → P o
found_open P opens t o all e = found_with P _ opens o all e

-- of the last one
pub last_within : (P : Open → Type 0) (opens : List Open) (o : Open) → AllByRecursion P opens → last_of opens ≡ Some o → P o
last_within P [] o all e = absurd (none-some o e)
last_within P (x ∷ []) o all e = subst P (some_is x o e) all.0
last_within P (x ∷ y ∷ ys) o all e = last_within P (y ∷ ys) o all.1 e

-- and of those that are left
pub all_left : (P : Open → Type 0) (opens : List Open) (t : Ticket) → AllByRecursion P opens → AllByRecursion P (without opens t)
all_left P [] t all = tt
all_left P (o ∷ os) t all = by (all_left P os t all.1) (not (same_ticket o.ticket t))
  where
    by : AllByRecursion P (without os t) → (b : Bool) → AllByRecursion P (cond b (o ∷ without os t) (without os t))
    by rest true = (all.0, rest)
    by rest false = rest

all_sent : (P : Open → Type 0) (opens : List Open) (t : Ticket) → AllByRecursion P opens → AllByRecursion P (sent_again t opens)
all_sent P opens t all = by (open_at opens t) refl
  where
    by : (p : Option Open) → open_at opens t ≡ p → AllByRecursion P (with_first p (without opens t))
    by None e = all_left P opens t all
    by (Some o) e = (found_open P opens t o all e, all_left P opens t all)

-- ---- counts of conflicts

recounted : (db : Database) (o : Open) (n : ℕ) (w : Owner) → IsOwnedWithin db o w → IsOwnedWithin db (record o { conflicts = n }) w
recounted db o n (OfCall m x c (work.At stmts)) is = (is.0, record { fits = is.1.fits; places = is.1.places; keys = is.1.keys })
recounted db o n (OfCall m x c (work.Tcc action)) is = is
recounted db o n (OfLocal k) is = (is.0, record { fits = is.1.fits; places = is.1.places; keys = is.1.keys })

all_counted : (db : Database) (t : Ticket) (n : ℕ) (opens : List Open) → AreTicketsWithin db opens → AreTicketsWithin db (map (counting t n) opens)
all_counted db t n [] all = tt
all_counted db t n (o ∷ os) all = (by (same_ticket o.ticket t), all_counted db t n os all.1)
  where
    by : (b : Bool) → IsTicketWithin db (cond b (record o { conflicts = n }) o)
    by true = record { named = all.0.named; owned = recounted db o n o.owner all.0.owned }
    by false = all.0

-- ---- on tables with the same number and schema

rows_alike : (one other : Database) → one.resource ≡ other.resource → one.schema ≡ other.schema → (o : Open) → HasRows one o → HasRows other o
rows_alike one other number schema o is = record {
  fits = sym (fit_alike one other o.images o.reads number schema) ∙ is.fits;
  places = is.places;
  keys = subst (λ (n : ℕ). HasKeysOf n (effect_in o)) number is.keys;
}

owned_alike : (one other : Database) → one.resource ≡ other.resource → one.schema ≡ other.schema → (o : Open) (w : Owner) → IsOwnedWithin one o w → IsOwnedWithin other o w
owned_alike one other number schema o (OfCall m x c (work.At stmts)) is = (is.0, rows_alike one other number schema o is.1)
owned_alike one other number schema o (OfCall m x c (work.Tcc action)) is = is
owned_alike one other number schema o (OfLocal k) is = (is.0, rows_alike one other number schema o is.1)

pub tickets_alike : (one other : Database) → one.resource ≡ other.resource → one.schema ≡ other.schema → (opens : List Open) → AreTicketsWithin one opens → AreTicketsWithin other opens
tickets_alike one other number schema [] all = tt
tickets_alike one other number schema (o ∷ os) all =
    (record { named = all.0.named; owned = owned_alike one other number schema o o.owner all.0.owned }, tickets_alike one other number schema os all.1)

-- ---- after a change

pub tickets_by : (db : Database) (change : Change) (opens : List Open) → AreTicketsWithin db opens → OpensWithin db change → AreTicketsWithin db (opens_by change opens)
tickets_by db change.Stays opens all next = all
tickets_by db (change.Opens txn) opens all next = (next, all)
tickets_by db (change.Sends t) opens all next = all_sent (IsTicketWithin db) opens t all
tickets_by db (change.Counts t) opens all next = counted_by (open_at opens t)
  where
    counted_by : (p : Option Open) → AreTicketsWithin db (counted p t opens)
    counted_by None = all
    counted_by (Some o) = all_counted db t (raised o) opens all
tickets_by db (change.Closes t) opens all next = all_left (IsTicketWithin db) opens t all
