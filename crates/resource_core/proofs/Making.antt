-- Answers by the rules whose record is made and whose change is followed: they are what a resource promises.
use Rattle.std.proofs.Common.{◌≡◌, ◌∙◌, ◌+◌, ◌-◌, ◌<◌, ◌≤◌, ◌^◌, ◌∷◌, ℕ, false, Option, Some, None, is_some, option_map, Result, Ok, Err, inl, refl, sym, ap, subst, arith}
use Rattle.std.specs.Prelude.{IfSome}
use Rattle.disk_model.specs.Disk.{DiskState}
use Rattle.seata_types.specs.declared.acts.Act.TheVariants as act
use Rattle.seata_types.specs.declared.acts.Durable.{Durable}
use Rattle.seata_types.specs.declared.errors.NodeError.TheVariants as error
use Rattle.seata_types.specs.declared.errors.StoreError.{StoreError}
use Rattle.seata_types.specs.declared.errors.StoreError.TheVariants as store_error
use Rattle.seata_types.specs.declared.messages.Input.{Input}
use Rattle.seata_types.specs.declared.messages.Input.TheVariants as input
use Rattle.seata_types.specs.declared.messages.Step.{Step}
use Rattle.durable_records.specs.declared.resources.ResourceRecord.{ResourceRecord}
use Rattle.local_txn.specs.OpenTickets.{Open, last_of}
use Rattle.local_txn.specs.Answers.{Tickets, ticket_of}
use Rattle.history_rules.specs.Own.{asked_act, still}
use Rattle.history_rules.specs.ResourceMemory.{Memory, resource_asked}
use Rattle.node_steps.specs.Promises.{own_step}
use Rattle.resource_memory.specs.Known.{Known}
use Rattle.resource_store.specs.declared.store.Store.{Store}
use Rattle.resource_store.specs.Answers.{Does, Leaves}
use Rattle.resource_store.specs.Keeping.{known, setting_of, is_down, IsTaken, KeepsRecords}
use Rattle.resource_store.specs.Meaning.{Setting}
use Rattle.resource_store.proofs.StoreLaws.{changes_nothing}
use Rattle.resource_rules.specs.Answers.{answer, IsDurable, IsOfRules, IsTakenBy, OpensNext, Places, Shows, left_with, opened_by}
use Rattle.resource_rules.specs.Answers as rules
use Rattle.resource_rules.specs.Laws.{IsOpening, MayFollow, tickets_after}
use Rattle.resource_rules.specs.declared.answers.Answer.{Answer}
use Rattle.resource_rules.specs.declared.answers.Change.{Change}
use Rattle.resource_rules.specs.declared.answers.Change.TheVariants as change
use Rattle.resource_rules.specs.declared.setups.Setup.{Setup as TheSetup}
use Rattle.resource_rules.proofs.TakenIn.{takes_in}
use Rattle.resource_rules.proofs.TurnAnswers.{nothing as idle}
use Rattle.resource_core.specs.Holding.{Holds, setup_of}
use Rattle.resource_core.specs.Ready.{AreTicketsWithin, IsReady}
use Rattle.resource_core.specs.Stepping.{Answers, Tells, asked_record, made_as, node_error}
use Rattle.resource_core.specs.declared.branches.Branches.{Branches}

-- ---- what the calls ask

-- what is known, by another name
pub by_known : (is : TheSetup) (k j : Known) (ts : Tickets) (given : Input) (a : Answer) → k ≡ j → rules.Answers is k ts given a → rules.Answers is j ts given a
by_known is k j ts given a same are = subst (λ (z : Known). rules.Answers is z ts given a) same are

-- a record that a resource takes its store takes, where it has a place
pub takes : {D : Type 0} (s : Store D) (is : TheSetup) (ts : Tickets) (given : Input) → Places is (known s) ts given → (asked : Option ResourceRecord) → IfSome asked (IsTakenBy is (known s) ts given) → IfSome asked (λ r. IsTaken r s)
takes s is ts given places (Some r) taken = let place = taken.placed places in record { allowed = taken.allowed; fits = place.fits; small = place.small }
takes s is ts given places None taken = tt

-- the change of an answer may be followed
pub may_follow : (ts : Tickets) (asked : Option ResourceRecord) (c : Change) → ts.opened < 2 ^ 32 - 1 → OpensNext ts asked c → MayFollow ts c
may_follow ts asked (change.Opens txn) room next = (room, next.0)
may_follow ts asked change.Stays room next = tt
may_follow ts asked (change.Sends t) room next = tt
may_follow ts asked (change.Counts t) room next = tt
may_follow ts asked (change.Closes t) room next = tt

-- one that opens a ticket asks for no record
asks_none : (ts : Tickets) (asked : Option ResourceRecord) (c : Change) → OpensNext ts asked c → IsOpening c → asked ≡ None
asks_none ts asked (change.Opens txn) next opening = next.1
asks_none ts asked change.Stays next opening = absurd opening
asks_none ts asked (change.Sends t) next opening = absurd opening
asks_none ts asked (change.Counts t) next opening = absurd opening
asks_none ts asked (change.Closes t) next opening = absurd opening

-- no more than one is opened
one_more : (c : Change) (n : ℕ) → opened_by c n ≤ n + 1
one_more change.Stays n = omega arith
one_more (change.Opens txn) n = omega arith
one_more (change.Sends t) n = omega arith
one_more (change.Counts t) n = omega arith
one_more (change.Closes t) n = omega arith

-- ---- memory was wanting

-- memory was refused for a record, if there is one
does_nothing : {D : Type 0} (state : D → DiskState) (s : Store D) (made : Option ResourceRecord) → is_down s ≡ false → Does {A = Unit {0}} state made (Err store_error.NoMemory) s s
does_nothing state s None up = (refl, refl)
does_nothing state s (Some r) up = changes_nothing state s r up

pub nothing : {D : Type 0} (state : D → DiskState) (old : Branches D) (given : Input) → is_down old.store ≡ false → Answers state old old given (Err error.NoMemory)
nothing state old given up = record {
  steps = λ m h. record { tells = tt; does = does_nothing state old.store (asked_record (setup_of old) m given) up };
  leaves = record { down = up; setting = refl; changes = inl refl };
  tickets = refl;
  opened = omega arith;
  within = λ ready served. ready.within.tickets;
  frames = λ ready served. tt;
  same = refl;
}

-- ---- an answer by the rules

module _ {D : Type 0} (state : D → DiskState) where
  -- what a resource keeps of a memory shows it
  shows : (b : Branches D) (m : Memory) → b.setup.number ≡ (setting_of b.store).resource → Holds state b m → Shows b.setup (known b.store) b.txns (setup_of b) m
  shows b m numbered h = record {
    setup = record { number = sym numbered; tries = refl; actions = refl; locals = refl };
    allowed = h.keeps.list.made.allowed;
    knows = h.keeps.knows;
    tickets = h.tickets;
  }

  -- it is up, and no ticket changed
  same_store : (old : Branches D) (given : Input) (s : Store D) → s ≡ old.store → is_down old.store ≡ false → Answers state old (record { setup = old.setup; store = s; txns = old.txns }) given (Err error.NoMemory)
  same_store old given s same up = subst (λ (x : Store D). Answers state old (record { setup = old.setup; store = x; txns = old.txns }) given (Err error.NoMemory)) (sym same) (nothing state old given up)

  module _ (given : Input) (a : Answer) (old : Branches D) (new : Store D) (ready : IsReady old) (are : rules.Answers old.setup (known old.store) old.txns given a) where
    -- with these tickets
    abbrev after : Tickets → Branches D
    after ts = record { setup = old.setup; store = new; txns = ts }

    module _ (m : Memory) (h : Holds state old m) where
      is : IsOfRules (setup_of old) m given a
      is = are.rules (setup_of old) m (shows old m ready.numbered h)

      asks : asked_record (setup_of old) m given ≡ a.asked
      asks = sym (is.asked ∙ ap (λ (s : Step). resource_asked (setup_of old) m (own_step given 0 s)) is.step)

      kept : (asked : Option ResourceRecord) → Does {A = Unit {0}} state asked (Ok tt) old.store new → KeepsRecords state (setting_of new) (left_with asked m.left).records new
      kept (Some r) changes = subst (λ (t : Setting). KeepsRecords state t (r ∷ m.left.records) new) (sym changes.setting) (changes.makes m.left.records h.keeps).keeps
      kept None same = subst (λ (s : Store D). KeepsRecords state (setting_of s) m.left.records s) (sym same) h.keeps

      held : (ts : Tickets) → ts ≡ tickets_after a.change old.txns → Does {A = Unit {0}} state a.asked (Ok tt) old.store new → Holds state (after ts) (rules.after a m)
      held ts followed does = record {
        keeps = kept a.asked does;
        tickets = followed ∙ (takes_in old.setup (known old.store) old.txns given a are (setup_of old) m (shows old m ready.numbered h)).tickets;
      }

    -- ---- the record is made, and the change followed

    pub answered : (ts : Tickets) → ts ≡ tickets_after a.change old.txns → Does {A = Unit {0}} state a.asked (Ok tt) old.store new → Leaves {A = Unit {0}} state (Ok tt) old.store new
        → Answers state old (after ts) given (Ok a.step)
    answered ts followed does leaves = record {
      steps = λ m h. record {
        tells = record {
          is = (is m h).step;
          holds = λ now. subst (λ (k : Memory). Holds state (after ts) k) (sym ((is m h).left now)) (held m h ts followed does);
        };
        does = subst (λ (o : Option ResourceRecord). Does {A = Unit {0}} state o (Ok tt) old.store new) (sym (asks m h)) does;
      };
      leaves = leaves;
      tickets = tt;
      opened = subst (λ (us : Tickets). us.opened ≤ old.txns.opened + 1) (sym followed) (one_more a.change old.txns.opened);
      within = λ now served. subst (λ (us : Tickets). AreTicketsWithin (known old.store).tables us.opens) (sym followed) (are.within now.within served).tickets;
      frames = λ now served. (are.within now.within served).frames;
      same = refl;
    }

    -- ---- no ticket could be opened

    pub unopened : IsOpening a.change → Does {A = Unit {0}} state a.asked (Ok tt) old.store new → Answers state old (after old.txns) given (Err error.NoMemory)
    unopened opening does =
        same_store old given new (subst (λ (o : Option ResourceRecord). Does {A = Unit {0}} state o (Ok tt) old.store new) (asks_none old.txns a.asked a.change are.opens opening) does) ready.up

    -- ---- the record isn't made: the act in flight is the answer's

    abbrev Fails : StoreError → Option Durable → Type 0
    Fails e at = (made_as (Err (node_error e at)) ≡ Err e) × ((m : Memory) → Holds state old m → Tells state old (after old.txns) given (Err (node_error e at)) m)

    at_some : (d : Durable) → a.step.act ≡ act.Durable d → (e : StoreError) → Fails e (Some d)
    at_some d is_d store_error.Failed = (refl, λ m h. ap (λ (s : Step). s.act) (sym (is m h).step) ∙ is_d)
    at_some d is_d (store_error.Full full) = (refl, λ m h. tt)
    at_some d is_d store_error.NoMemory = (refl, λ m h. tt)

    fails : (e : StoreError) (at : Option Durable) → at ≡ asked_act a.step.act → (asked : Option ResourceRecord) → a.asked ≡ asked → Does {A = Unit {0}} state asked (Err e) old.store new → Fails e at
    fails e at is_at (Some r) is_r does =
        let d : IsDurable a.step.act = subst (λ (o : Option ResourceRecord). IfSome o (λ r. IsDurable a.step.act)) is_r are.at in
        subst (λ (t : Option Durable). Fails e t) (sym (is_at ∙ ap asked_act d.1)) (at_some d.0 d.1 e)
    fails e at is_at None is_none does = subst (λ (f : StoreError). Fails f at) (sym does.0) (refl, λ m h. tt)

    pub unmade : (e : StoreError) (at : Option Durable) → at ≡ asked_act a.step.act → Does {A = Unit {0}} state a.asked (Err e) old.store new → Leaves {A = Unit {0}} state (Err e) old.store new
        → Answers state old (after old.txns) given (Err (node_error e at))
    unmade e at is_at does leaves =
        let f : Fails e at = fails e at is_at a.asked refl does in
        record {
          steps = λ m h. record {
            tells = f.1 m h;
            does = subst (λ (r : Result (Unit {0}) StoreError). Does {A = Unit {0}} state (asked_record (setup_of old) m given) r old.store new) (sym f.0)
                (subst (λ (o : Option ResourceRecord). Does {A = Unit {0}} state o (Err e) old.store new) (sym (asks m h)) does);
          };
          leaves = subst (λ (r : Result (Unit {0}) StoreError). Leaves state r old.store new) (sym f.0) leaves;
          tickets = refl;
          opened = omega arith;
          within = λ now served. now.within.tickets;
          frames = λ now served. tt;
          same = refl;
        }

-- ---- a turn with no ticket open

pub none_open : (last : Option Open) → is_some (option_map ticket_of last) ≡ false → last ≡ None
none_open None e = refl
none_open (Some o) e = absurd cc

pub rests : {D : Type 0} (state : D → DiskState) (old : Branches D) → IsReady old → last_of old.txns.opens ≡ None → (s : Step) → s ≡ still act.Nothing → Answers state old old input.Turn (Ok s)
rests state old ready none s is =
    let a : Answer = answer None s in
    answered state input.Turn a old old.store ready (idle old.setup (known old.store) old.txns none a (ap (answer None) is)) old.txns refl refl
    (record { down = ready.up; setting = refl; changes = inl refl })
