-- What a conflict does is the rules'.
use Rattle.std.proofs.Common.{◌≡◌, ◌∙◌, ℕ, ◌+◌, ◌^◌, ◌<◌, Bool, true, false, if◌then◌else◌, List, Option, Some, None, refl, sym, ap, arith}
use Rattle.std.specs.Prelude.{nat_le}
use Rattle.std.proofs.lemmas.Bool.Decides.{nat_tests}
use Rattle.seata_types.specs.declared.acts.Act.{Act}
use Rattle.seata_types.specs.declared.acts.Act.TheVariants as act
use Rattle.seata_types.specs.declared.errors.Why.{Why}
use Rattle.seata_types.specs.declared.errors.Why.TheVariants as why
use Rattle.seata_types.specs.declared.ids.Ticket.{Ticket}
use Rattle.seata_types.specs.declared.ids.Xid.{Xid}
use Rattle.seata_types.specs.declared.messages.Registered.TheVariants as registered
use Rattle.seata_types.specs.declared.rows.RowKey.{RowKey}
use Rattle.local_txn.specs.OpenTickets.{Owner, OfCall, OfLocal, Open, open_at}
use Rattle.local_txn.specs.Answers.{raised}
use Rattle.history_rules.specs.Own.{still}
use Rattle.history_rules.specs.ResourceMemory.{Memory, Setup, next_ticket}
use Rattle.history_rules.specs.ResourceRules as rules
use Rattle.history_rules.specs.ResourceRules.{resource_answer}
use Rattle.resource_rules.specs.Grants.{cause_of}
use Rattle.resource_rules.specs.Owned.{call_by, of_call}
use Rattle.at_branch.specs.Conflicts.{Conflict, ConflictsAs, Counts, GivesUp, Ignores, conflict_by, conflict_of, refusing}
use Rattle.at_branch.specs.declared.answers.Conflicted.{Conflicted}
use Rattle.at_branch.specs.declared.answers.Conflicted.TheVariants as conflicted

-- there is nothing, where there can't be something
pub none_found : {A : Type 0} (o : Option A) → ((a : A) → o ≡ Some a → ⊥) → o ≡ None
none_found None n = refl
none_found (Some a) n = absurd (n a refl)

-- why the rules drop a ticket at a conflict, if they do
abbrev cause_in : (tries : ℕ) → Xid → (rolling : Bool) → (o : Open) → (manager x call : ℕ) → Option Why
cause_in tries holder rolling o manager x call = cause_of (rules.conflict_answer tries o manager x call holder rolling).act

-- their act where the holder isn't rolled back, by whether this is the last try
abbrev by_last : Bool → (o : Open) (manager x call : ℕ) → Act
by_last last o manager x call = (if last then rules.drops o manager x call why.Tries else still (act.Conflicted o.ticket (o.conflicts + 1))).act

-- the count of a ticket that waits on is exact
exact_by : (tries : ℕ) (o : Open) (manager x call : ℕ) (b : Bool) → tries < 2 ^ 32 → nat_le tries (o.conflicts + 1) ≡ b
    → cause_of (by_last b o manager x call) ≡ None → o.conflicts + 1 < 2 ^ 32
exact_by tries o manager x call true small is e = absurd cc
exact_by tries o manager x call false small is e = let left : o.conflicts + 1 < tries = grind (arith, nat_tests) in omega (arith, small, left)

exact : (tries : ℕ) (holder : Xid) (rolling : Bool) (o : Open) (manager x call : ℕ) → tries < 2 ^ 32 → cause_in tries holder rolling o manager x call ≡ None → raised o ≡ o.conflicts + 1
exact tries holder true o manager x call small e = absurd cc
exact tries holder false o manager x call small e =
    let fits = exact_by tries o manager x call (nat_le tries (o.conflicts + 1)) small refl e in omega (arith, fits)

-- given up where there is a cause, else counted
abbrev met_with : Open → Option Why → Conflict
met_with o (Some cause) = GivesUp o cause
met_with o None = Counts (o.conflicts + 1)

module _ (s : Setup) (m : Memory) (holder : Xid) where
  abbrev act_of_rules : Open → (manager x call : ℕ) → Bool → Conflict
  act_of_rules o manager x call rolling = conflict_by (Some o) (rules.conflict_answer s.tries o manager x call holder rolling).act

  met_is : (o : Open) (manager x call n y c : ℕ) (rolling : Bool) → met_with o (cause_in s.tries holder rolling o n y c) ≡ act_of_rules o manager x call rolling
  met_is o manager x call n y c true = refl
  met_is o manager x call n y c false = by (nat_le s.tries (o.conflicts + 1))
    where
      by : (last : Bool) → met_with o (cause_of (by_last last o n y c)) ≡ conflict_by (Some o) (by_last last o manager x call)
      by true = refl
      by false = refl

  -- of the open ticket of a call, and where there is none
  abbrev by_rules : Option Open → RowKey → Bool → Conflict
  by_rules found key rolling = conflict_by found (rules.on_registered s m.left.records m.opens (next_ticket m) found (registered.Conflict key holder rolling)).act

  owned_met : (o : Open) (w : Owner) → call_by o w ≡ Some o → (n y c : ℕ) (key : RowKey) (rolling : Bool) → met_with o (cause_in s.tries holder rolling o n y c)
      ≡ conflict_by (Some o) (rules.ticket_answer s m.left.records m.opens (next_ticket m) o w (registered.Conflict key holder rolling)).act
  owned_met o (OfCall manager x call w) is n y c key rolling = met_is o manager x call n y c rolling
  owned_met o (OfLocal k) is n y c key rolling = absurd cc

  owned_ignored : (o : Open) (w : Owner) → call_by o w ≡ None → (key : RowKey) (rolling : Bool) → Ignores
      ≡ conflict_by (Some o) (rules.ticket_answer s m.left.records m.opens (next_ticket m) o w (registered.Conflict key holder rolling)).act
  owned_ignored o (OfCall manager x call w) is key rolling = absurd cc
  owned_ignored o (OfLocal k) is key rolling = refl

  ignored : (found : Option Open) → of_call found ≡ None → (key : RowKey) (rolling : Bool) → Ignores ≡ by_rules found key rolling
  ignored None is key rolling = refl
  ignored (Some o) is key rolling = owned_ignored o o.owner is key rolling

  at_ticket : (opens : List Open) (t : Ticket) (found : Option Open) (xid : Xid) (key : RowKey) (rolling : Bool) → m.opens ≡ opens → open_at opens t ≡ found
      → by_rules found key rolling ≡ conflict_by (open_at opens t) (resource_answer s m (refusing t xid key holder rolling)).act
  at_ticket opens t found xid key rolling same is =
      sym (ap (λ (f : Option Open). by_rules f key rolling) is)
      ∙ ap (λ (os : List Open). conflict_by (open_at opens t) (rules.on_registered s m.left.records m.opens (next_ticket m) (open_at os t) (registered.Conflict key holder rolling)).act) (sym same)

-- ---- each answer

module _ (tries : ℕ) (holder : Xid) (rolling : Bool) (opens : List Open) (t : Ticket) where
  pub not_open : of_call (open_at opens t) ≡ None → ConflictsAs tries holder rolling opens t conflicted.NotOpen
  not_open none = λ s m xid key of same.
      ignored s m holder (open_at opens t) none key rolling ∙ at_ticket s m holder opens t (open_at opens t) xid key rolling same refl

  module _ (o : Open) (n y c : ℕ) (here : open_at opens t ≡ Some o) (called : call_by o o.owner ≡ Some o) where
    met : (result : Conflicted) (cause : Option Why) → cause_in tries holder rolling o n y c ≡ cause → conflict_of result ≡ met_with o cause → ConflictsAs tries holder rolling opens t result
    met result cause is tells = λ s m xid key of same.
        tells ∙ ap (met_with o) (sym is) ∙ ap (λ (k : ℕ). met_with o (cause_in k holder rolling o n y c)) (sym of)
        ∙ owned_met s m holder o o.owner called n y c key rolling ∙ at_ticket s m holder opens t (Some o) xid key rolling same here

    pub gave_up : (result : Conflicted) (cause : Why) → cause_in tries holder rolling o n y c ≡ Some cause → conflict_of result ≡ GivesUp o cause → ConflictsAs tries holder rolling opens t result
    gave_up result cause is tells = met result (Some cause) is tells

    pub waits : (result : Conflicted) → tries < 2 ^ 32 → cause_in tries holder rolling o n y c ≡ None → conflict_of result ≡ Counts (raised o) → ConflictsAs tries holder rolling opens t result
    waits result small is tells = met result None is (tells ∙ ap Counts (exact tries holder rolling o n y c small is))

-- the open ticket of a call
pub called_at : (o : Open) (found : Option Open) → Some o ≡ of_call found → (found ≡ Some o) × (call_by o o.owner ≡ Some o)
called_at o None e = absurd cc
called_at o (Some p) e = by o p p.owner refl e
  where
    by : (q r : Open) (w : Owner) → r.owner ≡ w → Some q ≡ call_by r w → (Some r ≡ Some q) × (call_by q q.owner ≡ Some q)
    by q r (OfCall manager x call w) is e =
        let same : r ≡ q = cc in
        (ap Some same, ap (λ (v : Owner). call_by q v) (ap (λ (z : Open). z.owner) (sym same) ∙ is))
    by q r (OfLocal k) is e = absurd cc
