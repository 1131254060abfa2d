-- The tickets of a resource: each is given once, and rows of two open tickets are different.
use Rattle.std.proofs.Common.{◌≡◌, inl, inr, ◌+◌, ◌≤◌, not, ℕ, Bool, true, false, if◌then◌else◌, List, [], ◌∷◌, map, Option, Some, None, refl, ap, sym, subst, ◌∙◌, arith}
use Rattle.seata_types.specs.declared.acts.Act.{Act}
use Rattle.seata_types.specs.declared.acts.Act.TheVariants as act
use Rattle.seata_types.specs.declared.acts.Durable.{Durable}
use Rattle.seata_types.specs.declared.acts.Durable.TheVariants as durable
use Rattle.seata_types.specs.declared.ids.Ticket.{Ticket}
use Rattle.seata_types.specs.declared.messages.Input.TheVariants as input
use Rattle.seata_types.specs.declared.messages.Message.TheVariants as message
use Rattle.seata_types.specs.declared.messages.Outgoing.{Outgoing}
use Rattle.seata_types.specs.declared.messages.Step.{Step}
use Rattle.seata_types.specs.declared.rows.RowKey.{RowKey}
use Rattle.seata_types.specs.declared.statements.Work.TheVariants as work
use Rattle.local_tables.specs.Rows.{Database}
use Rattle.durable_records.specs.declared.resources.ResourceRecord.{ResourceRecord}
use Rattle.durable_records.specs.declared.resources.ResourceRecord.TheVariants as log
use Rattle.durable_records.specs.Branches.{same_ticket}
use Rattle.durable_records.specs.UndoRecords.{boots}
use Rattle.history_rules.specs.Own.{Event, Given, Stopped, Crashed, Restarted, Own, added, kept_records, still}
use Rattle.history_rules.specs.Devices.{is_down, fails, kept_act, written, restarted}
use Rattle.history_rules.specs.ResourceMemory.{Setup, Open, Memory, next_ticket, open_at, without, with_first, counting, has_row, opened_for, resource_record, memory_after, memory}
use Rattle.history_rules.specs.ResourceRules.{resource_answer}
use Rattle.history_rules.specs.Nodes.{Role, Resource, Ran, happens, up_answer, down_answer, left_at}
use Rattle.history_law.specs.Points.{In}
use Rattle.history_law.specs.Tickets.{WasGiven, Tickets}
use Rattle.history_law.proofs.Tests.{none_some, found_in, of_filter}
use Rattle.history_law.proofs.ResourceFits.{tables_now, IsFree, ActFits}
use Rattle.history_law.proofs.ResourceAnswers.{resource_fits}

-- ---- boots only rise

boots_more : (r : ResourceRecord) (rs : List ResourceRecord) → boots rs ≤ boots (r ∷ rs)
boots_more (log.Boot number) rs = omega arith
boots_more _ rs = omega arith

pub boots_added : (r : Option ResourceRecord) (rs : List ResourceRecord) → boots rs ≤ boots (added r rs)
boots_added None rs = omega arith
boots_added (Some r) rs = boots_more r rs

-- a memory comes after another
pub record Later (m n : Memory) : Type 0 where
  pub boots_rise : boots m.left.records ≤ boots n.left.records
  pub opened_rises : boots m.left.records ≡ boots n.left.records → m.opened ≤ n.opened

pub given_later : (m n : Memory) (t : Ticket) → Later m n → WasGiven m t → WasGiven n t
given_later m n t l p =
    let a = l.boots_rise in let b = l.opened_rises in let c = p.boot in let d = p.seq in
    record { boot = omega arith; seq = λ e. omega arith }

pub next_not_given : (m : Memory) (t : Ticket) → WasGiven m t → t ≡ next_ticket m → ⊥
next_not_given m t p e =
    let b : t.boot ≡ boots m.left.records = ap (λ q. q.boot) e in
    let q : t.seq ≡ m.opened + 1 = ap (λ q. q.seq) e in
    let s = p.seq b in
    omega arith

-- ---- open tickets

module _ (m n : Memory) (l : Later m n) (t : Tickets m) where
  -- no more tickets are open
  fewer : ((o : Open) → In o n.opens → In o m.opens) → Tickets n
  fewer sub = record {
    given = λ o i. given_later m n o.ticket l (t.given o (sub o i));
    distinct = λ o p i j e. t.distinct o p (sub o i) (sub p j) e;
    disjoint = λ o p i j r ho hp. t.disjoint o p (sub o i) (sub p j) r ho hp;
  }

pub in_without : (opens : List Open) (t : Ticket) (o : Open) → In o (without opens t) → In o opens
in_without opens t o i = (of_filter (λ p. not (same_ticket p.ticket t)) opens o i).0

pub in_resent : (opens : List Open) (t : Ticket) (f : Option Open) → open_at opens t ≡ f → (o : Open) → In o (with_first f (without opens t)) → In o opens
in_resent opens t None e o i = in_without opens t o i
in_resent opens t (Some p) e o (inl is) = subst (λ q. In q opens) (sym is) (found_in (λ q. same_ticket q.ticket t) opens p e).0
in_resent opens t (Some p) e o (inr i) = in_without opens t o i

-- a count changes neither ticket nor rows
module _ (t : Ticket) (k : ℕ) where
  pub counting_ticket : (o : Open) → (counting t k o).ticket ≡ o.ticket
  counting_ticket o = by (same_ticket o.ticket t)
    where
      by : (b : Bool) → (if b then record o { conflicts = k } else o).ticket ≡ o.ticket
      by true = refl
      by false = refl

  counting_rows : (o : Open) (r : RowKey) → has_row r (counting t k o) ≡ has_row r o
  counting_rows o r = by (same_ticket o.ticket t)
    where
      by : (b : Bool) → has_row r (if b then record o { conflicts = k } else o) ≡ has_row r o
      by true = refl
      by false = refl

  pub in_counting : (opens : List Open) (o : Open) → In o (map (counting t k) opens) → (p : Open) × (In p opens) × (o ≡ counting t k p)
  in_counting [] o i = absurd i
  in_counting (p ∷ ps) o (inl is) = (p, inl refl, is)
  in_counting (p ∷ ps) o (inr i) = let f = in_counting ps o i in (f.0, inr f.1, f.2)

  counted : (m : Memory) → Tickets m → Tickets (record m { opens = map (counting t k) m.opens })
  counted m ts = record {
    given = λ o i.
        let f = in_counting m.opens o i in
        let n : Memory = record m { opens = map (counting t k) m.opens } in
        let l : Later m n = record { boots_rise = omega arith; opened_rises = λ e. omega arith } in
        subst (λ q. WasGiven n q) (sym (ap (λ q. q.ticket) f.2 ∙ counting_ticket f.0)) (given_later m n f.0.ticket l (ts.given f.0 f.1));
    distinct = λ o p i j e.
        let f = in_counting m.opens o i in let g = in_counting m.opens p j in
        let same : f.0 ≡ g.0 = ts.distinct f.0 g.0 f.1 g.1 (sym (ap (λ q. q.ticket) f.2 ∙ counting_ticket f.0) ∙ e ∙ ap (λ q. q.ticket) g.2 ∙ counting_ticket g.0) in
        f.2 ∙ ap (counting t k) same ∙ sym g.2;
    disjoint = λ o p i j r ho hp.
        let f = in_counting m.opens o i in let g = in_counting m.opens p j in
        let h = ts.disjoint f.0 g.0 f.1 g.1 r (sym (ap (λ q. has_row r q) f.2 ∙ counting_rows f.0 r) ∙ ho) (sym (ap (λ q. has_row r q) g.2 ∙ counting_rows g.0 r) ∙ hp) in
        (ap (λ q. q.ticket) f.2 ∙ counting_ticket f.0) ∙ h ∙ sym (ap (λ q. q.ticket) g.2 ∙ counting_ticket g.0);
  }

-- one more ticket, the next one, whose rows no open ticket has
opened_ticket : (m : Memory) (n : Open) → Tickets m → n.ticket ≡ next_ticket m → IsFree m.opens (Some n) → Tickets (record m { opens = n ∷ m.opens; opened = m.opened + 1 })
opened_ticket m n ts next free =
    let k : Memory = record m { opens = n ∷ m.opens; opened = m.opened + 1 } in
    let l : Later m k = record { boots_rise = omega arith; opened_rises = λ e. omega arith } in
    record { given = λ o i. given l o i; distinct = λ o p i j e. distinct o p i j e; disjoint = λ o p i j r ho hp. disjoint o p i j r ho hp }
  where
    given : Later m (record m { opens = n ∷ m.opens; opened = m.opened + 1 }) → (o : Open) → In o (n ∷ m.opens) → WasGiven (record m { opens = n ∷ m.opens; opened = m.opened + 1 }) o.ticket
    given l o (inl is) =
        let b : o.ticket.boot ≡ boots m.left.records = ap (λ q. q.ticket.boot) is ∙ ap (λ q. q.boot) next in
        let c : o.ticket.seq ≡ m.opened + 1 = ap (λ q. q.ticket.seq) is ∙ ap (λ q. q.seq) next in
        record { boot = omega arith; seq = λ e. omega arith }
    given l o (inr i) = given_later m (record m { opens = n ∷ m.opens; opened = m.opened + 1 }) o.ticket l (ts.given o i)

    distinct : (o p : Open) → In o (n ∷ m.opens) → In p (n ∷ m.opens) → o.ticket ≡ p.ticket → o ≡ p
    distinct o p (inl is) (inl js) e = is ∙ sym js
    distinct o p (inl is) (inr j) e = absurd (next_not_given m p.ticket (ts.given p j) (sym e ∙ ap (λ q. q.ticket) is ∙ next))
    distinct o p (inr i) (inl js) e = absurd (next_not_given m o.ticket (ts.given o i) (e ∙ ap (λ q. q.ticket) js ∙ next))
    distinct o p (inr i) (inr j) e = ts.distinct o p i j e

    disjoint : (o p : Open) → In o (n ∷ m.opens) → In p (n ∷ m.opens) → (r : RowKey) → has_row r o ≡ true → has_row r p ≡ true → o.ticket ≡ p.ticket
    disjoint o p (inl is) (inl js) r ho hp = ap (λ q. q.ticket) (is ∙ sym js)
    disjoint o p (inl is) (inr j) r ho hp = absurd (free p j r (subst (λ q. has_row r q ≡ true) is ho) hp)
    disjoint o p (inr i) (inl js) r ho hp = absurd (free o i r (subst (λ q. has_row r q ≡ true) js hp) ho)
    disjoint o p (inr i) (inr j) r ho hp = ts.disjoint o p i j r ho hp

some_ticket : (a n : Open) (t : Ticket) → a.ticket ≡ t → Some a ≡ Some n → n.ticket ≡ t
some_ticket a n t is e = let same : a ≡ n = cc in ap (λ q. q.ticket) (sym same) ∙ is

-- what an event opens has the ticket that it was given
pub opened_is : (s : Setup) (db : Database) (t : Ticket) (event : Event) (n : Open) → opened_for s db t event ≡ Some n → n.ticket ≡ t
opened_is s db t (Given (input.Message from (message.Call xid man res c (work.At stmts)))) n e = some_ticket _ n t refl e
opened_is s db t (Given (input.Message from (message.Call xid man res c (work.Tcc a)))) n e = some_ticket _ n t refl e
opened_is s db t (Given (input.Local k)) n e = some_ticket _ n t refl e
opened_is s db t _ n e = none_some e

-- ---- an entry keeps it

module _ (s : Setup) (m : Memory) (event : Event) (now : ℕ) where
  abbrev pub memory_by : Step → Memory
  memory_by step = memory_after s (record { event = event; now = now; step = step }) m

  abbrev Kept : Step → Type 0
  Kept step = Later m (memory_by step) × Tickets (memory_by step)

  same_later : Later m m
  same_later = record { boots_rise = omega arith; opened_rises = λ e. omega arith }

  goes_down : (at : Option Durable) → Kept (still (act.Down None at))
  goes_down at =
      let l : Later m (memory_by (still (act.Down None at))) = record { boots_rise = omega arith; opened_rises = λ e. omega arith } in
      (l, record { given = λ o i. absurd i; distinct = λ o p i j e. absurd i; disjoint = λ o p i j r ho hp. absurd i })

  -- a record of a ticket that ends, or of none
  adds : Tickets m → (d : Durable) (sent : Option Outgoing) → ((o : Open) → In o (memory_by (record { act = act.Durable d; sent = sent })).opens → In o m.opens)
      → Kept (record { act = act.Durable d; sent = sent })
  adds ts d sent sub =
      let more : boots m.left.records ≤ boots (added (resource_record s m.left.records m.opens event d) m.left.records) = boots_added (resource_record s m.left.records m.opens event d) m.left.records in
      let n : Memory = memory_by (record { act = act.Durable d; sent = sent }) in
      let l : Later m n = record { boots_rise = more; opened_rises = λ e. omega arith } in
      (l, fewer m n l ts sub)

  durable_kept : Tickets m → (d : Durable) (failed : Bool) (sent : Option Outgoing) → Kept (written failed (record { act = act.Durable d; sent = sent }) (act.Durable d))
  durable_kept ts d true sent = goes_down (Some d)
  durable_kept ts (durable.Committed xid b t) false sent = adds ts (durable.Committed xid b t) sent (λ o i. in_without m.opens t o i)
  durable_kept ts (durable.Tried xid b t) false sent = adds ts (durable.Tried xid b t) sent (λ o i. in_without m.opens t o i)
  durable_kept ts (durable.LocalCommitted k t) false sent = adds ts (durable.LocalCommitted k t) sent (λ o i. in_without m.opens t o i)
  durable_kept ts d false sent = adds ts d sent (λ o i. i)

  opens_kept : Tickets m → (f : Option Open) → (t : Ticket) → (t ≡ next_ticket m) → IsFree m.opens f → ((n : Open) → f ≡ Some n → n.ticket ≡ t)
      → Later m (record m { opens = with_first f m.opens; opened = m.opened + 1 }) × Tickets (record m { opens = with_first f m.opens; opened = m.opened + 1 })
  opens_kept ts None t next free is =
      let n : Memory = record m { opens = m.opens; opened = m.opened + 1 } in
      let l : Later m n = record { boots_rise = omega arith; opened_rises = λ e. omega arith } in
      (l, fewer m n l ts (λ o i. i))
  opens_kept ts (Some o) t next free is =
      let n : Memory = record m { opens = o ∷ m.opens; opened = m.opened + 1 } in
      let l : Later m n = record { boots_rise = omega arith; opened_rises = λ e. omega arith } in
      (l, opened_ticket m o ts (is o refl ∙ next) free)

  answer_kept : Tickets m → (done : Act) → ActFits s m event done → (failed : Bool) (sent : Option Outgoing) → Kept (written failed (record { act = done; sent = sent }) done)
  answer_kept ts (act.Durable d) f failed sent = durable_kept ts d failed sent
  answer_kept ts (act.Opened xid c t) f failed sent = opens_kept ts (opened_for s (tables_now s m) t event) t f.0 f.1 (opened_is s (tables_now s m) t event)
  answer_kept ts (act.OpenedLocal k t) f failed sent = opens_kept ts (opened_for s (tables_now s m) t event) t f.0 f.1 (opened_is s (tables_now s m) t event)
  answer_kept ts (act.Resent t) f failed sent =
      (record { boots_rise = omega arith; opened_rises = λ e. omega arith }, fewer m (memory_by (record { act = act.Resent t; sent = sent })) (record { boots_rise = omega arith; opened_rises = λ e. omega arith }) ts (λ o i. in_resent m.opens t (open_at m.opens t) refl o i))
  answer_kept ts (act.Conflicted t k) f failed sent = (record { boots_rise = omega arith; opened_rises = λ e. omega arith }, counted t k m ts)
  answer_kept ts (act.Dropped xid c t cause) f failed sent =
      (record { boots_rise = omega arith; opened_rises = λ e. omega arith }, fewer m (memory_by (record { act = act.Dropped xid c t cause; sent = sent })) (record { boots_rise = omega arith; opened_rises = λ e. omega arith }) ts (λ o i. in_without m.opens t o i))
  answer_kept ts (act.DroppedLocal k t key holder) f failed sent =
      (record { boots_rise = omega arith; opened_rises = λ e. omega arith }, fewer m (memory_by (record { act = act.DroppedLocal k t key holder; sent = sent })) (record { boots_rise = omega arith; opened_rises = λ e. omega arith }) ts (λ o i. in_without m.opens t o i))
  answer_kept ts (act.Down kept at) f failed sent = absurd f
  answer_kept ts (act.Restarted kept) f failed sent = absurd f
  answer_kept ts _ f failed sent = (same_later, ts)

  boots_kept : (kept : Option Durable) → boots m.left.records ≤ boots (kept_records (act.Restarted kept) m.left)
  boots_kept None = omega arith
  boots_kept (Some d) = boots_added m.left.flight m.left.records

  reopens_kept : Tickets m → (b : Bool) (kept : Option Durable) → Kept (restarted true b kept)
  reopens_kept ts true kept =
      let more = boots_kept kept in
      (record { boots_rise = more; opened_rises = λ e. omega arith }, record { given = λ o i. absurd i; distinct = λ o p i j e. absurd i; disjoint = λ o p i j r ho hp. absurd i })
  reopens_kept ts false kept =
      let more : boots m.left.records ≤ boots (kept_records (act.Restarted kept) m.left) = boots_kept kept in
      let n : Memory = memory_by (still (act.Restarted kept)) in
      let l : Later m n = record { boots_rise = omega arith; opened_rises = λ e. omega arith } in
      (l, fewer m n l ts (λ o i. i))

-- ---- one resource alone

module _ (s : Setup) (past : List ResourceRecord) (os : List Own) (now : ℕ) (fault keeps : Bool) (ts : Tickets (memory s past os)) where
  abbrev role : Role
  role = Resource s past

  abbrev m : Memory
  m = memory s past os

  when_up : (event : Event) → Kept s m event now (up_answer role os now fault keeps event)
  when_up (Given given) =
      let done = resource_answer s m given in
      answer_kept s m (Given given) now ts done.act (resource_fits s m ts given).0 (fails fault (left_at role os)) done.sent
  when_up (Stopped calls) = (same_later s m (Stopped calls) now, ts)
  when_up Crashed = goes_down s m Crashed now None
  when_up (Restarted pick calls) = (same_later s m (Restarted pick calls) now, ts)

  when_down : (event : Event) → Kept s m event now (down_answer role os now fault keeps event)
  when_down (Given given) = (same_later s m (Given given) now, ts)
  when_down (Stopped calls) = (same_later s m (Stopped calls) now, ts)
  when_down Crashed = (same_later s m Crashed now, ts)
  when_down (Restarted pick calls) = reopens_kept s m (Restarted pick calls) now ts (fails fault calls) (kept_act keeps os (left_at role os))

  pub kept_after : (event : Event) (down : Bool) → is_down os ≡ down → Kept s m event now (happens role os now fault keeps event)
  kept_after event true e = rw e (when_down event)
  kept_after event false e = rw e (when_up event)

-- in all that a resource may do, over any records
pub tickets : (s : Setup) (past : List ResourceRecord) (os : List Own) → Ran (Resource s past) os → Tickets (memory s past os)
tickets s past [] ran = record { given = λ o i. absurd i; distinct = λ o p i j e. absurd i; disjoint = λ o p i j r ho hp. absurd i }
tickets s past (o ∷ os) ran =
    let d = ran.1 in
    subst (λ (step : Step). Tickets (memory_after s (record { event = o.event; now = o.now; step = step }) (memory s past os))) (sym d.done)
    (kept_after s past os o.now d.fault d.keeps (tickets s past os ran.0) o.event (is_down os) refl).1
