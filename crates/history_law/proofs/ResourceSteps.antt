-- What one entry of a resource changes: its open tickets come from those before or are the next one, and one record may
-- be added, at once or after a restart.
use Rattle.std.proofs.Common.{◌≡◌, ◌⊎◌, inl, inr, not, ℕ, Bool, true, false, if◌then◌else◌, List, [], ◌∷◌, map, Option, Some, None, is_some, refl, ap, sym, subst, ◌∙◌}
use Rattle.std.specs.Option.{option_and_then}
use Rattle.seata_types.specs.declared.acts.Act.{Act}
use Rattle.seata_types.specs.declared.acts.Act.TheVariants as act
use Rattle.seata_types.specs.declared.acts.Durable.{Durable}
use Rattle.seata_types.specs.declared.acts.Durable.TheVariants as durable
use Rattle.seata_types.specs.declared.ids.BranchId.{BranchId}
use Rattle.seata_types.specs.declared.ids.Place.{Place}
use Rattle.seata_types.specs.declared.ids.Ticket.{Ticket}
use Rattle.seata_types.specs.declared.ids.Xid.{Xid}
use Rattle.seata_types.specs.declared.messages.Input.TheVariants as input
use Rattle.seata_types.specs.declared.messages.Message.TheVariants as message
use Rattle.seata_types.specs.declared.messages.Outgoing.{Outgoing}
use Rattle.seata_types.specs.declared.messages.Step.{Step}
use Rattle.seata_types.specs.declared.rows.Image.{Image}
use Rattle.seata_types.specs.declared.statements.Action.{Action}
use Rattle.seata_types.specs.declared.statements.Work.TheVariants as work
use Rattle.seata_types.specs.declared.statuses.BranchKind.TheVariants as kind
use Rattle.durable_records.specs.declared.resources.ResourceRecord.{ResourceRecord}
use Rattle.durable_records.specs.declared.resources.ResourceRecord.TheVariants as log
use Rattle.durable_records.specs.Branches.{same_ticket}
use Rattle.durable_records.specs.UndoRecords.{Undo, undo_of, is_marked}
use Rattle.durable_records.specs.Fences.{Runs, Suspends, fence, on_try, on_confirm, on_cancel}
use Rattle.history_rules.specs.Own.{Event, Given, Stopped, Crashed, Restarted, Own, asked_act, added, kept_records, leaves, still}
use Rattle.history_rules.specs.Devices.{is_down, down_after, fails, kept_act, written, restarted}
use Rattle.history_rules.specs.ResourceMemory.{Setup, Owner, OfCall, OfLocal, Open, Memory, local_of, next_ticket, open_at, without, with_first, counting, effect_on, or_empty, tries_of, call_of, phase_two, committed_of, tried_of, local_committed_of, boot_over, resource_record, opened_for, opens_after, booted, memory}
use Rattle.history_rules.specs.ResourceRules.{resource_answer}
use Rattle.history_rules.specs.CoordinatorRules.{branch_of}
use Rattle.history_rules.specs.Nodes.{Role, Resource, Happens, happens, up_answer, down_answer, left_at}
use Rattle.history_law.specs.Points.{In}
use Rattle.history_law.specs.Tickets.{Tickets, IsAtOf}
use Rattle.history_law.proofs.Tests.{true_false, not_true, found_in, of_filter}
use Rattle.history_law.proofs.CoordinatorCauses.{one_ticket}
use Rattle.history_law.specs.Cover.{all_of}
use Rattle.history_law.proofs.ResourceFits.{tables_now, IsForCall, IsForLocal, AreFree, IsNew, IsNewTicket, IsGranted, IsRollback, IsCommit, CommitsAt, CommitsLocal, TriesAt, Undoes, IsUnfenced, IsDirty, ActFits, SentFits, Fits}
use Rattle.history_law.proofs.ResourceAnswers.{same_ticket_itself, resource_fits}
use Rattle.history_law.proofs.TicketSteps.{Later, in_without, in_resent, in_counting, opened_is, memory_by, kept_after}

-- ---- the record that an answer asks for

-- the local commit of an open AT ticket, which isn't open after it
pub record CommitFits (m : Memory) (after : List Open) (event : Event) (u : Undo) : Type 0 where
  pub open_ticket : Open
  pub there : In open_ticket m.opens
  pub images : u.images ≡ open_ticket.images
  pub reads : u.reads ≡ open_ticket.reads
  pub call : u.call ≡ call_of open_ticket.owner
  pub at : IsAtOf u.xid open_ticket.owner
  pub unmarked : is_marked m.left.records u.xid u.branch ≡ false
  pub fresh : undo_of m.left.records u.xid u.branch ≡ None
  pub granted : IsGranted event open_ticket.ticket (branch_of u.branch)
  pub ends : (p : Open) → In p after → p.ticket ≡ open_ticket.ticket → ⊥

-- that of an open local ticket
pub record LocalFits (m : Memory) (after : List Open) (event : Event) (n : ℕ) (images : List Image) : Type 0 where
  pub open_ticket : Open
  pub there : In open_ticket m.opens
  pub images_are : images ≡ open_ticket.images
  pub owner : open_ticket.owner ≡ OfLocal n
  pub from : Place
  pub is : event ≡ Given (input.Message from (message.LockAnswer open_ticket.ticket None))
  pub ends : (p : Open) → In p after → p.ticket ≡ open_ticket.ticket → ⊥

-- the Try of an open TCC ticket
pub record TryFits (s : Setup) (m : Memory) (after : List Open) (event : Event) (x b c : ℕ) (images : List Image) : Type 0 where
  pub open_ticket : Open
  pub there : In open_ticket m.opens
  pub manager : ℕ
  pub action : Action
  pub owner : open_ticket.owner ≡ OfCall manager x c (work.Tcc action)
  pub images_are : images ≡ (effect_on (tables_now s m) action.tries).images
  pub runs : on_try (fence m.left.records x b) ≡ Runs
  pub granted : IsGranted event open_ticket.ticket (branch_of b)
  pub ends : (p : Open) → In p after → p.ticket ≡ open_ticket.ticket → ⊥

abbrev pub RecordFits : Setup → Memory → List Open → Event → ResourceRecord → Type 0
RecordFits s m after event (log.Committed xid b call images reads) =
    CommitFits m after event (record { xid = xid.0; branch = b.0; call = call; images = images; reads = reads })
RecordFits s m after event (log.Undone xid b) = Undoes m event xid.0 b.0
RecordFits s m after event (log.Marked xid b) = IsRollback event xid.0 b.0 kind.At × (undo_of m.left.records xid.0 b.0 ≡ None)
RecordFits s m after event (log.Cleared xid b) = IsCommit event xid.0 b.0 kind.At × (is_some (undo_of m.left.records xid.0 b.0) ≡ true)
RecordFits s m after event (log.Tried xid b c images) = TryFits s m after event xid.0 b.0 c images
RecordFits s m after event (log.Confirmed xid b images) =
    IsCommit event xid.0 b.0 kind.Tcc × (on_confirm (fence m.left.records xid.0 b.0) ≡ Runs) × (images ≡ (effect_on (tables_now s m) (phase_two s event)).images)
RecordFits s m after event (log.Cancelled xid b images) =
    IsRollback event xid.0 b.0 kind.Tcc × (on_cancel (fence m.left.records xid.0 b.0) ≡ Runs) × (images ≡ (effect_on (tables_now s m) (phase_two s event)).images)
RecordFits s m after event (log.Suspended xid b) = IsRollback event xid.0 b.0 kind.Tcc × (on_cancel (fence m.left.records xid.0 b.0) ≡ Suspends)
RecordFits s m after event (log.LocalCommitted n images) = LocalFits m after event n images
RecordFits s m after event (log.Outside n images) = AreFree m.opens images × (images ≡ (effect_on (tables_now s m) (or_empty (local_of s n))).images)
RecordFits s m after event (log.Boot number) = ⊥

abbrev pub OnRecord : (ResourceRecord → Type 0) → Option ResourceRecord → Type 0
OnRecord P None = Unit {0}
OnRecord P (Some r) = P r

-- the ticket that a record ends
abbrev EndsTicket : Durable → Ticket → Type 0
EndsTicket (durable.Committed xid b t) u = t ≡ u
EndsTicket (durable.Tried xid b t) u = t ≡ u
EndsTicket (durable.LocalCommitted n t) u = t ≡ u
EndsTicket _ u = ⊥

module _ (s : Setup) (m : Memory) (after : List Open) (event : Event) where
  ticket_is : (t : Ticket) (o : Open) → open_at m.opens t ≡ Some o → In o m.opens × (o.ticket ≡ t)
  ticket_is t o found = let k = found_in (λ p. same_ticket p.ticket t) m.opens o found in (k.0, one_ticket o.ticket t k.1)

  committed_fits : (xid : Xid) (b : BranchId) (t : Ticket) → CommitsAt m event xid.0 b.0 t → ((p : Open) → In p after → p.ticket ≡ t → ⊥)
      → OnRecord (RecordFits s m after event) (Rattle.std.specs.Prelude.option_map (committed_of xid b) (open_at m.opens t))
  committed_fits xid b t c ends =
      let k = ticket_is t c.open_ticket c.found in
      let fits : RecordFits s m after event (committed_of xid b c.open_ticket) = record {
        open_ticket = c.open_ticket;
        there = k.0;
        images = refl;
        reads = refl;
        call = refl;
        at = c.at;
        unmarked = c.unmarked;
        fresh = c.fresh;
        granted = subst (λ q. IsGranted event q (branch_of b.0)) (sym k.1) c.granted;
        ends = λ p i e. ends p i (e ∙ k.1);
      } in
      subst (λ (o : Option Open). OnRecord (RecordFits s m after event) (Rattle.std.specs.Prelude.option_map (committed_of xid b) o)) (sym c.found) fits

  local_fits : (n : ℕ) (t : Ticket) → CommitsLocal m event n t → ((p : Open) → In p after → p.ticket ≡ t → ⊥)
      → OnRecord (RecordFits s m after event) (Rattle.std.specs.Prelude.option_map (local_committed_of n) (open_at m.opens t))
  local_fits n t f ends =
      let k = ticket_is t f.open_ticket f.found in
      let fits : RecordFits s m after event (local_committed_of n f.open_ticket) = record {
        open_ticket = f.open_ticket;
        there = k.0;
        images_are = refl;
        owner = f.owner;
        from = f.from;
        is = f.is ∙ ap (λ q. Given (input.Message f.from (message.LockAnswer q None))) (sym k.1);
        ends = λ p i e. ends p i (e ∙ k.1);
      } in
      subst (λ (o : Option Open). OnRecord (RecordFits s m after event) (Rattle.std.specs.Prelude.option_map (local_committed_of n) o)) (sym f.found) fits

  tried_fits : (xid : Xid) (b : BranchId) (t : Ticket) → TriesAt m event xid.0 b.0 t → ((p : Open) → In p after → p.ticket ≡ t → ⊥)
      → OnRecord (RecordFits s m after event) (Rattle.std.specs.Prelude.option_map (tried_of xid b (tables_now s m)) (open_at m.opens t))
  tried_fits xid b t f ends =
      let k = ticket_is t f.open_ticket f.found in
      let fits : RecordFits s m after event (tried_of xid b (tables_now s m) f.open_ticket) = record {
        open_ticket = f.open_ticket;
        there = k.0;
        manager = f.manager;
        action = f.action;
        owner = f.owner ∙ ap (λ (q : ℕ). OfCall f.manager xid.0 q (work.Tcc f.action)) (sym (ap call_of f.owner));
        images_are = ap (λ (q : Owner). (effect_on (tables_now s m) (tries_of q)).images) f.owner;
        runs = f.runs;
        granted = subst (λ q. IsGranted event q (branch_of b.0)) (sym k.1) f.granted;
        ends = λ p i e. ends p i (e ∙ k.1);
      } in
      subst (λ (o : Option Open). OnRecord (RecordFits s m after event) (Rattle.std.specs.Prelude.option_map (tried_of xid b (tables_now s m)) o)) (sym f.found) fits

  record_fits : (d : Durable) → ActFits s m event (act.Durable d) → ((t : Ticket) → EndsTicket d t → (p : Open) → In p after → p.ticket ≡ t → ⊥)
      → OnRecord (RecordFits s m after event) (resource_record s m.left.records m.opens event d)
  record_fits (durable.Committed xid b t) f ends = committed_fits xid b t f (ends t refl)
  record_fits (durable.Tried xid b t) f ends = tried_fits xid b t f (ends t refl)
  record_fits (durable.LocalCommitted n t) f ends = local_fits n t f (ends t refl)
  record_fits (durable.Undone xid b) f ends = f
  record_fits (durable.Marked xid b) f ends = f
  record_fits (durable.Cleared xid b) f ends = f
  record_fits (durable.Confirmed xid b) f ends = (f.0, f.1, refl)
  record_fits (durable.Cancelled xid b) f ends = (f.0, f.1, refl)
  record_fits (durable.Suspended xid b) f ends = f
  record_fits (durable.Outside n) f ends = (f, refl)
  record_fits durable.Boot f ends = absurd f
  record_fits _ f ends = tt

-- ---- one entry

-- a ticket that is opened now; nothing is written with it
pub record NewOpen (s : Setup) (m : Memory) (event : Event) (n : Memory) (o : Open) : Type 0 where
  pub ticket : o.ticket ≡ next_ticket m
  pub opened : opened_for s (tables_now s m) (next_ticket m) event ≡ Some o
  pub left : n.left ≡ m.left
  pub landed : m.left.flight ≡ None
  pub fresh : IsNew m o.owner

-- an open ticket was open before, or is the next one
abbrev pub OpenFrom : Setup → Memory → Event → Memory → Open → Type 0
OpenFrom s m event n o = ((p : Open) × (k : ℕ) × (In p m.opens) × (o ≡ record p { conflicts = k })) ⊎ NewOpen s m event n o

abbrev pub OpensFrom : Setup → Memory → Event → Memory → Type 0
OpensFrom s m event n = (o : Open) → In o n.opens → OpenFrom s m event n o

-- what holds of the records and of those with the one in flight goes on, where a boot and each record that fits keep it
abbrev pub KeepsBoth : Setup → Memory → Event → Memory → Type 1
KeepsBoth s m event n = (Q : List ResourceRecord → Type 0) → ((rs : List ResourceRecord) → Q rs → Q (boot_over rs ∷ rs))
    → ((r : ResourceRecord) → RecordFits s m n.opens event r → Q m.left.records → Q (r ∷ m.left.records))
    → Q m.left.records × Q (all_of m.left) → Q n.left.records × Q (all_of n.left)

was_open : (s : Setup) (m : Memory) (event : Event) (n : Memory) → ((o : Open) → In o n.opens → In o m.opens) → OpensFrom s m event n
was_open s m event n sub o i = inl (o, o.conflicts, sub o i, refl)

module _ (s : Setup) (m : Memory) (event : Event) (now : ℕ) where
  add_keeps : (after : List Open) (Q : List ResourceRecord → Type 0) → ((r : ResourceRecord) → RecordFits s m after event r → Q m.left.records → Q (r ∷ m.left.records))
      → (r : Option ResourceRecord) → OnRecord (RecordFits s m after event) r → Q m.left.records → Q (added r m.left.records)
  add_keeps after Q keeps None f q = q
  add_keeps after Q keeps (Some r) f q = keeps r f q

  abbrev Moves : Step → Type 1
  Moves step = OpensFrom s m event (memory_by s m event now step) × KeepsBoth s m event (memory_by s m event now step)

  falls : (at : Option Durable) → OnRecord (RecordFits s m [] event) (option_and_then (resource_record s m.left.records m.opens event) at) → Moves (still (act.Down None at))
  falls at f = (λ o i. absurd i, λ Q boot keeps q. (q.0, add_keeps [] Q keeps (option_and_then (resource_record s m.left.records m.opens event) at) f q.0))

  adds : (d : Durable) (sent : Option Outgoing) → OnRecord (RecordFits s m (opens_after s (tables_now s m) event (act.Durable d) m.opens) event) (resource_record s m.left.records m.opens event d)
      → ((o : Open) → In o (opens_after s (tables_now s m) event (act.Durable d) m.opens) → In o m.opens) → Moves (record { act = act.Durable d; sent = sent })
  adds d sent f sub = (
    was_open s m event (memory_by s m event now (record { act = act.Durable d; sent = sent })) sub,
    λ Q boot keeps q. let k = add_keeps (opens_after s (tables_now s m) event (act.Durable d) m.opens) Q keeps (resource_record s m.left.records m.opens event d) f q.0 in (k, k),
  )

  gone : (t u : Ticket) → t ≡ u → (p : Open) → In p (without m.opens t) → p.ticket ≡ u → ⊥
  gone t u is p i e =
      let k = of_filter (λ q. not (same_ticket q.ticket t)) m.opens p i in
      let same : same_ticket p.ticket t ≡ true = ap (λ q. same_ticket q t) (e ∙ sym is) ∙ same_ticket_itself t in
      true_false (sym same ∙ not_true (same_ticket p.ticket t) k.1)

  ends_all : (d : Durable) (t : Ticket) → EndsTicket d t → (p : Open) → In p (opens_after s (tables_now s m) event (act.Durable d) m.opens) → p.ticket ≡ t → ⊥
  ends_all (durable.Committed xid b t) u is p i e = gone t u is p i e
  ends_all (durable.Tried xid b t) u is p i e = gone t u is p i e
  ends_all (durable.LocalCommitted n t) u is p i e = gone t u is p i e
  ends_all _ u is p i e = absurd is

  durable_moves : (d : Durable) → ActFits s m event (act.Durable d) → (failed : Bool) (sent : Option Outgoing) → Moves (written failed (record { act = act.Durable d; sent = sent }) (act.Durable d))
  durable_moves d f true sent = falls (Some d) (record_fits s m [] event d f (λ t e p i. absurd i))
  durable_moves (durable.Committed xid b t) f false sent = adds (durable.Committed xid b t) sent (record_fits s m (without m.opens t) event (durable.Committed xid b t) f (ends_all (durable.Committed xid b t))) (λ o i. in_without m.opens t o i)
  durable_moves (durable.Tried xid b t) f false sent = adds (durable.Tried xid b t) sent (record_fits s m (without m.opens t) event (durable.Tried xid b t) f (ends_all (durable.Tried xid b t))) (λ o i. in_without m.opens t o i)
  durable_moves (durable.LocalCommitted k t) f false sent = adds (durable.LocalCommitted k t) sent (record_fits s m (without m.opens t) event (durable.LocalCommitted k t) f (ends_all (durable.LocalCommitted k t))) (λ o i. in_without m.opens t o i)
  durable_moves d f false sent = adds d sent (record_fits s m m.opens event d f (λ t e. absurd e)) (λ o i. i)

  opened_from : (n : Memory) → n.left ≡ m.left → m.left.flight ≡ None → (f : Option Open) → IsNewTicket m f → (t : Ticket) → (t ≡ next_ticket m) → opened_for s (tables_now s m) t event ≡ f
      → ((n : Open) → f ≡ Some n → n.ticket ≡ t) → (o : Open) → In o (with_first f m.opens) → OpenFrom s m event n o
  opened_from n left landed None fresh t next for is o i = inl (o, o.conflicts, i, refl)
  opened_from n left landed (Some a) fresh t next for is o (inl e) = inr (record {
    ticket = ap (λ q. q.ticket) e ∙ is a refl ∙ next;
    opened = ap (λ q. opened_for s (tables_now s m) q event) (sym next) ∙ for ∙ ap (λ (q : Open). Some q) (sym e);
    left = left;
    landed = landed;
    fresh = subst (λ (q : Open). IsNew m q.owner) (sym e) fresh;
  })
  opened_from n left landed (Some a) fresh t next for is o (inr i) = inl (o, o.conflicts, i, refl)

  counted_from : (n : Memory) (t : Ticket) (k : ℕ) (o : Open) → In o (map (counting t k) m.opens) → OpenFrom s m event n o
  counted_from n t k o i = let f = in_counting t k m.opens o i in by f.0 f.1 f.2 (same_ticket f.0.ticket t) refl
    where
      by : (p : Open) → In p m.opens → o ≡ counting t k p → (b : Bool) → same_ticket p.ticket t ≡ b → OpenFrom s m event n o
      by p j is true e = inl (p, k, j, is ∙ ap (λ b. if b then record p { conflicts = k } else p) e)
      by p j is false e = inl (p, p.conflicts, j, is ∙ ap (λ b. if b then record p { conflicts = k } else p) e)

  answer_moves : m.left.flight ≡ None → (done : Act) → ActFits s m event done → (failed : Bool) (sent : Option Outgoing) → Moves (written failed (record { act = done; sent = sent }) done)
  answer_moves landed (act.Durable d) f failed sent = durable_moves d f failed sent
  answer_moves landed (act.Opened xid c t) f failed sent = (opened_from (memory_by s m event now (record { act = act.Opened xid c t; sent = sent })) refl landed (opened_for s (tables_now s m) t event) f.2 t f.0 refl (opened_is s (tables_now s m) t event), λ Q boot keeps q. q)
  answer_moves landed (act.OpenedLocal k t) f failed sent = (opened_from (memory_by s m event now (record { act = act.OpenedLocal k t; sent = sent })) refl landed (opened_for s (tables_now s m) t event) f.2 t f.0 refl (opened_is s (tables_now s m) t event), λ Q boot keeps q. q)
  answer_moves landed (act.Resent t) f failed sent = (was_open s m event (memory_by s m event now (record { act = act.Resent t; sent = sent })) (λ o i. in_resent m.opens t (open_at m.opens t) refl o i), λ Q boot keeps q. q)
  answer_moves landed (act.Conflicted t k) f failed sent = (λ o i. counted_from (memory_by s m event now (record { act = act.Conflicted t k; sent = sent })) t k o i, λ Q boot keeps q. q)
  answer_moves landed (act.Dropped xid c t cause) f failed sent = (was_open s m event (memory_by s m event now (record { act = act.Dropped xid c t cause; sent = sent })) (λ o i. in_without m.opens t o i), λ Q boot keeps q. q)
  answer_moves landed (act.DroppedLocal k t key holder) f failed sent = (was_open s m event (memory_by s m event now (record { act = act.DroppedLocal k t key holder; sent = sent })) (λ o i. in_without m.opens t o i), λ Q boot keeps q. q)
  answer_moves landed (act.Down kept at) f failed sent = absurd f
  answer_moves landed (act.Restarted kept) f failed sent = absurd f
  answer_moves landed _ f failed sent = (was_open s m event m (λ o i. i), λ Q boot keeps q. q)

  stays : OpensFrom s m event m × KeepsBoth s m event m
  stays = (was_open s m event m (λ o i. i), λ Q boot keeps q. q)

  kept_too : (Q : List ResourceRecord → Type 0) (kept : Option Durable) → Q m.left.records × Q (all_of m.left) → Q (kept_records (act.Restarted kept) m.left)
  kept_too Q None q = q.0
  kept_too Q (Some d) q = q.1

  reopens_moves : (b : Bool) (kept : Option Durable) → Moves (restarted true b kept)
  reopens_moves true kept = (λ o i. absurd i, λ Q boot keeps q. let k = kept_too Q kept q in (k, boot (kept_records (act.Restarted kept) m.left) k))
  reopens_moves false kept =
      (was_open s m event (memory_by s m event now (still (act.Restarted kept))) (λ o i. i), λ Q boot keeps q. let k = boot (kept_records (act.Restarted kept) m.left) (kept_too Q kept q) in (k, k))

-- a node that is up has nothing in flight
pub lands : (s : Setup) (past : List ResourceRecord) (os : List Own) → is_down os ≡ false → (memory s past os).left.flight ≡ None
lands s past [] up = refl
lands s past (o ∷ os) up = by o.step.act up (lands s past os)
  where
    by : (a : Act) → down_after a (is_down os) ≡ false → (is_down os ≡ false → (memory s past os).left.flight ≡ None)
        → (booted a (leaves a (option_and_then (resource_record s (kept_records a (memory s past os).left) (memory s past os).opens o.event) (asked_act a)) (memory s past os).left)).flight ≡ None
    by (act.Durable d) up below = refl
    by (act.Down kept at) up below = true_false up
    by (act.Restarted kept) up below = refl
    by _ up below = below up

-- what a refusing act of the second phase found, and for what a ticket was opened
abbrev pub ActFinds : Setup → Memory → Event → Act → Type 0
ActFinds s m event (act.Dirty xid b key after now) = IsDirty s m event xid.0 b.0 key
ActFinds s m event (act.Unfenced xid b) = IsUnfenced m event xid.0 b.0
ActFinds s m event (act.Opened xid c t) = (t ≡ next_ticket m) × IsForCall xid.0 c (opened_for s (tables_now s m) t event)
ActFinds s m event (act.OpenedLocal k t) = (t ≡ next_ticket m) × IsForLocal k (opened_for s (tables_now s m) t event)
ActFinds s m event _ = Unit {0}

-- what is sent, and what the act found
module _ (s : Setup) (m : Memory) (event : Event) where
  abbrev Says : Step → Type 0
  Says step = (Fits s m event step ⊎ (step.sent ≡ None)) × ActFinds s m event step.act

  written_says : (done : Act) (failed : Bool) (sent : Option Outgoing) → ActFits s m event done → SentFits s m event done sent → Says (written failed (record { act = done; sent = sent }) done)
  written_says (act.Durable d) true sent f g = (inr refl, tt)
  written_says (act.Durable d) false sent f g = (inl (f, g), tt)
  written_says (act.Dirty xid b key after now) failed sent f g = (inl (f, g), f)
  written_says (act.Unfenced xid b) failed sent f g = (inl (f, g), f)
  written_says (act.Opened xid c t) failed sent f g = (inl (f, g), (f.0, f.3))
  written_says (act.OpenedLocal k t) failed sent f g = (inl (f, g), (f.0, f.3))
  written_says _ failed sent f g = (inl (f, g), tt)

  reopens_says : (b : Bool) (kept : Option Durable) → Says (restarted true b kept)
  reopens_says true kept = (inr refl, tt)
  reopens_says false kept = (inr refl, tt)

module _ (s : Setup) (past : List ResourceRecord) (os : List Own) (now : ℕ) (fault keeps : Bool) (ts : Tickets (memory s past os)) where
  abbrev role : Role
  role = Resource s past

  abbrev m : Memory
  m = memory s past os

  when_up : is_down os ≡ false → (event : Event) → Moves s m event now (up_answer role os now fault keeps event)
  when_up up (Given given) =
      let done = resource_answer s m given in
      answer_moves s m (Given given) now (lands s past os up) done.act (resource_fits s m ts given).0 (fails fault (left_at role os)) done.sent
  when_up up (Stopped calls) = stays s m (Stopped calls) now
  when_up up Crashed = falls s m Crashed now None tt
  when_up up (Restarted pick calls) = stays s m (Restarted pick calls) now

  when_down : (event : Event) → Moves s m event now (down_answer role os now fault keeps event)
  when_down (Given given) = stays s m (Given given) now
  when_down (Stopped calls) = stays s m (Stopped calls) now
  when_down Crashed = stays s m Crashed now
  when_down (Restarted pick calls) = reopens_moves s m (Restarted pick calls) now (fails fault calls) (kept_act keeps os (left_at role os))

  moves_after : (event : Event) (down : Bool) → is_down os ≡ down → Moves s m event now (happens role os now fault keeps event)
  moves_after event true e = rw e (when_down event)
  moves_after event false e = rw e (when_up e event)

  up_says : (event : Event) → Says s m event (up_answer role os now fault keeps event)
  up_says (Given given) =
      let done = resource_answer s m given in
      let f = resource_fits s m ts given in
      written_says s m (Given given) done.act (fails fault (left_at role os)) done.sent f.0 f.1
  up_says (Stopped calls) = (inr refl, tt)
  up_says Crashed = (inr refl, tt)
  up_says (Restarted pick calls) = (inr refl, tt)

  down_says : (event : Event) → Says s m event (down_answer role os now fault keeps event)
  down_says (Given given) = (inr refl, tt)
  down_says (Stopped calls) = (inr refl, tt)
  down_says Crashed = (inr refl, tt)
  down_says (Restarted pick calls) = reopens_says s m (Restarted pick calls) (fails fault calls) (kept_act keeps os (left_at role os))

  says_after : (event : Event) (down : Bool) → is_down os ≡ down → Says s m event (happens role os now fault keeps event)
  says_after event true e = rw e (down_says event)
  says_after event false e = rw e (up_says event)

-- of what happens at a resource: its tickets, what it keeps, what it sends and what its act found
pub record ResourceMoves (s : Setup) (m : Memory) (event : Event) (now : ℕ) (step : Step) : Type 1 where
  pub later : Later m (memory_by s m event now step)
  pub tickets : Tickets (memory_by s m event now step)
  pub opens_from : OpensFrom s m event (memory_by s m event now step)
  pub keeps : KeepsBoth s m event (memory_by s m event now step)
  pub fits : Fits s m event step ⊎ (step.sent ≡ None)
  pub finds : ActFinds s m event step.act

pub resource_moves : (s : Setup) (past : List ResourceRecord) (os : List Own) (event : Event) (now : ℕ) (step : Step) → Tickets (memory s past os) → Happens (Resource s past) os now event step
    → ResourceMoves s (memory s past os) event now step
resource_moves s past os event now step ts d =
    let st : Step = happens (Resource s past) os now d.fault d.keeps event in
    let k = kept_after s past os now d.fault d.keeps ts event (is_down os) refl in
    let v = moves_after s past os now d.fault d.keeps ts event (is_down os) refl in
    let f = says_after s past os now d.fault d.keeps ts event (is_down os) refl in
    let all : ResourceMoves s (memory s past os) event now st = record { later = k.0; tickets = k.1; opens_from = v.0; keeps = v.1; fits = f.0; finds = f.1 } in
    subst (λ (q : Step). ResourceMoves s (memory s past os) event now q) (sym d.done) all
