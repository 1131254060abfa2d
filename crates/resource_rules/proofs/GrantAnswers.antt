-- The coordinator's answers for open tickets of calls: by what was looked up they are the rules'.
use Rattle.std.proofs.Common.{◌≡◌, ◌∙◌, ◌==◌, ◌+◌, ◌-◌, ◌<◌, ◌^◌, ℕ, Bool, true, false, List, [], map, Option, Some, None, option_map, is_none, Result, Ok, Err, refl, sym, ap, subst, arith}
use Rattle.std.specs.Prelude.{nat_le, min, if◌then◌else◌, IfOk}
use Rattle.std.proofs.lemmas.Bool.{and_from}
use Rattle.std.proofs.lemmas.Bool.Decides.{nat_tests}
use Rattle.seata_types.specs.declared.acts.Act.TheVariants as act
use Rattle.seata_types.specs.declared.acts.Durable.TheVariants as durable
use Rattle.seata_types.specs.declared.copies.NoMemory.{NoMemory}
use Rattle.seata_types.specs.declared.errors.StmtError.{StmtError}
use Rattle.seata_types.specs.declared.errors.Why.{Why}
use Rattle.seata_types.specs.declared.errors.Why.TheVariants as why
use Rattle.seata_types.specs.declared.ids.BranchId.{BranchId}
use Rattle.seata_types.specs.declared.ids.Leg.{Leg}
use Rattle.seata_types.specs.declared.ids.Place.{Place}
use Rattle.seata_types.specs.declared.ids.Ticket.{Ticket}
use Rattle.seata_types.specs.declared.ids.Xid.{Xid}
use Rattle.seata_types.specs.declared.messages.CallAnswer.TheVariants as called
use Rattle.seata_types.specs.declared.messages.Input.{Input}
use Rattle.seata_types.specs.declared.messages.Input.TheVariants as input
use Rattle.seata_types.specs.declared.messages.Message.TheVariants as message
use Rattle.seata_types.specs.declared.messages.Registered.{Registered}
use Rattle.seata_types.specs.declared.messages.Registered.TheVariants as registered
use Rattle.seata_types.specs.declared.messages.Step.{Step}
use Rattle.seata_types.specs.declared.rows.RowKey.{RowKey}
use Rattle.seata_types.specs.declared.statements.Action.{Action}
use Rattle.seata_types.specs.declared.statements.Stmt.{Stmt}
use Rattle.seata_types.specs.declared.statements.Work.{Work}
use Rattle.seata_types.specs.declared.statements.Work.TheVariants as work
use Rattle.seata_types.specs.declared.statuses.GlobalStatus.{GlobalStatus}
use Rattle.local_tables.specs.Calls.{effect}
use Rattle.local_tables.specs.Rows.{AreRows, Database}
use Rattle.local_tables.specs.declared.schemas.Effect.{Effect}
use Rattle.durable_records.specs.declared.resources.ResourceRecord.TheVariants as log
use Rattle.durable_records.specs.Fences.{FenceAnswer, Runs, WasDone, Suspends, Refuses, on_try}
use Rattle.durable_records.specs.RowsKept.{tables}
use Rattle.durable_records.specs.UndoRecords.{Undo, undo_of, is_marked}
use Rattle.undo_log.specs.Entries.{entry_at}
use Rattle.undo_log.specs.declared.records.UndoEntry.{UndoEntry}
use Rattle.undo_log.specs.declared.records.UndoEntry.TheVariants as entry
use Rattle.tcc_fence.specs.Meanings.{fence_at}
use Rattle.local_txn.specs.OpenTickets.{Owner, OfCall, OfLocal, Open, counting, open_at}
use Rattle.local_txn.specs.Answers.{Tickets, counted, open_of}
use Rattle.local_txn.specs.declared.transactions.OpenTxn.{OpenTxn}
use Rattle.local_txn.proofs.OpenLaws.{found_ticket}
use Rattle.history_rules.specs.Own.{still}
use Rattle.history_rules.specs.ResourceMemory.{Setup, Memory, call_of, committed_of, effect_on, next_ticket, opening_tables, or_none, tried_of, tries_of}
use Rattle.history_rules.specs.ResourceRules as rules
use Rattle.history_rules.specs.ResourceRules.{resource_answer, untouched}
use Rattle.resource_log.specs.Records.{leg_of}
use Rattle.resource_memory.specs.Changes.{runs}
use Rattle.resource_memory.specs.Known.{Known}
use Rattle.resource_rules.specs.Answers.{Answers, GrantPlaces, Hears, IsOpenFor, IsOpenOn, Shows, answer_by, ignored}
use Rattle.resource_rules.specs.Owned.{call_by, of_call}
use Rattle.resource_rules.specs.Ready.{AreStmtsWithin, IsCallWithin, IsOwnedWithin, IsReady, ServesWithin}
use Rattle.resource_rules.specs.Grants.{IsCountedTry, at_granted, conflicted, dropped, granted, tcc_granted, try_meant}
use Rattle.resource_rules.specs.declared.answers.Answer.{Answer}
use Rattle.resource_rules.specs.declared.answers.Change.TheVariants as change
use Rattle.resource_rules.specs.declared.setups.Setup.{Setup as TheSetup}
use Rattle.resource_rules.proofs.AnswerLaws.{Framed, rests, asks}
use Rattle.resource_rules.proofs.Ends.{finished_by, none_by, normal_by}
use Rattle.resource_rules.proofs.FramingLaws.{IsCause, call_of_ticket, done_told, failed_told, fault_cause, told_framed, untouched_cause}
use Rattle.resource_rules.proofs.Owners.{owner_is}
use Rattle.resource_rules.proofs.ReadyLaws.{branch_granted, holder_of, open_within, tables_within}
use Rattle.resource_rules.proofs.Seen.{entry_seen, fence_seen, opens_seen, tables_seen}
use Rattle.resource_rules.proofs.TccEnds.{images_fit}

abbrev Meaning : Type 0
Meaning = Result Effect (ℕ × StmtError)

abbrev pub answer_input : Ticket → Xid → Place → Registered → Input
answer_input t xid from answer = input.Message from (message.RegisterAnswer t xid answer)

-- the statements of the Try of an open ticket are counted
pub counted_try : (db : Database) (txn : OpenTxn) → (txn.xid.0 == 0) ≡ false → IsOpenOn db (open_of txn) → (w : Work) → txn.work ≡ w → IsCountedTry w
counted_try db txn one open_on (work.At stmts) e = tt
counted_try db txn one open_on (work.Tcc action) e =
    subst (IsOpenFor db (open_of txn)) (owner_is txn.xid.0 txn.manager txn.call txn.work one ∙ ap (OfCall txn.manager txn.xid.0 txn.call) e) open_on

-- the count of a ticket that waits on is exact
exact : (tries n : ℕ) → tries < 2 ^ 32 → nat_le tries (n + 1) ≡ false → min (n + 1) (2 ^ 32 - 1) ≡ n + 1
exact tries n small e = let left : n + 1 < tries = grind (arith, nat_tests) in omega (arith, small, left)

module _ (is : TheSetup) (k : Known) (ts : Tickets) (t : Ticket) (xid : Xid) (from : Place) where
  of_no_call : (s : Setup) (m : Memory) (o : Open) (w : Owner) → call_by o w ≡ None → (answer : Registered)
      → still act.Ignored ≡ rules.ticket_answer s m.left.records m.opens (next_ticket m) o w answer
  of_no_call s m o (OfLocal n) e (registered.Granted b) = refl
  of_no_call s m o (OfLocal n) e (registered.Conflict key holder rolling) = refl
  of_no_call s m o (OfLocal n) e (registered.Closed status) = refl
  of_no_call s m o (OfLocal n) e registered.Late = refl
  of_no_call s m o (OfCall manager x c w) e answer = absurd cc

  no_call : (s : Setup) (m : Memory) (found : Option Open) → of_call found ≡ None → (answer : Registered)
      → still act.Ignored ≡ rules.on_registered s m.left.records m.opens (next_ticket m) found answer
  no_call s m None e answer = refl
  no_call s m (Some o) e answer = of_no_call s m o o.owner e answer

  -- no call has the ticket open
  pub unopened : (answer : Registered) → of_call (open_at ts.opens t) ≡ None → (a : Answer) → a ≡ ignored → Answers is k ts (answer_input t xid from answer) a
  unopened answer none = rests change.Stays tt _
      (λ s m sh. no_call s m (open_at ts.opens t) none answer ∙ ap (λ (os : List Open). rules.on_registered s m.left.records m.opens (next_ticket m) (open_at os t) answer) (opens_seen s m sh))
      (λ s m. refl) (λ s m now sh. refl) (λ ready served. (tt, tt))

  module _ (txn : OpenTxn) (here : open_at ts.opens t ≡ Some (open_of txn)) where
    here_at : (s : Setup) (m : Memory) → Shows is k ts s m → open_at m.opens t ≡ Some (open_of txn)
    here_at s m sh = ap (λ (os : List Open). open_at os t) (sym (opens_seen s m sh)) ∙ here

    -- also under the ticket that it names
    own_at : (s : Setup) (m : Memory) → Shows is k ts s m → open_at m.opens txn.ticket ≡ Some (open_of txn)
    own_at s m sh = ap (open_at m.opens) (found_ticket ts.opens t (open_of txn) here) ∙ here_at s m sh

    ticket_is : (w : Owner) → (open_of txn).owner ≡ w → (answer : Registered) (s : Setup) (m : Memory) → Shows is k ts s m
        → rules.ticket_answer s m.left.records m.opens (next_ticket m) (open_of txn) w answer ≡ resource_answer s m (answer_input t xid from answer)
    ticket_is w owner answer s m sh =
        sym (ap (λ (p : Option Open). rules.on_registered s m.left.records m.opens (next_ticket m) p answer) (here_at s m sh)
        ∙ ap (λ (v : Owner). rules.ticket_answer s m.left.records m.opens (next_ticket m) (open_of txn) v answer) owner)

    module _ (one : (txn.xid.0 == 0) ≡ false) where
      owner : (w : Work) → txn.work ≡ w → (open_of txn).owner ≡ OfCall txn.manager txn.xid.0 txn.call w
      owner w e = owner_is txn.xid.0 txn.manager txn.call txn.work one ∙ ap (OfCall txn.manager txn.xid.0 txn.call) e

      answers_as : (answer : Registered) (s : Setup) (m : Memory) → Shows is k ts s m
          → rules.ticket_answer s m.left.records m.opens (next_ticket m) (open_of txn) (OfCall txn.manager txn.xid.0 txn.call txn.work) answer ≡ resource_answer s m (answer_input t xid from answer)
      answers_as answer s m sh = ticket_is (OfCall txn.manager txn.xid.0 txn.call txn.work) (owner txn.work refl) answer s m sh

      -- the numbers of its call have places
      call_here : IsReady is k ts → IsCallWithin txn.xid.0 txn.call
      call_here ready = call_of_ticket k.tables (open_of txn) txn.manager txn.xid.0 txn.call txn.work (subst (IsOwnedWithin k.tables (open_of txn)) (owner txn.work refl) (open_within is k ts ready t (open_of txn) here).owned)

      dropped_framed : (answer : Registered) (cause : Why) → (IsReady is k ts → ServesWithin (answer_input t xid from answer) → IsCause cause)
          → Framed is k ts (answer_input t xid from answer) (change.Closes txn.ticket) (dropped txn txn.xid cause).step
      dropped_framed answer cause causes = λ ready served. (told_framed txn.xid txn.call (called.Failed cause) (call_here ready) (failed_told cause (causes ready served)), tt)

      -- it is dropped
      drops : (answer : Registered) (cause : Why) → (IsReady is k ts → ServesWithin (answer_input t xid from answer) → IsCause cause)
          → ((s : Setup) (m : Memory) → Shows is k ts s m → (dropped txn txn.xid cause).step ≡ rules.ticket_answer s m.left.records m.opens (next_ticket m) (open_of txn) (OfCall txn.manager txn.xid.0 txn.call txn.work) answer)
          → (a : Answer) → a ≡ dropped txn txn.xid cause → Answers is k ts (answer_input t xid from answer) a
      drops answer cause causes rule = rests (change.Closes txn.ticket) tt _ (λ s m sh. rule s m sh ∙ answers_as answer s m sh) (λ s m. refl) (λ s m now sh. refl) (dropped_framed answer cause causes)

      -- ---- a conflict

      module _ (key : RowKey) (holder : Xid) (small : is.tries < 2 ^ 32) where
        abbrev met : Bool → Step
        met b = if b then rules.drops (open_of txn) txn.manager txn.xid.0 txn.call why.Tries else still (act.Conflicted txn.ticket (txn.conflicts + 1))

        met_is : (b : Bool) → nat_le is.tries (txn.conflicts + 1) ≡ b → (s : Setup) (m : Memory) → Shows is k ts s m
            → met b ≡ rules.conflict_answer s.tries (open_of txn) txn.manager txn.xid.0 txn.call holder false
        met_is b e s m sh = ap met (sym e ∙ ap (λ (n : ℕ). nat_le n (txn.conflicts + 1)) (sym sh.setup.tries))

        counts : nat_le is.tries (txn.conflicts + 1) ≡ false → (s : Setup) (m : Memory) → Shows is k ts s m
            → record m { opens = map (counting txn.ticket (txn.conflicts + 1)) m.opens } ≡ record m { opens = counted (open_at m.opens txn.ticket) txn.ticket m.opens }
        counts e s m sh =
            ap (λ (n : ℕ). record m { opens = map (counting txn.ticket n) m.opens }) (sym (exact is.tries txn.conflicts small e))
            ∙ ap (λ (o : Option Open). record m { opens = counted o txn.ticket m.opens }) (sym (own_at s m sh))

        met_as : (b : Bool) → nat_le is.tries (txn.conflicts + 1) ≡ b → (a : Answer) → a ≡ answer_by 0 [] [] (met b) → Answers is k ts (answer_input t xid from (registered.Conflict key holder false)) a
        met_as true e = drops (registered.Conflict key holder false) why.Tries (λ ready served. record { layout = tt; limits = tt }) (met_is true e)
        met_as false e = rests (change.Counts txn.ticket) tt _ (λ s m sh. met_is false e s m sh ∙ answers_as (registered.Conflict key holder false) s m sh)
            (λ s m. refl) (λ s m now sh. counts e s m sh) (λ ready served. (tt, tt))

        pub conflicts : (rolling : Bool) (a : Answer) → a ≡ conflicted is.tries txn holder rolling → Answers is k ts (answer_input t xid from (registered.Conflict key holder rolling)) a
        conflicts true = drops (registered.Conflict key holder true) (why.Rolling holder) (λ ready served. record { layout = holder_of t xid key holder true served; limits = tt }) (λ s m sh. refl)
        conflicts false = met_as (nat_le is.tries (txn.conflicts + 1)) refl

      -- ---- a grant

      module _ (b : BranchId) (open_on : IsOpenOn k.tables (open_of txn)) where
        abbrev leg : Leg
        leg = leg_of txn.xid b

        granted_as : (w : Work) → txn.work ≡ w → (s : Setup) (m : Memory) → Shows is k ts s m
            → rules.granted_answer s m.left.records m.opens (next_ticket m) (open_of txn) (OfCall txn.manager txn.xid.0 txn.call w) b.0 ≡ resource_answer s m (answer_input t xid from (registered.Granted b))
        granted_as w e s m sh = ticket_is (OfCall txn.manager txn.xid.0 txn.call w) (owner w e) (registered.Granted b) s m sh

        places_as : (w : Work) → txn.work ≡ w → ((o : Open) → open_at ts.opens t ≡ Some o → GrantPlaces k.tables b o o.owner) → GrantPlaces k.tables b (open_of txn) (OfCall txn.manager txn.xid.0 txn.call w)
        places_as w e places = subst (GrantPlaces k.tables b (open_of txn)) (owner w e) (places (open_of txn) here)

        -- of an AT branch
        module _ (stmts : List Stmt) (e : txn.work ≡ work.At stmts) where
          at_as : (u : Option Undo) (marked : Bool) (s : Setup) (m : Memory) → Shows is k ts s m → undo_of m.left.records txn.xid.0 b.0 ≡ u → is_marked m.left.records txn.xid.0 b.0 ≡ marked
              → rules.at_granted (open_of txn) txn.manager txn.xid.0 txn.call b.0 u marked ≡ resource_answer s m (answer_input t xid from (registered.Granted b))
          at_as u marked s m sh eu em =
              sym (λ i. rules.at_granted (open_of txn) txn.manager txn.xid.0 txn.call b.0 (eu i) (em i)) ∙ granted_as (work.At stmts) e s m sh

          committed_as : (s : Setup) (m : Memory) → Shows is k ts s m → Some (log.Committed txn.xid b txn.call txn.images txn.reads) ≡ option_map (committed_of txn.xid b) (open_at m.opens txn.ticket)
          committed_as s m sh =
              sym (ap (option_map (committed_of txn.xid b)) (own_at s m sh) ∙ ap (λ (w : Owner). Some (log.Committed txn.xid b (call_of w) txn.images txn.reads)) (owner (work.At stmts) e))

          at_by : (found : Option UndoEntry) → entry_at k.undo_log leg ≡ found → (a : Answer) → a ≡ at_granted txn leg found → Answers is k ts (answer_input t xid from (registered.Granted b)) a
          at_by (Some (entry.Normal r)) is_r = rests change.Stays tt _
              (λ s m sh. let v = normal_by (undo_of m.left.records txn.xid.0 b.0) (is_marked m.left.records txn.xid.0 b.0) r (sym (entry_seen s m sh leg) ∙ is_r) in
              at_as (Some v.0) (is_marked m.left.records txn.xid.0 b.0) s m sh v.1 refl)
              (λ s m. refl) (λ s m now sh. refl) (λ ready served. (tt, tt))
          at_by (Some entry.Finished) is_f = rests (change.Closes txn.ticket) tt _
              (λ s m sh. let v = finished_by (undo_of m.left.records txn.xid.0 b.0) (is_marked m.left.records txn.xid.0 b.0) (sym (entry_seen s m sh leg) ∙ is_f) in at_as None true s m sh v.0 v.1)
              (λ s m. refl) (λ s m now sh. refl) (dropped_framed (registered.Granted b) why.Marker (λ ready served. record { layout = tt; limits = tt }))
          at_by None none = asks (change.Closes txn.ticket) (log.Committed txn.xid b txn.call txn.images txn.reads) tt (durable.Committed txn.xid b txn.ticket) _
              (λ s m sh. let v = none_by (undo_of m.left.records txn.xid.0 b.0) (is_marked m.left.records txn.xid.0 b.0) (sym (entry_seen s m sh leg) ∙ none) in at_as None false s m sh v.0 v.1)
              committed_as (λ s m. refl) (λ n. refl)
              (record { allowed = and_from _ _ (ap is_none none) (subst (IsOpenFor k.tables (open_of txn)) (owner (work.At stmts) e) open_on); runs = refl; placed = places_as (work.At stmts) e })
              (λ ready served. (told_framed txn.xid txn.call (called.Done b) (call_here ready) (done_told b (branch_granted t xid b served)), tt))

        -- of a TCC branch
        module _ (action : Action) (e : txn.work ≡ work.Tcc action) (rows : AreRows k.tables) where
          meant : (r : Meaning) → effect k.tables action.tries ≡ r → (s : Setup) (m : Memory) → Shows is k ts s m → effect (tables (opening_tables s) m.left.records) action.tries ≡ r
          meant r is_r s m sh = ap (λ (db : Database). effect db action.tries) (sym (tables_seen s m sh)) ∙ is_r

          tcc_as : (f : FenceAnswer) → on_try (fence_at k.fences leg) ≡ f → (s : Setup) (m : Memory) → Shows is k ts s m
              → rules.tcc_granted (open_of txn) txn.manager txn.xid.0 txn.call b.0 (effect (tables (opening_tables s) m.left.records) action.tries) f ≡ resource_answer s m (answer_input t xid from (registered.Granted b))
          tcc_as f is_f s m sh =
              sym (ap (rules.tcc_granted (open_of txn) txn.manager txn.xid.0 txn.call b.0 (effect (tables (opening_tables s) m.left.records) action.tries)) (ap on_try (sym (fence_seen s m sh leg)) ∙ is_f)) ∙ granted_as (work.Tcc action) e s m sh

          tried_as : (images : Effect) → effect k.tables action.tries ≡ Ok images → (s : Setup) (m : Memory) → Shows is k ts s m
              → Some (log.Tried txn.xid b txn.call images.images) ≡ option_map (tried_of txn.xid b (tables (opening_tables s) m.left.records)) (open_at m.opens txn.ticket)
          tried_as images is_e s m sh =
              sym (ap (option_map (tried_of txn.xid b (tables (opening_tables s) m.left.records))) (own_at s m sh)
              ∙ ap (λ (w : Owner). Some (log.Tried txn.xid b (call_of w) (effect_on (tables (opening_tables s) m.left.records) (tries_of w)).images)) (owner (work.Tcc action) e)
              ∙ ap (λ (q : Meaning). Some (log.Tried txn.xid b txn.call (or_none q).images)) (meant (Ok images) is_e s m sh))

          -- its statements have places
          tries_within : IsReady is k ts → AreStmtsWithin action.tries
          tries_within ready = (subst (IsOwnedWithin k.tables (open_of txn)) (owner (work.Tcc action) e) (open_within is k ts ready t (open_of txn) here).owned).1

          module _ (ran : on_try (fence_at k.fences leg) ≡ Runs) where
            meant_as : (r : Meaning) → effect k.tables action.tries ≡ r → (s : Setup) (m : Memory) → Shows is k ts s m
                → rules.try_meant (open_of txn) txn.manager txn.xid.0 txn.call b.0 r ≡ resource_answer s m (answer_input t xid from (registered.Granted b))
            meant_as r is_r s m sh =
                sym (ap (rules.try_meant (open_of txn) txn.manager txn.xid.0 txn.call b.0) (meant r is_r s m sh)) ∙ tcc_as Runs ran s m sh

            touches : (x : Effect) → effect k.tables action.tries ≡ Ok x → (index : Option ℕ) → untouched 1 x.touched ≡ index → (a : Answer)
                → a ≡ answer_by txn.call x.images [] (rules.try_touched (open_of txn) txn.manager txn.xid.0 txn.call b.0 index) → Answers is k ts (answer_input t xid from (registered.Granted b)) a
            touches x is_x (Some index) first = rests (change.Closes txn.ticket) tt _
                (λ s m sh. sym (ap (rules.try_touched (open_of txn) txn.manager txn.xid.0 txn.call b.0) first) ∙ meant_as (Ok x) is_x s m sh)
                (λ s m. refl) (λ s m now sh. refl) (dropped_framed (registered.Granted b) (why.NoRow index) (λ ready served. untouched_cause k.tables action.tries (tries_within ready).count x is_x index first))
            touches x is_x None first = asks (change.Closes txn.ticket) (log.Tried txn.xid b txn.call x.images) tt (durable.Tried txn.xid b txn.ticket) _
                (λ s m sh. sym (ap (rules.try_touched (open_of txn) txn.manager txn.xid.0 txn.call b.0) first) ∙ meant_as (Ok x) is_x s m sh)
                (tried_as x is_x) (λ s m. refl) (λ n. refl)
                (record { allowed = and_from _ _ (ap runs ran) (images_fit k.tables action.tries x rows is_x); runs = refl; placed = λ places. places_as (work.Tcc action) e places x is_x })
                (λ ready served. (told_framed txn.xid txn.call (called.Done b) (call_here ready) (done_told b (branch_granted t xid b served)), tt))

            means : (r : Meaning) → effect k.tables action.tries ≡ r → (a : Answer) → a ≡ try_meant txn leg r → Answers is k ts (answer_input t xid from (registered.Granted b)) a
            means (Ok x) is_x = touches x is_x (untouched 1 x.touched) refl
            means (Err (index, error)) is_r = rests (change.Closes txn.ticket) tt _ (λ s m sh. meant_as (Err (index, error)) is_r s m sh) (λ s m. refl) (λ s m now sh. refl)
                (dropped_framed (registered.Granted b) (why.Stmt index error) (λ ready served. fault_cause k.tables (tables_within k ready.knows) ready.knows.resource action.tries (tries_within ready) index error is_r))

          fenced : Framed is k ts (answer_input t xid from (registered.Granted b)) (change.Closes txn.ticket) (dropped txn txn.xid why.Fence).step
          fenced = dropped_framed (registered.Granted b) why.Fence (λ ready served. record { layout = tt; limits = tt })

          tcc_by : (f : FenceAnswer) → on_try (fence_at k.fences leg) ≡ f → (a : Answer) → a ≡ tcc_granted txn leg (effect k.tables action.tries) f → Answers is k ts (answer_input t xid from (registered.Granted b)) a
          tcc_by Runs is_f = means is_f (effect k.tables action.tries) refl
          tcc_by WasDone is_f = rests (change.Closes txn.ticket) tt _ (λ s m sh. tcc_as WasDone is_f s m sh) (λ s m. refl) (λ s m now sh. refl) fenced
          tcc_by Suspends is_f = rests (change.Closes txn.ticket) tt _ (λ s m sh. tcc_as Suspends is_f s m sh) (λ s m. refl) (λ s m now sh. refl) fenced
          tcc_by Refuses is_f = rests (change.Closes txn.ticket) tt _ (λ s m sh. tcc_as Refuses is_f s m sh) (λ s m. refl) (λ s m now sh. refl) fenced

        pub grants : AreRows k.tables → (w : Work) → txn.work ≡ w → (a : Answer) → a ≡ granted k txn leg w → Answers is k ts (answer_input t xid from (registered.Granted b)) a
        grants rows (work.At stmts) e = at_by stmts e (entry_at k.undo_log leg) refl
        grants rows (work.Tcc action) e = tcc_by action e rows (on_try (fence_at k.fences leg)) refl

      -- ---- no answer any more

      pub closes : (status : GlobalStatus) (a : Answer) → a ≡ dropped txn txn.xid (why.Closed status) → Answers is k ts (answer_input t xid from (registered.Closed status)) a
      closes status = drops (registered.Closed status) (why.Closed status) (λ ready served. record { layout = tt; limits = tt }) (λ s m sh. refl)

      pub comes_late : (a : Answer) → a ≡ dropped txn txn.xid why.Late → Answers is k ts (answer_input t xid from registered.Late) a
      comes_late = drops registered.Late why.Late (λ ready served. record { layout = tt; limits = tt }) (λ s m sh. refl)

-- where there is memory for it
module _ (is : TheSetup) (k : Known) (ts : Tickets) (t : Ticket) (txn : OpenTxn) (here : open_at ts.opens t ≡ Some (open_of txn)) (one : (txn.xid.0 == 0) ≡ false) where
  abbrev pub Heard : Registered → Answer → Type 0
  Heard answer a = (xid : Xid) → Hears is k ts (message.RegisterAnswer t xid answer) a

  pub granted_ok : (b : BranchId) → IsOpenOn k.tables (open_of txn) → AreRows k.tables → (known : Known) → known ≡ k → (result : Result Answer NoMemory)
      → IfOk result (λ a. a ≡ granted known txn (leg_of txn.xid b) txn.work) → IfOk result (Heard (registered.Granted b))
  granted_ok b open_on rows known same (Ok a) given = λ xid from.
      grants is k ts t xid from txn here one b open_on rows txn.work refl a (given ∙ ap (λ (q : Known). granted q txn (leg_of txn.xid b) txn.work) same)
  granted_ok b open_on rows known same (Err n) given = tt

  pub conflicted_ok : (key : RowKey) (holder : Xid) (rolling : Bool) → is.tries < 2 ^ 32 → (result : Result Answer NoMemory)
      → IfOk result (λ a. a ≡ conflicted is.tries txn holder rolling) → IfOk result (Heard (registered.Conflict key holder rolling))
  conflicted_ok key holder rolling small (Ok a) given = λ xid from. conflicts is k ts t xid from txn here one key holder small rolling a given
  conflicted_ok key holder rolling small (Err n) given = tt

  pub closed_ok : (status : GlobalStatus) (result : Result Answer NoMemory) → IfOk result (λ a. a ≡ dropped txn txn.xid (why.Closed status)) → IfOk result (Heard (registered.Closed status))
  closed_ok status (Ok a) given = λ xid from. closes is k ts t xid from txn here one status a given
  closed_ok status (Err n) given = tt

  pub late_ok : (result : Result Answer NoMemory) → IfOk result (λ a. a ≡ dropped txn txn.xid why.Late) → IfOk result (Heard registered.Late)
  late_ok (Ok a) given = λ xid from. comes_late is k ts t xid from txn here one a given
  late_ok (Err n) given = tt
