-- What a resource answers fits.
use Rattle.seata_types.specs.declared.acts.Durable.TheVariants as durable
use Rattle.history_law.proofs.UndoRecords.{commit_of, undo_committed, tried_stands}
use Rattle.std.proofs.lemmas.Bool.{cases_lt}
use Rattle.std.proofs.Common.{◌≡◌, ◌⊎◌, inl, inr, ◌+◌, ◌==◌, ◌||◌, not, nat_le, ℕ, zero, suc, Bool, true, false, cond, if◌then◌else◌, List, [], ◌∷◌, ◌++◌, find, filter, Option, Some, None, is_some, Result, Ok, Err, refl, ap, sym, subst, ◌∙◌, ◌<◌, ◌≤◌, ◌&&◌, min, map, option_map, arith, Ordering, Less, Equal, Greater}
use Rattle.std.specs.Ordering.{is_lt, match_ordering}
use Rattle.seata_types.specs.Orders.{key_cmp}
use Rattle.seata_types.specs.declared.acts.Act.{Act}
use Rattle.seata_types.specs.declared.acts.Act.TheVariants as act
use Rattle.seata_types.specs.declared.errors.StmtError.{StmtError}
use Rattle.seata_types.specs.declared.ids.Place.{Place}
use Rattle.seata_types.specs.declared.ids.Place.TheVariants as place
use Rattle.seata_types.specs.declared.ids.Ticket.{Ticket}
use Rattle.seata_types.specs.declared.ids.Xid.{Xid}
use Rattle.seata_types.specs.declared.messages.Input.{Input}
use Rattle.seata_types.specs.declared.messages.Input.TheVariants as input
use Rattle.seata_types.specs.declared.messages.Message.{Message}
use Rattle.seata_types.specs.declared.messages.Message.TheVariants as message
use Rattle.seata_types.specs.declared.messages.Registered.{Registered}
use Rattle.seata_types.specs.declared.messages.Registered.TheVariants as registered
use Rattle.seata_types.specs.declared.rows.Image.{Image}
use Rattle.seata_types.specs.declared.rows.RowKey.{RowKey}
use Rattle.seata_types.specs.declared.statements.Action.{Action}
use Rattle.seata_types.specs.declared.statements.Stmt.{Stmt}
use Rattle.seata_types.specs.declared.statements.Work.{Work}
use Rattle.seata_types.specs.declared.statements.Work.TheVariants as work
use Rattle.seata_types.specs.declared.statuses.BranchKind.{BranchKind}
use Rattle.seata_types.specs.declared.statuses.BranchKind.TheVariants as kind
use Rattle.seata_types.specs.declared.statuses.BranchStatus.{BranchStatus}
use Rattle.seata_types.specs.declared.statuses.BranchStatus.TheVariants as branch
use Rattle.local_tables.specs.Calls.{effect}
use Rattle.local_tables.specs.Rows.{Database, is_key}
use Rattle.local_tables.specs.declared.schemas.Effect.{Effect}
use Rattle.local_tables.proofs.KeyLaws.{key_exact, same_key}
use Rattle.durable_records.specs.declared.resources.ResourceRecord.{ResourceRecord}
use Rattle.durable_records.specs.Branches.{same_ticket}
use Rattle.durable_records.specs.Locks.{has_key}
use Rattle.durable_records.specs.UndoRecords.{Undo, undo_of, is_marked, undos, undos_of_call}
use Rattle.durable_records.specs.Fences.{FenceAnswer, Runs, WasDone, Suspends, Refuses, fence, on_try, on_confirm, on_cancel}
use Rattle.durable_records.specs.ResourceOrder.{image_keys, read_keys, only_read}
use Rattle.history_rules.specs.Own.{Event, Given, sends}
use Rattle.history_rules.specs.CoordinatorRules.{xid_of, branch_of, last_of}
use Rattle.history_rules.specs.ResourceMemory.{Setup, Owner, OfCall, OfLocal, Open, Memory, opening_tables, action_of, local_of, next_ticket, open_at, without, with_first, opening_of, has_row, no_effect, or_none, effect_on, or_empty, committed_of, tried_of, call_of}
use Rattle.history_rules.specs.ResourceRules
use Rattle.history_rules.specs.ResourceRules.{ticket_with, with_ticket, busy_in, lesser_row, busy_row, dirty_image, untouched, least_branch, is_for_call, is_for_local, request_of, requests, resource_answer, least_of, with_row, with_rows}
use Rattle.history_law.specs.Points.{In}
use Rattle.history_law.specs.Tickets.{Tickets, IsAtOf, HasAll, IsOfRollback}
use Rattle.history_law.proofs.Tests.{false_true, true_false, none_some, and_both, or_right, or_either, nat_same, find_none, found_in, in_filter, same_nat, and_left, and_right, of_filter}
use Rattle.history_law.proofs.CoordinatorCauses.{one_ticket, tcc_not_at}
use Rattle.history_law.proofs.CoordinatorAnswers.{last_in}
use Rattle.history_law.proofs.ResourceFits.{tables_now, IsFree, IsNew, AreFree, IsGranted, IsRollback, IsCommit, RolledBy, CancelledBy, ConfirmedBy, IsOfCommit, is_done_commit, is_done_rollback, SaysCommitted, SaysRollbacked, Fits, IsWorked}

pub same_ticket_itself : (t : Ticket) → same_ticket t t ≡ true
same_ticket_itself t = and_both (t.boot == t.boot) (t.seq == t.seq) (nat_same t.boot t.boot refl) (nat_same t.seq t.seq refl)

-- ---- rows that no open ticket has

module _ (opens : List Open) where
  ticket_none : (k : RowKey) (o : Option Open) (rest : Option (RowKey × Ticket)) → with_ticket k o rest ≡ None → (o ≡ None) × (rest ≡ None)
  ticket_none k None rest e = (refl, e)
  ticket_none k (Some g) rest e = none_some (sym e)

  none_busy_by : (k : RowKey) (ks : List RowKey) (r : RowKey) (p : Open) → In p opens → (ticket_with opens k ≡ None) × (busy_in opens ks ≡ None)
      → (busy_in opens ks ≡ None → has_key ks r ≡ true → has_row r p ≡ false) → (is_key k r ≡ true) ⊎ (has_key ks r ≡ true) → has_row r p ≡ false
  none_busy_by k ks r p i parts below (inl is) = subst (λ q. has_row q p ≡ false) (same_key k r is) (find_none (has_row k) opens p parts.0 i)
  none_busy_by k ks r p i parts below (inr rest) = below parts.1 rest

  none_busy : (ks : List RowKey) (r : RowKey) (p : Open) → busy_in opens ks ≡ None → has_key ks r ≡ true → In p opens → has_row r p ≡ false
  none_busy [] r p none h i = false_true h
  none_busy (k ∷ ks) r p none h i =
      none_busy_by k ks r p i (ticket_none k (ticket_with opens k) (busy_in opens ks) none) (λ n f. none_busy ks r p n f i) (or_either (is_key k r) (has_key ks r) h)

  pub none_of : (ks : List RowKey) → busy_in opens ks ≡ None → (p : Open) → In p opens → (r : RowKey) → has_key ks r ≡ true → has_row r p ≡ true → ⊥
  none_of ks none p i r h hp = true_false (sym hp ∙ none_busy ks r p none h i)

  lesser_by : (p q : RowKey × Ticket) (b : Bool) → (if b then Some q else Some p) ≡ None → ⊥
  lesser_by p q true e = none_some (sym e)
  lesser_by p q false e = none_some (sym e)

  lesser_none : (p q : Option (RowKey × Ticket)) → lesser_row p q ≡ None → (p ≡ None) × (q ≡ None)
  lesser_none None q e = (refl, e)
  lesser_none (Some p) None e = none_some (sym e)
  lesser_none (Some p) (Some q) e = absurd (lesser_by p q (is_lt (key_cmp q.0 p.0)) e)

  free_by : (e : Effect) (p : Open) → In p opens → (r : RowKey) → (busy_in opens (image_keys e.images) ≡ None) × (busy_in opens (read_keys e.reads) ≡ None)
      → (has_key (image_keys e.images) r ≡ true) ⊎ (has_key (read_keys e.reads) r ≡ true) → has_row r p ≡ true → ⊥
  free_by e p i r parts (inl h) hp = none_of (image_keys e.images) parts.0 p i r h hp
  free_by e p i r parts (inr h) hp = none_of (read_keys e.reads) parts.1 p i r h hp

  -- a ticket of an effect none of whose rows is busy
  free_of : (t : Ticket) (owner : Owner) (e f : Effect) → f ≡ e → busy_row opens e ≡ None → IsFree opens (Some (opening_of t owner f))
  free_of t owner e f same none p i r hn hp =
      free_by e p i r (lesser_none (busy_in opens (image_keys e.images)) (busy_in opens (read_keys e.reads)) none)
      (or_either (has_key (image_keys e.images) r) (has_key (read_keys e.reads) r) (subst (λ (q : Effect). (has_key (image_keys q.images) r || has_key (read_keys q.reads) r) ≡ true) same hn)) hp

  -- nor do the images of one
  images_free : (e f : Effect) → f ≡ e → busy_row opens e ≡ None → AreFree opens f.images
  images_free e f same none p i r h hp =
      none_of (image_keys e.images) (lesser_none (busy_in opens (image_keys e.images)) (busy_in opens (read_keys e.reads)) none).0 p i r
      (subst (λ (q : Effect). has_key (image_keys q.images) r ≡ true) same h) hp

-- ---- a request names every row of its ticket

has_first : (ks ls : List RowKey) (r : RowKey) → has_key ks r ≡ true → has_key (ks ++ ls) r ≡ true
has_first [] ls r h = false_true h
has_first (k ∷ ks) ls r h = by (is_key k r) h (has_first ks ls r)
  where
    by : (b : Bool) → (b || has_key ks r) ≡ true → (has_key ks r ≡ true → has_key (ks ++ ls) r ≡ true) → (b || has_key (ks ++ ls) r) ≡ true
    by true h below = refl
    by false h below = below h

has_second : (ks ls : List RowKey) (r : RowKey) → has_key ls r ≡ true → has_key (ks ++ ls) r ≡ true
has_second [] ls r h = h
has_second (k ∷ ks) ls r h = by (is_key k r) (has_second ks ls r h)
  where
    by : (b : Bool) → has_key (ks ++ ls) r ≡ true → (b || has_key (ks ++ ls) r) ≡ true
    by true h = refl
    by false h = h

read_has : (images reads : List RowKey) (r : RowKey) → has_key images r ≡ false → has_key reads r ≡ true → has_key (filter (λ k. not (has_key images k)) reads) r ≡ true
read_has images [] r none h = false_true h
read_has images (k ∷ reads) r none h = by (has_key images k) refl (is_key k r) refl h (read_has images reads r none)
  where
    by : (b : Bool) → has_key images k ≡ b → (t : Bool) → is_key k r ≡ t → (t || has_key reads r) ≡ true
        → (has_key reads r ≡ true → has_key (filter (λ q. not (has_key images q)) reads) r ≡ true)
        → has_key (cond (not b) (k ∷ filter (λ q. not (has_key images q)) reads) (filter (λ q. not (has_key images q)) reads)) r ≡ true
    by true e true f h below = true_false (sym e ∙ ap (has_key images) (same_key k r f) ∙ none)
    by true e false f h below = below h
    by false e true f h below = ap (λ q. q || has_key (filter (λ p. not (has_key images p)) reads) r) f
    by false e false f h below = ap (λ q. q || has_key (filter (λ p. not (has_key images p)) reads) r) f ∙ below h

rows_asked : (o : Open) → HasAll (image_keys o.images ++ only_read o.images o.reads) o
rows_asked o r h = by (has_key (image_keys o.images) r) refl h
  where
    by : (b : Bool) → has_key (image_keys o.images) r ≡ b → (b || has_key (read_keys o.reads) r) ≡ true → has_key (image_keys o.images ++ only_read o.images o.reads) r ≡ true
    by true e h = has_first (image_keys o.images) (only_read o.images o.reads) r e
    by false e h = has_second (image_keys o.images) (only_read o.images o.reads) r (read_has (image_keys o.images) (read_keys o.reads) r e h)

or_above : (b c d : Bool) → (b || c) ≡ true → (c ≡ true → d ≡ true) → (b || d) ≡ true
or_above true c d h below = refl
or_above false c d h below = below h

with_row_has : (key : RowKey) (ks : List RowKey) (r : RowKey) → (is_key key r ≡ true) ⊎ (has_key ks r ≡ true) → has_key (with_row key ks) r ≡ true
with_row_has key [] r (inl h) = ap (λ b. b || false) h
with_row_has key [] r (inr h) = false_true h
with_row_has key (k ∷ ks) r h = by (key_cmp key k) refl h (with_row_has key ks r)
  where
    by : (o : Ordering) → key_cmp key k ≡ o → (is_key key r ≡ true) ⊎ ((is_key k r || has_key ks r) ≡ true) → ((is_key key r ≡ true) ⊎ (has_key ks r ≡ true) → has_key (with_row key ks) r ≡ true)
        → has_key (match_ordering o (key ∷ k ∷ ks) (k ∷ ks) (k ∷ with_row key ks)) r ≡ true
    by Less e (inl a) below = ap (λ b. b || (is_key k r || has_key ks r)) a
    by Less e (inr h) below = or_right (is_key key r) h
    by Equal e (inl a) below = ap (λ b. b || has_key ks r) (ap (λ j. is_key j r) (sym (key_exact key k e)) ∙ a)
    by Equal e (inr h) below = h
    by Greater e (inl a) below = or_right (is_key k r) (below (inl a))
    by Greater e (inr h) below = or_above (is_key k r) (has_key ks r) (has_key (with_row key ks) r) h (λ m. below (inr m))

with_rows_have : (keys ks : List RowKey) (r : RowKey) → (has_key keys r ≡ true) ⊎ (has_key ks r ≡ true) → has_key (with_rows keys ks) r ≡ true
with_rows_have keys [] r (inl h) = h
with_rows_have keys [] r (inr h) = false_true h
with_rows_have keys (k ∷ ks) r (inl h) = with_row_has k (with_rows keys ks) r (inr (with_rows_have keys ks r (inl h)))
with_rows_have keys (k ∷ ks) r (inr h) = with_row_has k (with_rows keys ks) r (either (or_either (is_key k r) (has_key ks r) h) (λ b. with_rows_have keys ks r (inr b)))
  where
    either : (is_key k r ≡ true) ⊎ (has_key ks r ≡ true) → (has_key ks r ≡ true → has_key (with_rows keys ks) r ≡ true) → (is_key k r ≡ true) ⊎ (has_key (with_rows keys ks) r ≡ true)
    either (inl a) below = inl a
    either (inr b) below = inr (below b)

local_rows_asked : (o : Open) → HasAll (with_rows (image_keys o.images) (read_keys o.reads)) o
local_rows_asked o r h = with_rows_have (image_keys o.images) (read_keys o.reads) r (or_either (has_key (image_keys o.images) r) (has_key (read_keys o.reads) r) h)

-- ---- answers

module _ (s : Setup) (m : Memory) where
  abbrev rs : List ResourceRecord
  rs = m.left.records

  abbrev db : Database
  db = tables_now s m

  abbrev next : Ticket
  next = next_ticket m

  -- what an open ticket asks for
  request_fits : (event : Event) (done : Act) → Rattle.history_law.proofs.ResourceFits.ActFits s m event done → (o : Open) (owner : Owner) → o.owner ≡ owner
      → In o (Rattle.history_rules.specs.ResourceMemory.opens_after s db event done m.opens) → Fits s m event (sends done place.Tc (request_of s.number o owner))
  request_fits event done fits o (OfCall man x c (work.At stmts)) is i =
      (fits, record { number = refl; open_ticket = o; there = i; ticket = refl; asks = record { manager = man; work = work.At stmts; owner = is; of_kind = refl; touched = λ k. refl; rows = λ k. rows_asked o } })
  request_fits event done fits o (OfCall man x c (work.Tcc a)) is i =
      (fits, record { number = refl; open_ticket = o; there = i; ticket = refl; asks = record { manager = man; work = work.Tcc a; owner = is; of_kind = refl; touched = λ k. tcc_not_at k; rows = λ k. tcc_not_at k } })
  request_fits event done fits o (OfLocal k) is i =
      (fits, record { number = refl; open_ticket = o; there = i; ticket = refl; rows = local_rows_asked o })

  -- ---- calls

  module _ (from : Place) where
    abbrev called : (man res x c : ℕ) → Work → Event
    called man res x c w = Given (input.Message from (message.Call (xid_of x) man res c w))

    opens_at : (man res x c : ℕ) (stmts : List Stmt) → IsNew m (OfCall man x c (work.At stmts)) → (e : Effect) → effect_on db stmts ≡ e → busy_row m.opens e ≡ None
        → Fits s m (called man res x c (work.At stmts)) (requests s.number (act.Opened (xid_of x) c next) (opening_of next (OfCall man x c (work.At stmts)) e))
    opens_at man res x c stmts new e same free =
        subst (λ (f : Effect). Fits s m (called man res x c (work.At stmts)) (requests s.number (act.Opened (xid_of x) c next) (opening_of next (OfCall man x c (work.At stmts)) f))) same
        (request_fits (called man res x c (work.At stmts)) (act.Opened (xid_of x) c next) (refl, free_of m.opens next (OfCall man x c (work.At stmts)) e (effect_on db stmts) same free, new, (man, work.At stmts, refl))
        (opening_of next (OfCall man x c (work.At stmts)) (effect_on db stmts)) (OfCall man x c (work.At stmts)) refl (inl refl))

    free_call_fits : (man res x c : ℕ) (stmts : List Stmt) → IsNew m (OfCall man x c (work.At stmts)) → (e : Effect) → effect db stmts ≡ Ok e → (busy : Option (RowKey × Ticket)) → busy_row m.opens e ≡ busy
        → Fits s m (called man res x c (work.At stmts)) (ResourceRules.free_call s.number next man x c (work.At stmts) e busy)
    free_call_fits man res x c stmts new e means (Some (key, by)) free = (tt, tt)
    free_call_fits man res x c stmts new e means None free = opens_at man res x c stmts new e (ap or_none means) free

    new_call_fits : (man res x c : ℕ) (stmts : List Stmt) → IsNew m (OfCall man x c (work.At stmts)) → (r : Result Effect (ℕ × StmtError)) → effect db stmts ≡ r
        → Fits s m (called man res x c (work.At stmts)) (ResourceRules.new_call s.number m.opens next man x c (work.At stmts) r)
    new_call_fits man res x c stmts new (Err (index, error)) means = (tt, tt)
    new_call_fits man res x c stmts new (Ok e) means = free_call_fits man res x c stmts new e means (busy_row m.opens e) refl

    no_rows : (t : Ticket) (owner : Owner) → IsFree m.opens (Some (opening_of t owner no_effect))
    no_rows t owner p i r hn hp = false_true hn

    least_in_by : (b : ℕ) (bs : List ℕ) (c : ℕ) (o : Option ℕ) → least_branch bs ≡ o → ((d : ℕ) → least_branch bs ≡ Some d → In d bs) → least_of b o ≡ Some c → In c (b ∷ bs)
    least_in_by b bs c None e below is = let same : b ≡ c = cc in inl (sym same)
    least_in_by b bs c (Some d) e below is = let same : min b d ≡ c = cc in either (cases_lt b d) same
      where
        either : (b < d) ⊎ (d ≤ b) → min b d ≡ c → In c (b ∷ bs)
        either (inl less) same = let q : c ≡ b = omega arith in inl q
        either (inr more) same = let q : c ≡ d = omega arith in inr (subst (λ z. In z bs) (sym q) (below d e))

    -- the least branch is one of them
    least_in : (bs : List ℕ) (c : ℕ) → least_branch bs ≡ Some c → In c bs
    least_in [] c e = none_some e
    least_in (b ∷ bs) c e = least_in_by b bs c (least_branch bs) refl (least_in bs) e

    in_map : (us : List Undo) (b : ℕ) → In b (map (λ u. u.branch) us) → (u : Undo) × (In u us) × (b ≡ u.branch)
    in_map [] b i = absurd i
    in_map (u ∷ us) b (inl is) = (u, inl refl, is)
    in_map (u ∷ us) b (inr i) = let k = in_map us b i in (k.0, inr k.1, k.2)

    done_work : (event : Event) (done : Act) (x c : ℕ) (w : Work) (b : ℕ) → In b (ResourceRules.done_for s rs m.opens next x c w) → IsWorked s m event done x c b
    done_work event done x c (work.At stmts) b i =
        let u = in_map (undos_of_call rs x c) b i in
        let p = of_filter (λ (v : Undo). (v.xid == x) && (v.call == c)) (undos rs) u.0 u.1 in
        record {
          work = commit_of u.0;
          is = (same_nat u.0.xid x (and_left (u.0.xid == x) (u.0.call == c) p.1), same_nat u.0.call c (and_right (u.0.xid == x) (u.0.call == c) p.1), sym u.2);
          stands = inl (undo_committed rs u.0 p.0);
        }
    done_work event done x c (work.Tcc a) b i = let k = tried_stands rs x c b i in record { work = k.work; is = k.is; stands = inl k.there }

    least_none : (bs : List ℕ) → least_branch bs ≡ None → (b : ℕ) → In b bs → ⊥
    least_none [] e b i = absurd i
    least_none (d ∷ bs) e b i = by (least_branch bs) e
      where
        by : (o : Option ℕ) → least_of d o ≡ None → ⊥
        by None e = none_some (sym e)
        by (Some q) e = none_some (sym e)

    to_map : (us : List Undo) (u : Undo) → In u us → In u.branch (map (λ v. v.branch) us)
    to_map [] u i = absurd i
    to_map (v ∷ us) u (inl is) = inl (ap (λ q. q.branch) is)
    to_map (v ∷ us) u (inr i) = inr (to_map us u i)

    -- nothing of the call is done or open
    is_new : (man x c : ℕ) (stmts : List Stmt) → least_branch (ResourceRules.done_for s rs m.opens next x c (work.At stmts)) ≡ None → find (λ o. is_for_call x c o.owner) m.opens ≡ None → IsNew m (OfCall man x c (work.At stmts))
    is_new man x c stmts e none = (
      λ u i ux uc.
          let mine = in_filter (λ (v : Undo). (v.xid == x) && (v.call == c)) (undos rs) u i (and_both (u.xid == x) (u.call == c) (nat_same u.xid x ux) (nat_same u.call c uc)) in
          least_none (map (λ (v : Undo). v.branch) (undos_of_call rs x c)) e u.branch (to_map (undos_of_call rs x c) u mine),
      λ p i. find_none (λ o. is_for_call x c o.owner) m.opens p none i,
    )

    call_fits : (man res x c : ℕ) (w : Work) (b : Option ℕ) → least_branch (ResourceRules.done_for s rs m.opens next x c w) ≡ b → (waits : Option Open) → find (λ o. is_for_call x c o.owner) m.opens ≡ waits
        → Fits s m (called man res x c w) (ResourceRules.call_answer s.number db m.opens next man x c w b waits)
    call_fits man res x c w (Some b) e waits found = (tt, done_work (called man res x c w) (act.Again (xid_of x) c (branch_of b)) x c w b (least_in (ResourceRules.done_for s rs m.opens next x c w) b e))
    call_fits man res x c w None e (Some o) found = (tt, tt)
    call_fits man res x c (work.At stmts) None e None found = new_call_fits man res x c stmts (is_new man x c stmts e found) (effect db stmts) refl
    call_fits man res x c (work.Tcc a) None e None found =
        request_fits (called man res x c (work.Tcc a)) (act.Opened (xid_of x) c next) (refl, no_rows next (OfCall man x c (work.Tcc a)), tt, (man, work.Tcc a, refl))
        (opening_of next (OfCall man x c (work.Tcc a)) no_effect) (OfCall man x c (work.Tcc a)) refl (inl refl)

    on_call_fits : (man res x c : ℕ) (w : Work) → Fits s m (called man res x c w) (ResourceRules.on_call s rs m.opens next man x c w)
    on_call_fits man res zero c w = (tt, tt)
    on_call_fits man res (suc x) c w =
        call_fits man res (suc x) c w (least_branch (ResourceRules.done_for s rs m.opens next (suc x) c w)) refl (find (λ o. is_for_call (suc x) c o.owner) m.opens) refl

    -- ---- answers to a registration

    module _ (t : Ticket) (xid : Xid) where
      abbrev answered : Registered → Event
      answered answer = Given (input.Message from (message.RegisterAnswer t xid answer))

      ticket_is : (o : Open) → open_at m.opens t ≡ Some o → o.ticket ≡ t
      ticket_is o found = one_ticket o.ticket t (found_in (λ p. same_ticket p.ticket t) m.opens o found).1

      grants_it : (o : Open) → open_at m.opens t ≡ Some o → (b : ℕ) → IsGranted (answered (registered.Granted (branch_of b))) o.ticket (branch_of b)
      grants_it o found b = record { from = from; xid = xid; is = ap (λ q. Given (input.Message from (message.RegisterAnswer q xid (registered.Granted (branch_of b))))) (sym (ticket_is o found)) }

      at_fits : (o : Open) → open_at m.opens t ≡ Some o → (man x c : ℕ) → IsAtOf x o.owner → call_of o.owner ≡ c → (b : ℕ) (u : Option Undo) → undo_of rs x b ≡ u → (marked : Bool) → is_marked rs x b ≡ marked
          → Fits s m (answered (registered.Granted (branch_of b))) (ResourceRules.at_granted o man x c b u marked)
      at_fits o found man x c at call b (Some u) eu marked em = (tt, tt)
      at_fits o found man x c at call b None eu true em = (tt, tt)
      at_fits o found man x c at call b None eu false em = (
        record { open_ticket = o; found = ap (λ q. open_at m.opens q) (ticket_is o found) ∙ found; at = at; unmarked = em; fresh = eu; granted = grants_it o found b },
        record { work = committed_of (xid_of x) (branch_of b) o; is = (refl, call, refl); stands = inr (durable.Committed (xid_of x) (branch_of b) o.ticket, refl, ap (λ q. option_map (committed_of (xid_of x) (branch_of b)) q) (ap (λ q. open_at m.opens q) (ticket_is o found) ∙ found)) },
      )

      try_touched_fits : (o : Open) → open_at m.opens t ≡ Some o → (man x c b : ℕ) (a : Action) → o.owner ≡ OfCall man x c (work.Tcc a) → on_try (fence rs x b) ≡ Runs → (index : Option ℕ)
          → Fits s m (answered (registered.Granted (branch_of b))) (ResourceRules.try_touched o man x c b index)
      try_touched_fits o found man x c b a owner runs (Some index) = (tt, tt)
      try_touched_fits o found man x c b a owner runs None = (
        record { open_ticket = o; found = ap (λ q. open_at m.opens q) (ticket_is o found) ∙ found; manager = man; call = c; action = a; owner = owner; runs = runs; granted = grants_it o found b },
        record { work = tried_of (xid_of x) (branch_of b) db o; is = (refl, ap call_of owner, refl); stands = inr (durable.Tried (xid_of x) (branch_of b) o.ticket, refl, ap (λ q. option_map (tried_of (xid_of x) (branch_of b) db) q) (ap (λ q. open_at m.opens q) (ticket_is o found) ∙ found)) },
      )

      try_fits : (o : Open) → open_at m.opens t ≡ Some o → (man x c b : ℕ) (a : Action) → o.owner ≡ OfCall man x c (work.Tcc a) → on_try (fence rs x b) ≡ Runs → (r : Result Effect (ℕ × StmtError))
          → Fits s m (answered (registered.Granted (branch_of b))) (ResourceRules.try_meant o man x c b r)
      try_fits o found man x c b a owner runs (Err (index, error)) = (tt, tt)
      try_fits o found man x c b a owner runs (Ok e) = try_touched_fits o found man x c b a owner runs (untouched 1 e.touched)

      tcc_fits : (o : Open) → open_at m.opens t ≡ Some o → (man x c b : ℕ) (a : Action) → o.owner ≡ OfCall man x c (work.Tcc a) → (f : FenceAnswer) → on_try (fence rs x b) ≡ f
          → Fits s m (answered (registered.Granted (branch_of b))) (ResourceRules.tcc_granted o man x c b (effect db a.tries) f)
      tcc_fits o found man x c b a owner Runs e = try_fits o found man x c b a owner e (effect db a.tries)
      tcc_fits o found man x c b a owner WasDone e = (tt, tt)
      tcc_fits o found man x c b a owner Suspends e = (tt, tt)
      tcc_fits o found man x c b a owner Refuses e = (tt, tt)

      granted_fits : (o : Open) → open_at m.opens t ≡ Some o → (owner : Owner) → o.owner ≡ owner → (b : ℕ)
          → Fits s m (answered (registered.Granted (branch_of b))) (ResourceRules.granted_answer s rs m.opens next o owner b)
      granted_fits o found (OfCall man x c (work.At stmts)) is b =
          at_fits o found man x c (subst (λ q. IsAtOf x q) (sym is) refl) (ap call_of is) b (undo_of rs x b) refl (is_marked rs x b) refl
      granted_fits o found (OfCall man x c (work.Tcc a)) is b = tcc_fits o found man x c b a is (on_try (fence rs x b)) refl
      granted_fits o found (OfLocal k) is b = (tt, tt)

      conflict_by : (event : Event) (o : Open) (man x c : ℕ) (holder : Xid) (last : Bool) → nat_le s.tries (o.conflicts + 1) ≡ last → Fits s m event (ResourceRules.conflict_answer s.tries o man x c holder false)
      conflict_by event o man x c holder true e = rw e (tt, tt)
      conflict_by event o man x c holder false e = rw e (tt, tt)

      conflict_fits : (event : Event) (o : Open) (man x c : ℕ) (holder : Xid) (rolling : Bool) → Fits s m event (ResourceRules.conflict_answer s.tries o man x c holder rolling)
      conflict_fits event o man x c holder true = (tt, tt)
      conflict_fits event o man x c holder false = conflict_by event o man x c holder (nat_le s.tries (o.conflicts + 1)) refl

      ticket_fits : (o : Open) → open_at m.opens t ≡ Some o → (owner : Owner) → o.owner ≡ owner → (answer : Registered)
          → Fits s m (answered answer) (ResourceRules.ticket_answer s rs m.opens next o owner answer)
      ticket_fits o found owner is (registered.Granted b) = granted_fits o found owner is b.0
      ticket_fits o found (OfCall man x c w) is (registered.Conflict key holder rolling) = conflict_fits (answered (registered.Conflict key holder rolling)) o man x c holder rolling
      ticket_fits o found (OfCall man x c w) is (registered.Closed status) = (tt, tt)
      ticket_fits o found (OfCall man x c w) is registered.Late = (tt, tt)
      ticket_fits o found (OfLocal k) is (registered.Conflict key holder rolling) = (tt, tt)
      ticket_fits o found (OfLocal k) is (registered.Closed status) = (tt, tt)
      ticket_fits o found (OfLocal k) is registered.Late = (tt, tt)

      on_registered_fits : (o : Option Open) → open_at m.opens t ≡ o → (answer : Registered) → Fits s m (answered answer) (ResourceRules.on_registered s rs m.opens next o answer)
      on_registered_fits None found answer = (tt, tt)
      on_registered_fits (Some o) found answer = ticket_fits o found o.owner refl answer

    -- ---- the second phase

    module _ (x b man c : ℕ) where
      abbrev rolling : BranchKind → Event
      rolling k = Given (input.Message from (message.BranchRollback (xid_of x) (branch_of b) k man c))

      abbrev committing : BranchKind → Event
      committing k = Given (input.Message from (message.BranchCommit (xid_of x) (branch_of b) k man c))

      asked_rollback : (k : BranchKind) → IsRollback (rolling k) x b k
      asked_rollback k = record { from = from; manager = man; call = c; is = refl }

      asked_commit : (k : BranchKind) → IsCommit (committing k) x b k
      asked_commit k = record { from = from; manager = man; call = c; is = refl }

      at_rolled : (st : BranchStatus) → IsOfRollback st → (done : Act) → (is_done_rollback st ≡ true → RolledBy m x b done) → SaysRollbacked m (rolling kind.At) done x b st
      at_rolled st is done by = record { of_kind = kind.At; asked = asked_rollback kind.At; status = is; rolled = λ k e. by e; cancelled = λ k e. tcc_not_at (sym k) }

      tcc_rolled : (st : BranchStatus) → IsOfRollback st → (done : Act) → (is_done_rollback st ≡ true → CancelledBy m x b done) → SaysRollbacked m (rolling kind.Tcc) done x b st
      tcc_rolled st is done by = record { of_kind = kind.Tcc; asked = asked_rollback kind.Tcc; status = is; rolled = λ k e. tcc_not_at k; cancelled = λ k e. by e }

      at_committed : (st : BranchStatus) → IsOfCommit st → (done : Act) → SaysCommitted m (committing kind.At) done x b st
      at_committed st is done = record { of_kind = kind.At; asked = asked_commit kind.At; status = is; confirmed = λ k e. tcc_not_at (sym k) }

      tcc_committed : (st : BranchStatus) → IsOfCommit st → (done : Act) → (is_done_commit st ≡ true → ConfirmedBy m x b done) → SaysCommitted m (committing kind.Tcc) done x b st
      tcc_committed st is done by = record { of_kind = kind.Tcc; asked = asked_commit kind.Tcc; status = is; confirmed = λ k e. by e }

      undo_fits : (u : Undo) → undo_of rs x b ≡ Some u → busy_in m.opens (image_keys u.images) ≡ None → (i : Option Image) → dirty_image db u.images ≡ i
          → Fits s m (rolling kind.At) (ResourceRules.at_undo db x b i)
      undo_fits u eu free (Some i) dirty =
          (record { asked = asked_rollback kind.At; undo = u; found = eu; image = i; dirty = dirty; key_is = refl }, at_rolled branch.PhaseTwoRollbackFailedUnretryable tt _ (λ e. false_true e))
      undo_fits u eu free None dirty =
          (record { asked = asked_rollback kind.At; undo = u; found = eu; free = none_of m.opens (image_keys u.images) free }, at_rolled branch.PhaseTwoRollbacked tt _ (λ e. (refl, refl)))

      record_fits : (u : Undo) → undo_of rs x b ≡ Some u → (busy : Option (RowKey × Ticket)) → busy_in m.opens (image_keys u.images) ≡ busy → Fits s m (rolling kind.At) (ResourceRules.at_record db x b u.images busy)
      record_fits u eu (Some (key, by)) free = (tt, at_rolled branch.PhaseTwoRollbackFailedRetryable tt _ (λ e. false_true e))
      record_fits u eu None free = undo_fits u eu free (dirty_image db u.images) refl

      at_rollback_fits : (marked : Bool) → is_marked rs x b ≡ marked → (u : Option Undo) → undo_of rs x b ≡ u → Fits s m (rolling kind.At) (ResourceRules.at_rollback db m.opens x b marked u)
      at_rollback_fits true em u eu = (tt, at_rolled branch.PhaseTwoRollbacked tt _ (λ e. em))
      at_rollback_fits false em None eu = ((asked_rollback kind.At, eu), at_rolled branch.PhaseTwoRollbacked tt _ (λ e. (refl, refl)))
      at_rollback_fits false em (Some u) eu = record_fits u eu (busy_in m.opens (image_keys u.images)) refl

      cancel_fits : on_cancel (fence rs x b) ≡ Runs → (r : Result Effect (ℕ × StmtError)) → Fits s m (rolling kind.Tcc) (ResourceRules.cancel_runs x b r)
      cancel_fits runs (Err (index, error)) = (tt, tcc_rolled branch.PhaseTwoRollbackFailedUnretryable tt _ (λ e. false_true e))
      cancel_fits runs (Ok e) = ((asked_rollback kind.Tcc, runs), tcc_rolled branch.PhaseTwoRollbacked tt _ (λ e. (refl, refl)))

      tcc_rollback_fits : (a : Action) (f : FenceAnswer) → on_cancel (fence rs x b) ≡ f → Fits s m (rolling kind.Tcc) (ResourceRules.tcc_rollback x b (effect db a.cancels) f)
      tcc_rollback_fits a WasDone e = (tt, tcc_rolled branch.PhaseTwoRollbacked tt _ (λ q. e))
      tcc_rollback_fits a Refuses e = (inr (asked_rollback kind.Tcc, e), tcc_rolled branch.PhaseTwoRollbackFailedRetryable tt _ (λ q. false_true q))
      tcc_rollback_fits a Suspends e = ((asked_rollback kind.Tcc, e), tcc_rolled branch.PhaseTwoRollbacked tt _ (λ q. (refl, refl)))
      tcc_rollback_fits a Runs e = cancel_fits e (effect db a.cancels)

      rollback_action : (a : Option Action) → Fits s m (rolling kind.Tcc) (ResourceRules.with_action (λ a. ResourceRules.tcc_rollback x b (effect db a.cancels) (on_cancel (fence rs x b))) a)
      rollback_action None = (tt, tt)
      rollback_action (Some a) = tcc_rollback_fits a (on_cancel (fence rs x b)) refl

      on_rollback_fits : (k : BranchKind) → Fits s m (rolling k) (ResourceRules.on_rollback s rs m.opens next x b k man c)
      on_rollback_fits kind.At = at_rollback_fits (is_marked rs x b) refl (undo_of rs x b) refl
      on_rollback_fits kind.Tcc = rollback_action (action_of s man c)

      at_commit_fits : (u : Option Undo) → undo_of rs x b ≡ u → Fits s m (committing kind.At) (ResourceRules.at_commit x b u)
      at_commit_fits (Some u) eu = ((asked_commit kind.At, ap (λ o. is_some o) eu), at_committed branch.PhaseTwoCommitted tt _)
      at_commit_fits None eu = (tt, at_committed branch.PhaseTwoCommitted tt _)

      confirm_fits : on_confirm (fence rs x b) ≡ Runs → (r : Result Effect (ℕ × StmtError)) → Fits s m (committing kind.Tcc) (ResourceRules.confirm_runs x b r)
      confirm_fits runs (Err (index, error)) = (tt, tcc_committed branch.PhaseTwoCommitFailedUnretryable tt _ (λ e. false_true e))
      confirm_fits runs (Ok e) = ((asked_commit kind.Tcc, runs), tcc_committed branch.PhaseTwoCommitted tt _ (λ e. (refl, refl)))

      tcc_commit_fits : (a : Action) (f : FenceAnswer) → on_confirm (fence rs x b) ≡ f → Fits s m (committing kind.Tcc) (ResourceRules.tcc_commit x b (effect db a.confirms) f)
      tcc_commit_fits a WasDone e = (tt, tcc_committed branch.PhaseTwoCommitted tt _ (λ q. e))
      tcc_commit_fits a Runs e = confirm_fits e (effect db a.confirms)
      tcc_commit_fits a Refuses e = (inl (asked_commit kind.Tcc, e), tcc_committed branch.PhaseTwoCommitFailedRetryable tt _ (λ q. false_true q))
      tcc_commit_fits a Suspends e = absurd (never (fence rs x b) e)
        where
          refuses : Refuses ≡ Suspends → ⊥
          refuses e = cc

          runs : Runs ≡ Suspends → ⊥
          runs e = cc

          was_done : WasDone ≡ Suspends → ⊥
          was_done e = cc

          never : (f : Option Rattle.durable_records.specs.Fences.Fence) → on_confirm f ≡ Suspends → ⊥
          never None e = refuses e
          never (Some Rattle.durable_records.specs.Fences.IsTried) e = runs e
          never (Some Rattle.durable_records.specs.Fences.IsCommitted) e = was_done e
          never (Some Rattle.durable_records.specs.Fences.IsRollbacked) e = refuses e
          never (Some Rattle.durable_records.specs.Fences.IsSuspended) e = refuses e

      commit_action : (a : Option Action) → Fits s m (committing kind.Tcc) (ResourceRules.with_action (λ a. ResourceRules.tcc_commit x b (effect db a.confirms) (on_confirm (fence rs x b))) a)
      commit_action None = (tt, tt)
      commit_action (Some a) = tcc_commit_fits a (on_confirm (fence rs x b)) refl

      on_commit_fits : (k : BranchKind) → Fits s m (committing k) (ResourceRules.on_commit s rs m.opens next x b k man c)
      on_commit_fits kind.At = at_commit_fits (undo_of rs x b) refl
      on_commit_fits kind.Tcc = commit_action (action_of s man c)

    -- ---- the answer to a lock query

    module _ (t : Ticket) (held : Option (RowKey × Xid)) where
      abbrev told : Event
      told = Given (input.Message from (message.LockAnswer t held))

    lock_fits : (t : Ticket) (o : Open) → open_at m.opens t ≡ Some o → (owner : Owner) → o.owner ≡ owner → (held : Option (RowKey × Xid))
        → Fits s m (told t held) (ResourceRules.lock_answer o owner held)
    lock_fits t o found (OfCall man x c w) is held = (tt, tt)
    lock_fits t o found (OfLocal k) is (Some (key, holder)) = (tt, tt)
    lock_fits t o found (OfLocal k) is None =
        let same : o.ticket ≡ t = one_ticket o.ticket t (found_in (λ p. same_ticket p.ticket t) m.opens o found).1 in
        (record { open_ticket = o; found = ap (λ q. open_at m.opens q) same ∙ found; owner = is; from = from; is = ap (λ q. Given (input.Message from (message.LockAnswer q None))) (sym same) }, tt)

    on_lock_fits : (t : Ticket) (o : Option Open) → open_at m.opens t ≡ o → (held : Option (RowKey × Xid)) → Fits s m (told t held) (ResourceRules.on_lock_answer s rs m.opens next o held)
    on_lock_fits t None found held = (tt, tt)
    on_lock_fits t (Some o) found held = lock_fits t o found o.owner refl held

    message_fits : (heard : Message) → Fits s m (Given (input.Message from heard)) (ResourceRules.on_message s rs m.opens next heard)
    message_fits (message.Call xid man res c w) = on_call_fits man res xid.0 c w
    message_fits (message.RegisterAnswer t xid answer) = on_registered_fits t xid (open_at m.opens t) refl answer
    message_fits (message.LockAnswer t held) = on_lock_fits t (open_at m.opens t) refl held
    message_fits (message.BranchCommit xid b k man c) = on_commit_fits xid.0 b.0 man c k
    message_fits (message.BranchRollback xid b k man c) = on_rollback_fits xid.0 b.0 man c k
    message_fits _ = (tt, tt)

  -- ---- local transactions and outside writes

  module _ (k : ℕ) (stmts : List Stmt) (known : local_of s k ≡ Some stmts) where
    effect_is : (e : Effect) → effect db stmts ≡ Ok e → effect_on db (or_empty (local_of s k)) ≡ e
    effect_is e means = ap (λ o. effect_on db (or_empty o)) known ∙ ap or_none means

    local_free_fits : (e : Effect) → effect db stmts ≡ Ok e → (busy : Option (RowKey × Ticket)) → busy_row m.opens e ≡ busy
        → Fits s m (Given (input.Local k)) (ResourceRules.local_free s.number next k e busy)
    local_free_fits e means (Some (key, by)) free = (tt, tt)
    local_free_fits e means None free =
        subst (λ (f : Effect). Fits s m (Given (input.Local k)) (requests s.number (act.OpenedLocal k next) (opening_of next (OfLocal k) f))) (effect_is e means)
        (request_fits (Given (input.Local k)) (act.OpenedLocal k next) (refl, free_of m.opens next (OfLocal k) e (effect_on db (or_empty (local_of s k))) (effect_is e means) free, tt, refl)
        (opening_of next (OfLocal k) (effect_on db (or_empty (local_of s k)))) (OfLocal k) refl (inl refl))

    local_meant_fits : (r : Result Effect (ℕ × StmtError)) → effect db stmts ≡ r → Fits s m (Given (input.Local k)) (ResourceRules.local_meant s.number m.opens next k r)
    local_meant_fits (Err (index, error)) means = (tt, tt)
    local_meant_fits (Ok e) means = local_free_fits e means (busy_row m.opens e) refl

    local_fits : (o : Option Open) → Fits s m (Given (input.Local k)) (ResourceRules.local_answer s.number db m.opens next k stmts o)
    local_fits (Some o) = (tt, tt)
    local_fits None = local_meant_fits (effect db stmts) refl

    outside_free_fits : (e : Effect) → effect db stmts ≡ Ok e → (busy : Option (RowKey × Ticket)) → busy_row m.opens e ≡ busy
        → Fits s m (Given (input.Outside k)) (ResourceRules.outside_free k busy)
    outside_free_fits e means (Some (key, by)) free = (tt, tt)
    outside_free_fits e means None free = (images_free m.opens e (effect_on db (or_empty (local_of s k))) (effect_is e means) free, tt)

    outside_meant_fits : (r : Result Effect (ℕ × StmtError)) → effect db stmts ≡ r → Fits s m (Given (input.Outside k)) (ResourceRules.outside_meant m.opens k r)
    outside_meant_fits (Err (index, error)) means = (tt, tt)
    outside_meant_fits (Ok e) means = outside_free_fits e means (busy_row m.opens e) refl

  on_local_fits : (k : ℕ) (o : Option (List Stmt)) → local_of s k ≡ o → Fits s m (Given (input.Local k)) (ResourceRules.on_local s rs m.opens next k o)
  on_local_fits k None known = (tt, tt)
  on_local_fits k (Some stmts) known = local_fits k stmts known (find (λ o. is_for_local k o.owner) m.opens)

  on_outside_fits : (k : ℕ) (o : Option (List Stmt)) → local_of s k ≡ o → Fits s m (Given (input.Outside k)) (ResourceRules.on_outside s rs m.opens next k o)
  on_outside_fits k None known = (tt, tt)
  on_outside_fits k (Some stmts) known = outside_meant_fits k stmts known (effect db stmts) refl

  -- ---- turns

  module _ (tickets : Tickets m) where
    still_in : (o : Open) → In o m.opens → (found : Option Open) → open_at m.opens o.ticket ≡ found → In o (with_first found (without m.opens o.ticket))
    still_in o i None e = true_false (sym (same_ticket_itself o.ticket) ∙ find_none (λ p. same_ticket p.ticket o.ticket) m.opens o e i)
    still_in o i (Some p) e =
        let k = found_in (λ q. same_ticket q.ticket o.ticket) m.opens p e in
        inl (tickets.distinct o p i k.0 (sym (one_ticket p.ticket o.ticket k.1)))

    turn_fits : (o : Option Open) → last_of m.opens ≡ o → Fits s m (Given input.Turn) (ResourceRules.on_turn s rs m.opens next o)
    turn_fits None e = (tt, tt)
    turn_fits (Some o) e = request_fits (Given input.Turn) (act.Resent o.ticket) tt o o.owner refl (still_in o (last_in m.opens o e) (open_at m.opens o.ticket) refl)

pub resource_fits : (s : Setup) (m : Memory) → Tickets m → (given : Input) → Fits s m (Given given) (resource_answer s m given)
resource_fits s m tickets input.Turn = turn_fits s m tickets (last_of m.opens) refl
resource_fits s m tickets (input.Message from heard) = message_fits s m from heard
resource_fits s m tickets (input.Local k) = on_local_fits s m k (local_of s k) refl
resource_fits s m tickets (input.Outside k) = on_outside_fits s m k (local_of s k) refl
