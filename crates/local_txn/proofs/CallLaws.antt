-- What the calls leave, as the model's value: each over what was open before.
use Rattle.std.proofs.Common.{◌≡◌, ◌+◌, ◌-◌, ◌≤◌, not, ℕ, true, cond, List, [], ◌∷◌, Option, Some, None, is_some, option_map, Result, Ok, Err, refl, ap, sym, subst, ◌∙◌, arith}
use Rattle.seata_types.specs.declared.errors.StmtError.{StmtError}
use Rattle.seata_types.specs.declared.ids.Ticket.{Ticket}
use Rattle.seata_types.specs.declared.ids.Xid.{Xid}
use Rattle.seata_types.specs.declared.rows.Image.{Image}
use Rattle.seata_types.specs.declared.rows.ReadRow.{ReadRow}
use Rattle.seata_types.specs.declared.rows.RowKey.{RowKey}
use Rattle.seata_types.specs.declared.statements.Work.{Work}
use Rattle.local_tables.specs.Calls.{Means}
use Rattle.local_tables.specs.declared.schemas.Effect.{Effect}
use Rattle.local_tables.specs.declared.schemas.EffectError.{EffectError}
use Rattle.local_tables.specs.declared.schemas.EffectError.TheVariants as fault
use Rattle.durable_records.specs.Branches.{same_ticket}
use Rattle.durable_records.specs.ResourceOrder.{image_keys, read_keys}
use Rattle.local_txn.specs.declared.transactions.ExecError.{ExecError}
use Rattle.local_txn.specs.declared.transactions.ExecError.TheVariants as error
use Rattle.local_txn.specs.declared.transactions.OpenTxn.{OpenTxn}
use Rattle.local_txn.specs.OpenTickets.{Open, open_at, without, with_first, sent_again, has_row, ticket_with, lesser_row, busy_row, opening_of}
use Rattle.local_txn.specs.Answers.{Tickets, open_of, owner_by, raised, counted, new_ticket, last_ticket, with_open, with_opens, taken_back, at_opening, free_effect, unless_busy, plan, refusal, Executes, Plans, TellsBusy}
use Rattle.local_txn.specs.RowIndex.{Index, at, first_at, has_either, IsIndex, AreApart, KeepsRows}
use Rattle.local_txn.proofs.Tests.{false_true, ticket_itself}
use Rattle.local_txn.proofs.OpenLaws.{found_counted, found_ticket, without_none, apart_counting, rows_counting, apart_back}
use Rattle.local_txn.proofs.IndexLaws.{free_rows, least_is_busy}

-- nothing is open
pub keeps_none : (boot : ℕ) → KeepsRows boot 0 [] []
keeps_none boot = record { apart = tt; index = λ r. refl }

abbrev pub tickets : (boot opened : ℕ) → List Open → Tickets
tickets boot opened opens = record { boot = boot; opened = opened; opens = opens }

-- rows that are asked as slices are those of the lists
pub of_slices : (images is : List Image) (reads rs : List ReadRow) (new old : Index) (v : Option Ticket) → is ≡ images → rs ≡ reads
    → ((q : RowKey) → at new q ≡ cond (has_either is rs q) v (at old q)) → (q : RowKey) → at new q ≡ cond (has_either images reads q) v (at old q)
of_slices images is reads rs new old v e f put q = put q ∙ ap (λ l. cond (has_either l rs q) v (at old q)) e ∙ ap (λ l. cond (has_either images l q) v (at old q)) f

module _ (boot opened : ℕ) (opens : List Open) (ts : Tickets) (view : tickets boot opened opens ≡ ts) where
  opens_are : opens ≡ ts.opens
  opens_are = ap (λ (u : Tickets). u.opens) view

  -- ---- a ticket that was sent again

  pub view_sent : (new : List Open) (t : Ticket) (o : Open) → Some o ≡ open_at opens t → new ≡ o ∷ without opens t
      → tickets boot opened new ≡ with_opens ts (sent_again t ts.opens)
  view_sent new t o found is =
      ap (tickets boot opened) is ∙ ap (λ f. tickets boot opened (with_first f (without opens t))) found
      ∙ ap (λ (u : Tickets). with_opens u (sent_again t u.opens)) view

  pub view_not_sent : (new : List Open) (t : Ticket) → open_at opens t ≡ None → new ≡ without opens t → tickets boot opened new ≡ with_opens ts (sent_again t ts.opens)
  view_not_sent new t none is =
      ap (tickets boot opened) is ∙ ap (λ f. tickets boot opened (with_first f (without opens t))) (sym none)
      ∙ ap (λ (u : Tickets). with_opens u (sent_again t u.opens)) view

  -- ---- a ticket that was taken out

  pub view_left : (new : List Open) (t : Ticket) → new ≡ without opens t → tickets boot opened new ≡ with_opens ts (without ts.opens t)
  view_left new t is = ap (tickets boot opened) is ∙ ap (λ (u : Tickets). with_opens u (without u.opens t)) view

  -- ---- the last opening taken back

  pub view_withdrawn : (t : Ticket) (same_boot before : ℕ) (left : List Open) → tickets same_boot before left ≡ with_opens ts (without ts.opens t)
      → tickets same_boot (opened - 1) left ≡ taken_back ts t
  view_withdrawn t same_boot before left is =
      let b : same_boot ≡ ts.boot = ap (λ (u : Tickets). u.boot) is in
      let n : opened - 1 ≡ ts.opened - 1 = ap (λ (u : Tickets). u.opened - 1) view in
      let l : left ≡ without ts.opens t = ap (λ (u : Tickets). u.opens) is in
      λ i. record { boot = b i; opened = n i; opens = l i }

  module _ (rows : Index) (k : KeepsRows boot opened opens rows) where
    some_open : (t : Ticket) (f : Option Open) → open_at opens t ≡ f → is_some f ≡ true → t ≡ last_ticket ts → 1 ≤ opened
    some_open t None e s last = false_true s
    some_open t (Some o) e s last =
        let c = found_counted boot opened opens t o k.apart e in
        let same : o.ticket ≡ t = found_ticket opens t o e in
        let seq : o.ticket.seq ≡ opened = ap (λ (u : Ticket). u.seq) (same ∙ last) ∙ sym (ap (λ (u : Tickets). u.opened) view) in
        let l = c.least in
        omega (arith, seq, l)

    pub last_counted : (t : Ticket) → is_some (open_at ts.opens t) ≡ true → t ≡ last_ticket ts → 1 ≤ opened
    last_counted t s last = some_open t (open_at opens t) refl (ap (λ os. is_some (open_at os t)) opens_are ∙ s) last

    keeps_back : (t : Ticket) (left : List Open) (new : Index) → t ≡ last_ticket ts → left ≡ without opens t → IsIndex new left → KeepsRows boot (opened - 1) left new
    keeps_back t left new last is index =
        let b : t.boot ≡ boot = ap (λ (u : Ticket). u.boot) last ∙ sym (ap (λ (u : Tickets). u.boot) view) in
        let s : t.seq ≡ opened = ap (λ (u : Ticket). u.seq) last ∙ sym (ap (λ (u : Tickets). u.opened) view) in
        record { apart = subst (AreApart boot (opened - 1)) (sym is) (apart_back boot opened opens t k.apart b s); index = index }

    pub keeps_withdrawn : (t : Ticket) (same_boot before : ℕ) (left : List Open) (new : Index) → t ≡ last_ticket ts
        → tickets same_boot before left ≡ with_opens ts (without ts.opens t) → KeepsRows same_boot before left new → KeepsRows same_boot (opened - 1) left new
    keeps_withdrawn t same_boot before left new last is kept =
        let b : boot ≡ same_boot = ap (λ (u : Tickets). u.boot) view ∙ sym (ap (λ (u : Tickets). u.boot) is) in
        let l : left ≡ without opens t = ap (λ (u : Tickets). u.opens) is ∙ ap (λ os. without os t) (sym opens_are) in
        subst (λ b. KeepsRows b (opened - 1) left new) b (keeps_back t left new last l kept.index)

    pub back : (t : Ticket) (new before : Tickets) (o : Open) → new ≡ taken_back ts t → o.ticket ≡ t → ts ≡ with_open before o → new ≡ before
    back t new before o gone same is =
        let all : opens ≡ o ∷ before.opens = opens_are ∙ ap (λ (u : Tickets). u.opens) is in
        let apart : AreApart boot opened (o ∷ before.opens) = subst (AreApart boot opened) all k.apart in
        let none : open_at before.opens t ≡ None = ap (open_at before.opens) (sym same) ∙ apart.1.once in
        let itself : same_ticket o.ticket t ≡ true = ap (λ u. same_ticket u t) same ∙ ticket_itself t in
        let left : without (o ∷ before.opens) t ≡ before.opens =
        ap (λ b. cond (not b) (o ∷ without before.opens t) (without before.opens t)) itself ∙ without_none before.opens t none in
        let count : before.opened + 1 - 1 ≡ before.opened = omega arith in
        gone ∙ ap (λ u. taken_back u t) is ∙ (λ i. record { boot = before.boot; opened = count i; opens = left i })

-- ---- a conflict

pub keeps_counted : (boot opened : ℕ) (opens : List Open) (rows : Index) (t : Ticket) (f : Option Open) → KeepsRows boot opened opens rows → KeepsRows boot opened (counted f t opens) rows
keeps_counted boot opened opens rows t None k = k
keeps_counted boot opened opens rows t (Some o) k = record {
  apart = apart_counting t (raised o) boot opened opens k.apart;
  index = λ r. k.index r ∙ sym (rows_counting t (raised o) opens r);
}

-- ---- a plan

module _ (ts : Tickets) (x : Xid) (c m : ℕ) (w : Work) where
  -- statements without an effect
  pub not_planned : (meaning : Result Effect (ℕ × StmtError)) (err : EffectError) → Means meaning (Err err) → Plans ts x c m w meaning (Err (refusal err))
  not_planned meaning (fault.At index why) means = sym (ap (λ r. plan ts x c m w (free_effect ts.opens r)) means)
  not_planned meaning fault.NoMemory means = tt

  module _ (meaning : Result Effect (ℕ × StmtError)) (e : Effect) (means : meaning ≡ Ok e) where
    comes_to : (b : Option (RowKey × Ticket)) → busy_row ts.opens e ≡ b → plan ts x c m w (free_effect ts.opens meaning) ≡ plan ts x c m w (unless_busy e b)
    comes_to b is = ap (λ r. plan ts x c m w (free_effect ts.opens r)) means ∙ ap (λ r. plan ts x c m w (unless_busy e r)) is

    pub told_busy : (k : RowKey) (t : Ticket) (err : ExecError) → busy_row ts.opens e ≡ Some (k, t) → TellsBusy k t err → Plans ts x c m w meaning (Err err)
    told_busy k t (error.Stmt index why) b told = absurd told
    told_busy k t (error.Busy key by) b told = (λ i. Err (error.Busy (told.0 i) (told.1 i))) ∙ sym (comes_to (Some (k, t)) b)
    told_busy k t error.NoMemory b told = tt

    pub planned : (txn : OpenTxn) → busy_row ts.opens e ≡ None → txn ≡ at_opening (new_ticket ts) x c m w e → Plans ts x c m w meaning (Ok txn)
    planned txn free is = ap Ok is ∙ sym (comes_to None free)

  -- ---- and its opening

  -- a local transaction that is planned
  pub record IsPlanned (meaning : Result Effect (ℕ × StmtError)) (txn : OpenTxn) : Type 0 where
    pub effect : Effect
    pub means : meaning ≡ Ok effect
    pub free : busy_row ts.opens effect ≡ None
    pub is : txn ≡ at_opening (new_ticket ts) x c m w effect

  same_ok : (a b : OpenTxn) → ◌≡◌ {A = Result OpenTxn ExecError} (Ok a) (Ok b) → a ≡ b
  same_ok a b e = cc

  pub is_planned : (meaning : Result Effect (ℕ × StmtError)) (txn : OpenTxn) → Plans ts x c m w meaning (Ok txn) → IsPlanned meaning txn
  is_planned (Err fault) txn plans = absurd cc
  is_planned (Ok e) txn plans = by (busy_row ts.opens e) refl plans
    where
      by : (b : Option (RowKey × Ticket)) → busy_row ts.opens e ≡ b → Ok txn ≡ plan ts x c m w (unless_busy e b) → IsPlanned (Ok e) txn
      by None free same = record { effect = e; means = refl; free = free; is = same_ok txn (at_opening (new_ticket ts) x c m w e) same }
      by (Some p) busy same = absurd cc

  refused : (f : Result Effect ExecError) (why : ExecError) → Err why ≡ plan ts x c m w f → f ≡ Err why
  refused (Ok e) why same = absurd cc
  refused (Err told) why same = cc

  pub not_executed : (meaning : Result Effect (ℕ × StmtError)) (why : ExecError) → Plans ts x c m w meaning (Err why) → Executes ts (owner_by x.0 m c w) meaning (Err why) ts
  not_executed meaning (error.Stmt index fault) plans = (refused (free_effect ts.opens meaning) (error.Stmt index fault) plans, refl)
  not_executed meaning (error.Busy key by) plans = (refused (free_effect ts.opens meaning) (error.Busy key by) plans, refl)
  not_executed meaning error.NoMemory plans = refl

  module _ (meaning : Result Effect (ℕ × StmtError)) (txn : OpenTxn) (p : IsPlanned meaning txn) where
    pub rows_free : (q : RowKey) → has_row q (open_of txn) ≡ true → ticket_with ts.opens q ≡ None
    rows_free q h = free_rows ts.opens p.effect q p.free (ap (λ (o : OpenTxn). has_row q (open_of o)) (sym p.is) ∙ h)

    pub executed : (t : Ticket) (new : Tickets) → t ≡ txn.ticket → new ≡ with_open ts (open_of txn) → Executes ts (owner_by x.0 m c w) meaning (Ok t) new
    executed t new same left =
        let ticket : t ≡ new_ticket ts = same ∙ ap (λ (o : OpenTxn). o.ticket) p.is in
        record {
          effect = p.effect;
          means = p.means;
          free = p.free;
          ticket = ticket;
          opens = left ∙ ap (λ (o : OpenTxn). with_open ts (open_of o)) p.is ∙ ap (λ u. with_open ts (opening_of u (owner_by x.0 m c w) p.effect)) (sym ticket);
        }

-- what the index tells of an effect's slices
pub busy_is : (boot opened : ℕ) (opens : List Open) (rows : Index) (e : Effect) (images : List Image) (reads : List ReadRow) (ts : Tickets) → tickets boot opened opens ≡ ts
    → KeepsRows boot opened opens rows → images ≡ e.images → reads ≡ e.reads
    → lesser_row (first_at rows (image_keys images)) (first_at rows (read_keys reads)) ≡ busy_row ts.opens e
busy_is boot opened opens rows e images reads ts view k i r =
    ap (λ l. lesser_row (first_at rows (image_keys l)) (first_at rows (read_keys reads))) i
    ∙ ap (λ l. lesser_row (first_at rows (image_keys e.images)) (first_at rows (read_keys l))) r
    ∙ least_is_busy rows opens e k.index ∙ ap (λ (u : Tickets). busy_row u.opens e) view

pub none_told : {A B : Type 0} (f : A → B) (o : Option A) (r : Option B) → option_map f o ≡ r → o ≡ None → r ≡ None
none_told f o r e n = sym e ∙ ap (option_map f) n
