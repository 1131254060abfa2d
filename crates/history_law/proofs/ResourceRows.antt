-- The open tickets and rows of a resource over one of its entries.
use Rattle.std.proofs.Common.{◌≡◌, inl, inr, ◌==◌, ◌||◌, ℕ, Bool, true, false, List, Option, Some, None, refl, ap, sym, subst, ◌∙◌}
use Rattle.seata_types.specs.declared.ids.Ticket.{Ticket}
use Rattle.seata_types.specs.declared.rows.Image.{Image}
use Rattle.seata_types.specs.declared.rows.ReadRow.{ReadRow}
use Rattle.seata_types.specs.declared.rows.RowKey.{RowKey}
use Rattle.durable_records.specs.Locks.{has_key}
use Rattle.durable_records.specs.ResourceOrder.{image_keys, read_keys}
use Rattle.durable_records.specs.RowsKept.{image_at}
use Rattle.history_rules.specs.ResourceMemory.{Setup, Open, Memory, has_row}
use Rattle.history_rules.specs.Nodes.{World, Past, counted_at}
use Rattle.history_rules.specs.Histories.{Moment}
use Rattle.history_law.specs.Points.{In}
use Rattle.history_law.specs.Tickets.{Names}
use Rattle.history_law.specs.Cover.{memory_of, Covers}
use Rattle.history_law.specs.OrderSafety.{HasRow}
use Rattle.history_law.proofs.Tests.{same_nat}
use Rattle.history_law.proofs.UndoRecords.{image_has}
use Rattle.history_law.proofs.TicketSteps.{memory_by, given_later, next_not_given}
use Rattle.history_law.proofs.ResourceSteps.{OpenFrom}
use Rattle.history_law.proofs.Steps.{ResStep}

-- a row of an image is a row of its ticket
pub image_row : (images : List Image) (o : Open) (key : RowKey) (a : Image) → images ≡ o.images → image_at images key ≡ Some a → has_row key o ≡ true
image_row images o key a same e = ap (λ b. b || has_key (read_keys o.reads) key) (subst (λ z. has_key (image_keys z) key ≡ true) same (image_has images key a e))

-- a row that a local commit of a ticket touched or read is a row of it
pub commit_row : (images : List Image) (reads : List ReadRow) (o : Open) (key : RowKey) → images ≡ o.images → reads ≡ o.reads → HasRow images reads key → has_row key o ≡ true
commit_row images reads o key ei er h = subst (λ z. HasRow o.images z key) er (subst (λ z. HasRow z reads key) ei h)

module _ (w : World) (past : Past) (ms : List Moment) (m : Moment) (r : ResStep w past ms m) where
  abbrev before : Memory
  before = memory_of past ms r.k r.s

  abbrev ne : Memory
  ne = memory_by r.s (memory_of past ms r.k r.s) r.event m.now m.step

  setup_by : (q : Setup) → Some q ≡ Some r.s → q ≡ r.s
  setup_by q e = cc

  -- what the entry keeps here holds of every resource after it
  pub each_memory : (P : ℕ → Setup → Memory → Type 0) (j : ℕ) (q : Setup) → counted_at w.resources j ≡ Some q → (P r.k r.s before → P r.k r.s ne) → P j q (memory_of past ms j q) → P j q (r.after j q)
  each_memory P j q known keeps old = by (j == r.k) refl
    where
      by : (b : Bool) → (j == r.k) ≡ b → P j q (r.after j q)
      by true e =
          let at : j ≡ r.k = same_nat j r.k e in
          let setup : q ≡ r.s = setup_by q (sym known ∙ ap (counted_at w.resources) at ∙ r.known) in
          let new : r.after j q ≡ ne = ap (λ z. r.after z q) at ∙ ap (r.after r.k) setup ∙ r.here in
          let was : P r.k r.s before = subst (λ z. P r.k z (memory_of past ms r.k z)) setup (subst (λ z. P z q (memory_of past ms z q)) at old) in
          let now : P j q ne = subst (λ z. P z q ne) (sym at) (subst (λ z. P r.k z ne) (sym setup) (keeps was)) in
          subst (λ z. P j q z) (sym new) now
      by false e = subst (λ z. P j q z) (sym (r.there j q e)) old

  -- a property that a count doesn't change stays with an open ticket
  pub names_on : (t : Ticket) (P : Open → Type 0) → ((o : Open) (k : ℕ) → P o → P (record o { conflicts = k })) → Names before t P → Names ne t P
  names_on t P steady names = record { given = given_later before ne t r.moves.later names.given; named = λ o i e. by o e (r.moves.opens_from o i) }
    where
      by : (o : Open) → o.ticket ≡ t → OpenFrom r.s before r.event ne o → P o
      by o e (inr next) = absurd (next_not_given before t names.given (sym e ∙ next.ticket))
      by o e (inl (p, k, ip, eq)) = subst P (sym eq) (steady p k (names.named p ip (sym (ap (λ q. q.ticket) eq) ∙ e)))

  -- the images of a ticket that ends have no row of one that stays open
  pub images_apart : (c : Covers w past ms) (p o : Open) (key : RowKey) → In p before.opens → In o ne.opens → p.ticket ≡ o.ticket → has_row key p ≡ true
      → (q : Open) (images : List Image) → In q before.opens → images ≡ q.images → ((z : Open) → In z ne.opens → z.ticket ≡ q.ticket → ⊥) → image_at images key ≡ None
  images_apart c p o key ip io same h q images iq is ends = by (image_at images key) refl
    where
      by : (f : Option Image) → image_at images key ≡ f → f ≡ None
      by None e = refl
      by (Some a) e = absurd (ends o io (sym same ∙ (c.at r.k r.s r.known).tickets.disjoint p q ip iq key h (image_row images q key a is e)))
