-- The index of rows: what it finds is what the open tickets have.
use Rattle.std.proofs.Common.{◌≡◌, ◌+◌, ◌||◌, ℕ, Bool, true, false, cond, List, [], ◌∷◌, Option, Some, None, option_map, refl, ap, sym, ◌∙◌}
use Rattle.std.specs.Ordering.{is_lt}
use Rattle.seata_types.specs.Orders.{key_cmp}
use Rattle.seata_types.specs.declared.ids.Ticket.{Ticket}
use Rattle.seata_types.specs.declared.rows.RowKey.{RowKey}
use Rattle.local_tables.specs.Rows.{is_key}
use Rattle.local_tables.specs.declared.schemas.Effect.{Effect}
use Rattle.local_tables.proofs.KeyLaws.{same_key}
use Rattle.durable_records.specs.Locks.{has_key}
use Rattle.durable_records.specs.ResourceOrder.{image_keys, read_keys}
use Rattle.local_txn.specs.OpenTickets.{Open, open_at, without, has_row, ticket_with, with_ticket, busy_in, lesser_row, busy_row}
use Rattle.local_txn.specs.Answers.{ticket_of}
use Rattle.local_txn.specs.RowIndex.{Index, at, first_with, first_at, IsIndex, KeepsRows}
use Rattle.local_txn.proofs.Tests.{false_true, none_some}
use Rattle.local_txn.proofs.OpenLaws.{rows_left, apart_left, apart_again, rows_again, apart_opened}

-- ---- what is busy

same_first : (k : RowKey) (o : Option Open) (rest : Option (RowKey × Ticket)) → first_with k (option_map ticket_of o) rest ≡ with_ticket k o rest
same_first k None rest = refl
same_first k (Some o) rest = refl

pub first_is_busy : (rows : Index) (opens : List Open) (ks : List RowKey) → IsIndex rows opens → first_at rows ks ≡ busy_in opens ks
first_is_busy rows opens [] ix = refl
first_is_busy rows opens (k ∷ ks) ix =
    ap (λ t. first_with k t (first_at rows ks)) (ix k) ∙ ap (first_with k (option_map ticket_of (ticket_with opens k))) (first_is_busy rows opens ks ix)
    ∙ same_first k (ticket_with opens k) (busy_in opens ks)

pub least_is_busy : (rows : Index) (opens : List Open) (e : Effect) → IsIndex rows opens
    → lesser_row (first_at rows (image_keys e.images)) (first_at rows (read_keys e.reads)) ≡ busy_row opens e
least_is_busy rows opens e ix =
    ap (λ p. lesser_row p (first_at rows (read_keys e.reads))) (first_is_busy rows opens (image_keys e.images) ix)
    ∙ ap (lesser_row (busy_in opens (image_keys e.images))) (first_is_busy rows opens (read_keys e.reads) ix)

-- ---- what is free

none_with : (k : RowKey) (o : Option Open) (rest : Option (RowKey × Ticket)) → with_ticket k o rest ≡ None → o ≡ None
none_with k None rest e = refl
none_with k (Some o) rest e = none_some (sym e)

none_behind : (k : RowKey) (o : Option Open) (rest : Option (RowKey × Ticket)) → with_ticket k o rest ≡ None → rest ≡ None
none_behind k None rest e = e
none_behind k (Some o) rest e = none_some (sym e)

free_in : (opens : List Open) (ks : List RowKey) (r : RowKey) → busy_in opens ks ≡ None → has_key ks r ≡ true → ticket_with opens r ≡ None
free_in opens [] r e h = false_true h
free_in opens (k ∷ ks) r e h = by (free_in opens ks r) (is_key k r) refl
  where
    by : (busy_in opens ks ≡ None → has_key ks r ≡ true → ticket_with opens r ≡ None) → (b : Bool) → is_key k r ≡ b → ticket_with opens r ≡ None
    by later true p = ap (ticket_with opens) (sym (same_key k r p)) ∙ none_with k (ticket_with opens k) (busy_in opens ks) e
    by later false p = later (none_behind k (ticket_with opens k) (busy_in opens ks) e) (sym (ap (λ b. b || has_key ks r) p) ∙ h)

chosen : (b : Bool) (p q : RowKey × Ticket) {A : Type 0} → cond b (Some q) (Some p) ≡ None → A
chosen true p q e = none_some (sym e)
chosen false p q e = none_some (sym e)

none_first : (p q : Option (RowKey × Ticket)) → lesser_row p q ≡ None → p ≡ None
none_first None q e = refl
none_first (Some p) None e = none_some (sym e)
none_first (Some p) (Some q) e = chosen (is_lt (key_cmp q.0 p.0)) p q e

none_second : (p q : Option (RowKey × Ticket)) → lesser_row p q ≡ None → q ≡ None
none_second None q e = e
none_second (Some p) None e = refl
none_second (Some p) (Some q) e = chosen (is_lt (key_cmp q.0 p.0)) p q e

-- no row of an effect is open where none is busy
pub free_rows : (opens : List Open) (e : Effect) (r : RowKey) → busy_row opens e ≡ None
    → (has_key (image_keys e.images) r || has_key (read_keys e.reads) r) ≡ true → ticket_with opens r ≡ None
free_rows opens e r none h = by (has_key (image_keys e.images) r) refl
  where
    by : (b : Bool) → has_key (image_keys e.images) r ≡ b → ticket_with opens r ≡ None
    by true p = free_in opens (image_keys e.images) r (none_first (busy_in opens (image_keys e.images)) (busy_in opens (read_keys e.reads)) none) p
    by false p =
        free_in opens (read_keys e.reads) r (none_second (busy_in opens (image_keys e.images)) (busy_in opens (read_keys e.reads)) none)
        (sym (ap (λ b. b || has_key (read_keys e.reads) r) p) ∙ h)

-- ---- what is kept

map_cond : (b : Bool) (o : Open) (p : Option Open) → cond b (Some (ticket_of o)) (option_map ticket_of p) ≡ option_map ticket_of (cond b (Some o) p)
map_cond true o p = refl
map_cond false o p = refl

map_none : (b : Bool) (p : Option Open) → cond b None (option_map ticket_of p) ≡ option_map ticket_of (cond b None p)
map_none true p = refl
map_none false p = refl

-- one more ticket, whose rows are put
pub keeps_opened : (boot opened : ℕ) (opens : List Open) (rows new : Index) (o : Open) → KeepsRows boot opened opens rows → o.ticket.boot ≡ boot → o.ticket.seq ≡ opened + 1
    → ((r : RowKey) → has_row r o ≡ true → ticket_with opens r ≡ None) → ((r : RowKey) → at new r ≡ cond (has_row r o) (Some o.ticket) (at rows r))
    → KeepsRows boot (opened + 1) (o ∷ opens) new
keeps_opened boot opened opens rows new o k b s free put = record {
  apart = apart_opened boot opened opens o k.apart b s free;
  index = λ r. put r ∙ ap (cond (has_row r o) (Some o.ticket)) (k.index r) ∙ map_cond (has_row r o) o (ticket_with opens r);
}

-- without a ticket, whose rows are taken out
index_left : (boot opened : ℕ) (opens : List Open) (rows new : Index) (t : Ticket) (o : Open) → KeepsRows boot opened opens rows → open_at opens t ≡ Some o
    → ((r : RowKey) → at new r ≡ cond (has_row r o) None (at rows r)) → IsIndex new (without opens t)
index_left boot opened opens rows new t o k e put r =
    put r ∙ ap (cond (has_row r o) None) (k.index r) ∙ map_none (has_row r o) (ticket_with opens r)
    ∙ ap (option_map ticket_of) (sym (rows_left boot opened opens t o r k.apart e))

pub keeps_left : (boot opened : ℕ) (opens : List Open) (rows new : Index) (t : Ticket) (o : Open) → KeepsRows boot opened opens rows → open_at opens t ≡ Some o
    → ((r : RowKey) → at new r ≡ cond (has_row r o) None (at rows r)) → KeepsRows boot opened (without opens t) new
keeps_left boot opened opens rows new t o k e put = record {
  apart = apart_left boot opened opens t k.apart;
  index = index_left boot opened opens rows new t o k e put;
}

-- a ticket that was sent again
pub keeps_again : (boot opened : ℕ) (opens : List Open) (rows : Index) (t : Ticket) (o : Open) → KeepsRows boot opened opens rows → open_at opens t ≡ Some o
    → KeepsRows boot opened (o ∷ without opens t) rows
keeps_again boot opened opens rows t o k e = record {
  apart = apart_again boot opened opens t o k.apart e;
  index = λ r. k.index r ∙ ap (option_map ticket_of) (sym (rows_again boot opened opens t o k.apart e r));
}
