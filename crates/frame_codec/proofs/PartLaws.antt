-- Each part of a message is read back, and what is read as one stands there.
use Rattle.std.proofs.Common.{◌≡◌, ℕ, ◌^◌, ◌<◌, Bool, Some, None, List, [], ◌∷◌, ◌++◌, refl}
use Rattle.std.specs.Int.{w16, to_be_bytes}
use Rattle.seata_types.specs.declared.ids.Xid.{Xid}
use Rattle.seata_types.specs.declared.ids.Ticket.{Ticket}
use Rattle.seata_types.specs.declared.rows.RowKey.{RowKey}
use Rattle.seata_types.specs.declared.errors.StmtError.{StmtError}
use Rattle.seata_types.specs.declared.errors.StmtError.TheVariants as stmt
use Rattle.seata_types.specs.declared.errors.Why.{Why}
use Rattle.seata_types.specs.declared.errors.Why.TheVariants as why
use Rattle.seata_types.specs.declared.messages.Registered.TheVariants as registered
use Rattle.seata_types.specs.declared.messages.CallAnswer.TheVariants as answer
use Rattle.seata_types.specs.Statuses.{code_of}
use Rattle.byte_fields.specs.Layout.{FitsKey, FitsTicket, key_bytes, ticket_bytes}
use Rattle.byte_fields.specs.Reading.{Reader, gives}
use Rattle.byte_fields.specs.Exactness.{ReadsExactly}
use Rattle.byte_fields.proofs.Chains.{ReadsParts, part, last_part, no_part}
use Rattle.byte_fields.proofs.Numbers.{two_bytes_exact}
use Rattle.byte_fields.proofs.Records.{ticket_exact}
use Rattle.byte_fields.proofs.KeyLaws.{written_key_exact}
use Rattle.byte_fields.specs.Parts.{xid_bytes, FitsXid, branch_bytes, FitsBranch, truth_code}
use Rattle.frame_codec.specs.Parts.{registered_tag, registered_rest, registered_bytes, FitsRegistered, granted_at, conflict_at, closed_at, registered_at, held_tag, held_rest, held_bytes, FitsHeld, held_key_at, held_at, stmt_error_tag, stmt_error_rest, stmt_error_bytes, FitsStmtError, overflow_at, duplicate_at, stmt_error_at, why_tag, why_rest, why_bytes, FitsWhy, why_stmt_at, why_rolling_at, why_closed_at, why_no_row_at, why_at, answer_tag, answer_rest, answer_bytes, FitsAnswer, done_at, busy_at, failed_at, answer_at}
use Rattle.byte_fields.proofs.PartLaws.{alone, xid_exact, branch_exact, truth_exact, status_exact}
use Rattle.byte_fields.proofs.Tables.{IsComplete, IsSound, sound, tagged_exact}

-- ---- the answer to a registration

granted_part : ReadsParts granted_at registered.Granted branch_bytes FitsBranch
granted_part = last_part registered.Granted branch_exact

conflict_part : ReadsParts conflict_at (λ (t : RowKey × (Xid × Bool)). registered.Conflict t.0 t.1.0 t.1.1) (λ t. key_bytes t.0 ++ (xid_bytes t.1.0 ++ truth_code t.1.1 ∷ [])) (λ t. FitsKey t.0 × (FitsXid t.1.0 × Unit {0}))
unfolding conflict_at
conflict_part = part written_key_exact (λ key. part xid_exact (λ holder. last_part (λ rolling. registered.Conflict key holder rolling) truth_exact))

closed_part : ReadsParts closed_at registered.Closed (λ x. code_of x ∷ []) (λ x. Unit {0})
closed_part = last_part registered.Closed status_exact

registered_complete : IsComplete registered_tag registered_rest FitsRegistered ((0, granted_at) ∷ (1, conflict_at) ∷ (2, closed_at) ∷ (3, gives registered.Late) ∷ [])
registered_complete (registered.Granted id) fits = (granted_at, refl, λ at rest. granted_part.back id at rest fits)
registered_complete (registered.Conflict key holder rolling) fits = (conflict_at, refl, λ at rest. conflict_part.back (key, (holder, rolling)) at rest (fits.0, (fits.1, tt)))
registered_complete (registered.Closed status) fits = (closed_at, refl, λ at rest. closed_part.back status at rest tt)
registered_complete registered.Late fits = (gives registered.Late, refl, alone registered.Late)

pub registered_exact : ReadsExactly registered_at registered_bytes FitsRegistered
unfolding registered_at
registered_exact = tagged_exact registered_tag registered_rest FitsRegistered ((0, granted_at) ∷ (1, conflict_at) ∷ (2, closed_at) ∷ (3, gives registered.Late) ∷ []) registered_complete (
  sound registered_tag registered_rest FitsRegistered 0 granted_part (λ id fits. fits) (λ id. refl) (λ id. refl),
  (
    sound registered_tag registered_rest FitsRegistered 1 conflict_part (λ t fits. (fits.0, fits.1.0)) (λ t. refl) (λ t. refl),
    (
      sound registered_tag registered_rest FitsRegistered 2 closed_part (λ x fits. tt) (λ x. refl) (λ x. refl),
      (sound registered_tag registered_rest FitsRegistered 3 (no_part registered.Late) (λ u fits. tt) (λ u. refl) (λ u. refl), tt),
    ),
  ),
)

-- ---- the answer to a lock query

held_key_part : ReadsParts held_key_at (λ (t : RowKey × Xid). Some t) (λ t. key_bytes t.0 ++ xid_bytes t.1) (λ t. FitsKey t.0 × FitsXid t.1)
unfolding held_key_at
held_key_part = part written_key_exact (λ key. last_part (λ holder. Some (key, holder)) xid_exact)

held_complete : IsComplete held_tag held_rest FitsHeld ((0, gives None) ∷ (1, held_key_at) ∷ [])
held_complete None fits = (gives None, refl, alone None)
held_complete (Some held) fits = (held_key_at, refl, λ at rest. held_key_part.back held at rest fits)

pub held_exact : ReadsExactly held_at held_bytes FitsHeld
unfolding held_at
held_exact = tagged_exact held_tag held_rest FitsHeld ((0, gives None) ∷ (1, held_key_at) ∷ []) held_complete (
  sound held_tag held_rest FitsHeld 0 (no_part None) (λ u fits. tt) (λ u. refl) (λ u. refl),
  (sound held_tag held_rest FitsHeld 1 held_key_part (λ t fits. fits) (λ t. refl) (λ t. refl), tt),
)

-- ---- why a statement has no meaning

overflow_part : ReadsParts overflow_at stmt.Overflow key_bytes FitsKey
overflow_part = last_part stmt.Overflow written_key_exact

duplicate_part : ReadsParts duplicate_at stmt.Duplicate key_bytes FitsKey
duplicate_part = last_part stmt.Duplicate written_key_exact

abbrev stmt_errors : List (ℕ × Reader StmtError)
stmt_errors =
    (0, gives stmt.NoTable) ∷ (1, gives stmt.NoColumn) ∷ (2, gives stmt.Columns) ∷ (3, gives stmt.KeyChanged) ∷
    (4, gives stmt.TypeMismatch) ∷ (5, gives stmt.TooManyRows) ∷ (6, overflow_at) ∷ (7, duplicate_at) ∷ (8, gives stmt.TableFull) ∷ []

stmt_error_complete : IsComplete stmt_error_tag stmt_error_rest FitsStmtError stmt_errors
stmt_error_complete stmt.NoTable fits = (gives stmt.NoTable, refl, alone stmt.NoTable)
stmt_error_complete stmt.NoColumn fits = (gives stmt.NoColumn, refl, alone stmt.NoColumn)
stmt_error_complete stmt.Columns fits = (gives stmt.Columns, refl, alone stmt.Columns)
stmt_error_complete stmt.KeyChanged fits = (gives stmt.KeyChanged, refl, alone stmt.KeyChanged)
stmt_error_complete stmt.TypeMismatch fits = (gives stmt.TypeMismatch, refl, alone stmt.TypeMismatch)
stmt_error_complete stmt.TooManyRows fits = (gives stmt.TooManyRows, refl, alone stmt.TooManyRows)
stmt_error_complete (stmt.Overflow key) fits = (overflow_at, refl, λ at rest. overflow_part.back key at rest fits)
stmt_error_complete (stmt.Duplicate key) fits = (duplicate_at, refl, λ at rest. duplicate_part.back key at rest fits)
stmt_error_complete stmt.TableFull fits = (gives stmt.TableFull, refl, alone stmt.TableFull)

error_alone : (error : StmtError) → FitsStmtError error → stmt_error_rest error ≡ [] → IsSound stmt_error_tag stmt_error_rest FitsStmtError (stmt_error_tag error) (gives error)
error_alone error fits empty = sound stmt_error_tag stmt_error_rest FitsStmtError (stmt_error_tag error) (no_part error) (λ u _. fits) (λ u. refl) (λ u. empty)

pub stmt_error_exact : ReadsExactly stmt_error_at stmt_error_bytes FitsStmtError
unfolding stmt_error_at
stmt_error_exact = tagged_exact stmt_error_tag stmt_error_rest FitsStmtError stmt_errors stmt_error_complete (
  error_alone stmt.NoTable tt refl,
  (
    error_alone stmt.NoColumn tt refl,
    (
      error_alone stmt.Columns tt refl,
      (
        error_alone stmt.KeyChanged tt refl,
        (
          error_alone stmt.TypeMismatch tt refl,
          (
            error_alone stmt.TooManyRows tt refl,
            (
              sound stmt_error_tag stmt_error_rest FitsStmtError 6 overflow_part (λ key fits. fits) (λ key. refl) (λ key. refl),
              (
                sound stmt_error_tag stmt_error_rest FitsStmtError 7 duplicate_part (λ key fits. fits) (λ key. refl) (λ key. refl),
                (error_alone stmt.TableFull tt refl, tt),
              ),
            ),
          ),
        ),
      ),
    ),
  ),
)

-- ---- why a call failed

why_stmt_part : ReadsParts why_stmt_at (λ (t : ℕ × StmtError). why.Stmt t.0 t.1) (λ t. to_be_bytes w16 t.0 ++ stmt_error_bytes t.1) (λ t. (t.0 < 2 ^ 16) × FitsStmtError t.1)
unfolding why_stmt_at
why_stmt_part = part two_bytes_exact (λ index. last_part (λ error. why.Stmt index error) stmt_error_exact)

why_rolling_part : ReadsParts why_rolling_at why.Rolling xid_bytes FitsXid
why_rolling_part = last_part why.Rolling xid_exact

why_closed_part : ReadsParts why_closed_at why.Closed (λ x. code_of x ∷ []) (λ x. Unit {0})
why_closed_part = last_part why.Closed status_exact

why_no_row_part : ReadsParts why_no_row_at why.NoRow (to_be_bytes w16) (λ n. n < 2 ^ 16)
why_no_row_part = last_part why.NoRow two_bytes_exact

abbrev whys : List (ℕ × Reader Why)
whys =
    (0, why_stmt_at) ∷ (1, gives why.Tries) ∷ (2, why_rolling_at) ∷ (3, why_closed_at) ∷
    (4, gives why.Late) ∷ (5, gives why.Marker) ∷ (6, why_no_row_at) ∷ (7, gives why.Fence) ∷ []

why_complete : IsComplete why_tag why_rest FitsWhy whys
why_complete (why.Stmt index error) fits = (why_stmt_at, refl, λ at rest. why_stmt_part.back (index, error) at rest fits)
why_complete why.Tries fits = (gives why.Tries, refl, alone why.Tries)
why_complete (why.Rolling holder) fits = (why_rolling_at, refl, λ at rest. why_rolling_part.back holder at rest fits)
why_complete (why.Closed status) fits = (why_closed_at, refl, λ at rest. why_closed_part.back status at rest tt)
why_complete why.Late fits = (gives why.Late, refl, alone why.Late)
why_complete why.Marker fits = (gives why.Marker, refl, alone why.Marker)
why_complete (why.NoRow index) fits = (why_no_row_at, refl, λ at rest. why_no_row_part.back index at rest fits)
why_complete why.Fence fits = (gives why.Fence, refl, alone why.Fence)

reason_alone : (reason : Why) → FitsWhy reason → why_rest reason ≡ [] → IsSound why_tag why_rest FitsWhy (why_tag reason) (gives reason)
reason_alone reason fits empty = sound why_tag why_rest FitsWhy (why_tag reason) (no_part reason) (λ u _. fits) (λ u. refl) (λ u. empty)

pub why_exact : ReadsExactly why_at why_bytes FitsWhy
unfolding why_at
why_exact = tagged_exact why_tag why_rest FitsWhy whys why_complete (
  sound why_tag why_rest FitsWhy 0 why_stmt_part (λ t fits. fits) (λ t. refl) (λ t. refl),
  (
    reason_alone why.Tries tt refl,
    (
      sound why_tag why_rest FitsWhy 2 why_rolling_part (λ t fits. fits) (λ t. refl) (λ t. refl),
      (
        sound why_tag why_rest FitsWhy 3 why_closed_part (λ t fits. tt) (λ t. refl) (λ t. refl),
        (
          reason_alone why.Late tt refl,
          (
            reason_alone why.Marker tt refl,
            (
              sound why_tag why_rest FitsWhy 6 why_no_row_part (λ t fits. fits) (λ t. refl) (λ t. refl),
              (reason_alone why.Fence tt refl, tt),
            ),
          ),
        ),
      ),
    ),
  ),
)

-- ---- the answer to a call

done_part : ReadsParts done_at answer.Done branch_bytes FitsBranch
done_part = last_part answer.Done branch_exact

busy_part : ReadsParts busy_at (λ (t : RowKey × Ticket). answer.Busy t.0 t.1) (λ t. key_bytes t.0 ++ ticket_bytes t.1) (λ t. FitsKey t.0 × FitsTicket t.1)
unfolding busy_at
busy_part = part written_key_exact (λ key. last_part (λ by. answer.Busy key by) ticket_exact)

failed_part : ReadsParts failed_at answer.Failed why_bytes FitsWhy
failed_part = last_part answer.Failed why_exact

answer_complete : IsComplete answer_tag answer_rest FitsAnswer ((0, done_at) ∷ (1, busy_at) ∷ (2, failed_at) ∷ [])
answer_complete (answer.Done id) fits = (done_at, refl, λ at rest. done_part.back id at rest fits)
answer_complete (answer.Busy key by) fits = (busy_at, refl, λ at rest. busy_part.back (key, by) at rest fits)
answer_complete (answer.Failed reason) fits = (failed_at, refl, λ at rest. failed_part.back reason at rest fits)

pub answer_exact : ReadsExactly answer_at answer_bytes FitsAnswer
unfolding answer_at
answer_exact = tagged_exact answer_tag answer_rest FitsAnswer ((0, done_at) ∷ (1, busy_at) ∷ (2, failed_at) ∷ []) answer_complete (
  sound answer_tag answer_rest FitsAnswer 0 done_part (λ t fits. fits) (λ t. refl) (λ t. refl),
  (
    sound answer_tag answer_rest FitsAnswer 1 busy_part (λ t fits. fits) (λ t. refl) (λ t. refl),
    (sound answer_tag answer_rest FitsAnswer 2 failed_part (λ t fits. fits) (λ t. refl) (λ t. refl), tt),
  ),
)
