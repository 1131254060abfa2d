-- The body of a message within the limits is short enough for a frame.
use Rattle.std.proofs.Common.{◌≡◌, ℕ, ◌+◌, ◌*◌, ◌^◌, ◌<◌, ◌≤◌, All, Option, Some, None, List, [], ◌∷◌, ◌++◌, length, arith, refl}
use Rattle.std.specs.List.{flat_map}
use Rattle.std.proofs.lemmas.List.{length-append}
use Rattle.std.proofs.lemmas.List.Concat.{flat_map-cons}
use Rattle.std.proofs.lemmas.List.Elements.{All-head, All-tail}
use Rattle.seata_types.specs.declared.limits.TheConstants.{CALL_ROWS}
use Rattle.seata_types.specs.declared.rows.Value.{Value}
use Rattle.seata_types.specs.declared.rows.Value.TheVariants as value
use Rattle.seata_types.specs.declared.rows.RowKey.{RowKey}
use Rattle.seata_types.specs.declared.ids.Ticket.{Ticket}
use Rattle.seata_types.specs.declared.ids.Xid.{Xid}
use Rattle.seata_types.specs.declared.statements.Stmt.{Stmt}
use Rattle.seata_types.specs.declared.statements.Work.{Work}
use Rattle.seata_types.specs.declared.statements.Work.TheVariants as work
use Rattle.seata_types.specs.declared.errors.StmtError.{StmtError}
use Rattle.seata_types.specs.declared.errors.StmtError.TheVariants as stmt
use Rattle.seata_types.specs.declared.errors.Why.{Why}
use Rattle.seata_types.specs.declared.errors.Why.TheVariants as why
use Rattle.seata_types.specs.declared.messages.Registered.{Registered}
use Rattle.seata_types.specs.declared.messages.Registered.TheVariants as registered
use Rattle.seata_types.specs.declared.messages.CallAnswer.{CallAnswer}
use Rattle.seata_types.specs.declared.messages.CallAnswer.TheVariants as answer
use Rattle.seata_types.specs.declared.messages.Message.{Message}
use Rattle.seata_types.specs.declared.messages.Message.TheVariants as message
use Rattle.byte_fields.specs.declared.layouts.KeyLayout.TheVariants as layout
use Rattle.byte_fields.specs.Layout.{FitsValue, FitsParts, FitsKey, value_bytes, text_bytes, parts_bytes, key_bytes, key_bytes_in, keys_bytes, ticket_bytes}
use Rattle.byte_fields.specs.Parts.{xid_bytes, kind_code, truth_code}
use Rattle.frame_codec.specs.Parts.{registered_bytes, held_bytes, stmt_error_bytes, why_bytes, answer_bytes, FitsRegistered, FitsHeld, FitsStmtError, FitsWhy, FitsAnswer}
use Rattle.frame_codec.specs.Messages.{fields_bytes, FitsMessage}
use Rattle.frame_codec.specs.Limits.{IsKeyWithin, IsRegisteredWithin, IsErrorWithin, IsWhyWithin, IsAnswerWithin, IsHeldWithin, IsStmtWithin, AreStmtsWithin, IsWorkWithin, IsWithinLimits, IsFramable}
use Rattle.frame_codec.specs.Works.{stmt_bytes, stmts_bytes, work_bytes}
use Rattle.frame_codec.specs.Frames.{HasFrame}

length-value : (v : Value) → FitsValue v → length (value_bytes v) ≤ 123
unfolding value_bytes
length-value (value.Int n) fits = omega arith
length-value (value.Text text) fits = omega (arith, fits.0)

-- two bytes of resource, a name with its length, and at most four values with their count
length-values : (vs : List Value) → All FitsValue vs → length (flat_map value_bytes vs) ≤ 123 * length vs
length-values [] fits = omega arith
length-values (v ∷ vs) fits =
    let one = length-value v (All-head FitsValue v vs fits) in
    let others = length-values vs (All-tail FitsValue v vs fits) in
    let joined : length (flat_map value_bytes (v ∷ vs)) ≡ length (value_bytes v) + length (flat_map value_bytes vs) = rw flat_map-cons (length-append (value_bytes v) (flat_map value_bytes vs)) in
    omega (arith, one, others, joined)

length-parts : (pk : List Value) → FitsParts layout.Counted pk → length (parts_bytes layout.Counted pk) ≤ 493
unfolding parts_bytes
length-parts pk fits =
    let few : length pk ≤ 4 = fits.count.1 in
    omega (arith, few, length-values pk fits.each)

length-key : (key : RowKey) → FitsKey key → IsKeyWithin key → length (key_bytes key) ≤ 529
unfolding key_bytes_in
length-key key fits within =
    omega (arith, length-parts key.pk fits.pk, within.table, length-append (text_bytes key.table) (parts_bytes layout.Counted key.pk))

length-keys : (keys : List RowKey) → All FitsKey keys → All IsKeyWithin keys → length (flat_map key_bytes keys) ≤ 529 * length keys
length-keys [] fits within = omega arith
length-keys (key ∷ keys) fits within =
    let one = length-key key (All-head FitsKey key keys fits) (All-head IsKeyWithin key keys within) in
    let others = length-keys keys (All-tail FitsKey key keys fits) (All-tail IsKeyWithin key keys within) in
    let joined : length (flat_map key_bytes (key ∷ keys)) ≡ length (key_bytes key) + length (flat_map key_bytes keys) = rw flat_map-cons (length-append (key_bytes key) (flat_map key_bytes keys)) in
    omega (arith, one, others, joined)

length-registered : (given : Registered) → FitsRegistered given → IsRegisteredWithin given → length (registered_bytes given) ≤ 550
length-registered (registered.Granted id) fits within = omega arith
length-registered (registered.Conflict key holder rolling) fits within =
    omega (arith, length-key key fits.0 within, length-append (key_bytes key) (xid_bytes holder ++ truth_code rolling ∷ []))
length-registered (registered.Closed status) fits within = omega arith
length-registered registered.Late fits within = omega arith

length-stmt_error : (error : StmtError) → FitsStmtError error → IsErrorWithin error → length (stmt_error_bytes error) ≤ 530
length-stmt_error stmt.NoTable fits within = omega arith
length-stmt_error stmt.NoColumn fits within = omega arith
length-stmt_error stmt.Columns fits within = omega arith
length-stmt_error stmt.KeyChanged fits within = omega arith
length-stmt_error stmt.TypeMismatch fits within = omega arith
length-stmt_error stmt.TooManyRows fits within = omega arith
length-stmt_error (stmt.Overflow key) fits within = omega (arith, length-key key fits within)
length-stmt_error (stmt.Duplicate key) fits within = omega (arith, length-key key fits within)
length-stmt_error stmt.TableFull fits within = omega arith

length-why : (reason : Why) → FitsWhy reason → IsWhyWithin reason → length (why_bytes reason) ≤ 533
length-why (why.Stmt index error) fits within = omega (arith, length-stmt_error error fits.1 within.1)
length-why why.Tries fits within = omega arith
length-why (why.Rolling holder) fits within = omega arith
length-why (why.Closed status) fits within = omega arith
length-why why.Late fits within = omega arith
length-why why.Marker fits within = omega arith
length-why (why.NoRow index) fits within = omega arith
length-why why.Fence fits within = omega arith

length-ticket : (ticket : Ticket) → length (ticket_bytes ticket) ≡ 8
unfolding ticket_bytes
length-ticket ticket = refl

length-answer : (given : CallAnswer) → FitsAnswer given → IsAnswerWithin given → length (answer_bytes given) ≤ 538
length-answer (answer.Done id) fits within = omega arith
length-answer (answer.Busy key by) fits within =
    omega (arith, length-key key fits.0 within, length-ticket by, length-append (key_bytes key) (ticket_bytes by))
length-answer (answer.Failed reason) fits within = omega (arith, length-why reason fits within)

length-held : (held : Option (RowKey × Xid)) → FitsHeld held → IsHeldWithin held → length (held_bytes held) ≤ 538
length-held None fits within = omega arith
length-held (Some held) fits within = omega (arith, length-key held.0 fits.0 within, length-append (key_bytes held.0) (xid_bytes held.1))

length-stmt : (s : Stmt) → IsStmtWithin s → length (stmt_bytes s) ≤ 4002
unfolding stmt_bytes
length-stmt s within = omega (arith, within)

length-each : (stmts : List Stmt) → All IsStmtWithin stmts → length (flat_map stmt_bytes stmts) ≤ 4002 * length stmts
length-each [] within = omega arith
length-each (s ∷ stmts) within =
    let one = length-stmt s (All-head IsStmtWithin s stmts within) in
    let others = length-each stmts (All-tail IsStmtWithin s stmts within) in
    let joined : length (flat_map stmt_bytes (s ∷ stmts)) ≡ length (stmt_bytes s) + length (flat_map stmt_bytes stmts) = rw flat_map-cons (length-append (stmt_bytes s) (flat_map stmt_bytes stmts)) in
    omega (arith, one, others, joined)

-- at most sixteen statements
length-stmts : (stmts : List Stmt) → AreStmtsWithin stmts → length (stmts_bytes stmts) ≤ 64034
length-stmts stmts within =
    let few : length stmts ≤ 16 = within.count in
    omega (arith, few, length-each stmts within.each)

length-work : (asked : Work) → IsWorkWithin asked → length (work_bytes asked) ≤ 192103
length-work (work.At stmts) within = omega (arith, length-stmts stmts within)
length-work (work.Tcc action) within =
    omega (
      arith,
      length-stmts action.tries within.0,
      length-stmts action.confirms within.1,
      length-stmts action.cancels within.2,
      length-append (stmts_bytes action.tries) (stmts_bytes action.confirms ++ stmts_bytes action.cancels),
      length-append (stmts_bytes action.confirms) (stmts_bytes action.cancels),
    )

-- at most twice 256 keys
length-fields : (m : Message) → FitsMessage m → IsWithinLimits m → length (fields_bytes m) ≤ 280000
unfolding fields_bytes
length-fields (message.Begin manager timeout) fits within = omega arith
length-fields (message.Begun xid) fits within = omega arith
length-fields (message.BranchCommit xid id mode manager call) fits within = omega arith
length-fields (message.BranchCommitted xid id status stmt) fits within = omega arith
length-fields (message.BranchRollback xid id mode manager call) fits within = omega arith
length-fields (message.BranchRollbacked xid id status stmt) fits within = omega arith
length-fields (message.GlobalCommit xid) fits within = omega arith
length-fields (message.CommitStatus xid status) fits within = omega arith
length-fields (message.GlobalRollback xid) fits within = omega arith
length-fields (message.RollbackStatus xid status) fits within = omega arith
length-fields (message.Register xid resource call ticket mode hold check) fits within =
    let held = length-keys hold fits.4.each within.2.each in
    let checked = length-keys check fits.5.each within.3.each in
    let held_few : length hold ≤ CALL_ROWS = within.2.count in
    let checked_few : length check ≤ CALL_ROWS = within.3.count in
    omega (
      arith,
      held,
      checked,
      length-ticket ticket,
      length-append (ticket_bytes ticket) ((kind_code mode ∷ []) ++ (keys_bytes hold ++ keys_bytes check)),
      length-append (flat_map key_bytes hold) (keys_bytes check),
    )
length-fields (message.RegisterAnswer ticket xid given) fits within =
    omega (arith, length-ticket ticket, length-registered given fits.2 within, length-append (ticket_bytes ticket) (xid_bytes xid ++ registered_bytes given))
length-fields (message.GlobalStatus xid) fits within = omega arith
length-fields (message.StatusAnswer xid status) fits within = omega arith
length-fields (message.LockQuery resource ticket check) fits within =
    let checked = length-keys check fits.2.each within.1.each in
    let few : length check ≤ CALL_ROWS = within.1.count in
    omega (arith, checked, few, length-ticket ticket, length-append (ticket_bytes ticket) (keys_bytes check))
length-fields (message.LockAnswer ticket held) fits within =
    omega (arith, length-ticket ticket, length-held held fits.1 within, length-append (ticket_bytes ticket) (held_bytes held))
length-fields (message.Call xid manager resource call work) fits within = omega (arith, length-work work within.3)
length-fields (message.Answer xid call given) fits within = omega (arith, length-answer given fits.2 within.1)

pub framable_fits : (m : Message) (s : ℕ) → IsFramable m → s < 2 ^ 32 → HasFrame m s
framable_fits m s framable lt = record { fits = framable.layout; body = omega (arith, length-fields m framable.layout framable.limits); stamp_fits = lt }
