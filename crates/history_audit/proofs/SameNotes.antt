-- That two messages that compare as equal, as lines show them, are one.
use Rattle.std.proofs.Common.{◌≡◌, ◌==◌, ◌&&◌, ℕ, Bool, true, false, List, Option, refl, sym, subst, arith, true≢false}
use mathlib.Core.Bool.{beq}
use Rattle.std.specs.Bool.{Decides}
use Rattle.std.specs.Option.{option_eq}
use Rattle.std.specs.Cmp.Lexicographic.{pointwise}
use Rattle.std.proofs.lemmas.Bool.Decides.{nat_tests}
use Rattle.std.proofs.lemmas.Slice.Eq.{slice_eq-Decides}
use Rattle.seata_types.specs.contracts.ids.PlacePartialEq as of_places
use Rattle.seata_types.specs.contracts.messages.CallAnswerPartialEq as of_answers
use Rattle.seata_types.specs.contracts.messages.RegisteredPartialEq as of_registered
use Rattle.seata_types.specs.contracts.rows.RowKeyEq.TheImpl.Laws as key_laws
use Rattle.seata_types.specs.contracts.statuses.BranchKindPartialEq as of_kinds
use Rattle.seata_types.specs.contracts.statuses.BranchStatusPartialEq as of_branch_statuses
use Rattle.seata_types.specs.declared.ids.Place.{Place}
use Rattle.seata_types.specs.declared.ids.Place.TheVariants as place
use Rattle.seata_types.specs.declared.ids.Xid.{Xid}
use Rattle.seata_types.specs.declared.messages.CallAnswer.{CallAnswer}
use Rattle.seata_types.specs.declared.messages.CallAnswer.TheVariants as called
use Rattle.seata_types.specs.declared.messages.Registered.{Registered}
use Rattle.seata_types.specs.declared.messages.Registered.TheVariants as registered
use Rattle.seata_types.specs.declared.rows.RowKey.{RowKey}
use Rattle.seata_types.specs.declared.statuses.BranchKind.{BranchKind}
use Rattle.seata_types.specs.declared.statuses.BranchKind.TheVariants as kind
use Rattle.seata_types.specs.declared.statuses.BranchStatus.{BranchStatus}
use Rattle.seata_types.specs.declared.statuses.BranchStatus.TheVariants as branch
use Rattle.history_text.specs.contracts.entries.SentPartialEq as of_sent
use Rattle.history_text.specs.contracts.entries.SentEq.TheImpl.Laws as sent_laws
use Rattle.history_text.specs.contracts.notes.NotePartialEq as of_notes
use Rattle.history_text.specs.declared.entries.Sent.{Sent}
use Rattle.history_text.specs.declared.notes.Note.{Note}
use Rattle.history_text.specs.declared.notes.Note.TheVariants as note
use Rattle.judged_devices.proofs.SameActs.{branch_eq, key_eq, same_branches, same_keys, same_options, same_statuses, same_tickets, same_whys, same_xids, status_eq, ticket_eq, xid_eq}

false_true : {A : Type 0} → false ≡ true → A
false_true e = absurd (true≢false (sym e))

same_nat : (m n : ℕ) → (m == n) ≡ true → m ≡ n
same_nat m n e = grind (arith, nat_tests)

same_bools : (a b : Bool) → beq a b ≡ true → a ≡ b
same_bools true true e = refl
same_bools false false e = refl
same_bools true false e = false_true e
same_bools false true e = false_true e

both : (p q : Bool) → (p && q) ≡ true → (p ≡ true) × (q ≡ true)
both true q e = (refl, e)
both false q e = false_true e

-- ---- places

abbrev place_eq : Place → Place → Bool
place_eq a b = of_places.TheImpl.ghosts.eq a b

same_places : (a b : Place) → place_eq a b ≡ true → a ≡ b
same_places place.Net place.Net e = refl
same_places place.Net _ e = false_true e
same_places place.Tc place.Tc e = refl
same_places place.Tc _ e = false_true e
same_places (place.Res a0) (place.Res b0) e = λ i. place.Res (same_nat a0 b0 e i)
same_places (place.Res a0) _ e = false_true e
same_places (place.Man a0) (place.Man b0) e = λ i. place.Man (same_nat a0 b0 e i)
same_places (place.Man a0) _ e = false_true e

-- ---- statuses

abbrev branch_status_eq : BranchStatus → BranchStatus → Bool
branch_status_eq a b = of_branch_statuses.TheImpl.ghosts.eq a b

same_branch_statuses : (a b : BranchStatus) → branch_status_eq a b ≡ true → a ≡ b
same_branch_statuses branch.Unknown branch.Unknown e = refl
same_branch_statuses branch.Unknown _ e = false_true e
same_branch_statuses branch.Registered branch.Registered e = refl
same_branch_statuses branch.Registered _ e = false_true e
same_branch_statuses branch.PhaseOneDone branch.PhaseOneDone e = refl
same_branch_statuses branch.PhaseOneDone _ e = false_true e
same_branch_statuses branch.PhaseOneFailed branch.PhaseOneFailed e = refl
same_branch_statuses branch.PhaseOneFailed _ e = false_true e
same_branch_statuses branch.PhaseOneTimeout branch.PhaseOneTimeout e = refl
same_branch_statuses branch.PhaseOneTimeout _ e = false_true e
same_branch_statuses branch.PhaseTwoCommitted branch.PhaseTwoCommitted e = refl
same_branch_statuses branch.PhaseTwoCommitted _ e = false_true e
same_branch_statuses branch.PhaseTwoCommitFailedRetryable branch.PhaseTwoCommitFailedRetryable e = refl
same_branch_statuses branch.PhaseTwoCommitFailedRetryable _ e = false_true e
same_branch_statuses branch.PhaseTwoCommitFailedUnretryable branch.PhaseTwoCommitFailedUnretryable e = refl
same_branch_statuses branch.PhaseTwoCommitFailedUnretryable _ e = false_true e
same_branch_statuses branch.PhaseTwoRollbacked branch.PhaseTwoRollbacked e = refl
same_branch_statuses branch.PhaseTwoRollbacked _ e = false_true e
same_branch_statuses branch.PhaseTwoRollbackFailedRetryable branch.PhaseTwoRollbackFailedRetryable e = refl
same_branch_statuses branch.PhaseTwoRollbackFailedRetryable _ e = false_true e
same_branch_statuses branch.PhaseTwoRollbackFailedUnretryable branch.PhaseTwoRollbackFailedUnretryable e = refl
same_branch_statuses branch.PhaseTwoRollbackFailedUnretryable _ e = false_true e

-- ---- kinds

abbrev kind_eq : BranchKind → BranchKind → Bool
kind_eq a b = of_kinds.TheImpl.ghosts.eq a b

same_kinds : (a b : BranchKind) → kind_eq a b ≡ true → a ≡ b
same_kinds kind.At kind.At e = refl
same_kinds kind.At _ e = false_true e
same_kinds kind.Tcc kind.Tcc e = refl
same_kinds kind.Tcc _ e = false_true e

-- ---- rows

keys_decide : (a b : RowKey) → Decides (key_eq a b) (a ≡ b)
keys_decide a b = (same_keys a b, λ e. subst (λ z. key_eq a z ≡ true) e (key_laws.laws-law.refl a))

same_lists : (a b : List RowKey) → pointwise key_eq a b ≡ true → a ≡ b
same_lists a b e = (slice_eq-Decides keys_decide a b (pointwise key_eq a b) refl).0 e

abbrev held_eq : RowKey × Xid → RowKey × Xid → Bool
held_eq a b = key_eq a.0 b.0 && xid_eq a.1 b.1

same_held : (a b : Option (RowKey × Xid)) → option_eq held_eq a b ≡ true → a ≡ b
same_held a b e = same_options held_eq pair a b e
  where
    pair : (p q : RowKey × Xid) → held_eq p q ≡ true → p ≡ q
    pair (k, x) (l, y) e = let both_are = both (key_eq k l) (xid_eq x y) e in λ i. (same_keys k l both_are.0 i, same_xids x y both_are.1 i)

-- ---- answers

abbrev registered_eq : Registered → Registered → Bool
registered_eq a b = of_registered.TheImpl.ghosts.eq a b

same_registered : (a b : Registered) → registered_eq a b ≡ true → a ≡ b
same_registered (registered.Granted a0) (registered.Granted b0) e = λ i. registered.Granted (same_branches a0 b0 e i)
same_registered (registered.Granted a0) _ e = false_true e
same_registered (registered.Conflict a0 a1 a2) (registered.Conflict b0 b1 b2) e =
    let k0 = both (key_eq a0 b0) ((xid_eq a1 b1) && ((beq a2 b2))) e in
    let k1 = both (xid_eq a1 b1) (beq a2 b2) k0.1 in
    λ i. registered.Conflict (same_keys a0 b0 k0.0 i) (same_xids a1 b1 k1.0 i) (same_bools a2 b2 k1.1 i)
same_registered (registered.Conflict a0 a1 a2) _ e = false_true e
same_registered (registered.Closed a0) (registered.Closed b0) e = λ i. registered.Closed (same_statuses a0 b0 e i)
same_registered (registered.Closed a0) _ e = false_true e
same_registered registered.Late registered.Late e = refl
same_registered registered.Late _ e = false_true e

-- ---- answers of calls

abbrev answer_eq : CallAnswer → CallAnswer → Bool
answer_eq a b = of_answers.TheImpl.ghosts.eq a b

same_answers : (a b : CallAnswer) → answer_eq a b ≡ true → a ≡ b
same_answers (called.Done a0) (called.Done b0) e = λ i. called.Done (same_branches a0 b0 e i)
same_answers (called.Done a0) _ e = false_true e
same_answers (called.Busy a0 a1) (called.Busy b0 b1) e =
    let k0 = both (key_eq a0 b0) (ticket_eq a1 b1) e in
    λ i. called.Busy (same_keys a0 b0 k0.0 i) (same_tickets a1 b1 k0.1 i)
same_answers (called.Busy a0 a1) _ e = false_true e
same_answers (called.Failed a0) (called.Failed b0) e = λ i. called.Failed (same_whys a0 b0 e i)
same_answers (called.Failed a0) _ e = false_true e

-- ---- notes

abbrev note_eq : Note → Note → Bool
note_eq a b = of_notes.TheImpl.ghosts.eq a b

same_notes : (a b : Note) → note_eq a b ≡ true → a ≡ b
same_notes (note.Begin a0 a1) (note.Begin b0 b1) e =
    let k0 = both (a0 == b0) (a1 == b1) e in
    λ i. note.Begin (same_nat a0 b0 k0.0 i) (same_nat a1 b1 k0.1 i)
same_notes (note.Begin a0 a1) _ e = false_true e
same_notes (note.Begun a0) (note.Begun b0) e = λ i. note.Begun (same_xids a0 b0 e i)
same_notes (note.Begun a0) _ e = false_true e
same_notes (note.BranchCommit a0 a1 a2) (note.BranchCommit b0 b1 b2) e =
    let k0 = both (xid_eq a0 b0) ((branch_eq a1 b1) && ((kind_eq a2 b2))) e in
    let k1 = both (branch_eq a1 b1) (kind_eq a2 b2) k0.1 in
    λ i. note.BranchCommit (same_xids a0 b0 k0.0 i) (same_branches a1 b1 k1.0 i) (same_kinds a2 b2 k1.1 i)
same_notes (note.BranchCommit a0 a1 a2) _ e = false_true e
same_notes (note.BranchCommitted a0 a1 a2 a3) (note.BranchCommitted b0 b1 b2 b3) e =
    let k0 = both (xid_eq a0 b0) ((branch_eq a1 b1) && ((branch_status_eq a2 b2) && ((a3 == b3)))) e in
    let k1 = both (branch_eq a1 b1) ((branch_status_eq a2 b2) && ((a3 == b3))) k0.1 in
    let k2 = both (branch_status_eq a2 b2) (a3 == b3) k1.1 in
    λ i. note.BranchCommitted (same_xids a0 b0 k0.0 i) (same_branches a1 b1 k1.0 i) (same_branch_statuses a2 b2 k2.0 i) (same_nat a3 b3 k2.1 i)
same_notes (note.BranchCommitted a0 a1 a2 a3) _ e = false_true e
same_notes (note.BranchRollback a0 a1 a2) (note.BranchRollback b0 b1 b2) e =
    let k0 = both (xid_eq a0 b0) ((branch_eq a1 b1) && ((kind_eq a2 b2))) e in
    let k1 = both (branch_eq a1 b1) (kind_eq a2 b2) k0.1 in
    λ i. note.BranchRollback (same_xids a0 b0 k0.0 i) (same_branches a1 b1 k1.0 i) (same_kinds a2 b2 k1.1 i)
same_notes (note.BranchRollback a0 a1 a2) _ e = false_true e
same_notes (note.BranchRollbacked a0 a1 a2 a3) (note.BranchRollbacked b0 b1 b2 b3) e =
    let k0 = both (xid_eq a0 b0) ((branch_eq a1 b1) && ((branch_status_eq a2 b2) && ((a3 == b3)))) e in
    let k1 = both (branch_eq a1 b1) ((branch_status_eq a2 b2) && ((a3 == b3))) k0.1 in
    let k2 = both (branch_status_eq a2 b2) (a3 == b3) k1.1 in
    λ i. note.BranchRollbacked (same_xids a0 b0 k0.0 i) (same_branches a1 b1 k1.0 i) (same_branch_statuses a2 b2 k2.0 i) (same_nat a3 b3 k2.1 i)
same_notes (note.BranchRollbacked a0 a1 a2 a3) _ e = false_true e
same_notes (note.GlobalCommit a0) (note.GlobalCommit b0) e = λ i. note.GlobalCommit (same_xids a0 b0 e i)
same_notes (note.GlobalCommit a0) _ e = false_true e
same_notes (note.CommitStatus a0 a1) (note.CommitStatus b0 b1) e =
    let k0 = both (xid_eq a0 b0) (status_eq a1 b1) e in
    λ i. note.CommitStatus (same_xids a0 b0 k0.0 i) (same_statuses a1 b1 k0.1 i)
same_notes (note.CommitStatus a0 a1) _ e = false_true e
same_notes (note.GlobalRollback a0) (note.GlobalRollback b0) e = λ i. note.GlobalRollback (same_xids a0 b0 e i)
same_notes (note.GlobalRollback a0) _ e = false_true e
same_notes (note.RollbackStatus a0 a1) (note.RollbackStatus b0 b1) e =
    let k0 = both (xid_eq a0 b0) (status_eq a1 b1) e in
    λ i. note.RollbackStatus (same_xids a0 b0 k0.0 i) (same_statuses a1 b1 k0.1 i)
same_notes (note.RollbackStatus a0 a1) _ e = false_true e
same_notes (note.Register a0 a1 a2 a3 a4 a5) (note.Register b0 b1 b2 b3 b4 b5) e =
    let k0 = both (xid_eq a0 b0) ((a1 == b1) && ((ticket_eq a2 b2) && ((kind_eq a3 b3) && ((pointwise key_eq a4 b4) && ((pointwise key_eq a5 b5)))))) e in
    let k1 = both (a1 == b1) ((ticket_eq a2 b2) && ((kind_eq a3 b3) && ((pointwise key_eq a4 b4) && ((pointwise key_eq a5 b5))))) k0.1 in
    let k2 = both (ticket_eq a2 b2) ((kind_eq a3 b3) && ((pointwise key_eq a4 b4) && ((pointwise key_eq a5 b5)))) k1.1 in
    let k3 = both (kind_eq a3 b3) ((pointwise key_eq a4 b4) && ((pointwise key_eq a5 b5))) k2.1 in
    let k4 = both (pointwise key_eq a4 b4) (pointwise key_eq a5 b5) k3.1 in
    λ i. note.Register (same_xids a0 b0 k0.0 i) (same_nat a1 b1 k1.0 i) (same_tickets a2 b2 k2.0 i) (same_kinds a3 b3 k3.0 i) (same_lists a4 b4 k4.0 i) (same_lists a5 b5 k4.1 i)
same_notes (note.Register a0 a1 a2 a3 a4 a5) _ e = false_true e
same_notes (note.RegisterAnswer a0 a1 a2) (note.RegisterAnswer b0 b1 b2) e =
    let k0 = both (ticket_eq a0 b0) ((xid_eq a1 b1) && ((registered_eq a2 b2))) e in
    let k1 = both (xid_eq a1 b1) (registered_eq a2 b2) k0.1 in
    λ i. note.RegisterAnswer (same_tickets a0 b0 k0.0 i) (same_xids a1 b1 k1.0 i) (same_registered a2 b2 k1.1 i)
same_notes (note.RegisterAnswer a0 a1 a2) _ e = false_true e
same_notes (note.GlobalStatus a0) (note.GlobalStatus b0) e = λ i. note.GlobalStatus (same_xids a0 b0 e i)
same_notes (note.GlobalStatus a0) _ e = false_true e
same_notes (note.StatusAnswer a0 a1) (note.StatusAnswer b0 b1) e =
    let k0 = both (xid_eq a0 b0) (status_eq a1 b1) e in
    λ i. note.StatusAnswer (same_xids a0 b0 k0.0 i) (same_statuses a1 b1 k0.1 i)
same_notes (note.StatusAnswer a0 a1) _ e = false_true e
same_notes (note.LockQuery a0 a1) (note.LockQuery b0 b1) e =
    let k0 = both (ticket_eq a0 b0) (pointwise key_eq a1 b1) e in
    λ i. note.LockQuery (same_tickets a0 b0 k0.0 i) (same_lists a1 b1 k0.1 i)
same_notes (note.LockQuery a0 a1) _ e = false_true e
same_notes (note.LockAnswer a0 a1) (note.LockAnswer b0 b1) e =
    let k0 = both (ticket_eq a0 b0) (option_eq held_eq a1 b1) e in
    λ i. note.LockAnswer (same_tickets a0 b0 k0.0 i) (same_held a1 b1 k0.1 i)
same_notes (note.LockAnswer a0 a1) _ e = false_true e
same_notes (note.Call a0 a1) (note.Call b0 b1) e =
    let k0 = both (xid_eq a0 b0) (a1 == b1) e in
    λ i. note.Call (same_xids a0 b0 k0.0 i) (same_nat a1 b1 k0.1 i)
same_notes (note.Call a0 a1) _ e = false_true e
same_notes (note.Answer a0 a1 a2) (note.Answer b0 b1 b2) e =
    let k0 = both (xid_eq a0 b0) ((a1 == b1) && ((answer_eq a2 b2))) e in
    let k1 = both (a1 == b1) (answer_eq a2 b2) k0.1 in
    λ i. note.Answer (same_xids a0 b0 k0.0 i) (same_nat a1 b1 k1.0 i) (same_answers a2 b2 k1.1 i)
same_notes (note.Answer a0 a1 a2) _ e = false_true e

-- ---- a message as its line shows it

abbrev sent_eq : Sent → Sent → Bool
sent_eq a b = of_sent.TheImpl.ghosts.eq a b

same_sents : (a b : Sent) → sent_eq a b ≡ true → a ≡ b
same_sents a b e =
    let k = both (place_eq a.to b.to) (note_eq a.note b.note) e in
    λ i. record { to = same_places a.to b.to k.0 i; note = same_notes a.note b.note k.1 i }

pub sent_decides : (a b : Sent) → Decides (sent_eq a b) (a ≡ b)
sent_decides a b = (same_sents a b, λ e. subst (λ z. sent_eq a z ≡ true) e (sent_laws.laws-law.refl a))
