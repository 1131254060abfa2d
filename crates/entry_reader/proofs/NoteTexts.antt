-- Messages read back.
use Rattle.std.proofs.Common.{◌≡◌, true, false, List, ℕ, [], ◌∷◌, ◌++◌, Some, None, refl, ap, ◌∙◌}
use Rattle.std.specs.Prelude.{codes}
use Rattle.std.specs.Fmt.{decimal}
use Rattle.seata_types.specs.Orders.{same_text}
use Rattle.seata_types.specs.Statuses.{code_of, branch_code_of}
use Rattle.seata_types.specs.declared.ids.Place.TheVariants as place
use Rattle.seata_types.specs.declared.messages.CallAnswer.{CallAnswer}
use Rattle.seata_types.specs.declared.messages.CallAnswer.TheVariants as reply
use Rattle.seata_types.specs.declared.messages.Registered.TheVariants as registered
use Rattle.history_text.specs.Lines.{note_text, reply_text, keys_text, kind_text, place_text, xid_text, branch_text, ticket_text, key_text, holding_text}
use Rattle.history_text.specs.declared.entries.Names.{Names}
use Rattle.history_text.specs.declared.notes.Note.{Note}
use Rattle.history_text.specs.declared.notes.Note.TheVariants as note
use Rattle.entry_reader.specs.Parts.{word_in}
use Rattle.entry_reader.specs.Notes.{reply_of, register_of, conflict_of, note_of, asking_notes, answering_note, answering_notes}
use Rattle.entry_reader.specs.Types.{IsNote, IsReply}
use Rattle.entry_reader.specs.Writable.{AreNodeNames, are_locks, is_note, is_registered, is_reply, is_held}
use Rattle.entry_reader.proofs.Ascii.{both_left, both_right}
use Rattle.entry_reader.proofs.Spells.{Spells, one, beside, after_word, decimal_piece}
use Rattle.entry_reader.proofs.Identities.{number-decimal, xid_piece, xid-back, branch_piece, branch-back, ticket_piece, ticket-back, piece_16, number_16-decimal, leg_spells, call_spells}
use Rattle.entry_reader.proofs.Words.{status_piece, status-back, branch_status_piece, branch_status-back, kind_piece, kind-back, holding_piece, holding-back}
use Rattle.entry_reader.proofs.NodeNames.{place_piece, manager-back}
use Rattle.entry_reader.proofs.Keys.{key_piece, key-back}
use Rattle.entry_reader.proofs.LockTexts.{locks_piece, locks-back}
use Rattle.entry_reader.proofs.ReasonTexts.{why_reads}
use Rattle.entry_reader.proofs.ReadBack.{Reads, ap2, ap3, ap4, ap5, xid_word, call_word}

pub reply_reads : (names : Names) (r : CallAnswer) → AreNodeNames names → is_reply names r ≡ true → IsReply r → Reads (reply_of names) (reply_text names r) r
unfolding reply_of is_reply
reply_reads names (reply.Done branch) are is h = record {
  first = codes "done";
  more = branch_text branch ∷ [];
  spells = after_word (codes "done") refl refl (one (branch_piece branch h));
  back = λ rest. ap reply.Done (branch-back branch h);
}
reply_reads names (reply.Busy key by) are is h = record {
  first = codes "busy";
  more = key_text names key ∷ ticket_text by ∷ [];
  spells = after_word (codes "busy") refl refl (beside (one (key_piece names key are is h.0)) (one (ticket_piece by h.1)));
  back = λ rest. ap2 reply.Busy (key-back names key are is h.0) (ticket-back by h.1);
}
reply_reads names (reply.Failed reason) are is h =
    let w = why_reads names reason are is h in
    record {
      first = codes "failed";
      more = w.first ∷ w.more;
      spells = after_word (codes "failed") refl refl w.spells;
      back = λ rest. ap reply.Failed (w.back rest);
    }

-- the pieces of a message, of which the first isn't that of none
pub record ReadsNote (names : Names) (resource : ℕ) (n : Note) : Type 0 where
  pub first : List ℕ
  pub more : List (List ℕ)
  pub spells : Spells (note_text names n) (first ∷ more)
  pub back : (rest : List (List ℕ)) → note_of names resource (first ∷ (more ++ rest)) ≡ n
  pub there : same_text (word_in first) (codes "-") ≡ false

ap6 : {A B C D E F G : Type 0} (f : A → B → C → D → E → F → G) {a x : A} {b y : B} {c z : C} {d w : D} {e v : E} {g u : F} → a ≡ x → b ≡ y → c ≡ z → d ≡ w → e ≡ v → g ≡ u → f a b c d e g ≡ f x y z w v u
ap6 f {a = a} {x = x} {b = b} {y = y} {c = c} {z = z} {d = d} {w = w} {e = e} {v = v} {g = g} {u = u} p q r s t o = ap (λ k. f k b c d e g) p ∙ ap5 (f x) q r s t o

pub note_reads : (names : Names) (resource : ℕ) (n : Note) → AreNodeNames names → is_note names resource n ≡ true → IsNote n → ReadsNote names resource n
unfolding note_of asking_notes answering_note answering_notes register_of conflict_of is_note is_registered is_held
note_reads names resource (note.Begin manager timeout) are is h = record {
  first = codes "begin";
  more = place_text names (place.Man manager) ∷ decimal timeout ∷ [];
  spells = after_word (codes "begin") refl refl (beside (one (place_piece names (place.Man manager) are is)) (one (decimal_piece timeout h.1)));
  back = λ rest. ap2 note.Begin (manager-back names manager are is h.0) (number-decimal timeout h.1);
  there = refl;
}
note_reads names resource (note.Begun xid) are is h = record {
  first = codes "begun";
  more = xid_text xid ∷ [];
  spells = xid_word (codes "begun") refl refl xid h;
  back = λ rest. ap note.Begun (xid-back xid h);
  there = refl;
}
note_reads names resource (note.BranchCommit xid branch kind) are is h = record {
  first = codes "branch-commit";
  more = xid_text xid ∷ branch_text branch ∷ kind_text kind ∷ [];
  spells = after_word (codes "branch-commit") refl refl (beside (leg_spells xid branch h.0 h.1) (one (kind_piece kind)));
  back = λ rest. ap3 note.BranchCommit (xid-back xid h.0) (branch-back branch h.1) (kind-back kind);
  there = refl;
}
note_reads names resource (note.BranchCommitted xid branch status stmt) are is h = record {
  first = codes "branch-committed";
  more = xid_text xid ∷ branch_text branch ∷ decimal (branch_code_of status) ∷ decimal stmt ∷ [];
  spells = after_word (codes "branch-committed") refl refl (beside (leg_spells xid branch h.0 h.1) (beside (one (branch_status_piece status)) (one (piece_16 stmt h.2))));
  back = λ rest. ap4 note.BranchCommitted (xid-back xid h.0) (branch-back branch h.1) (branch_status-back status) (number_16-decimal stmt h.2);
  there = refl;
}
note_reads names resource (note.BranchRollback xid branch kind) are is h = record {
  first = codes "branch-rollback";
  more = xid_text xid ∷ branch_text branch ∷ kind_text kind ∷ [];
  spells = after_word (codes "branch-rollback") refl refl (beside (leg_spells xid branch h.0 h.1) (one (kind_piece kind)));
  back = λ rest. ap3 note.BranchRollback (xid-back xid h.0) (branch-back branch h.1) (kind-back kind);
  there = refl;
}
note_reads names resource (note.BranchRollbacked xid branch status stmt) are is h = record {
  first = codes "branch-rollbacked";
  more = xid_text xid ∷ branch_text branch ∷ decimal (branch_code_of status) ∷ decimal stmt ∷ [];
  spells = after_word (codes "branch-rollbacked") refl refl (beside (leg_spells xid branch h.0 h.1) (beside (one (branch_status_piece status)) (one (piece_16 stmt h.2))));
  back = λ rest. ap4 note.BranchRollbacked (xid-back xid h.0) (branch-back branch h.1) (branch_status-back status) (number_16-decimal stmt h.2);
  there = refl;
}
note_reads names resource (note.GlobalCommit xid) are is h = record {
  first = codes "commit";
  more = xid_text xid ∷ [];
  spells = xid_word (codes "commit") refl refl xid h;
  back = λ rest. ap note.GlobalCommit (xid-back xid h);
  there = refl;
}
note_reads names resource (note.CommitStatus xid status) are is h = record {
  first = codes "commit-status";
  more = xid_text xid ∷ decimal (code_of status) ∷ [];
  spells = after_word (codes "commit-status") refl refl (beside (one (xid_piece xid h)) (one (status_piece status)));
  back = λ rest. ap2 note.CommitStatus (xid-back xid h) (status-back status);
  there = refl;
}
note_reads names resource (note.GlobalRollback xid) are is h = record {
  first = codes "rollback";
  more = xid_text xid ∷ [];
  spells = xid_word (codes "rollback") refl refl xid h;
  back = λ rest. ap note.GlobalRollback (xid-back xid h);
  there = refl;
}
note_reads names resource (note.RollbackStatus xid status) are is h = record {
  first = codes "rollback-status";
  more = xid_text xid ∷ decimal (code_of status) ∷ [];
  spells = after_word (codes "rollback-status") refl refl (beside (one (xid_piece xid h)) (one (status_piece status)));
  back = λ rest. ap2 note.RollbackStatus (xid-back xid h) (status-back status);
  there = refl;
}
note_reads names resource (note.Register xid call ticket kind hold check) are is h = record {
  first = codes "register";
  more = xid_text xid ∷ (codes "c" ++ decimal call) ∷ ticket_text ticket ∷ kind_text kind ∷ codes "hold" ∷ keys_text hold ∷ codes "check" ∷ keys_text check ∷ [];
  spells = after_word (codes "register") refl refl (beside (call_spells xid call h.0 h.1) (beside (one (ticket_piece ticket h.2)) (beside (one (kind_piece kind)) (after_word (codes "hold") refl refl (beside (one (locks_piece names resource hold (both_left (are_locks names resource hold) (are_locks names resource check) is) h.3)) (after_word (codes "check") refl refl (one (locks_piece names resource check (both_right (are_locks names resource hold) (are_locks names resource check) is) h.4))))))));
  back = λ rest. ap6 note.Register (xid-back xid h.0) (number_16-decimal call h.1) (ticket-back ticket h.2) (kind-back kind) (locks-back names resource hold (both_left (are_locks names resource hold) (are_locks names resource check) is) h.3) (locks-back names resource check (both_right (are_locks names resource hold) (are_locks names resource check) is) h.4);
  there = refl;
}
note_reads names resource (note.RegisterAnswer ticket xid (registered.Granted branch)) are is h = record {
  first = codes "granted";
  more = ticket_text ticket ∷ xid_text xid ∷ branch_text branch ∷ [];
  spells = after_word (codes "granted") refl refl (beside (one (ticket_piece ticket h.0)) (leg_spells xid branch h.1 h.2));
  back = λ rest. ap3 note.RegisterAnswer (ticket-back ticket h.0) (xid-back xid h.1) (ap registered.Granted (branch-back branch h.2));
  there = refl;
}
note_reads names resource (note.RegisterAnswer ticket xid (registered.Conflict key holder rolling)) are is h = record {
  first = codes "conflict";
  more = ticket_text ticket ∷ xid_text xid ∷ key_text names key ∷ xid_text holder ∷ holding_text rolling ∷ [];
  spells = after_word (codes "conflict") refl refl (beside (one (ticket_piece ticket h.0)) (beside (one (xid_piece xid h.1)) (beside (one (key_piece names key are is h.2.0)) (beside (one (xid_piece holder h.2.1)) (one (holding_piece rolling))))));
  back = λ rest. ap3 note.RegisterAnswer (ticket-back ticket h.0) (xid-back xid h.1) (ap3 registered.Conflict (key-back names key are is h.2.0) (xid-back holder h.2.1) (holding-back rolling));
  there = refl;
}
note_reads names resource (note.RegisterAnswer ticket xid (registered.Closed status)) are is h = record {
  first = codes "closed";
  more = ticket_text ticket ∷ xid_text xid ∷ decimal (code_of status) ∷ [];
  spells = after_word (codes "closed") refl refl (beside (one (ticket_piece ticket h.0)) (beside (one (xid_piece xid h.1)) (one (status_piece status))));
  back = λ rest. ap3 note.RegisterAnswer (ticket-back ticket h.0) (xid-back xid h.1) (ap registered.Closed (status-back status));
  there = refl;
}
note_reads names resource (note.RegisterAnswer ticket xid registered.Late) are is h = record {
  first = codes "late";
  more = ticket_text ticket ∷ xid_text xid ∷ [];
  spells = after_word (codes "late") refl refl (beside (one (ticket_piece ticket h.0)) (one (xid_piece xid h.1)));
  back = λ rest. ap2 (λ t x. note.RegisterAnswer t x registered.Late) (ticket-back ticket h.0) (xid-back xid h.1);
  there = refl;
}
note_reads names resource (note.GlobalStatus xid) are is h = record {
  first = codes "status-ask";
  more = xid_text xid ∷ [];
  spells = xid_word (codes "status-ask") refl refl xid h;
  back = λ rest. ap note.GlobalStatus (xid-back xid h);
  there = refl;
}
note_reads names resource (note.StatusAnswer xid status) are is h = record {
  first = codes "status";
  more = xid_text xid ∷ decimal (code_of status) ∷ [];
  spells = after_word (codes "status") refl refl (beside (one (xid_piece xid h)) (one (status_piece status)));
  back = λ rest. ap2 note.StatusAnswer (xid-back xid h) (status-back status);
  there = refl;
}
note_reads names resource (note.LockQuery ticket check) are is h = record {
  first = codes "lock-query";
  more = ticket_text ticket ∷ codes "check" ∷ keys_text check ∷ [];
  spells = after_word (codes "lock-query") refl refl (beside (one (ticket_piece ticket h.0)) (after_word (codes "check") refl refl (one (locks_piece names resource check is h.1))));
  back = λ rest. ap2 note.LockQuery (ticket-back ticket h.0) (locks-back names resource check is h.1);
  there = refl;
}
note_reads names resource (note.LockAnswer ticket None) are is h = record {
  first = codes "lock-free";
  more = ticket_text ticket ∷ [];
  spells = after_word (codes "lock-free") refl refl (one (ticket_piece ticket h.0));
  back = λ rest. ap (λ t. note.LockAnswer t None) (ticket-back ticket h.0);
  there = refl;
}
note_reads names resource (note.LockAnswer ticket (Some (key, holder))) are is h = record {
  first = codes "lock-held";
  more = ticket_text ticket ∷ key_text names key ∷ xid_text holder ∷ [];
  spells = after_word (codes "lock-held") refl refl (beside (one (ticket_piece ticket h.0)) (beside (one (key_piece names key are is h.1.0)) (one (xid_piece holder h.1.1))));
  back = λ rest. ap3 (λ t k o. note.LockAnswer t (Some (k, o))) (ticket-back ticket h.0) (key-back names key are is h.1.0) (xid-back holder h.1.1);
  there = refl;
}
note_reads names resource (note.Call xid call) are is h = record {
  first = codes "call";
  more = xid_text xid ∷ (codes "c" ++ decimal call) ∷ [];
  spells = call_word (codes "call") refl refl xid call h.0 h.1;
  back = λ rest. ap2 note.Call (xid-back xid h.0) (number_16-decimal call h.1);
  there = refl;
}
note_reads names resource (note.Answer xid call answer) are is h =
    let r = reply_reads names answer are is h.2 in
    record {
      first = codes "answer";
      more = xid_text xid ∷ (codes "c" ++ decimal call) ∷ r.first ∷ r.more;
      spells = after_word (codes "answer") refl refl (beside (call_spells xid call h.0 h.1) r.spells);
      back = λ rest. ap3 note.Answer (xid-back xid h.0) (number_16-decimal call h.1) (r.back rest);
      there = refl;
    }
