-- Durable acts read back.
use Rattle.std.proofs.Common.{◌≡◌, ◌^◌, ◌<◌, true, List, ℕ, [], ◌∷◌, ◌++◌, refl, ap, arith}
use Rattle.std.specs.Prelude.{codes}
use Rattle.std.specs.List.{list_all}
use Rattle.std.specs.Fmt.{decimal}
use Rattle.seata_types.specs.Statuses.{code_of}
use Rattle.seata_types.specs.declared.acts.Act.TheVariants as act
use Rattle.seata_types.specs.declared.acts.Durable.{Durable}
use Rattle.seata_types.specs.declared.acts.Durable.TheVariants as durable
use Rattle.seata_types.specs.declared.statuses.Decision.{Decision}
use Rattle.seata_types.specs.declared.statuses.Decision.TheVariants as how
use Rattle.history_text.specs.Lines.{durable_text, xid_text, branch_text, ticket_text, decision_text}
use Rattle.history_text.specs.declared.entries.Names.{Names}
use Rattle.entry_reader.specs.Acts.{durable_of, act_of, coordinator_acts, call_act, call_acts, branch_act, branch_acts, local_act, local_acts, other_act, other_acts}
use Rattle.entry_reader.specs.Types.{IsDurable}
use Rattle.entry_reader.proofs.Spells.{Spells, one, word, beside, after_word}
use Rattle.entry_reader.proofs.Identities.{xid-back, branch-back, ticket_piece, ticket-back, piece_16, number_16-decimal, leg_spells, xid_piece}
use Rattle.entry_reader.proofs.Words.{status_piece, status-back, decision_piece, decision-back, code-wide}
use Rattle.entry_reader.proofs.Tests.{both}
use Rattle.entry_reader.proofs.ReadBack.{ap2, ap3, xid_word, leg_word, is_apart, decimal_apart}

-- the pieces of a durable act, of which none is a word that stands before a durable act
pub record ReadsDurable (d : Durable) : Type 0 where
  pub first : List ℕ
  pub more : List (List ℕ)
  pub spells : Spells (durable_text d) (first ∷ more)
  pub back : (rest : List (List ℕ)) → durable_of (first ∷ (more ++ rest)) ≡ d
  pub as_act : (names : Names) (rest : List (List ℕ)) → act_of names (first ∷ (more ++ rest)) ≡ act.Durable (durable_of (first ∷ (more ++ rest)))
  pub apart : list_all is_apart (first ∷ more) ≡ true

wide_16 : (n : ℕ) → n < 2 ^ 16 → n < 2 ^ 64
wide_16 n small = omega arith

decision_apart : (d : Decision) → list_all is_apart (codes "decided" ∷ codes "tc:" ∷ decision_text d ∷ []) ≡ true
decision_apart how.Commit = refl
decision_apart how.Rollback = refl
decision_apart how.Timeout = refl

pub durable_reads : (d : Durable) → IsDurable d → ReadsDurable d
unfolding durable_of act_of coordinator_acts call_act call_acts branch_act branch_acts local_act local_acts other_act other_acts
durable_reads (durable.Begun xid) h = record {
  first = codes "begun";
  more = xid_text xid ∷ [];
  spells = xid_word (codes "begun") refl refl xid h;
  back = λ rest. ap durable.Begun (xid-back xid h);
  as_act = λ names rest. refl;
  apart = refl;
}
durable_reads (durable.Granted xid branch) h = record {
  first = codes "granted";
  more = xid_text xid ∷ branch_text branch ∷ [];
  spells = leg_word (codes "granted") refl refl xid branch h.0 h.1;
  back = λ rest. ap2 durable.Granted (xid-back xid h.0) (branch-back branch h.1);
  as_act = λ names rest. refl;
  apart = refl;
}
durable_reads (durable.Late xid) h = record {
  first = codes "late";
  more = xid_text xid ∷ [];
  spells = xid_word (codes "late") refl refl xid h;
  back = λ rest. ap durable.Late (xid-back xid h);
  as_act = λ names rest. refl;
  apart = refl;
}
durable_reads (durable.Decided xid decision) h = record {
  first = codes "decided";
  more = xid_text xid ∷ decision_text decision ∷ [];
  spells = after_word (codes "decided") refl refl (beside (one (xid_piece xid h)) (one (decision_piece decision)));
  back = λ rest. ap2 durable.Decided (xid-back xid h) (decision-back decision);
  as_act = λ names rest. refl;
  apart = decision_apart decision;
}
durable_reads (durable.Ended xid branch) h = record {
  first = codes "ended";
  more = xid_text xid ∷ branch_text branch ∷ [];
  spells = leg_word (codes "ended") refl refl xid branch h.0 h.1;
  back = λ rest. ap2 durable.Ended (xid-back xid h.0) (branch-back branch h.1);
  as_act = λ names rest. refl;
  apart = refl;
}
durable_reads (durable.Retrying xid branch) h = record {
  first = codes "retrying";
  more = xid_text xid ∷ branch_text branch ∷ [];
  spells = leg_word (codes "retrying") refl refl xid branch h.0 h.1;
  back = λ rest. ap2 durable.Retrying (xid-back xid h.0) (branch-back branch h.1);
  as_act = λ names rest. refl;
  apart = refl;
}
durable_reads (durable.Failed xid branch stmt) h = record {
  first = codes "failed";
  more = xid_text xid ∷ branch_text branch ∷ codes "stmt" ∷ decimal stmt ∷ [];
  spells = after_word (codes "failed") refl refl (beside (leg_spells xid branch h.0 h.1) (after_word (codes "stmt") refl refl (one (piece_16 stmt h.2))));
  back = λ rest. ap3 durable.Failed (xid-back xid h.0) (branch-back branch h.1) (number_16-decimal stmt h.2);
  as_act = λ names rest. refl;
  apart = both (is_apart (decimal stmt)) true (decimal_apart stmt (wide_16 stmt h.2)) refl;
}
durable_reads (durable.Finished xid status) h = record {
  first = codes "finished";
  more = xid_text xid ∷ decimal (code_of status) ∷ [];
  spells = after_word (codes "finished") refl refl (beside (one (xid_piece xid h)) (one (status_piece status)));
  back = λ rest. ap2 durable.Finished (xid-back xid h) (status-back status);
  as_act = λ names rest. refl;
  apart = both (is_apart (decimal (code_of status))) true (decimal_apart (code_of status) (code-wide status)) refl;
}
durable_reads (durable.Forgot xid) h = record {
  first = codes "forgot";
  more = xid_text xid ∷ [];
  spells = xid_word (codes "forgot") refl refl xid h;
  back = λ rest. ap durable.Forgot (xid-back xid h);
  as_act = λ names rest. refl;
  apart = refl;
}
durable_reads (durable.Committed xid branch ticket) h = record {
  first = codes "committed";
  more = xid_text xid ∷ branch_text branch ∷ ticket_text ticket ∷ [];
  spells = after_word (codes "committed") refl refl (beside (leg_spells xid branch h.0 h.1) (one (ticket_piece ticket h.2)));
  back = λ rest. ap3 durable.Committed (xid-back xid h.0) (branch-back branch h.1) (ticket-back ticket h.2);
  as_act = λ names rest. refl;
  apart = refl;
}
durable_reads (durable.Tried xid branch ticket) h = record {
  first = codes "tried";
  more = xid_text xid ∷ branch_text branch ∷ ticket_text ticket ∷ [];
  spells = after_word (codes "tried") refl refl (beside (leg_spells xid branch h.0 h.1) (one (ticket_piece ticket h.2)));
  back = λ rest. ap3 durable.Tried (xid-back xid h.0) (branch-back branch h.1) (ticket-back ticket h.2);
  as_act = λ names rest. refl;
  apart = refl;
}
durable_reads (durable.Cleared xid branch) h = record {
  first = codes "cleared";
  more = xid_text xid ∷ branch_text branch ∷ [];
  spells = leg_word (codes "cleared") refl refl xid branch h.0 h.1;
  back = λ rest. ap2 durable.Cleared (xid-back xid h.0) (branch-back branch h.1);
  as_act = λ names rest. refl;
  apart = refl;
}
durable_reads (durable.Undone xid branch) h = record {
  first = codes "undone";
  more = xid_text xid ∷ branch_text branch ∷ [];
  spells = leg_word (codes "undone") refl refl xid branch h.0 h.1;
  back = λ rest. ap2 durable.Undone (xid-back xid h.0) (branch-back branch h.1);
  as_act = λ names rest. refl;
  apart = refl;
}
durable_reads (durable.Marked xid branch) h = record {
  first = codes "marked";
  more = xid_text xid ∷ branch_text branch ∷ [];
  spells = leg_word (codes "marked") refl refl xid branch h.0 h.1;
  back = λ rest. ap2 durable.Marked (xid-back xid h.0) (branch-back branch h.1);
  as_act = λ names rest. refl;
  apart = refl;
}
durable_reads (durable.Confirmed xid branch) h = record {
  first = codes "confirmed";
  more = xid_text xid ∷ branch_text branch ∷ [];
  spells = leg_word (codes "confirmed") refl refl xid branch h.0 h.1;
  back = λ rest. ap2 durable.Confirmed (xid-back xid h.0) (branch-back branch h.1);
  as_act = λ names rest. refl;
  apart = refl;
}
durable_reads (durable.Cancelled xid branch) h = record {
  first = codes "cancelled";
  more = xid_text xid ∷ branch_text branch ∷ [];
  spells = leg_word (codes "cancelled") refl refl xid branch h.0 h.1;
  back = λ rest. ap2 durable.Cancelled (xid-back xid h.0) (branch-back branch h.1);
  as_act = λ names rest. refl;
  apart = refl;
}
durable_reads (durable.Suspended xid branch) h = record {
  first = codes "suspended";
  more = xid_text xid ∷ branch_text branch ∷ [];
  spells = leg_word (codes "suspended") refl refl xid branch h.0 h.1;
  back = λ rest. ap2 durable.Suspended (xid-back xid h.0) (branch-back branch h.1);
  as_act = λ names rest. refl;
  apart = refl;
}
durable_reads (durable.LocalCommitted number ticket) h = record {
  first = codes "local-committed";
  more = decimal number ∷ ticket_text ticket ∷ [];
  spells = after_word (codes "local-committed") refl refl (beside (one (piece_16 number h.0)) (one (ticket_piece ticket h.1)));
  back = λ rest. ap2 durable.LocalCommitted (number_16-decimal number h.0) (ticket-back ticket h.1);
  as_act = λ names rest. refl;
  apart = both (is_apart (decimal number)) true (decimal_apart number (wide_16 number h.0)) refl;
}
durable_reads (durable.Outside number) h = record {
  first = codes "outside";
  more = decimal number ∷ [];
  spells = after_word (codes "outside") refl refl (one (piece_16 number h));
  back = λ rest. ap durable.Outside (number_16-decimal number h);
  as_act = λ names rest. refl;
  apart = both (is_apart (decimal number)) true (decimal_apart number (wide_16 number h)) refl;
}
durable_reads durable.Boot h = record {
  first = codes "boot";
  more = [];
  spells = one (word (codes "boot") refl refl);
  back = λ rest. refl;
  as_act = λ names rest. refl;
  apart = refl;
}
