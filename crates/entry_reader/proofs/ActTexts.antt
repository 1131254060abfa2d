-- Acts read back.
use Rattle.std.proofs.Common.{◌≡◌, true, false, List, ℕ, [], ◌∷◌, ◌++◌, Some, None, refl, ap, sym, subst, ◌∙◌, append-nil, append_assoc}
use Rattle.std.specs.Prelude.{codes, not}
use Rattle.std.specs.List.{list_all}
use Rattle.std.specs.Fmt.{decimal}
use Rattle.seata_types.specs.Orders.{same_text}
use Rattle.seata_types.specs.Statuses.{code_of}
use Rattle.seata_types.specs.declared.acts.Act.{Act}
use Rattle.seata_types.specs.declared.acts.Act.TheVariants as act
use Rattle.seata_types.specs.declared.acts.Durable.{Durable}
use Rattle.history_text.specs.Lines.{act_text, durable_text, xid_text, branch_text, ticket_text, key_text, option_row_text, holding_text}
use Rattle.history_text.specs.declared.entries.Names.{Names}
use Rattle.entry_reader.specs.Acts.{durable_of, durable_behind, act_of, coordinator_acts, call_act, call_acts, branch_act, branch_acts, dirty_of, local_act, local_acts, other_act, other_acts}
use Rattle.entry_reader.specs.Types.{IsAct}
use Rattle.entry_reader.specs.Writable.{AreNodeNames, is_act}
use Rattle.entry_reader.proofs.Ascii.{both_left, both_right}
use Rattle.entry_reader.proofs.Spells.{Spells, one, word, beside, after_word}
use Rattle.entry_reader.proofs.Identities.{xid_piece, xid-back, branch_piece, branch-back, ticket_piece, ticket-back, piece_16, number_16-decimal, piece_32, number_32-decimal, leg_spells, call_spells}
use Rattle.entry_reader.proofs.Words.{status_piece, status-back, holding_piece, holding-back}
use Rattle.entry_reader.proofs.Keys.{key_piece, key-back}
use Rattle.entry_reader.proofs.Rows.{row_piece, row-back}
use Rattle.entry_reader.proofs.Tests.{not_true}
use Rattle.entry_reader.proofs.ReasonTexts.{error_reads, why_reads}
use Rattle.entry_reader.proofs.DurableTexts.{ReadsDurable, durable_reads}
use Rattle.entry_reader.proofs.ReadBack.{ReadsLast, ap2, ap3, ap4, ap5, xid_word, leg_word, call_word, is_apart}

-- ---- durable acts behind a word

passes-one : (w p : List ℕ) (ps : List (List ℕ)) → same_text p w ≡ false → durable_behind w (p ∷ ps) ≡ durable_behind w ps
passes-one w p ps other = rw other refl

passes : (w : List ℕ) → ((p : List ℕ) → is_apart p ≡ true → same_text p w ≡ false) → (ps rest : List (List ℕ)) → list_all is_apart ps ≡ true
    → durable_behind w (ps ++ rest) ≡ durable_behind w rest
passes w apart [] rest all = refl
passes w apart (p ∷ ps) rest all =
    passes-one w p (ps ++ rest) (apart p (both_left (is_apart p) (list_all is_apart ps) all)) ∙ passes w apart ps rest (both_right (is_apart p) (list_all is_apart ps) all)

no_kept : (p : List ℕ) → is_apart p ≡ true → same_text p (codes "kept") ≡ false
no_kept p h = not_true (same_text p (codes "kept")) (both_left (not (same_text p (codes "kept"))) (not (same_text p (codes "at"))) h)

no_at : (p : List ℕ) → is_apart p ≡ true → same_text p (codes "at") ≡ false
no_at p h = not_true (same_text p (codes "at")) (both_right (not (same_text p (codes "kept"))) (not (same_text p (codes "at"))) h)

passes_kept : (d : Durable) (r : ReadsDurable d) (rest : List (List ℕ)) → durable_behind (codes "kept") (r.first ∷ (r.more ++ rest)) ≡ durable_behind (codes "kept") rest
passes_kept d r rest = passes (codes "kept") no_kept (r.first ∷ r.more) rest r.apart

passes_at : (d : Durable) (r : ReadsDurable d) (rest : List (List ℕ)) → durable_behind (codes "at") (r.first ∷ (r.more ++ rest)) ≡ durable_behind (codes "at") rest
passes_at d r rest = passes (codes "at") no_at (r.first ∷ r.more) rest r.apart

some_durable : {d e : Durable} → d ≡ e → Some d ≡ Some e
some_durable p = ap (λ x. Some x) p

pub act_reads : (names : Names) (a : Act) → AreNodeNames names → is_act names a ≡ true → IsAct a → ReadsLast (act_of names) (act_text names a) a
unfolding act_of coordinator_acts call_act call_acts branch_act branch_acts dirty_of local_act local_acts other_act other_acts is_act
act_reads names (act.Durable done) are is h =
    let d = durable_reads done h in
    record {
      first = d.first;
      more = d.more;
      spells = d.spells;
      back = d.as_act names ([] ∷ []) ∙ ap act.Durable (d.back ([] ∷ []));
    }
act_reads names (act.Known xid) are is h = record {
  first = codes "known";
  more = xid_text xid ∷ [];
  spells = xid_word (codes "known") refl refl xid h;
  back = ap act.Known (xid-back xid h);
}
act_reads names (act.Regranted xid branch) are is h = record {
  first = codes "regranted";
  more = xid_text xid ∷ branch_text branch ∷ [];
  spells = leg_word (codes "regranted") refl refl xid branch h.0 h.1;
  back = ap2 act.Regranted (xid-back xid h.0) (branch-back branch h.1);
}
act_reads names (act.Conflict xid key holder rolling) are is h = record {
  first = codes "conflict";
  more = xid_text xid ∷ key_text names key ∷ xid_text holder ∷ holding_text rolling ∷ [];
  spells = after_word (codes "conflict") refl refl (beside (one (xid_piece xid h.0)) (beside (one (key_piece names key are is h.1)) (beside (one (xid_piece holder h.2)) (one (holding_piece rolling)))));
  back = ap4 act.Conflict (xid-back xid h.0) (key-back names key are is h.1) (xid-back holder h.2) (holding-back rolling);
}
act_reads names (act.Closed xid status) are is h = record {
  first = codes "closed";
  more = xid_text xid ∷ decimal (code_of status) ∷ [];
  spells = after_word (codes "closed") refl refl (beside (one (xid_piece xid h)) (one (status_piece status)));
  back = ap2 act.Closed (xid-back xid h) (status-back status);
}
act_reads names (act.Told xid status) are is h = record {
  first = codes "told";
  more = xid_text xid ∷ decimal (code_of status) ∷ [];
  spells = after_word (codes "told") refl refl (beside (one (xid_piece xid h)) (one (status_piece status)));
  back = ap2 act.Told (xid-back xid h) (status-back status);
}
act_reads names (act.Asked xid branch) are is h = record {
  first = codes "asked";
  more = xid_text xid ∷ branch_text branch ∷ [];
  spells = leg_word (codes "asked") refl refl xid branch h.0 h.1;
  back = ap2 act.Asked (xid-back xid h.0) (branch-back branch h.1);
}
act_reads names (act.Retry xid branch) are is h = record {
  first = codes "retry";
  more = xid_text xid ∷ branch_text branch ∷ [];
  spells = leg_word (codes "retry") refl refl xid branch h.0 h.1;
  back = ap2 act.Retry (xid-back xid h.0) (branch-back branch h.1);
}
act_reads names (act.Held key holder) are is h = record {
  first = codes "held";
  more = key_text names key ∷ xid_text holder ∷ [];
  spells = after_word (codes "held") refl refl (beside (one (key_piece names key are is h.0)) (one (xid_piece holder h.1)));
  back = ap2 act.Held (key-back names key are is h.0) (xid-back holder h.1);
}
act_reads names act.Free are is h = record {
  first = codes "free";
  more = [];
  spells = one (word (codes "free") refl refl);
  back = refl;
}
act_reads names (act.Opened xid call ticket) are is h = record {
  first = codes "opened";
  more = xid_text xid ∷ (codes "c" ++ decimal call) ∷ ticket_text ticket ∷ [];
  spells = after_word (codes "opened") refl refl (beside (call_spells xid call h.0 h.1) (one (ticket_piece ticket h.2)));
  back = ap3 act.Opened (xid-back xid h.0) (number_16-decimal call h.1) (ticket-back ticket h.2);
}
act_reads names (act.Waiting xid call) are is h = record {
  first = codes "waiting";
  more = xid_text xid ∷ (codes "c" ++ decimal call) ∷ [];
  spells = call_word (codes "waiting") refl refl xid call h.0 h.1;
  back = ap2 act.Waiting (xid-back xid h.0) (number_16-decimal call h.1);
}
act_reads names (act.Again xid call branch) are is h = record {
  first = codes "again";
  more = xid_text xid ∷ (codes "c" ++ decimal call) ∷ branch_text branch ∷ [];
  spells = after_word (codes "again") refl refl (beside (call_spells xid call h.0 h.1) (one (branch_piece branch h.2)));
  back = ap3 act.Again (xid-back xid h.0) (number_16-decimal call h.1) (branch-back branch h.2);
}
act_reads names (act.Busy xid call key by) are is h = record {
  first = codes "busy";
  more = xid_text xid ∷ (codes "c" ++ decimal call) ∷ key_text names key ∷ ticket_text by ∷ [];
  spells = after_word (codes "busy") refl refl (beside (call_spells xid call h.0 h.1) (beside (one (key_piece names key are is h.2)) (one (ticket_piece by h.3))));
  back = ap4 act.Busy (xid-back xid h.0) (number_16-decimal call h.1) (key-back names key are is h.2) (ticket-back by h.3);
}
act_reads names (act.Refused xid call reason) are is h =
    let w = why_reads names reason are is h.2 in
    record {
      first = codes "refused";
      more = xid_text xid ∷ (codes "c" ++ decimal call) ∷ w.first ∷ w.more;
      spells = after_word (codes "refused") refl refl (beside (call_spells xid call h.0 h.1) w.spells);
      back = ap3 act.Refused (xid-back xid h.0) (number_16-decimal call h.1) (w.back ([] ∷ []));
    }
act_reads names (act.Resent ticket) are is h = record {
  first = codes "resent";
  more = ticket_text ticket ∷ [];
  spells = after_word (codes "resent") refl refl (one (ticket_piece ticket h));
  back = ap act.Resent (ticket-back ticket h);
}
act_reads names (act.Conflicted ticket count) are is h = record {
  first = codes "conflicted";
  more = ticket_text ticket ∷ decimal count ∷ [];
  spells = after_word (codes "conflicted") refl refl (beside (one (ticket_piece ticket h.0)) (one (piece_32 count h.1)));
  back = ap2 act.Conflicted (ticket-back ticket h.0) (number_32-decimal count h.1);
}
act_reads names (act.Dropped xid call ticket reason) are is h =
    let w = why_reads names reason are is h.3 in
    record {
      first = codes "dropped";
      more = xid_text xid ∷ (codes "c" ++ decimal call) ∷ ticket_text ticket ∷ w.first ∷ w.more;
      spells = after_word (codes "dropped") refl refl (beside (call_spells xid call h.0 h.1) (beside (one (ticket_piece ticket h.2)) w.spells));
      back = ap4 act.Dropped (xid-back xid h.0) (number_16-decimal call h.1) (ticket-back ticket h.2) (w.back ([] ∷ []));
    }
act_reads names (act.Empty xid branch) are is h = record {
  first = codes "empty";
  more = xid_text xid ∷ branch_text branch ∷ [];
  spells = leg_word (codes "empty") refl refl xid branch h.0 h.1;
  back = ap2 act.Empty (xid-back xid h.0) (branch-back branch h.1);
}
act_reads names (act.Remarked xid branch) are is h = record {
  first = codes "remarked";
  more = xid_text xid ∷ branch_text branch ∷ [];
  spells = leg_word (codes "remarked") refl refl xid branch h.0 h.1;
  back = ap2 act.Remarked (xid-back xid h.0) (branch-back branch h.1);
}
act_reads names (act.Blocked xid branch key by) are is h = record {
  first = codes "blocked";
  more = xid_text xid ∷ branch_text branch ∷ key_text names key ∷ ticket_text by ∷ [];
  spells = after_word (codes "blocked") refl refl (beside (leg_spells xid branch h.0 h.1) (beside (one (key_piece names key are is h.2)) (one (ticket_piece by h.3))));
  back = ap4 act.Blocked (xid-back xid h.0) (branch-back branch h.1) (key-back names key are is h.2) (ticket-back by h.3);
}
act_reads names (act.Dirty xid branch key after now) are is h = record {
  first = codes "dirty";
  more = xid_text xid ∷ branch_text branch ∷ key_text names key ∷ option_row_text after ∷ option_row_text now ∷ [];
  spells = after_word (codes "dirty") refl refl (beside (leg_spells xid branch h.0 h.1) (beside (one (key_piece names key are is h.2)) (beside (one (row_piece after h.3)) (one (row_piece now h.4)))));
  back = ap5 act.Dirty (xid-back xid h.0) (branch-back branch h.1) (key-back names key are is h.2) (row-back after h.3) (row-back now h.4);
}
act_reads names (act.Already xid branch) are is h = record {
  first = codes "already";
  more = xid_text xid ∷ branch_text branch ∷ [];
  spells = leg_word (codes "already") refl refl xid branch h.0 h.1;
  back = ap2 act.Already (xid-back xid h.0) (branch-back branch h.1);
}
act_reads names (act.Unfenced xid branch) are is h = record {
  first = codes "unfenced";
  more = xid_text xid ∷ branch_text branch ∷ [];
  spells = leg_word (codes "unfenced") refl refl xid branch h.0 h.1;
  back = ap2 act.Unfenced (xid-back xid h.0) (branch-back branch h.1);
}
act_reads names (act.Unable xid branch index reason) are is h =
    let e = error_reads names reason are is h.3 in
    record {
      first = codes "unable";
      more = xid_text xid ∷ branch_text branch ∷ codes "stmt" ∷ decimal index ∷ e.first ∷ e.more;
      spells = after_word (codes "unable") refl refl (beside (leg_spells xid branch h.0 h.1) (after_word (codes "stmt") refl refl (beside (one (piece_16 index h.2)) e.spells)));
      back = ap4 act.Unable (xid-back xid h.0) (branch-back branch h.1) (number_16-decimal index h.2) (e.back ([] ∷ []));
    }
act_reads names (act.WaitingLocal number) are is h = record {
  first = codes "waiting-local";
  more = decimal number ∷ [];
  spells = after_word (codes "waiting-local") refl refl (one (piece_16 number h));
  back = ap act.WaitingLocal (number_16-decimal number h);
}
act_reads names (act.RefusedLocal number reason) are is h =
    let w = why_reads names reason are is h.1 in
    record {
      first = codes "refused-local";
      more = decimal number ∷ w.first ∷ w.more;
      spells = after_word (codes "refused-local") refl refl (beside (one (piece_16 number h.0)) w.spells);
      back = ap2 act.RefusedLocal (number_16-decimal number h.0) (w.back ([] ∷ []));
    }
act_reads names (act.BusyLocal number key by) are is h = record {
  first = codes "busy-local";
  more = decimal number ∷ key_text names key ∷ ticket_text by ∷ [];
  spells = after_word (codes "busy-local") refl refl (beside (one (piece_16 number h.0)) (beside (one (key_piece names key are is h.1)) (one (ticket_piece by h.2))));
  back = ap3 act.BusyLocal (number_16-decimal number h.0) (key-back names key are is h.1) (ticket-back by h.2);
}
act_reads names (act.OpenedLocal number ticket) are is h = record {
  first = codes "opened-local";
  more = decimal number ∷ ticket_text ticket ∷ [];
  spells = after_word (codes "opened-local") refl refl (beside (one (piece_16 number h.0)) (one (ticket_piece ticket h.1)));
  back = ap2 act.OpenedLocal (number_16-decimal number h.0) (ticket-back ticket h.1);
}
act_reads names (act.DroppedLocal number ticket key holder) are is h = record {
  first = codes "dropped-local";
  more = decimal number ∷ ticket_text ticket ∷ key_text names key ∷ xid_text holder ∷ [];
  spells = after_word (codes "dropped-local") refl refl (beside (one (piece_16 number h.0)) (beside (one (ticket_piece ticket h.1)) (beside (one (key_piece names key are is h.2)) (one (xid_piece holder h.3)))));
  back = ap4 act.DroppedLocal (number_16-decimal number h.0) (ticket-back ticket h.1) (key-back names key are is h.2) (xid-back holder h.3);
}
act_reads names act.Starts are is h = record {
  first = codes "starts";
  more = [];
  spells = one (word (codes "starts") refl refl);
  back = refl;
}
act_reads names act.Repeats are is h = record {
  first = codes "repeats";
  more = [];
  spells = one (word (codes "repeats") refl refl);
  back = refl;
}
act_reads names act.GoesOn are is h = record {
  first = codes "goes";
  more = codes "on" ∷ [];
  spells = after_word (codes "goes") refl refl (one (word (codes "on") refl refl));
  back = refl;
}
act_reads names act.GivesUp are is h = record {
  first = codes "gives";
  more = codes "up" ∷ [];
  spells = after_word (codes "gives") refl refl (one (word (codes "up") refl refl));
  back = refl;
}
act_reads names (act.CallBusy count) are is h = record {
  first = codes "busy";
  more = decimal count ∷ [];
  spells = after_word (codes "busy") refl refl (one (piece_32 count h));
  back = ap act.CallBusy (number_32-decimal count h);
}
act_reads names (act.Closes status) are is h = record {
  first = codes "closes";
  more = decimal (code_of status) ∷ [];
  spells = after_word (codes "closes") refl refl (one (status_piece status));
  back = ap act.Closes (status-back status);
}
act_reads names act.Polls are is h = record {
  first = codes "polls";
  more = [];
  spells = one (word (codes "polls") refl refl);
  back = refl;
}
act_reads names (act.Learns status) are is h = record {
  first = codes "learns";
  more = decimal (code_of status) ∷ [];
  spells = after_word (codes "learns") refl refl (one (status_piece status));
  back = ap act.Learns (status-back status);
}
act_reads names act.Silent are is h = record {
  first = codes "silent";
  more = [];
  spells = one (word (codes "silent") refl refl);
  back = refl;
}
act_reads names act.Nothing are is h = record {
  first = codes "none";
  more = [];
  spells = one (word (codes "none") refl refl);
  back = refl;
}
act_reads names act.Ignored are is h = record {
  first = codes "ignored";
  more = [];
  spells = one (word (codes "ignored") refl refl);
  back = refl;
}
act_reads names act.Lost are is h = record {
  first = codes "lost";
  more = [];
  spells = one (word (codes "lost") refl refl);
  back = refl;
}
act_reads names act.Armed are is h = record {
  first = codes "armed";
  more = [];
  spells = one (word (codes "armed") refl refl);
  back = refl;
}
act_reads names (act.Down None None) are is h = record { first = codes "down"; more = []; spells = one (word (codes "down") refl refl); back = refl }
act_reads names (act.Down (Some kept) None) are is h =
    let d = durable_reads kept h.0 in
    let plain : Spells (codes "down" ++ (32 ∷ (codes "kept" ++ (32 ∷ durable_text kept)))) (codes "down" ∷ codes "kept" ∷ d.first ∷ d.more) =
    after_word (codes "down") refl refl (after_word (codes "kept") refl refl d.spells) in
    let text : durable_text kept ≡ durable_text kept ++ [] = sym (append-nil (durable_text kept)) in
    record {
      first = codes "down";
      more = codes "kept" ∷ d.first ∷ d.more;
      spells = subst (λ (t : List ℕ). Spells (codes "down" ++ (32 ∷ (codes "kept" ++ (32 ∷ t)))) (codes "down" ∷ codes "kept" ∷ d.first ∷ d.more)) text plain;
      back = ap2 act.Down (some_durable (d.back ([] ∷ []))) (passes_at kept d ([] ∷ []));
    }
act_reads names (act.Down None (Some flight)) are is h =
    let d = durable_reads flight h.1 in
    record {
      first = codes "down";
      more = codes "at" ∷ d.first ∷ d.more;
      spells = after_word (codes "down") refl refl (after_word (codes "at") refl refl d.spells);
      back = ap2 act.Down (passes_kept flight d ([] ∷ [])) (some_durable (d.back ([] ∷ [])));
    }
act_reads names (act.Down (Some kept) (Some flight)) are is h =
    let d = durable_reads kept h.0 in
    let e = durable_reads flight h.1 in
    let rest = codes "at" ∷ e.first ∷ (e.more ++ ([] ∷ [])) in
    let tail : (d.more ++ (codes "at" ∷ e.first ∷ e.more)) ++ ([] ∷ []) ≡ d.more ++ rest = append_assoc d.more (codes "at" ∷ e.first ∷ e.more) ([] ∷ []) in
    record {
      first = codes "down";
      more = codes "kept" ∷ d.first ∷ (d.more ++ (codes "at" ∷ e.first ∷ e.more));
      spells = after_word (codes "down") refl refl (after_word (codes "kept") refl refl (beside d.spells (after_word (codes "at") refl refl e.spells)));
      back = ap (λ ps. act.Down (Some (durable_of (d.first ∷ ps))) (durable_behind (codes "at") (d.first ∷ ps))) tail
          ∙ ap2 act.Down (some_durable (d.back rest)) (passes_at kept d rest ∙ some_durable (e.back ([] ∷ [])));
    }
act_reads names (act.Restarted None) are is h = record { first = codes "restarted"; more = []; spells = one (word (codes "restarted") refl refl); back = refl }
act_reads names (act.Restarted (Some kept)) are is h =
    let d = durable_reads kept h in
    record {
      first = codes "restarted";
      more = codes "kept" ∷ d.first ∷ d.more;
      spells = after_word (codes "restarted") refl refl (after_word (codes "kept") refl refl d.spells);
      back = ap act.Restarted (some_durable (d.back ([] ∷ [])));
    }
