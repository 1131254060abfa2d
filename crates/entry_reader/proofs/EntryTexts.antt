-- The line of an entry reads back.
use Rattle.std.proofs.Common.{◌≡◌, ℕ, ◌-◌, true, false, List, [], ◌∷◌, ◌++◌, length, Option, Some, None, refl, ap, sym, ◌∙◌, append_assoc, append-nil, length-append, arith}
use Rattle.std.specs.Prelude.{codes, slice_get, unwrap_or}
use Rattle.std.specs.Fmt.{decimal}
use Rattle.seata_types.specs.Orders.{same_text}
use Rattle.seata_types.specs.declared.ids.Place.{Place}
use Rattle.history_text.specs.Lines.{entry_text, origin_text, cause_text, act_text, sent_text, place_text}
use Rattle.history_text.specs.declared.entries.Entry.{Entry}
use Rattle.history_text.specs.declared.entries.Names.{Names}
use Rattle.history_text.specs.declared.entries.Sent.{Sent}
use Rattle.history_text.specs.declared.entries.Cause.{Cause}
use Rattle.history_text.specs.declared.notes.Note.{Note}
use Rattle.seata_types.specs.declared.acts.Act.{Act}
use Rattle.entry_reader.specs.declared.pieces.Separator.TheVariants as at
use Rattle.entry_reader.specs.declared.pieces.Inside.TheVariants as inside
use Rattle.entry_reader.specs.Cuts.{prefixed, cut, pieces, last_piece}
use Rattle.entry_reader.specs.Parts.{number, number_32, place_of, word_in}
use Rattle.entry_reader.specs.Causes.{cause_of}
use Rattle.entry_reader.specs.Acts.{act_of}
use Rattle.entry_reader.specs.Notes.{note_of, sent_of, resource_at}
use Rattle.entry_reader.specs.Reading.{entry_by, entry_in, entry_of}
use Rattle.entry_reader.specs.Types.{IsOfTypes, IsSent}
use Rattle.entry_reader.specs.Writable.{AreNodeNames, is_place, is_cause, is_act, is_note, is_sent, is_entry}
use Rattle.entry_reader.proofs.Ascii.{both_left, both_right}
use Rattle.entry_reader.proofs.Closed.{IsClosed}
use Rattle.entry_reader.proofs.Spells.{Spells, attach, one, word, beside, after_word, decimal_piece}
use Rattle.entry_reader.proofs.Identities.{number-decimal, piece_32, number_32-decimal}
use Rattle.entry_reader.proofs.NodeNames.{place_piece, place-back}
use Rattle.entry_reader.proofs.CauseTexts.{cause_reads}
use Rattle.entry_reader.proofs.ActTexts.{act_reads}
use Rattle.entry_reader.proofs.NoteTexts.{note_reads}
use Rattle.entry_reader.proofs.ReadBack.{ap2}

-- ---- the last piece

get-last : (ps : List (List ℕ)) (p : List ℕ) → slice_get (ps ++ (p ∷ [])) (length ps) ≡ Some p
get-last [] p = refl
get-last (q ∷ ps) p = get-last ps p

last-of : (ps : List (List ℕ)) (p : List ℕ) → last_piece (ps ++ (p ∷ [])) ≡ p
last-of ps p =
    let place : length (ps ++ (p ∷ [])) - 1 ≡ length ps = omega (arith, length-append ps (p ∷ [])) in
    ap (λ n. unwrap_or (slice_get (ps ++ (p ∷ [])) n) []) place ∙ ap (λ o. unwrap_or o []) (get-last ps p)

last-behind : (ps : List (List ℕ)) (q p : List ℕ) → last_piece (ps ++ (q ∷ p ∷ [])) ≡ p
last-behind ps q p = ap last_piece (sym (append_assoc ps (q ∷ []) (p ∷ []))) ∙ last-of (ps ++ (q ∷ [])) p

-- ---- what was sent

record ReadsSent (names : Names) (resource : ℕ) (s : Option Sent) : Type 0 where
  first : List ℕ
  more : List (List ℕ)
  spells : Spells (sent_text names s) (first ∷ more)
  back : sent_of names resource (first ∷ more) ≡ s

sent_there : (names : Names) (resource : ℕ) (p : List ℕ) (ps : List (List ℕ)) → same_text (word_in p) (codes "-") ≡ false
    → sent_of names resource (p ∷ ps) ≡ Some (record { to = place_of names (last_piece (p ∷ ps)); note = note_of names resource (p ∷ ps) })
unfolding sent_of
sent_there names resource p ps there = rw there refl

no_sent : (names : Names) (resource : ℕ) → sent_of names resource (codes "-" ∷ []) ≡ None
unfolding sent_of
no_sent names resource = refl

abbrev sent : Place → Note → Option Sent
sent to note = Some (record { to = to; note = note })

sent_reads : (names : Names) (resource : ℕ) (s : Option Sent) → AreNodeNames names → is_sent names resource s ≡ true → IsSent s → ReadsSent names resource s
unfolding is_sent
sent_reads names resource None are is h = record { first = codes "-"; more = []; spells = one (word (codes "-") refl refl); back = no_sent names resource }
sent_reads names resource (Some s) are is h =
    let at_place = both_left (is_place names s.to) (is_note names resource s.note) is in
    let n = note_reads names resource s.note are (both_right (is_place names s.to) (is_note names resource s.note) is) h.1 in
    let rest = codes "to" ∷ place_text names s.to ∷ [] in
    record {
      first = n.first;
      more = n.more ++ rest;
      spells = beside n.spells (after_word (codes "to") refl refl (one (place_piece names s.to are at_place)));
      back = sent_there names resource n.first (n.more ++ rest) n.there
          ∙ ap2 sent (ap (λ t. place_of names t) (last-behind (n.first ∷ n.more) (codes "to") (place_text names s.to)) ∙ place-back names s.to are at_place h.0) (n.back rest);
    }

-- ---- the three parts of a line

-- a text with a space at its end, and one without
attach-space : (p : List ℕ) (ps : List (List ℕ)) → attach (p ∷ ps) ([] ∷ [] ∷ []) ≡ p ∷ (ps ++ ([] ∷ []))
attach-space p [] = ap (λ x. x ∷ [] ∷ []) (append-nil p)
attach-space p (q ∷ ps) = ap (λ z. p ∷ z) (attach-space q ps)

attach-end : (p : List ℕ) (ps : List (List ℕ)) → attach (p ∷ ps) ([] ∷ []) ≡ p ∷ ps
attach-end p [] = ap (λ x. x ∷ []) (append-nil p)
attach-end p (q ∷ ps) = ap (λ z. p ∷ z) (attach-end q ps)

spaced-pieces : (t p : List ℕ) (ps : List (List ℕ)) → Spells t (p ∷ ps) → cut at.Space inside.Nothing (t ++ (32 ∷ [])) ≡ p ∷ (ps ++ ([] ∷ []))
spaced-pieces t p ps s = s.spaces (32 ∷ []) ∙ attach-space p ps

last-pieces : (t p : List ℕ) (ps : List (List ℕ)) → Spells t (p ∷ ps) → cut at.Space inside.Nothing t ≡ p ∷ ps
last-pieces t p ps s = ap (λ z. cut at.Space inside.Nothing z) (sym (append-nil t)) ∙ s.spaces [] ∙ attach-end p ps

line-parts : (origin act last : List ℕ) → IsClosed at.Bar origin → IsClosed at.Bar act → IsClosed at.Bar last
    → cut at.Bar inside.Nothing (origin ++ (32 ∷ 124 ∷ 32 ∷ (act ++ (32 ∷ 124 ∷ 32 ∷ last))))
    ≡ (origin ++ (32 ∷ [])) ∷ (32 ∷ (act ++ (32 ∷ []))) ∷ (32 ∷ last) ∷ []
line-parts origin act last first second third =
    let three : cut at.Bar inside.Nothing last ≡ last ∷ [] = ap (λ z. cut at.Bar inside.Nothing z) (sym (append-nil last)) ∙ third [] ∙ ap (λ z. z ∷ []) (append-nil last) in
    let two : cut at.Bar inside.Nothing (act ++ (32 ∷ 124 ∷ 32 ∷ last)) ≡ (act ++ (32 ∷ [])) ∷ prefixed (32 ∷ []) (cut at.Bar inside.Nothing last) = second (32 ∷ 124 ∷ 32 ∷ last) in
    first (32 ∷ 124 ∷ 32 ∷ (act ++ (32 ∷ 124 ∷ 32 ∷ last)))
    ∙ ap (λ ps. (origin ++ (32 ∷ [])) ∷ prefixed (32 ∷ []) ps) (two ∙ ap (λ ps. (act ++ (32 ∷ [])) ∷ prefixed (32 ∷ []) ps) three)

-- ---- the entry

in-parts : (names : Names) (origin act last : List ℕ) → entry_in names (origin ∷ act ∷ last ∷ []) ≡ entry_by names (pieces at.Space origin) (pieces at.Space act) (pieces at.Space last)
unfolding entry_in
in-parts names origin act last = refl

abbrev entry : ℕ → Place → ℕ → Cause → Act → Option Sent → Entry
entry stamp place now cause act sent = record { stamp = stamp; place = place; now = now; cause = cause; act = act; sent = sent }

same_entry : (stamp stamp' : ℕ) (place place' : Place) (now now' : ℕ) (cause cause' : Cause) (act act' : Act) (sent sent' : Option Sent)
    → stamp ≡ stamp' → place ≡ place' → now ≡ now' → cause ≡ cause' → act ≡ act' → sent ≡ sent' → entry stamp place now cause act sent ≡ entry stamp' place' now' cause' act' sent'
same_entry stamp stamp' place place' now now' cause cause' act act' sent sent' p q r s t u =
    ap (λ z. entry z place now cause act sent) p ∙ ap (λ z. entry stamp' z now cause act sent) q ∙ ap (λ z. entry stamp' place' z cause act sent) r
    ∙ ap (λ z. entry stamp' place' now' z act sent) s ∙ ap (λ z. entry stamp' place' now' cause' z sent) t ∙ ap (λ z. entry stamp' place' now' cause' act' z) u

by-pieces : (names : Names) (stamp place now : List ℕ) (cause act sent : List (List ℕ))
    → entry_by names (stamp ∷ place ∷ now ∷ cause) ([] ∷ act) ([] ∷ sent)
    ≡ entry (number_32 stamp) (place_of names place) (number now) (cause_of names cause) (act_of names act) (sent_of names (resource_at (place_of names place)) sent)
unfolding entry_by
by-pieces names stamp place now cause act sent = refl

of-parts : (names : Names) (line : List ℕ) (parts : List (List ℕ)) → cut at.Bar inside.Nothing line ≡ parts → entry_of names line ≡ entry_in names parts
unfolding entry_of
of-parts names line parts is = ap (λ ps. entry_in names ps) is

pub reads_back : (names : Names) (e : Entry) → AreNodeNames names → IsOfTypes e → is_entry names e ≡ true → entry_of names (entry_text names e) ≡ e
unfolding entry_text origin_text is_entry
reads_back names e are types is =
    let here = both_left (is_place names e.place) _ is in
    let further = both_right (is_place names e.place) _ is in
    let c = cause_reads names e.cause are (both_left (is_cause names e.cause) _ further) types.cause in
    let behind = both_right (is_cause names e.cause) _ further in
    let a = act_reads names e.act are (both_left (is_act names e.act) _ behind) types.act in
    let s = sent_reads names (resource_at e.place) e.sent are (both_right (is_act names e.act) _ behind) types.sent in
    let origin = decimal e.stamp ++ (32 ∷ (place_text names e.place ++ (32 ∷ (decimal e.now ++ (32 ∷ cause_text names e.cause))))) in
    let o : Spells origin (decimal e.stamp ∷ place_text names e.place ∷ decimal e.now ∷ c.first ∷ c.more) =
    beside (one (piece_32 e.stamp types.stamp)) (beside (one (place_piece names e.place are here)) (beside (one (decimal_piece e.now types.now)) c.spells)) in
    let act = act_text names e.act in
    let last = sent_text names e.sent in
    of-parts names (origin ++ (32 ∷ 124 ∷ 32 ∷ (act ++ (32 ∷ 124 ∷ 32 ∷ last)))) _ (line-parts origin act last o.bars a.spells.bars s.spells.bars)
    ∙ in-parts names (origin ++ (32 ∷ [])) (32 ∷ (act ++ (32 ∷ []))) (32 ∷ last)
    ∙ ap (λ ps. entry_by names ps (pieces at.Space (32 ∷ (act ++ (32 ∷ [])))) (pieces at.Space (32 ∷ last)))
    (spaced-pieces origin (decimal e.stamp) (place_text names e.place ∷ decimal e.now ∷ c.first ∷ c.more) o)
    ∙ ap (λ ps. entry_by names (decimal e.stamp ∷ place_text names e.place ∷ decimal e.now ∷ c.first ∷ (c.more ++ ([] ∷ []))) ([] ∷ ps) (pieces at.Space (32 ∷ last)))
    (spaced-pieces act a.first a.more a.spells)
    ∙ ap (λ ps. entry_by names (decimal e.stamp ∷ place_text names e.place ∷ decimal e.now ∷ c.first ∷ (c.more ++ ([] ∷ []))) ([] ∷ a.first ∷ (a.more ++ ([] ∷ []))) ([] ∷ ps))
    (last-pieces last s.first s.more s.spells)
    ∙ by-pieces names (decimal e.stamp) (place_text names e.place) (decimal e.now) (c.first ∷ (c.more ++ ([] ∷ []))) (a.first ∷ (a.more ++ ([] ∷ []))) (s.first ∷ s.more)
    ∙ same_entry _ e.stamp _ e.place _ e.now _ e.cause _ e.act _ e.sent
    (number_32-decimal e.stamp types.stamp) (place-back names e.place are here types.place) (number-decimal e.now types.now) c.back a.back
    (ap (λ p. sent_of names (resource_at p) (s.first ∷ s.more)) (place-back names e.place are here types.place) ∙ s.back)
