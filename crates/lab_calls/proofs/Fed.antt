-- The lines of frames that a feed gave, and what is left of the bytes that were fed.
use Rattle.std.proofs.Common.{◌≡◌, ◌≢◌, ℕ, ◌+◌, ◌<◌, ◌≤◌, true, false, All, List, [], ◌∷◌, ◌++◌, length, drop, Option, Some, None, Result, Ok, Err, refl, sym, ap, subst, ◌∙◌, arith, append_assoc, string_bytes}
use Rattle.std.proofs.Math.Seq.{drop-append_seam}
use Rattle.std.proofs.lemmas.List.{append-nil, length-take, length-drop, length-append, drop-drop, drop_all}
use Rattle.std.proofs.lemmas.List.Elements.{All-append, All-drop}
use Rattle.std.proofs.lemmas.Option.{same_Some}
use Rattle.std.specs.Io.KnownBytes.{Consumes, IsAtEnd}
use Rattle.std.specs.Prelude.{IfOk}
use Rattle.seata_types.specs.declared.limits.TheConstants.{INPUT_BYTES}
use Rattle.frame_codec.specs.declared.errors.FrameError.{FrameError}
use Rattle.frame_codec.specs.declared.framed.Framed.{Framed}
use Rattle.frame_codec.specs.Feeding.{FramesIn, IsShort, IsLasting, Fed, TakesPiece, BadAfter, Finishes}
use Rattle.frame_codec.specs.declared.errors.FrameError.TheVariants as fault
use Rattle.frame_codec.specs.Frames.{frame_bytes, decoded, checked_head}
use Rattle.frame_codec.proofs.FrameLaws.{decoded_only}
use Rattle.frame_codec.proofs.LaterBytes.{bad_more}
use Rattle.lab_calls.specs.declared.listings.Listing.{Listing}
use Rattle.lab_calls.specs.Answers.{Answers, IsFramesAnswer, unread, over_text, frames_statuses}
use Rattle.lab_calls.specs.FrameLines.{frame_line, bad_frame_line, lines_from, given_lines, frames_text}
use Rattle.lab_calls.specs.Listings.{fed, Awaits, IsReady, IsListing}
use Rattle.lab_calls.proofs.FramesListed.{short_case, long_case}
use Rattle.lab_calls.proofs.FrameLaws.{frame_adds_line, nothing_has_no_line, bad_frame_ends, begins_whole}

abbrev AreBytes : List ℕ → Type 0
AreBytes bytes = All (λ byte. byte < 256) bytes

-- ---- frames in bytes

-- frames that bytes begin with add their lines, whatever comes behind the bytes
pub record Listed (at : ℕ) (bytes : List ℕ) (frames : List Framed) (end : ℕ) (rest : List ℕ) : Type 0 where
  pub lines : (more : List ℕ) → lines_from at (bytes ++ more) ≡ given_lines frames ++ lines_from end (rest ++ more)
  pub bytes_left : AreBytes rest
  pub counted : end + length rest ≡ at + length bytes

pub listed : (at : ℕ) (bytes : List ℕ) (frames : List Framed) (end : ℕ) (rest : List ℕ) → AreBytes bytes → FramesIn at bytes frames end rest → Listed at bytes frames end rest
listed at bytes [] end rest all (ends, rests) = record {
  lines = λ more. rw (ends, rests) refl;
  bytes_left = subst AreBytes (sym rests) all;
  counted = rw (ends, rests) refl;
}
listed at bytes (frame ∷ frames) end rest all (here, size, read, others) =
    let begins = decoded_only bytes frame.message frame.stamp size all read in
    let own = frame_bytes frame.message frame.stamp in
    let whole = begins_whole bytes frame.message frame.stamp size begins in
    let count : size ≡ length own = omega (arith, begins.there, ap length begins.frame, length-take size bytes) in
    let t = listed (at + size) (drop size bytes) frames end rest (All-drop (λ byte. byte < 256) size bytes all) others in
    record {
      lines = λ more.
          ap (λ b. lines_from at (b ++ more)) whole ∙ ap (lines_from at) (append_assoc own (drop size bytes) more)
          ∙ frame_adds_line at frame.stamp frame.message (drop size bytes ++ more) begins.fits
          ∙ ap (λ n. frame_line at frame.stamp frame.message ++ lines_from (at + n) (drop size bytes ++ more)) (sym count)
          ∙ ap (λ l. frame_line at frame.stamp frame.message ++ l) (t.lines more)
          ∙ sym (append_assoc (frame_line at frame.stamp frame.message) (given_lines frames) (lines_from end (rest ++ more)))
          ∙ ap (λ n. (frame_line n frame.stamp frame.message ++ given_lines frames) ++ lines_from end (rest ++ more)) (sym here);
      bytes_left = t.bytes_left;
      counted = omega (arith, t.counted, begins.there, length-drop size bytes);
    }

-- no bytes wait for a frame
nothing_waits : (why : FrameError) → decoded [] ≡ Err why → IsLasting why → ⊥
unfolding decoded checked_head
nothing_waits (fault.Short need) e lasting = absurd lasting
nothing_waits fault.Magic e lasting = cc
nothing_waits fault.Version e lasting = cc
nothing_waits fault.Length e lasting = cc
nothing_waits (fault.Compressed c) e lasting = cc
nothing_waits (fault.UnknownType c) e lasting = cc
nothing_waits (fault.Body at) e lasting = cc
nothing_waits fault.NoMemory e lasting = cc

-- a feed that waited took the piece
took_piece : (old new : Fed) (piece : List ℕ) (before : List Framed) (was : FrameError) → IsShort was → BadAfter old piece before new was → TakesPiece old piece before new
took_piece old new piece before (fault.Short need) waits after = after
took_piece old new piece before fault.Magic waits after = absurd waits
took_piece old new piece before fault.Version waits after = absurd waits
took_piece old new piece before fault.Length waits after = absurd waits
took_piece old new piece before (fault.Compressed c) waits after = absurd waits
took_piece old new piece before (fault.UnknownType c) waits after = absurd waits
took_piece old new piece before (fault.Body at) waits after = absurd waits
took_piece old new piece before fault.NoMemory waits after = absurd waits

-- bytes that are no frame, whatever comes behind them
bad_line : (at : ℕ) (bytes more : List ℕ) (why : FrameError) → AreBytes bytes → bytes ≢ [] → decoded bytes ≡ Err why → IsLasting why
    → lines_from at (bytes ++ more) ≡ bad_frame_line at why
bad_line at bytes more why all some read lasting = bad_frame_ends at (bytes ++ more) why (longer bytes some) (bad_more bytes more why all lasting read)
  where
    longer : (xs : List ℕ) → xs ≢ [] → xs ++ more ≢ []
    longer [] some = absurd (some refl)
    longer (x ∷ xs) some = λ e. cc

-- ---- a piece

module _ (old new : Listing) (piece : List ℕ) (frames : List Framed) (bytes : AreBytes piece) (ready : IsReady old)
    (given : FramesIn old.feed.at (old.feed.rest ++ piece) frames new.feed.at new.feed.rest) where
  l : Listed old.feed.at (old.feed.rest ++ piece) frames new.feed.at new.feed.rest
  l = listed old.feed.at (old.feed.rest ++ piece) frames new.feed.at new.feed.rest (All-append (λ byte. byte < 256) old.feed.rest piece ready.bytes bytes) given

  -- the lines of the frames that a feed gave were put behind those from before
  put_lines : old.ended ≡ false → (rest text : List ℕ) → Awaits old (piece ++ rest) text
      → text ≡ (string_bytes old.lines ++ given_lines frames) ++ lines_from new.feed.at (new.feed.rest ++ rest)
  put_lines going rest text t =
      t.going going ∙ ap (λ b. string_bytes old.lines ++ lines_from old.feed.at b) (sym (append_assoc old.feed.rest piece rest))
      ∙ ap (λ x. string_bytes old.lines ++ x) (l.lines rest) ∙ sym (append_assoc (string_bytes old.lines) (given_lines frames) _)

  -- where what is fed ends
  fed_then : fed new ≤ fed old + length piece
  fed_then = omega (arith, l.counted, length-append old.feed.rest piece)

  still_bytes : AreBytes new.feed.rest
  still_bytes = l.bytes_left

-- what a piece leaves
pub record Took (old new : Listing) (piece : List ℕ) : Type 0 where
  pub awaits : (rest text : List ℕ) → Awaits old (piece ++ rest) text → Awaits new rest text
  pub ready : IsReady new
  pub fed : fed new ≤ fed old + length piece

-- a piece without a bad frame
pub takes_frames : (old new : Listing) (piece : List ℕ) (frames : List Framed) → AreBytes piece → IsReady old → old.ended ≡ false → new.ended ≡ false
    → TakesPiece old.feed piece frames new.feed × IsShort new.feed.why → string_bytes new.lines ≡ string_bytes old.lines ++ given_lines frames → Took old new piece
takes_frames old new piece frames bytes ready going goes_on (feeds, waits) put = record {
  awaits = λ rest text t. record {
    ended = λ end. absurd (both end goes_on);
    going = λ _. put_lines old new piece frames bytes ready feeds.found going rest text t ∙ ap (λ x. x ++ lines_from new.feed.at (new.feed.rest ++ rest)) (sym put);
  };
  ready = record { waits = λ _. waits; bytes = still_bytes old new piece frames bytes ready feeds.found; left = feeds.left };
  fed = fed_then old new piece frames bytes ready feeds.found;
}
  where
    both : new.ended ≡ true → new.ended ≡ false → ⊥
    both e k = cc

-- a piece with a bad frame: its line is the last
pub meets_bad : (old new : Listing) (piece : List ℕ) (at : ℕ) (why : FrameError) (before : List Framed) → AreBytes piece → IsReady old → old.ended ≡ false → new.ended ≡ true
    → (at ≡ new.feed.at) × (why ≡ new.feed.why) × IsLasting why × BadAfter old.feed piece before new.feed old.feed.why
    → string_bytes new.lines ≡ (string_bytes old.lines ++ given_lines before) ++ bad_frame_line at why → Took old new piece
meets_bad old new piece at why before bytes ready going ends (place, cause, lasting, after) put = record {
  awaits = λ rest text t. record {
    ended = λ _. put_lines old new piece before bytes ready feeds.found going rest text t ∙ ap (λ x. (string_bytes old.lines ++ given_lines before) ++ x) (line rest) ∙ sym put;
    going = λ goes_on. absurd (both ends goes_on);
  };
  ready = record { waits = λ goes_on. absurd (both ends goes_on); bytes = still_bytes old new piece before bytes ready feeds.found; left = feeds.left };
  fed = fed_then old new piece before bytes ready feeds.found;
}
  where
    both : new.ended ≡ true → new.ended ≡ false → ⊥
    both e k = cc

    feeds : TakesPiece old.feed piece before new.feed
    feeds = took_piece old.feed new.feed piece before old.feed.why (ready.waits going) after

    read : decoded new.feed.rest ≡ Err why
    read = feeds.left ∙ ap (λ e. Err e) (sym cause)

    some : new.feed.rest ≢ []
    some = λ none. nothing_waits why (ap decoded (sym none) ∙ read) lasting

    line : (rest : List ℕ) → lines_from new.feed.at (new.feed.rest ++ rest) ≡ bad_frame_line at why
    line rest =
        bad_line new.feed.at new.feed.rest rest why (still_bytes old new piece before bytes ready feeds.found) some read lasting
        ∙ ap (λ n. bad_frame_line n why) (sym place)

-- ---- the end

pub finished : (l : Listing) (text : List ℕ) → l.ended ≡ false → Finishes l.feed None → Awaits l [] text → string_bytes l.lines ≡ text
finished l text going (none, waits) t =
    sym (t.going going ∙ ap (λ b. string_bytes l.lines ++ lines_from l.feed.at b) (append-nil l.feed.rest ∙ none)
    ∙ ap (λ x. string_bytes l.lines ++ x) (nothing_has_no_line l.feed.at) ∙ append-nil (string_bytes l.lines))

pub finished_bad : (l : Listing) (text : List ℕ) (at : ℕ) (why : FrameError) → l.ended ≡ false → IsReady l → Finishes l.feed (Some (at, why)) → Awaits l [] text
    → string_bytes l.lines ++ bad_frame_line at why ≡ text
finished_bad l text at why going ready (place, cause, some) t =
    sym (t.going going ∙ ap (λ b. string_bytes l.lines ++ lines_from l.feed.at b) (append-nil l.feed.rest)
    ∙ ap (λ x. string_bytes l.lines ++ x) (bad_frame_ends l.feed.at l.feed.rest l.feed.why (some (ready.waits going)) ready.left)
    ∙ ap (λ n. string_bytes l.lines ++ bad_frame_line n l.feed.why) (sym place) ∙ ap (λ e. string_bytes l.lines ++ bad_frame_line at e) (sym cause))

-- ---- the whole input

module _ (input : List ℕ) (left left2 : Option (List ℕ)) (total count : ℕ) (piece : List ℕ) (old : Listing) (t : IsListing input left total old)
    (took : Consumes left left2 piece) (size : length piece ≡ count) where
  -- the bytes that are left are the piece and a rest
  pub rest_of : (rest2 : List ℕ) × ((left2 ≡ Some rest2) × (t.rest ≡ piece ++ rest2))
  rest_of = by left left2 took t.is_left
    where
      none_some : {A : Type 0} {a : A} → None ≡ Some a → ⊥
      none_some e = cc

      by : (l l2 : Option (List ℕ)) → Consumes l l2 piece → l ≡ Some t.rest → (rest2 : List ℕ) × ((l2 ≡ Some rest2) × (t.rest ≡ piece ++ rest2))
      by None l2 took is = absurd (none_some is)
      by (Some whole) None took is = absurd took
      by (Some whole) (Some rest2) took is = (rest2, (refl, sym (same_Some _ _ is) ∙ took))

  pub next_listing : (new : Listing) → ((rest text : List ℕ) → Awaits old (piece ++ rest) text → Awaits new rest text) → IsListing input left2 (total + count) new
  next_listing new awaits =
      let (rest2, (is, parts)) = rest_of in
      record {
        rest = rest2;
        is_left = is;
        behind = sym (drop-drop count total input) ∙ ap (drop count) (t.behind ∙ parts) ∙ ap (λ n. drop n (piece ++ rest2)) (sym size) ∙ drop-append_seam piece rest2;
        counted = omega (arith, t.counted, ap length parts, length-append piece rest2, size);
        awaits = awaits rest2 (frames_text input) (subst (λ r. Awaits old r (frames_text input)) parts t.awaits);
      }

-- the end of a short input
pub answers_listed : (input text : List ℕ) (left left2 : Option (List ℕ)) (total : ℕ) (l : Listing) → IsListing input left total l → total ≤ INPUT_BYTES
    → Consumes left left2 [] → IsAtEnd left2 → ((whole : List ℕ) → Awaits l [] whole → text ≡ whole)
    → IsFramesAnswer input text 0 × (left2 ≡ Some (unread input))
answers_listed input text left left2 total l t short took ends says =
    let (rest2, (is, parts)) = rest_of input left left2 total 0 [] l t took refl in
    let nothing : rest2 ≡ [] = subst (λ o. IsAtEnd o) is ends in
    let none : t.rest ≡ [] = parts ∙ nothing in
    let few : length input ≤ INPUT_BYTES = omega (arith, t.counted, ap length none, short) in
    let text_is : text ≡ frames_text input = says (frames_text input) (subst (λ r. Awaits l r (frames_text input)) none t.awaits) in
    let c = short_case input few in (
      record { text_is = text_is ∙ sym c.0; status_is = sym c.1 },
      is ∙ ap (λ r. Some r) (nothing ∙ sym (drop_all (INPUT_BYTES + 1) input (omega (arith, few)))),
    )

-- one byte past the most that is taken
pub answers_over : (input text : List ℕ) (left : Option (List ℕ)) (total : ℕ) (l : Listing) → IsListing input left total l → INPUT_BYTES < total
    → total ≤ INPUT_BYTES + 1 → text ≡ over_text → IsFramesAnswer input text 3 × (left ≡ Some (unread input))
answers_over input text left total l t long most is =
    let size : total ≡ INPUT_BYTES + 1 = omega (arith, long, most) in
    let c = long_case input (omega (arith, t.counted, long)) in
    (record { text_is = is ∙ sym c.0; status_is = sym c.1 }, t.is_left ∙ ap (λ r. Some r) (sym t.behind ∙ ap (λ n. drop n input) size))

-- two facts of what is there make a third
pub on_ok : {A E : Type 0} (P Q R : A → Type 0) → ((a : A) → P a → Q a → R a) → (r : Result A E) → IfOk r P → IfOk r Q → IfOk r R
on_ok P Q R f (Ok a) p q = f a p q
on_ok P Q R f (Err e) p q = tt

pub short_answers : (left0 left left2 : Option (List ℕ)) (total : ℕ) (l : Listing) (text : List ℕ) (status : ℕ)
    → ((input : List ℕ) → left0 ≡ Some input → IsListing input left total l) → total ≤ INPUT_BYTES → Consumes left left2 [] → IsAtEnd left2
    → ((whole : List ℕ) → Awaits l [] whole → text ≡ whole) → status ≡ 0 → Answers INPUT_BYTES IsFramesAnswer frames_statuses left0 left2 text status
short_answers left0 left left2 total l text status listing short took ends says zero = record {
  is_known = rw zero refl;
  is_answer = λ input told. subst (λ n. IsFramesAnswer input text n) (sym zero) (answers_listed input text left left2 total l (listing input told) short took ends says).0;
  read = λ input told. (answers_listed input text left left2 total l (listing input told) short took ends says).1;
}

pub long_answers : (left0 left : Option (List ℕ)) (total : ℕ) (l : Listing) (text : List ℕ) (status : ℕ)
    → ((input : List ℕ) → left0 ≡ Some input → IsListing input left total l) → INPUT_BYTES < total → total ≤ INPUT_BYTES + 1
    → text ≡ over_text → status ≡ 3 → Answers INPUT_BYTES IsFramesAnswer frames_statuses left0 left text status
long_answers left0 left total l text status listing long most is three = record {
  is_known = rw three refl;
  is_answer = λ input told. subst (λ n. IsFramesAnswer input text n) (sym three) (answers_over input text left total l (listing input told) long most is).0;
  read = λ input told. (answers_over input text left total l (listing input told) long most is).1;
}
