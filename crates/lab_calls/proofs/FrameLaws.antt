-- The lines of a frame and what is behind it, of nothing, and of a bad frame.
use Rattle.std.proofs.Common.{◌≡◌, ◌⊎◌, inl, inr, ℕ, ◌+◌, ◌-◌, ◌<◌, List, [], ◌∷◌, ◌++◌, length, drop, Ok, Err, refl, sym, ap, ◌∙◌, arith, add-zero}
use Rattle.std.proofs.lemmas.List.{take-append-drop}
use Rattle.seata_types.specs.declared.messages.Message.{Message}
use Rattle.frame_codec.specs.declared.errors.FrameError.{FrameError}
use Rattle.frame_codec.specs.Frames.{Framed, HasFrame, frame_bytes, decoded, BeginsWithFrame}
use Rattle.frame_codec.proofs.FrameLaws.{decoded_back, decoded_only, length-frame}
use Rattle.lab_calls.specs.FrameLines.{frame_line, lines_behind, lines_from, FrameAddsLine, NothingHasNoLine, BadFrameEnds, FrameOrFault}

-- the bytes of a frame that has its line are passed
passed : (at : ℕ) (front rest : List ℕ) → lines_behind (length front) at (front ++ rest) ≡ lines_from (at + length front) rest
unfolding lines_behind
passed at [] rest = ap (λ n. lines_from n rest) (sym (add-zero at))
passed at (byte ∷ front) rest =
    let step : at + 1 + length front ≡ at + length (byte ∷ front) = omega arith in
    passed (at + 1) front rest ∙ ap (λ n. lines_from n rest) step

added : (at stamp : ℕ) (message : Message) (frame rest : List ℕ) → 0 < length frame → decoded (frame ++ rest) ≡ Ok (message, stamp, length frame) →
    lines_from at (frame ++ rest) ≡ frame_line at stamp message ++ lines_from (at + length frame) rest
unfolding lines_behind
added at stamp message [] rest some read = absurd (omega (arith, some))
added at stamp message (byte ∷ frame) rest some read =
    let size : length (byte ∷ frame) - 1 ≡ length frame = omega arith in
    let step : at + 1 + length frame ≡ at + length (byte ∷ frame) = omega arith in
    let behind : lines_behind (length (byte ∷ frame) - 1) (at + 1) (frame ++ rest) ≡ lines_from (at + length (byte ∷ frame)) rest =
    ap (λ n. lines_behind n (at + 1) (frame ++ rest)) size ∙ passed (at + 1) frame rest ∙ ap (λ n. lines_from n rest) step in
    rw read (ap (λ l. frame_line at stamp message ++ l) behind)

pub frame_is_some : (message : Message) (stamp : ℕ) → 0 < length (frame_bytes message stamp)
frame_is_some message stamp = omega (arith, length-frame message stamp)

pub frame_adds_line : FrameAddsLine
frame_adds_line at stamp message rest has =
    added at stamp message (frame_bytes message stamp) rest (frame_is_some message stamp) (decoded_back message stamp rest has)

pub nothing_has_no_line : NothingHasNoLine
unfolding lines_behind
nothing_has_no_line at = refl

pub bad_frame_ends : BadFrameEnds
unfolding lines_behind
bad_frame_ends at [] error some read = absurd (some refl)
bad_frame_ends at (byte ∷ bytes) error some read = rw read refl

-- a frame's bytes, and the bytes behind it
pub begins_whole : (bytes : List ℕ) (message : Message) (stamp size : ℕ) → BeginsWithFrame bytes message stamp size → bytes ≡ frame_bytes message stamp ++ drop size bytes
begins_whole bytes message stamp size begins = sym (take-append-drop size bytes) ∙ ap (λ l. l ++ drop size bytes) begins.frame

pub frame_or_fault : FrameOrFault
frame_or_fault bytes all = by (decoded bytes) refl
  where
    by : (read : Framed (Message × ℕ × ℕ)) → decoded bytes ≡ read →
        ((message : Message) × (stamp : ℕ) × (rest : List ℕ) × HasFrame message stamp × (bytes ≡ frame_bytes message stamp ++ rest))
        ⊎ ((error : FrameError) × (decoded bytes ≡ Err error))
    by (Ok (message, stamp, size)) is =
        let begins = decoded_only bytes message stamp size all is in
        inl (message, stamp, drop size bytes, begins.fits, begins_whole bytes message stamp size begins)
    by (Err error) is = inr (error, is)
