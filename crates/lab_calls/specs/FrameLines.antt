-- The lines of the frames that bytes are, one behind the other.
use Rattle.std.specs.Prelude.{◌≡◌, ◌≢◌, ◌⊎◌, ℕ, zero, suc, ◌+◌, ◌-◌, ◌<◌, All, List, [], ◌∷◌, ◌++◌, length, Ok, Err, codes}
use Rattle.std.specs.Fmt.{decimal}
use Rattle.seata_types.specs.declared.messages.Message.{Message}
use Rattle.history_text.specs.declared.entries.Names.{Names}
use Rattle.history_text.specs.declared.notes.Note.{Note}
use Rattle.history_text.specs.Notes.{note_of_message}
use Rattle.history_text.specs.Lines.{note_text}
use Rattle.history_text.specs.Report.{line}
use Rattle.frame_codec.specs.declared.errors.FrameError.{FrameError}
use Rattle.frame_codec.specs.declared.errors.FrameError.TheVariants as fault
use Rattle.frame_codec.specs.declared.framed.Framed.{Framed as Given}
use Rattle.frame_codec.specs.Frames.{Framed, HasFrame, frame_bytes, decoded}

-- ---- lines

-- no names: a manager is `m` and its number, a resource `r` and its number
abbrev pub no_names : Names
no_names = record { resources = []; managers = [] }

-- an offset, a request number and a message's note
abbrev pub note_line : ℕ → ℕ → Note → List ℕ
note_line at stamp note =
    decimal at ++ (codes " " ++ (decimal stamp ++ (codes " " ++ line (note_text no_names note))))

-- the line of a frame
unfoldable pub frame_line : ℕ → ℕ → Message → List ℕ
frame_line at stamp message = note_line at stamp (note_of_message message)

-- what keeps bytes from beginning with a frame
abbrev pub frame_fault_text : FrameError → List ℕ
frame_fault_text (fault.Short need) = codes "Short " ++ decimal need
frame_fault_text fault.Magic = codes "Magic"
frame_fault_text fault.Version = codes "Version"
frame_fault_text fault.Length = codes "Length"
frame_fault_text (fault.Compressed compressor) = codes "Compressed " ++ decimal compressor
frame_fault_text (fault.UnknownType code) = codes "UnknownType " ++ decimal code
frame_fault_text (fault.Body at) = codes "Body " ++ decimal at
frame_fault_text fault.NoMemory = []

-- the line of a bad frame: its offset and its fault
unfoldable pub bad_frame_line : ℕ → FrameError → List ℕ
bad_frame_line at error = decimal at ++ (codes " " ++ line (frame_fault_text error))

-- ---- the lines of bytes

-- what stands at an offset: a frame's line and the lines behind the frame, or the line of a bad
-- frame and no more
abbrev pub lines_by : ℕ → Framed (Message × ℕ × ℕ) → (ℕ → List ℕ) → List ℕ
lines_by at (Ok (message, stamp, size)) behind = frame_line at stamp message ++ behind size
lines_by at (Err error) behind = bad_frame_line at error

-- the lines from an offset on, where these bytes stand, so many of which still belong to the frame
-- before
unfoldable pub lines_behind : (inside at : ℕ) → List ℕ → List ℕ
lines_behind inside at [] = []
lines_behind (suc inside) at (byte ∷ bytes) = lines_behind inside (at + 1) bytes
lines_behind zero at (byte ∷ bytes) =
    lines_by at (decoded (byte ∷ bytes)) (λ size. lines_behind (size - 1) (at + 1) bytes)

-- the lines of the frames from an offset on, where these bytes stand
abbrev pub lines_from : ℕ → List ℕ → List ℕ
lines_from at bytes = lines_behind 0 at bytes

-- the lines of the frames that bytes are
abbrev pub frames_text : List ℕ → List ℕ
frames_text bytes = lines_from 0 bytes

-- ---- what characterises them

-- a frame in front adds its line
abbrev pub FrameAddsLine : Type 0
FrameAddsLine = (at stamp : ℕ) (message : Message) (rest : List ℕ) → HasFrame message stamp →
    lines_from at (frame_bytes message stamp ++ rest)
    ≡ frame_line at stamp message ++ lines_from (at + length (frame_bytes message stamp)) rest

-- no bytes give no line
abbrev pub NothingHasNoLine : Type 0
NothingHasNoLine = (at : ℕ) → lines_from at [] ≡ []

-- bytes that don't begin with a frame give the line of their fault, and nothing else
abbrev pub BadFrameEnds : Type 0
BadFrameEnds =
    (at : ℕ) (bytes : List ℕ) (error : FrameError) → bytes ≢ [] → decoded bytes ≡ Err error
    → lines_from at bytes ≡ bad_frame_line at error

-- bytes begin with a frame or have a fault, so these three laws determine the lines
abbrev pub FrameOrFault : Type 0
FrameOrFault = (bytes : List ℕ) → All (λ byte. byte < 256) bytes →
    ((message : Message) × (stamp : ℕ) × (rest : List ℕ) × HasFrame message stamp
    × (bytes ≡ frame_bytes message stamp ++ rest))
    ⊎ ((error : FrameError) × (decoded bytes ≡ Err error))

-- ---- frames that are given

-- the lines of frames, one behind the other
abbrev pub given_lines : List Given → List ℕ
given_lines [] = []
given_lines (frame ∷ frames) = frame_line frame.at frame.stamp frame.message ++ given_lines frames
