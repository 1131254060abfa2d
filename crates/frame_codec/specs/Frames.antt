-- The one frame of a message, and what bytes are as a frame, with the first fault in the order of the tests.
use Rattle.std.specs.Prelude.{◌≡◌, ◌≢◌, ℕ, ◌+◌, ◌<◌, ◌≤◌, ◌^◌, Bool, true, false, ◌&&◌, ◌==◌, nat_le, List, ◌++◌, length, take, slice_range, Result, Ok, Err}
use Rattle.std.specs.Int.{w16, to_be_bytes}
use Rattle.seata_types.specs.declared.messages.Message.{Message}
use Rattle.seata_types.specs.declared.limits.TheConstants.{BODY_BYTES}
use Rattle.byte_fields.specs.declared.errors.FieldError.{FieldError}
use Rattle.byte_fields.specs.declared.errors.FieldError.TheVariants as field
use Rattle.byte_fields.specs.Reading.{Position, Read, number_at}
use Rattle.frame_codec.specs.declared.errors.FrameError.{FrameError}
use Rattle.frame_codec.specs.declared.errors.FrameError.TheVariants as errors
use Rattle.frame_codec.specs.declared.head.Head.{Head}
use Rattle.frame_codec.specs.declared.head.TheConstants.{HEAD_BYTES, MAGIC, VERSION, CODEC, KIND_PLACE, CODEC_PLACE}
use Rattle.frame_codec.specs.Messages.{type_code, kind_of, fields_bytes, FitsMessage, is_known, fields_at}
use Rattle.frame_codec.specs.Heads.{head_bytes, head_at}

-- ---- the frame of a message

-- the body of a message's frame: its type code and its fields
abbrev pub body_bytes : Message → List ℕ
body_bytes message = to_be_bytes w16 (type_code message) ++ fields_bytes message

-- the head of a message's frame under a stamp; its full length counts the head and the body
abbrev pub head_of : Message → ℕ → Head
head_of message stamp = record {
  magic = MAGIC;
  version = VERSION;
  full = HEAD_BYTES + length (body_bytes message);
  size = HEAD_BYTES;
  kind = kind_of (type_code message);
  codec = CODEC;
  compressor = 0;
  stamp = stamp;
}

-- the one frame of a message under a stamp
unfoldable pub frame_bytes : Message → ℕ → List ℕ
frame_bytes message stamp = head_bytes (head_of message stamp) ++ body_bytes message

-- a message that the layout can hold, with a body within its limit, under a stamp of four bytes
pub record HasFrame (message : Message) (stamp : ℕ) : Type 0 where
  pub fits : FitsMessage message
  pub body : length (body_bytes message) ≤ BODY_BYTES
  pub stamp_fits : stamp < 2 ^ 32

-- ---- what bytes are as a frame

-- what is read of a frame, or the first fault
abbrev pub Framed : Type 0 → Type 0
Framed X = Result X FrameError

-- the next step, where no step before it met a fault
infixl 10 ◌>>=◌
abbrev pub ◌>>=◌ : {X Y : Type 0} → Framed X → (X → Framed Y) → Framed Y
(Ok x) >>= next = next x
(Err e) >>= next = Err e

-- a test, and the fault where it isn't passed
abbrev pub check : Bool → FrameError → Framed (Unit {0})
check true fault = Ok tt
check false fault = Err fault

-- a fault of a field, at its place in the frame
abbrev pub in_frame : FieldError → FrameError
in_frame (field.Short at) = errors.Body at
in_frame (field.BadText at) = errors.Body at
in_frame (field.BadTag at) = errors.Body at
in_frame field.NoMemory = errors.NoMemory

-- what a field's reader gave, with its fault as one of the frame
abbrev pub placed : {X : Type 0} → Read X → Framed (X × Position)
placed (Ok x) = Ok x
placed (Err e) = Err (in_frame e)

-- the head's own length, and a full length with a type code and within the limit
abbrev pub has_lengths : Head → Bool
has_lengths head =
    (head.size == HEAD_BYTES) && nat_le (HEAD_BYTES + 2) head.full && nat_le head.full (HEAD_BYTES + BODY_BYTES)

-- the head of a frame that is there as a whole
unfoldable pub checked_head : List ℕ → Framed Head
checked_head bytes = do
  _ ← check (nat_le HEAD_BYTES (length bytes)) (errors.Short HEAD_BYTES)
  found ← placed (head_at (record { at = 0; rest = bytes }))
  let head = found.0
  _ ← check (head.magic == MAGIC) errors.Magic
  _ ← check (head.version == VERSION) errors.Version
  _ ← check (has_lengths head) errors.Length
  _ ← check (head.compressor == 0) (errors.Compressed head.compressor)
  _ ← check (nat_le head.full (length bytes)) (errors.Short head.full)
  Ok head

-- the message behind the head of a frame
unfoldable pub message_behind : Head → List ℕ → Framed Message
message_behind head bytes = do
  code ← placed (number_at w16 (record { at = HEAD_BYTES; rest = slice_range bytes HEAD_BYTES head.full }))
  _ ← check (is_known code.0) (errors.UnknownType code.0)
  _ ← check (head.kind == kind_of code.0) (errors.Body KIND_PLACE)
  _ ← check (head.codec == CODEC) (errors.Body CODEC_PLACE)
  message ← placed (fields_at code.0 code.1)
  _ ← check (message.1.at == head.full) (errors.Body message.1.at)
  Ok message.0

-- message, request number and length of the frame that the bytes begin with
unfoldable pub decoded : List ℕ → Framed (Message × ℕ × ℕ)
decoded bytes = do
  head ← checked_head bytes
  message ← message_behind head bytes
  Ok (message, head.stamp, head.full)

-- what a call answers that reads: what is read, or the first fault. Want of memory alone is free.
abbrev pub Gives : {X : Type 0} → Result X FrameError → Framed X → Type 0
Gives (Ok x) read = read ≡ Ok x
Gives (Err e) read = e ≢ errors.NoMemory → read ≡ Err e

-- where the bytes are a frame and anything behind it, the call answers what it carries
abbrev pub AnswersFrame : List ℕ → Result (Message × ℕ × ℕ) FrameError → Type 0
AnswersFrame bytes result = (message : Message) (stamp : ℕ) (rest : List ℕ) → HasFrame message stamp →
    bytes ≡ frame_bytes message stamp ++ rest → Gives result (Ok (message, stamp, length (frame_bytes message stamp)))

-- the first n bytes are the one frame of the message with this stamp
pub record BeginsWithFrame (bytes : List ℕ) (message : Message) (stamp n : ℕ) : Type 0 where
  pub fits : HasFrame message stamp
  pub there : n ≤ length bytes
  pub frame : take n bytes ≡ frame_bytes message stamp
