-- Frames one behind the other, in bytes that come in pieces.
use Rattle.std.specs.Prelude.{◌≡◌, ◌≢◌, ℕ, ◌+◌, ◌<◌, ◌≤◌, Option, Some, None, List, [], ◌∷◌, ◌++◌, length, drop, Result, Ok, Err}
use Rattle.frame_codec.specs.declared.errors.FrameError.{FrameError}
use Rattle.frame_codec.specs.declared.errors.FrameError.TheVariants as errors
use Rattle.frame_codec.specs.declared.framed.Framed.{Framed}
use Rattle.frame_codec.specs.declared.framed.FeedError.{FeedError}
use Rattle.frame_codec.specs.declared.framed.FeedError.TheVariants as feed
use Rattle.frame_codec.specs.Frames.{decoded}

-- these frames stand in the bytes from an offset on, one behind the other; the last one ends at `end`, and `rest` is behind it
abbrev pub FramesIn : (at : ℕ) → List ℕ → List Framed → (end : ℕ) → (rest : List ℕ) → Type 0
FramesIn at bytes [] end rest = (end ≡ at) × (rest ≡ bytes)
FramesIn at bytes (frame ∷ frames) end rest =
    (frame.at ≡ at) × (size : ℕ) × (decoded bytes ≡ Ok (frame.message, frame.stamp, size)) × FramesIn (at + size) (drop size bytes) frames end rest

-- a fault that more bytes may mend, and one that lasts
abbrev pub IsShort : FrameError → Type 0
IsShort (errors.Short need) = Unit {0}
IsShort _ = ⊥

abbrev pub IsLasting : FrameError → Type 0
IsLasting (errors.Short need) = ⊥
IsLasting _ = Unit {0}

-- what a feed stands at: how many bytes the frames given are, the bytes behind them, and why these begin with no frame
pub record Fed : Type 0 where
  pub at : ℕ
  pub rest : List ℕ
  pub why : FrameError

-- the frames of what was left and a piece, and what is left now
pub record TakesPiece (old : Fed) (piece : List ℕ) (frames : List Framed) (new : Fed) : Type 0 where
  pub waits : IsShort old.why
  pub found : FramesIn old.at (old.rest ++ piece) frames new.at new.rest
  pub counted : new.at + length new.rest ≡ old.at + (length old.rest + length piece)
  pub left : decoded new.rest ≡ Err new.why

-- the first answer of a lasting fault has the frames before it; later pieces are not taken
abbrev pub BadAfter : Fed → List ℕ → List Framed → Fed → FrameError → Type 0
BadAfter old piece before new (errors.Short need) = TakesPiece old piece before new
BadAfter old piece before new _ = (before ≡ []) × (new ≡ old)

-- what a feed answers to a piece
abbrev pub Feeds : Fed → List ℕ → Fed → Result (List Framed) FeedError → Type 0
Feeds old piece new (Ok frames) = TakesPiece old piece frames new × IsShort new.why
Feeds old piece new (Err (feed.Bad at why before)) = (at ≡ new.at) × (why ≡ new.why) × IsLasting why × BadAfter old piece before new old.why
Feeds old piece new (Err feed.NoMemory) = IsShort old.why × (new ≡ old)

-- what a feed ends with: nothing where its bytes are frames alone, else the place and the fault of what is left
abbrev pub Finishes : Fed → Option (ℕ × FrameError) → Type 0
Finishes fed None = (fed.rest ≡ []) × IsShort fed.why
Finishes fed (Some found) = (found.0 ≡ fed.at) × (found.1 ≡ fed.why) × (IsShort fed.why → fed.rest ≢ [])

-- one frame more behind those that were found, or none and the fault
pub record Finds (at : ℕ) (bytes : List ℕ) (old new : List Framed) (size : ℕ) : Type 0 where
  pub some : 0 < size
  pub within : size ≤ length bytes
  pub joins : (from : ℕ) (fed : List ℕ) → FramesIn from fed old at bytes → FramesIn from fed new (at + size) (drop size bytes)

-- all frames that stand at the front of bytes, and why there are no more
pub record Scans (at : ℕ) (bytes : List ℕ) (frames : List Framed) (used : ℕ) (fault : FrameError) : Type 0 where
  pub within : used ≤ length bytes
  pub found : FramesIn at bytes frames (at + used) (drop used bytes)
  pub ends : decoded (drop used bytes) ≡ Err fault
