-- What a listing of frames still has to write.
use Rattle.std.specs.Prelude.{◌≡◌, ◌+◌, ◌<◌, ℕ, true, false, All, List, ◌++◌, length, drop, Option, Some, Err, string_bytes}
use Rattle.frame_codec.specs.Frames.{decoded}
use Rattle.frame_codec.specs.Feeding.{IsShort}
use Rattle.lab_calls.specs.declared.listings.Listing.{Listing}
use Rattle.lab_calls.specs.FrameLines.{lines_from, frames_text}

-- where the bytes that were fed to it end
abbrev pub fed : Listing → ℕ
fed l = l.feed.at + length l.feed.rest

-- its feed waits for more bytes, or it has ended; what the feed keeps are bytes that begin with no
-- frame
pub record IsReady (l : Listing) : Type 0 where
  pub waits : l.ended ≡ false → IsShort l.feed.why
  pub bytes : All (λ byte. byte < 256) l.feed.rest
  pub left : decoded l.feed.rest ≡ Err l.feed.why

-- a listing that these bytes are still fed to will have this text: where it has ended it has it,
-- else the lines of what its feed keeps and of these bytes are still to be written
pub record Awaits (l : Listing) (rest text : List ℕ) : Type 0 where
  pub ended : l.ended ≡ true → text ≡ string_bytes l.lines
  pub going : l.ended ≡ false
      → text ≡ string_bytes l.lines ++ lines_from l.feed.at (l.feed.rest ++ rest)

-- for the proofs alone: so many bytes of an input were read and fed to it; the others are left, and
-- it will have the lines of all
pub record IsListing (input : List ℕ) (left : Option (List ℕ)) (total : ℕ)
    (l : Listing) : Type 0 where
  pub rest : List ℕ
  pub is_left : left ≡ Some rest
  pub behind : drop total input ≡ rest
  pub counted : length input ≡ total + length rest
  pub awaits : Awaits l rest (frames_text input)
