-- The sixteen bytes before a frame's body.
use Rattle.std.specs.Prelude.{ℕ, List, [], ◌∷◌}
use Rattle.std.specs.Int.{w8, w16, w32, to_be_bytes}
use Rattle.byte_fields.specs.Reading.{Reader, ◌>>=◌, gives, number_at}
use Rattle.frame_codec.specs.declared.head.Head.{Head}
use Rattle.byte_fields.specs.Parts.{joined}

-- the fields of a head in their order
unfoldable pub head_bytes : Head → List ℕ
head_bytes head = joined (
    to_be_bytes w16 head.magic ∷ (head.version ∷ []) ∷ to_be_bytes w32 head.full ∷ to_be_bytes w16 head.size ∷
    (head.kind ∷ []) ∷ (head.codec ∷ []) ∷ (head.compressor ∷ []) ∷ to_be_bytes w32 head.stamp ∷ [])

-- the head that stands at a place, whatever its fields say
unfoldable pub head_at : Reader Head
head_at = do
  magic ← number_at w16
  version ← number_at w8
  full ← number_at w32
  size ← number_at w16
  kind ← number_at w8
  codec ← number_at w8
  compressor ← number_at w8
  stamp ← number_at w32
  gives (record {
    magic = magic;
    version = version;
    full = full;
    size = size;
    kind = kind;
    codec = codec;
    compressor = compressor;
    stamp = stamp;
  })
