-- What a cursor of the code stands for.
use Rattle.std.specs.Prelude.{◌≡◌, ◌≢◌, Result, Ok, Err}
use Rattle.byte_fields.specs.declared.errors.FieldError.{FieldError}
use Rattle.byte_fields.specs.declared.errors.FieldError.TheVariants as errors
use Rattle.byte_fields.specs.declared.cursor.Cursor.{Cursor}
use Rattle.byte_fields.specs.Reading.{Position, Reader, Read}

-- the place in the bytes at which a cursor stands
abbrev pub position : Cursor → Position
position c = record { at = c.at; rest = c.rest.now }

-- this fault is the one that reading meets first; want of memory alone is free
abbrev pub Fails : {X : Type 0} → FieldError → Read X → Type 0
Fails e read = e ≢ errors.NoMemory → read ≡ Err e

-- what a function answers that reads at a cursor: the value and the cursor after it, or the first fault, or want of memory
abbrev pub Reads : {X : Type 0} → Reader X → Cursor → Result (X × Cursor) FieldError → Type 0
Reads reader start (Ok x) = reader (position start) ≡ Ok (x.0, position x.1)
Reads reader start (Err e) = Fails e (reader (position start))
