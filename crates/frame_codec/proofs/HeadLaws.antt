-- A head is read back, what is read as a head stands there, and sixteen bytes are one.
use Rattle.std.proofs.Common.{◌≡◌, ℕ, ◌+◌, ◌^◌, ◌<◌, ◌≤◌, List, length, take, Ok, refl, ap, ◌∙◌, arith}
use Rattle.std.specs.Prelude.{IsOk}
use Rattle.std.specs.Int.{Width, w8, w16, w32, byte_len, from_be_bytes}
use Rattle.std.proofs.lemmas.Bool.{le-ltb}
use Rattle.std.proofs.lemmas.List.{length-drop}
use Rattle.byte_fields.specs.Reading.{Position, Read, Reader, and_then, gives, past, number_at}
use Rattle.byte_fields.specs.Exactness.{ReadsExactly}
use Rattle.byte_fields.proofs.Chains.{part, last_part, whole}
use Rattle.byte_fields.proofs.Numbers.{byte_exact, two_bytes_exact, four_bytes_exact}
use Rattle.frame_codec.specs.declared.head.Head.{Head}
use Rattle.frame_codec.specs.Heads.{head_bytes, head_at}

pub record FitsHead (head : Head) : Type 0 where
  pub magic : head.magic < 2 ^ 16
  pub version : head.version < 2 ^ 8
  pub full : head.full < 2 ^ 32
  pub size : head.size < 2 ^ 16
  pub kind : head.kind < 2 ^ 8
  pub codec : head.codec < 2 ^ 8
  pub compressor : head.compressor < 2 ^ 8
  pub stamp : head.stamp < 2 ^ 32

pub head_exact : ReadsExactly head_at head_bytes FitsHead
unfolding head_at head_bytes
head_exact = whole head_bytes FitsHead (λ (h : Head). (h.magic, (h.version, (h.full, (h.size, (h.kind, (h.codec, (h.compressor, h.stamp))))))))
    (part two_bytes_exact (λ magic. part byte_exact (λ version. part four_bytes_exact (λ full. part two_bytes_exact (λ size.
    part byte_exact (λ kind. part byte_exact (λ codec. part byte_exact (λ compressor.
    last_part (λ stamp. record { magic = magic; version = version; full = full; size = size; kind = kind; codec = codec; compressor = compressor; stamp = stamp }) four_bytes_exact))))))))
    (λ h. refl) (λ h. refl) (λ t. refl)
    (λ h fits. (fits.magic, (fits.version, (fits.full, (fits.size, (fits.kind, (fits.codec, (fits.compressor, fits.stamp))))))))
    (λ t fits. record {
      magic = fits.0;
      version = fits.1.0;
      full = fits.1.1.0;
      size = fits.1.1.1.0;
      kind = fits.1.1.1.1.0;
      codec = fits.1.1.1.1.1.0;
      compressor = fits.1.1.1.1.1.1.0;
      stamp = fits.1.1.1.1.1.1.1;
    })

pub length-head : (head : Head) → length (head_bytes head) ≡ 16
unfolding head_bytes
length-head head = refl

-- a reader that reads where so many bytes are left, and leaves the others
abbrev Needs : {X : Type 0} → Reader X → ℕ → Type 0
Needs {X} reader n = (place : Position) → n ≤ length place.rest → (x : X) × (after : Position) × (reader place ≡ Ok (x, after)) × (length after.rest + n ≡ length place.rest)

number_needs : (w : Width) → Needs (number_at w) (byte_len w)
unfolding number_at
number_needs w place long =
    (from_be_bytes w (take (byte_len w) place.rest), past (byte_len w) place, rw (le-ltb (length place.rest) (byte_len w) long) refl, omega (arith, length-drop (byte_len w) place.rest))

needs_part : {X Y : Type 0} {reader : Reader X} {next : X → Reader Y} {n m : ℕ} → Needs reader n → ((x : X) → Needs (next x) m) → Needs (λ p. and_then (reader p) next) (n + m)
needs_part {next = next} first others place long =
    let a = first place (omega arith) in
    let b = others a.0 a.1 (omega (arith, a.3)) in
    (b.0, b.1, ap (λ (r : Read _). and_then r next) a.2 ∙ b.2, omega (arith, a.3, b.3))

needs_last : {X Y : Type 0} {reader : Reader X} {n : ℕ} (made : X → Y) → Needs reader n → Needs (λ p. and_then (reader p) (λ x. gives (made x))) n
needs_last made first place long =
    let a = first place long in
    (made a.0, a.1, rw a.2 refl, a.3)

head_needs : Needs head_at 16
unfolding head_at
head_needs =
    needs_part (number_needs w16) (λ magic. needs_part (number_needs w8) (λ version. needs_part (number_needs w32) (λ full. needs_part (number_needs w16) (λ size.
    needs_part (number_needs w8) (λ kind. needs_part (number_needs w8) (λ codec. needs_part (number_needs w8) (λ compressor.
    needs_last (λ stamp. record { magic = magic; version = version; full = full; size = size; kind = kind; codec = codec; compressor = compressor; stamp = stamp }) (number_needs w32))))))))

-- sixteen bytes are a head
pub head_there : (bytes : List ℕ) → 16 ≤ length bytes → IsOk (head_at (record { at = 0; rest = bytes }))
head_there bytes long = let a = head_needs (record { at = 0; rest = bytes }) long in rw a.2 refl

-- the head that sixteen bytes begin with
pub head_read : (bytes : List ℕ) → 16 ≤ length bytes → (head : Head) × (after : Position) × (head_at (record { at = 0; rest = bytes }) ≡ Ok (head, after))
head_read bytes long = let a = head_needs (record { at = 0; rest = bytes }) long in (a.0, a.1, a.2)
