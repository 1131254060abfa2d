-- Bytes that follow change no frame and no lasting fault.
use Rattle.std.proofs.Common.{◌≡◌, ℕ, zero, suc, ◌+◌, ◌-◌, ◌≤◌, Bool, true, false, leb, List, [], ◌∷◌, ◌++◌, length, take, drop, Ok, Err, refl, ap, ◌∙◌, append_assoc, arith}
use Rattle.std.specs.Prelude.{◌==◌, slice_range}
use Rattle.std.proofs.lemmas.Bool.{leb-true, le-leb}
use Rattle.std.proofs.lemmas.List.{length-append, length-drop}
use Rattle.byte_fields.specs.Reading.{Position}
use Rattle.byte_fields.specs.Exactness.{AreBytes}
use Rattle.frame_codec.specs.declared.errors.FrameError.{FrameError}
use Rattle.frame_codec.specs.declared.errors.FrameError.TheVariants as errors
use Rattle.frame_codec.specs.declared.head.Head.{Head}
use Rattle.frame_codec.specs.declared.head.TheConstants.{HEAD_BYTES, MAGIC, VERSION}
use Rattle.frame_codec.specs.Heads.{head_bytes, head_at}
use Rattle.frame_codec.specs.Frames.{Framed, ◌>>=◌, check, has_lengths, checked_head, message_behind, decoded}
use Rattle.frame_codec.specs.Feeding.{IsLasting}
use Rattle.frame_codec.proofs.HeadLaws.{head_exact, head_read}
use Rattle.frame_codec.proofs.FrameLaws.{IsHead, head_only, head_back}

pub drop_front : (n : ℕ) (bytes more : List ℕ) → n ≤ length bytes → drop n (bytes ++ more) ≡ drop n bytes ++ more
drop_front zero bytes more le = refl
drop_front (suc n) [] more le = absurd (omega arith)
drop_front (suc n) (b ∷ bytes) more le = drop_front n bytes more (omega arith)

take_front : (n : ℕ) (bytes more : List ℕ) → n ≤ length bytes → take n (bytes ++ more) ≡ take n bytes
take_front zero bytes more le = refl
take_front (suc n) [] more le = absurd (omega arith)
take_front (suc n) (b ∷ bytes) more le = ap (λ (x : List ℕ). b ∷ x) (take_front n bytes more (omega arith))

-- ---- the head

-- a head is read alike whatever follows it
read_more : (bytes more : List ℕ) (head : Head) (after : Position) → AreBytes bytes → head_at (record { at = 0; rest = bytes }) ≡ Ok (head, after) →
    (later : Position) × (head_at (record { at = 0; rest = bytes ++ more }) ≡ Ok (head, later))
read_more bytes more head after all read =
    let found = head_exact.only head (record { at = 0; rest = bytes }) after all read in
    let longer : bytes ++ more ≡ head_bytes head ++ (after.rest ++ more) = ap (λ (x : List ℕ). x ++ more) found.1.rest ∙ append_assoc (head_bytes head) after.rest more in
    let again = head_exact.back head 0 (after.rest ++ more) found.0 in
    (record { at = 0 + length (head_bytes head); rest = after.rest ++ more }, ap (λ (x : List ℕ). head_at (record { at = 0; rest = x })) longer ∙ again)

abbrev done : {X : Type 0} → X → Framed X
done x = Ok x

abbrev bad : FrameError → Framed Head
bad fault = Err fault

not_short : (need : ℕ) (why : FrameError) → IsLasting why → bad (errors.Short need) ≡ bad why → ⊥
not_short need (errors.Short n) lasting e = lasting
not_short need errors.Magic lasting e = absurd cc
not_short need errors.Version lasting e = absurd cc
not_short need errors.Length lasting e = absurd cc
not_short need (errors.Compressed n) lasting e = absurd cc
not_short need (errors.UnknownType n) lasting e = absurd cc
not_short need (errors.Body n) lasting e = absurd cc
not_short need errors.NoMemory lasting e = absurd cc

same_fault : (why : FrameError) (e : FrameError) → bad e ≡ bad why → e ≡ why
same_fault why e same = cc

tests_more : (b1 b2 b3 b4 b5 c5 : Bool) (f1 f2 f3 f4 : FrameError) (need : ℕ) (x : Head) (why : FrameError) → IsLasting why →
    (check b1 f1 >>= λ _. check b2 f2 >>= λ _. check b3 f3 >>= λ _. check b4 f4 >>= λ _. check b5 (errors.Short need) >>= λ _. done x) ≡ Err why →
    (check b1 f1 >>= λ _. check b2 f2 >>= λ _. check b3 f3 >>= λ _. check b4 f4 >>= λ _. check c5 (errors.Short need) >>= λ _. done x) ≡ Err why
tests_more false b2 b3 b4 b5 c5 f1 f2 f3 f4 need x why lasting e = e
tests_more true false b3 b4 b5 c5 f1 f2 f3 f4 need x why lasting e = e
tests_more true true false b4 b5 c5 f1 f2 f3 f4 need x why lasting e = e
tests_more true true true false b5 c5 f1 f2 f3 f4 need x why lasting e = e
tests_more true true true true false c5 f1 f2 f3 f4 need x why lasting e = absurd (not_short need why lasting e)
tests_more true true true true true c5 f1 f2 f3 f4 need x why lasting e = absurd cc

fault_more : (bytes more : List ℕ) (why : FrameError) (b : Bool) → AreBytes bytes → IsLasting why → leb HEAD_BYTES (length bytes) ≡ b → checked_head bytes ≡ Err why → checked_head (bytes ++ more) ≡ Err why
unfolding checked_head
fault_more bytes more why false all lasting short e = absurd (not_short HEAD_BYTES why lasting (rw short at e))
fault_more bytes more why true all lasting long e =
    let enough : HEAD_BYTES ≤ length bytes = leb-true _ _ long in
    let a = head_read bytes enough in
    let h = a.0 in
    let later = read_more bytes more h a.1 all a.2 in
    let longer : leb HEAD_BYTES (length (bytes ++ more)) ≡ true = le-leb _ _ (omega (arith, enough, length-append bytes more)) in
    let first : (check (h.magic == MAGIC) errors.Magic >>= λ _. check (h.version == VERSION) errors.Version >>= λ _. check (has_lengths h) errors.Length >>= λ _.
    check (h.compressor == 0) (errors.Compressed h.compressor) >>= λ _. check (leb h.full (length bytes)) (errors.Short h.full) >>= λ _. done h) ≡ Err why = rw (long, a.2) at e in
    rw (longer, later.1) (tests_more (h.magic == MAGIC) (h.version == VERSION) (has_lengths h) (h.compressor == 0) (leb h.full (length bytes)) (leb h.full (length (bytes ++ more)))
    errors.Magic errors.Version errors.Length (errors.Compressed h.compressor) h.full h why lasting first)

head_more : (bytes more : List ℕ) (head : Head) → AreBytes bytes → checked_head bytes ≡ Ok head → checked_head (bytes ++ more) ≡ Ok head
head_more bytes more head all e =
    let found = head_only head bytes e in
    let is : IsHead head bytes = found.2 in
    let later = read_more bytes more head found.0 all found.1 in
    let longer : length (bytes ++ more) ≡ length bytes + length more = length-append bytes more in
    let is_later : IsHead head (bytes ++ more) = record { magic = is.magic; version = is.version; size = is.size; least = is.least; most = is.most; compressor = is.compressor; whole = omega (arith, is.whole, longer) } in
    head_back head (bytes ++ more) later.0 (omega (arith, is.least, is.whole, longer)) later.1 is_later

-- ---- the message

behind_more : (bytes more : List ℕ) (head : Head) → HEAD_BYTES ≤ head.full → head.full ≤ length bytes → message_behind head (bytes ++ more) ≡ message_behind head bytes
unfolding message_behind
behind_more bytes more head least whole =
    let cut : drop HEAD_BYTES (bytes ++ more) ≡ drop HEAD_BYTES bytes ++ more = drop_front HEAD_BYTES bytes more (omega (arith, least, whole)) in
    let same : slice_range (bytes ++ more) HEAD_BYTES head.full ≡ slice_range bytes HEAD_BYTES head.full =
    ap (λ (x : List ℕ). take (head.full - HEAD_BYTES) x) cut ∙ take_front (head.full - HEAD_BYTES) (drop HEAD_BYTES bytes) more (omega (arith, length-drop HEAD_BYTES bytes)) in
    rw same refl

-- ---- the frame

bad_by : (bytes more : List ℕ) (why : FrameError) (one : Framed Head) → AreBytes bytes → IsLasting why → checked_head bytes ≡ one → decoded bytes ≡ Err why → decoded (bytes ++ more) ≡ Err why
unfolding decoded
bad_by bytes more why (Err e) all lasting same d =
    let so : e ≡ why = cc in
    let later : checked_head (bytes ++ more) ≡ Err why = fault_more bytes more why (leb HEAD_BYTES (length bytes)) all lasting refl (same ∙ ap (λ (f : FrameError). Err f) so) in
    rw later refl
bad_by bytes more why (Ok head) all lasting same d =
    let is : IsHead head bytes = (head_only head bytes same).2 in
    rw (head_more bytes more head all same, behind_more bytes more head (omega (arith, is.least)) is.whole) (rw same at d)

pub bad_more : (bytes more : List ℕ) (why : FrameError) → AreBytes bytes → IsLasting why → decoded bytes ≡ Err why → decoded (bytes ++ more) ≡ Err why
bad_more bytes more why all lasting d = bad_by bytes more why (checked_head bytes) all lasting refl d

-- no bytes want a head
pub nothing_yet : decoded [] ≡ Err (errors.Short HEAD_BYTES)
unfolding decoded checked_head
nothing_yet = refl
