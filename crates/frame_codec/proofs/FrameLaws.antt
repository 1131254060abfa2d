-- A frame is decoded as its message whatever follows it, and what is decoded is the one frame of its message.
use Rattle.std.proofs.Common.{◌≡◌, ℕ, ◌+◌, ◌-◌, ◌^◌, ◌<◌, ◌≤◌, Bool, true, false, leb, List, [], ◌++◌, length, take, drop, Result, Ok, Err, refl, sym, ap, subst, ◌∙◌, append_assoc, arith}
use Rattle.std.specs.Prelude.{◌==◌, slice_range, IfOk}
use Rattle.std.specs.Int.{w16, to_be_bytes}
use Rattle.std.proofs.lemmas.Bool.{and_parts, and_from, leb-true, le-leb, eqb-true, eq-eqb}
use Rattle.std.proofs.lemmas.List.{append-nil, nil_from_length, length-append, length-take, length-drop, take_at, drop_at}
use Rattle.std.proofs.lemmas.List.Elements.{All-take, All-drop}
use Rattle.std.proofs.Math.Seq.{take-add}
use Rattle.seata_types.specs.declared.messages.Message.{Message}
use Rattle.seata_types.specs.declared.messages.Message.TheVariants as message
use Rattle.seata_types.specs.declared.limits.TheConstants.{BODY_BYTES}
use Rattle.byte_fields.specs.Reading.{Position, Read, Reader, number_at}
use Rattle.byte_fields.specs.Exactness.{AreBytes, Stands}
use Rattle.byte_fields.proofs.Chains.{Stands-then, AreBytes-after}
use Rattle.byte_fields.proofs.Numbers.{two_bytes_exact}
use Rattle.frame_codec.specs.declared.errors.FrameError.{FrameError}
use Rattle.frame_codec.specs.declared.errors.FrameError.TheVariants as errors
use Rattle.frame_codec.specs.declared.head.Head.{Head}
use Rattle.frame_codec.specs.declared.head.TheConstants.{HEAD_BYTES, MAGIC, VERSION, CODEC, KIND_PLACE, CODEC_PLACE}
use Rattle.frame_codec.specs.Messages.{type_code, kind_of, fields_bytes, FitsMessage, is_known, fields_at}
use Rattle.frame_codec.specs.Heads.{head_bytes, head_at}
use Rattle.frame_codec.specs.Frames.{body_bytes, head_of, frame_bytes, HasFrame, Framed, ◌>>=◌, check, placed, has_lengths, checked_head, message_behind, decoded, Gives, BeginsWithFrame}
use Rattle.frame_codec.proofs.HeadLaws.{FitsHead, head_exact, length-head}
use Rattle.frame_codec.proofs.MessageLaws.{fields_back, fields_only, code_is_known}

abbrev done : {X : Type 0} → X → Framed X
done x = Ok x

done_is : {X : Type 0} (x y : X) → done x ≡ done y → x ≡ y
done_is x y e = cc

-- ---- the head

pub record IsHead (head : Head) (bytes : List ℕ) : Type 0 where
  pub magic : head.magic ≡ MAGIC
  pub version : head.version ≡ VERSION
  pub size : head.size ≡ HEAD_BYTES
  pub least : HEAD_BYTES + 2 ≤ head.full
  pub most : head.full ≤ HEAD_BYTES + BODY_BYTES
  pub compressor : head.compressor ≡ 0
  pub whole : head.full ≤ length bytes

pub head_back : (head : Head) (bytes : List ℕ) (after : Position) → HEAD_BYTES ≤ length bytes → head_at (record { at = 0; rest = bytes }) ≡ Ok (head, after) → IsHead head bytes → checked_head bytes ≡ Ok head
unfolding checked_head
head_back head bytes after long read is =
    let lengths : has_lengths head ≡ true =
    and_from _ _ (and_from _ _ (eq-eqb _ _ is.size) (le-leb _ _ is.least)) (le-leb _ _ is.most) in
    rw (le-leb _ _ long, read, eq-eqb _ _ is.magic, eq-eqb _ _ is.version, lengths, eq-eqb _ _ is.compressor, le-leb _ _ is.whole) refl

-- five tests that did not fail
record Passed {X : Type 0} (b1 b2 b3 b4 b5 : Bool) (x y : X) : Type 0 where
  first : b1 ≡ true
  second : b2 ≡ true
  third : b3 ≡ true
  fourth : b4 ≡ true
  fifth : b5 ≡ true
  given : x ≡ y

five_tests : {X : Type 0} (b1 b2 b3 b4 b5 : Bool) (f1 f2 f3 f4 f5 : FrameError) (x y : X) →
    (check b1 f1 >>= λ _. check b2 f2 >>= λ _. check b3 f3 >>= λ _. check b4 f4 >>= λ _. check b5 f5 >>= λ _. done x) ≡ Ok y → Passed b1 b2 b3 b4 b5 x y
five_tests true true true true true f1 f2 f3 f4 f5 x y e = record { first = refl; second = refl; third = refl; fourth = refl; fifth = refl; given = done_is x y e }
five_tests true true true true false f1 f2 f3 f4 f5 x y e = absurd cc
five_tests true true true false b5 f1 f2 f3 f4 f5 x y e = absurd cc
five_tests true true false b4 b5 f1 f2 f3 f4 f5 x y e = absurd cc
five_tests true false b3 b4 b5 f1 f2 f3 f4 f5 x y e = absurd cc
five_tests false b2 b3 b4 b5 f1 f2 f3 f4 f5 x y e = absurd cc

head_tests : (long : Bool) (short : FrameError) (read : Read Head) (t1 t2 t3 t4 t5 : Head → Bool) (f1 f2 f3 f4 f5 : Head → FrameError) (head : Head) →
    (check long short >>= λ _. placed read >>= λ found. check (t1 found.0) (f1 found.0) >>= λ _. check (t2 found.0) (f2 found.0) >>= λ _. check (t3 found.0) (f3 found.0) >>= λ _.
    check (t4 found.0) (f4 found.0) >>= λ _. check (t5 found.0) (f5 found.0) >>= λ _. done found.0) ≡ Ok head →
    (after : Position) × (read ≡ Ok (head, after)) × Passed (t1 head) (t2 head) (t3 head) (t4 head) (t5 head) head head
head_tests true short (Ok x) t1 t2 t3 t4 t5 f1 f2 f3 f4 f5 head e =
    let tests = five_tests (t1 x.0) (t2 x.0) (t3 x.0) (t4 x.0) (t5 x.0) (f1 x.0) (f2 x.0) (f3 x.0) (f4 x.0) (f5 x.0) x.0 head e in
    let so : Passed (t1 head) (t2 head) (t3 head) (t4 head) (t5 head) head head = subst (λ (h : Head). Passed (t1 h) (t2 h) (t3 h) (t4 h) (t5 h) h h) tests.given (record { first = tests.first; second = tests.second; third = tests.third; fourth = tests.fourth; fifth = tests.fifth; given = refl }) in
    (x.1, ap (λ (h : Head). Ok (h, x.1)) tests.given, so)
head_tests true short (Err fault) t1 t2 t3 t4 t5 f1 f2 f3 f4 f5 head e = absurd cc
head_tests false short read t1 t2 t3 t4 t5 f1 f2 f3 f4 f5 head e = absurd cc

pub head_only : (head : Head) (bytes : List ℕ) → checked_head bytes ≡ Ok head → (after : Position) × (head_at (record { at = 0; rest = bytes }) ≡ Ok (head, after)) × IsHead head bytes
unfolding checked_head
head_only head bytes e =
    let t = head_tests (leb HEAD_BYTES (length bytes)) (errors.Short HEAD_BYTES) (head_at (record { at = 0; rest = bytes }))
    (λ h. h.magic == MAGIC) (λ h. h.version == VERSION) has_lengths
    (λ h. h.compressor == 0) (λ h. leb h.full (length bytes))
    (λ h. errors.Magic) (λ h. errors.Version) (λ h. errors.Length) (λ h. errors.Compressed h.compressor) (λ h. errors.Short h.full) head e in
    let lengths = and_parts _ _ t.2.third in
    let front = and_parts _ _ lengths.0 in (
      t.0,
      t.1,
      record {
        magic = eqb-true _ _ t.2.first;
        version = eqb-true _ _ t.2.second;
        size = eqb-true _ _ front.0;
        least = leb-true _ _ front.1;
        most = leb-true _ _ lengths.1;
        compressor = eqb-true _ _ t.2.fourth;
        whole = leb-true _ _ t.2.fifth;
      },
    )

-- ---- the message

-- what is known of a message that was read behind a head
pub record IsBehind (head : Head) (bytes : List ℕ) (m : Message) : Type 0 where
  pub fits : FitsMessage m
  pub kind : head.kind ≡ kind_of (type_code m)
  pub codec : head.codec ≡ CODEC
  pub body : slice_range bytes HEAD_BYTES head.full ≡ body_bytes m

-- the greatest code is 202
type_code_least : (m : Message) → type_code m ≤ 202
type_code_least (message.Begin manager timeout) = omega arith
type_code_least (message.Begun xid) = omega arith
type_code_least (message.BranchCommit xid id mode manager call) = omega arith
type_code_least (message.BranchCommitted xid id status stmt) = omega arith
type_code_least (message.BranchRollback xid id mode manager call) = omega arith
type_code_least (message.BranchRollbacked xid id status stmt) = omega arith
type_code_least (message.GlobalCommit xid) = omega arith
type_code_least (message.CommitStatus xid status) = omega arith
type_code_least (message.GlobalRollback xid) = omega arith
type_code_least (message.RollbackStatus xid status) = omega arith
type_code_least (message.Register xid resource call ticket mode hold check) = omega arith
type_code_least (message.RegisterAnswer ticket xid given) = omega arith
type_code_least (message.GlobalStatus xid) = omega arith
type_code_least (message.StatusAnswer xid status) = omega arith
type_code_least (message.LockQuery resource ticket check) = omega arith
type_code_least (message.LockAnswer ticket held) = omega arith
type_code_least (message.Call xid manager resource call work) = omega arith
type_code_least (message.Answer xid call given) = omega arith

message_back : (head : Head) (bytes : List ℕ) (m : Message) → IsBehind head bytes m → head.full ≡ HEAD_BYTES + length (body_bytes m) → message_behind head bytes ≡ Ok m
unfolding message_behind
message_back head bytes m is full =
    let small : type_code m < 2 ^ 16 = omega (arith, type_code_least m) in
    let code = two_bytes_exact.back (type_code m) HEAD_BYTES (fields_bytes m) small in
    let fields = fields_back m (HEAD_BYTES + 2) [] is.fits in
    let read : fields_at (type_code m) (record { at = HEAD_BYTES + 2; rest = fields_bytes m }) ≡ Ok (m, record { at = HEAD_BYTES + 2 + length (fields_bytes m); rest = [] }) = rw append-nil at fields in
    let ends : HEAD_BYTES + 2 + length (fields_bytes m) ≡ head.full = omega arith in
    rw (is.body, code, code_is_known m is.fits, eq-eqb _ _ is.kind, eq-eqb _ _ is.codec, read, eq-eqb _ _ ends) refl

-- the tests behind the code that did not fail
record PassedBehind (kind codec : Bool) (fields : Read Message) (ended : ℕ → Bool) (m : Message) : Type 0 where
  kind_so : kind ≡ true
  codec_so : codec ≡ true
  after : Position
  read : fields ≡ Ok (m, after)
  ended_so : ended after.at ≡ true

end_test : (b : Bool) (fault : FrameError) (x m : Message) → (check b fault >>= λ _. done x) ≡ Ok m → (b ≡ true) × (x ≡ m)
end_test true fault x m e = (refl, done_is x m e)
end_test false fault x m e = absurd cc

fields_tests : (known kind codec : Bool) (f1 f2 f3 : FrameError) (fields : Read Message) (ended : ℕ → Bool) (f4 : ℕ → FrameError) (m : Message) →
    (check known f1 >>= λ _. check kind f2 >>= λ _. check codec f3 >>= λ _. placed fields >>= λ x. check (ended x.1.at) (f4 x.1.at) >>= λ _. done x.0) ≡ Ok m → PassedBehind kind codec fields ended m
fields_tests true true true f1 f2 f3 (Ok x) ended f4 m e =
    let t = end_test (ended x.1.at) (f4 x.1.at) x.0 m e in
    record { kind_so = refl; codec_so = refl; after = x.1; read = ap (λ (y : Message). Ok (y, x.1)) t.1; ended_so = t.0 }
fields_tests true true true f1 f2 f3 (Err fault) ended f4 m e = absurd cc
fields_tests true true false f1 f2 f3 fields ended f4 m e = absurd cc
fields_tests true false codec f1 f2 f3 fields ended f4 m e = absurd cc
fields_tests false kind codec f1 f2 f3 fields ended f4 m e = absurd cc

code_tests : (code : Read ℕ) (known kind codec : ℕ → Bool) (f1 f2 f3 : ℕ → FrameError) (fields : ℕ → Reader Message) (ended : ℕ → Bool) (f4 : ℕ → FrameError) (m : Message) →
    (placed code >>= λ c. check (known c.0) (f1 c.0) >>= λ _. check (kind c.0) (f2 c.0) >>= λ _. check (codec c.0) (f3 c.0) >>= λ _.
    placed (fields c.0 c.1) >>= λ x. check (ended x.1.at) (f4 x.1.at) >>= λ _. done x.0) ≡ Ok m →
    (c : ℕ × Position) × (code ≡ Ok c) × PassedBehind (kind c.0) (codec c.0) (fields c.0 c.1) ended m
code_tests (Ok c) known kind codec f1 f2 f3 fields ended f4 m e =
    (c, refl, fields_tests (known c.0) (kind c.0) (codec c.0) (f1 c.0) (f2 c.0) (f3 c.0) (fields c.0 c.1) ended f4 m e)
code_tests (Err fault) known kind codec f1 f2 f3 fields ended f4 m e = absurd cc

part_bytes : (bytes : List ℕ) (a b : ℕ) → AreBytes bytes → AreBytes (slice_range bytes a b)
part_bytes bytes a b all = All-take (λ n. n < 256) (b - a) (drop a bytes) (All-drop (λ n. n < 256) a bytes all)

message_only : (head : Head) (bytes : List ℕ) (m : Message) → AreBytes bytes → HEAD_BYTES ≤ head.full → head.full ≤ length bytes → message_behind head bytes ≡ Ok m →
    IsBehind head bytes m × (head.full ≡ HEAD_BYTES + length (body_bytes m))
unfolding message_behind
message_only head bytes m all least whole e =
    let slice = slice_range bytes HEAD_BYTES head.full in
    let place : Position = record { at = HEAD_BYTES; rest = slice } in
    let slice_fits : AreBytes slice = part_bytes bytes HEAD_BYTES head.full all in
    let t = code_tests (number_at w16 place) is_known (λ c. head.kind == kind_of c) (λ c. head.codec == CODEC) (λ c. errors.UnknownType c) (λ c. errors.Body KIND_PLACE) (λ c. errors.Body CODEC_PLACE)
    fields_at (λ at. at == head.full) (λ at. errors.Body at) m e in
    let code = two_bytes_exact.only t.0.0 place t.0.1 slice_fits t.1 in
    let fields = fields_only t.0.0 m t.0.1 t.2.after (AreBytes-after (to_be_bytes w16 t.0.0) place t.0.1 slice_fits code.1) t.2.read in
    let both = Stands-then place t.0.1 t.2.after (to_be_bytes w16 t.0.0) (fields_bytes m) code.1 fields.2 in
    let stands : Stands place (body_bytes m) t.2.after = rw fields.1 both in
    let ends : t.2.after.at ≡ head.full = eqb-true _ _ t.2.ended_so in
    let full : head.full ≡ HEAD_BYTES + length (body_bytes m) = sym ends ∙ stands.at in
    let slice_length : length slice ≡ head.full - HEAD_BYTES = omega (arith, length-take (head.full - HEAD_BYTES) (drop HEAD_BYTES bytes), length-drop HEAD_BYTES bytes) in
    let nothing : length t.2.after.rest ≡ 0 = omega (arith, ap length stands.rest, length-append (body_bytes m) t.2.after.rest) in
    let body : slice ≡ body_bytes m = stands.rest ∙ ap (λ (r : List ℕ). body_bytes m ++ r) (nil_from_length t.2.after.rest nothing) ∙ append-nil (body_bytes m) in
    let kind : head.kind ≡ kind_of (type_code m) = rw fields.1 (eqb-true _ _ t.2.kind_so) in
    (record { fits = fields.0; kind = kind; codec = eqb-true _ _ t.2.codec_so; body = body }, full)

-- ---- the frame

pub length-frame : (m : Message) (s : ℕ) → length (frame_bytes m s) ≡ HEAD_BYTES + length (body_bytes m)
unfolding frame_bytes
length-frame m s = omega (arith, length-append (head_bytes (head_of m s)) (body_bytes m), length-head (head_of m s))

kind_small : (code : ℕ) → kind_of code < 2 ^ 8
kind_small code = omega arith

fits_head : (m : Message) (s : ℕ) → HasFrame m s → FitsHead (head_of m s)
fits_head m s has = record {
  magic = omega arith;
  version = omega arith;
  full = omega (arith, has.body);
  size = omega arith;
  kind = kind_small (type_code m);
  codec = omega arith;
  compressor = omega arith;
  stamp = has.stamp_fits;
}

pub decoded_back : (m : Message) (s : ℕ) (rest : List ℕ) → HasFrame m s → decoded (frame_bytes m s ++ rest) ≡ Ok (m, s, length (frame_bytes m s))
unfolding decoded frame_bytes
decoded_back m s rest has =
    let h = head_of m s in
    let body = body_bytes m in
    let bytes : List ℕ = frame_bytes m s ++ rest in
    let split : bytes ≡ head_bytes h ++ (body ++ rest) = append_assoc (head_bytes h) body rest in
    let len : length bytes ≡ HEAD_BYTES + (length body + length rest) = omega (arith, ap length split, length-append (head_bytes h) (body ++ rest), length-append body rest, length-head h) in
    let read = head_exact.back h 0 (body ++ rest) (fits_head m s has) in
    let read_all = rw (← split) at read in
    let is : IsHead h bytes = record { magic = refl; version = refl; size = refl; least = omega arith; most = omega (arith, has.body); compressor = refl; whole = omega (arith, len) } in
    let one : checked_head bytes ≡ Ok h = head_back h bytes _ (omega (arith, len)) read_all is in
    let behind : slice_range bytes HEAD_BYTES h.full ≡ body = rw (split, drop_at (head_bytes h) (body ++ rest) HEAD_BYTES (length-head h)) (take_at body rest (h.full - HEAD_BYTES) (omega arith)) in
    let two : message_behind h bytes ≡ Ok m = message_back h bytes m (record { fits = has.fits; kind = refl; codec = refl; body = behind }) refl in
    rw (one, two, length-frame m s) refl

head_is : (head : Head) (m : Message) (s : ℕ) (bytes : List ℕ) → IsHead head bytes → IsBehind head bytes m → head.full ≡ HEAD_BYTES + length (body_bytes m) → head.stamp ≡ s → head ≡ head_of m s
head_is head m s bytes is behind full same = λ i. record {
  magic = is.magic i;
  version = is.version i;
  full = full i;
  size = is.size i;
  kind = behind.kind i;
  codec = behind.codec i;
  compressor = is.compressor i;
  stamp = same i;
}

second_step : (h : Head) (two : Framed Message) (y : Message × ℕ × ℕ) → (two >>= λ m. done (m, h.stamp, h.full)) ≡ Ok y →
    (two ≡ Ok y.0) × (h.stamp ≡ y.1) × (h.full ≡ y.2)
second_step h (Ok m) y e =
    let same = done_is (m, h.stamp, h.full) y e in
    (ap (λ (z : Message × ℕ × ℕ). done z.0) same, ap (λ (z : Message × ℕ × ℕ). z.1) same, ap (λ (z : Message × ℕ × ℕ). z.2) same)
second_step h (Err fault) y e = absurd cc

-- two steps that did not fail
two_steps : (one : Framed Head) (two : Head → Framed Message) (y : Message × ℕ × ℕ) → (one >>= λ h. two h >>= λ m. done (m, h.stamp, h.full)) ≡ Ok y →
    (h : Head) × (one ≡ Ok h) × (two h ≡ Ok y.0) × (h.stamp ≡ y.1) × (h.full ≡ y.2)
two_steps (Ok h) two y e =
    let t = second_step h (two h) y e in
    (h, refl, t.0, t.1, t.2)
two_steps (Err fault) two y e = absurd cc

-- a head and a body one after the other
glued : (h : Head) (m : Message) (s n : ℕ) (bytes : List ℕ) → take HEAD_BYTES bytes ≡ head_bytes h → slice_range bytes HEAD_BYTES h.full ≡ body_bytes m → h ≡ head_of m s → HEAD_BYTES + (h.full - HEAD_BYTES) ≡ n →
    take n bytes ≡ frame_bytes m s
unfolding frame_bytes
glued h m s n bytes front body so count =
    let cut : take n bytes ≡ take HEAD_BYTES bytes ++ slice_range bytes HEAD_BYTES h.full = ap (λ (k : ℕ). take k bytes) (sym count) ∙ take-add HEAD_BYTES (h.full - HEAD_BYTES) bytes in
    let both : take HEAD_BYTES bytes ++ slice_range bytes HEAD_BYTES h.full ≡ head_bytes h ++ body_bytes m = rw (front, body) refl in
    cut ∙ both ∙ ap (λ (g : Head). head_bytes g ++ body_bytes m) so

pub decoded_only : (bytes : List ℕ) (m : Message) (s n : ℕ) → AreBytes bytes → decoded bytes ≡ Ok (m, s, n) → BeginsWithFrame bytes m s n
unfolding decoded
decoded_only bytes m s n all e =
    let t = two_steps (checked_head bytes) (λ h. message_behind h bytes) (m, s, n) e in
    let h = t.0 in
    let head = head_only h bytes t.1 in
    let is : IsHead h bytes = head.2 in
    let behind = message_only h bytes m all (omega (arith, is.least)) is.whole t.2 in
    let read = head_exact.only h (record { at = 0; rest = bytes }) head.0 all head.1 in
    let fits : FitsHead h = read.0 in
    let split : bytes ≡ head_bytes h ++ head.0.rest = read.1.rest in
    let so : h ≡ head_of m s = head_is h m s bytes is behind.0 behind.1 t.3 in
    let front : take HEAD_BYTES bytes ≡ head_bytes h = ap (λ (x : List ℕ). take HEAD_BYTES x) split ∙ take_at (head_bytes h) head.0.rest HEAD_BYTES (length-head h) in
    record {
      fits = record { fits = behind.0.fits; body = omega (arith, is.most, behind.1); stamp_fits = omega (arith, fits.stamp, t.3) };
      there = omega (arith, is.whole, t.4);
      frame = glued h m s n bytes front behind.0.body so (omega (arith, is.least, t.4));
    }

pub is_found : (bytes : List ℕ) (r : Result (Message × ℕ × ℕ) FrameError) → AreBytes bytes → Gives r (decoded bytes) → IfOk r (λ frame. BeginsWithFrame bytes frame.0 frame.1 frame.2)
is_found bytes (Ok frame) all given = decoded_only bytes frame.0 frame.1 frame.2 all given
is_found bytes (Err fault) all given = tt
