-- Frames in pieces: frames one behind the other join, and bytes behind them change nothing.
use Rattle.std.proofs.Common.{◌≡◌, ℕ, ◌+◌, ◌<◌, List, [], ◌∷◌, ◌++◌, length, drop, Ok, sym, ap, subst, ◌∙◌, append_assoc, arith}
use Rattle.std.proofs.lemmas.List.{take-append-drop, length-take}
use Rattle.std.proofs.lemmas.List.Elements.{All-drop}
use Rattle.seata_types.specs.declared.messages.Message.{Message}
use Rattle.byte_fields.specs.Exactness.{AreBytes}
use Rattle.frame_codec.specs.declared.framed.Framed.{Framed}
use Rattle.frame_codec.specs.Frames.{frame_bytes, decoded, BeginsWithFrame}
use Rattle.frame_codec.specs.Feeding.{FramesIn}
use Rattle.frame_codec.proofs.FrameLaws.{decoded_back, decoded_only, length-frame}
use Rattle.frame_codec.proofs.LaterBytes.{drop_front}

-- one more frame behind the others
pub frames_push : (s : ℕ) (fed : List ℕ) (frames : List Framed) (at : ℕ) (bytes : List ℕ) (m : Message) (stamp size : ℕ) →
    FramesIn s fed frames at bytes → decoded bytes ≡ Ok (m, stamp, size) →
    FramesIn s fed (frames ++ (record { at = at; message = m; stamp = stamp }) ∷ []) (at + size) (drop size bytes)
frames_push s fed [] at bytes m stamp size so e =
    (so.0, size, ap decoded (sym so.1) ∙ e, (ap (λ (n : ℕ). n + size) so.0, ap (λ (b : List ℕ). drop size b) so.1))
frames_push s fed (f ∷ frames) at bytes m stamp size so e =
    (so.0, so.1, so.2, frames_push (s + so.1) (drop so.1 fed) frames at bytes m stamp size so.3 e)

-- frames, and more of them behind
pub frames_join : (s : ℕ) (fed : List ℕ) (given : List Framed) (at : ℕ) (bytes : List ℕ) (frames : List Framed) (end : ℕ) (rest : List ℕ) →
    FramesIn s fed given at bytes → FramesIn at bytes frames end rest → FramesIn s fed (given ++ frames) end rest
frames_join s fed [] at bytes frames end rest so later =
    subst (λ (n : ℕ). FramesIn n fed frames end rest) so.0 (subst (λ (b : List ℕ). FramesIn at b frames end rest) so.1 later)
frames_join s fed (f ∷ given) at bytes frames end rest so later =
    (so.0, so.1, so.2, frames_join (s + so.1) (drop so.1 fed) given at bytes frames end rest so.3 later)

-- a frame is so long
pub size_is : (bytes : List ℕ) (m : Message) (s n : ℕ) → BeginsWithFrame bytes m s n → n ≡ length (frame_bytes m s)
size_is bytes m s n b = omega (arith, ap length b.frame, length-take n bytes, b.there)

pub size_some : (bytes : List ℕ) (m : Message) (s n : ℕ) → BeginsWithFrame bytes m s n → 0 < n
size_some bytes m s n b = omega (arith, size_is bytes m s n b, length-frame m s)

pub decoded_more : (bytes more : List ℕ) (m : Message) (s n : ℕ) → AreBytes bytes → decoded bytes ≡ Ok (m, s, n) → decoded (bytes ++ more) ≡ Ok (m, s, n)
decoded_more bytes more m s n all e =
    let b = decoded_only bytes m s n all e in
    let split : bytes ≡ frame_bytes m s ++ drop n bytes = sym (take-append-drop n bytes) ∙ ap (λ (f : List ℕ). f ++ drop n bytes) b.frame in
    let longer : bytes ++ more ≡ frame_bytes m s ++ (drop n bytes ++ more) = ap (λ (x : List ℕ). x ++ more) split ∙ append_assoc (frame_bytes m s) (drop n bytes) more in
    ap decoded longer ∙ decoded_back m s (drop n bytes ++ more) b.fits ∙ ap (λ (k : ℕ). Ok (m, s, k)) (sym (size_is bytes m s n b))

pub frames_more : (s : ℕ) (fed more : List ℕ) (given : List Framed) (at : ℕ) (rest : List ℕ) → AreBytes fed → FramesIn s fed given at rest → FramesIn s (fed ++ more) given at (rest ++ more)
frames_more s fed more [] at rest all so = (so.0, ap (λ (b : List ℕ). b ++ more) so.1)
frames_more s fed more (f ∷ given) at rest all so =
    let b = decoded_only fed f.message f.stamp so.1 all so.2 in
    let later = frames_more (s + so.1) (drop so.1 fed) more given at rest (All-drop (λ n. n < 256) so.1 fed all) so.3 in
    (so.0, so.1, decoded_more fed more f.message f.stamp so.1 all so.2, subst (λ (x : List ℕ). FramesIn (s + so.1) x given at (rest ++ more)) (sym (drop_front so.1 fed more b.there)) later)
