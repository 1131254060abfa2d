-- A switch over a snapshot.
use Rattle.std.proofs.Common.{◌≡◌, ℕ, ◌+◌, ◌^◌, ◌<◌, ◌≤◌, Ok, List, [], ◌∷◌, ◌++◌, length, get_or, take, drop, true, refl, sym, ◌∙◌, ap, inl, inr, arith, append_assoc, length-append}
use Rattle.std.specs.Int.{w32, to_be_bytes, from_be_bytes}
use Rattle.std.proofs.lemmas.List.{take_at, drop_at, drop-drop, length-take-le, get_or-take}
use Rattle.std.proofs.lemmas.Bool.{cases_eq}
use Rattle.std.proofs.lemmas.Nat.{from_be_bytes-to_be_bytes_4}
use Rattle.disk_model.specs.Disk.{put, SameOutside}
use Rattle.disk_model.proofs.Put.{put_outside}
use Rattle.disk_journal.specs.Reading.{reading}
use Rattle.disk_journal.proofs.Rows.{row_reads, no_records, found_closed}
use Rattle.journal_checkpoint.specs.declared.types.Head.TheVariants as head
use Rattle.journal_checkpoint.specs.Pairs.{open_head, head_of, checkpoint_bytes}
use Rattle.journal_checkpoint.specs.Images.{IsOtherHead, IsPassive, IsFresh, IsOldOrFresh}
use Rattle.journal_checkpoint.proofs.Switches.{switch_split, shut_head, opened_head, shut_switch, open_switch, open_head_at}

-- Behind the switch stand the bytes of a checkpoint.
pub record IsReady (g : ℕ) (s c : List ℕ) : Type 0 where
  pub rest : List ℕ
  pub behind : drop 1 c ≡ checkpoint_bytes g s ++ rest
  pub fits : length s + 10 ≤ length c

closed_reads : (from : ℕ) (rest : List ℕ) → reading from (0 ∷ rest) ≡ Ok []
closed_reads from rest = row_reads from [] (0 ∷ rest) (record { records = no_records; closed = found_closed 0 rest (omega arith) })

pub fresh_is : (g : ℕ) (s c : List ℕ) → 0 < g → g < 2 ^ 32 → length s < 2 ^ 32 → IsReady g s c → get_or c 0 0 ≡ 1 → IsFresh g s c
unfolding checkpoint_bytes
fresh_is g s c some small short ready one =
    let gs = to_be_bytes w32 g in
    let ns = to_be_bytes w32 (length s) in
    let tail = s ++ 0 ∷ [] ++ ready.rest in
    let all : drop 1 c ≡ gs ++ (ns ++ tail) = ready.behind ∙ append_assoc (gs ++ ns) (s ++ 0 ∷ []) ready.rest ∙ append_assoc gs ns tail in
    let four : length gs ≡ 4 = refl in
    let four_too : length ns ≡ 4 = refl in
    let first : take 4 (drop 1 c) ≡ gs = ap (take 4) all ∙ take_at gs (ns ++ tail) 4 four in
    let five : drop 5 c ≡ ns ++ tail = sym (drop-drop 4 1 c) ∙ ap (drop 4) all ∙ drop_at gs (ns ++ tail) 4 four in
    let second : take 4 (drop 5 c) ≡ ns = ap (take 4) five ∙ take_at ns tail 4 four_too in
    let nine : drop 9 c ≡ tail = sym (drop-drop 4 5 c) ∙ ap (drop 4) five ∙ drop_at ns tail 4 four_too in
    let split : tail ≡ s ++ 0 ∷ ready.rest = append_assoc s (0 ∷ []) ready.rest in
    let behind : drop (9 + length s) c ≡ 0 ∷ ready.rest = ap (λ (k : ℕ). drop k c) (omega arith) ∙ sym (drop-drop (length s) 9 c) ∙ ap (drop (length s)) (nine ∙ split) ∙ drop_at s (0 ∷ ready.rest) (length s) refl in
    record {
      active = (
        some,
        refl,
        opened_head c (omega (arith, ready.fits)) one ∙ ap (λ (l : List ℕ). open_head (length c) (from_be_bytes w32 l) (from_be_bytes w32 (take 4 (drop 5 c)))) first
            ∙ ap (λ (l : List ℕ). open_head (length c) (from_be_bytes w32 gs) (from_be_bytes w32 l)) second
            ∙ ap (λ (k : ℕ). open_head (length c) k (from_be_bytes w32 ns)) (from_be_bytes-to_be_bytes_4 g small)
            ∙ ap (open_head (length c) g) (from_be_bytes-to_be_bytes_4 (length s) short)
            ∙ open_head_at (length c) g (length s) some ready.fits,
        ap (take (length s)) (nine ∙ split) ∙ take_at s (0 ∷ ready.rest) (length s) refl,
      );
      empty = ap (reading (9 + length s)) behind ∙ closed_reads (9 + length s) ready.rest;
    }

size_of : (g : ℕ) (s : List ℕ) → length (checkpoint_bytes g s) ≡ length s + 9
unfolding checkpoint_bytes
size_of g s = omega (arith, length-append (to_be_bytes w32 g ++ to_be_bytes w32 (length s)) (s ++ 0 ∷ []), length-append s (0 ∷ []))

pub ready_put : (g : ℕ) (s p : List ℕ) → length s + 10 ≤ length p → IsReady g s (put 1 (checkpoint_bytes g s) p)
ready_put g s p fits =
    let bs = checkpoint_bytes g s in
    let behind = drop (1 + length bs) p in
    let split : put 1 bs p ≡ take 1 p ++ (bs ++ behind) = append_assoc (take 1 p) bs behind in
    record {
      rest = behind;
      behind = ap (drop 1) split ∙ drop_at (take 1 p) (bs ++ behind) 1 (length-take-le 1 p (omega arith));
      fits = omega (arith, size_of g s, (put_outside 1 bs p (omega (arith, size_of g s))).size);
    }

-- ---- the first byte

pub same_switch : (n : ℕ) (d c : List ℕ) → SameOutside 1 n d c → 0 < length d → get_or c 0 0 ≡ get_or d 0 0
same_switch n d c same some = sym (get_or-take 1 c 0 0 (omega arith)) ∙ ap (λ (l : List ℕ). get_or l 0 0) same.before ∙ get_or-take 1 d 0 0 (omega arith)

-- what is written behind a closed switch leaves it closed
pub shut_stays : (n : ℕ) (d c : List ℕ) → 0 < length d → SameOutside 1 n d c → head_of d ≡ head.Shut → head_of c ≡ head.Shut
shut_stays n d c some same shut =
    let here : 0 < length c = omega (arith, same.size) in
    shut_head c here (λ one. shut_switch d some shut (sym (same_switch n d c same some) ∙ one))

module _ (g : ℕ) (s : List ℕ) (small : g + 1 < 2 ^ 32) (short : length s < 2 ^ 32) where
  -- a torn switch over a snapshot
  pub torn_switch : (d c : List ℕ) → IsReady (g + 1) s d → SameOutside 0 1 d c → IsOldOrFresh g s c
  torn_switch d c ready same =
      let here : IsReady (g + 1) s c = record { rest = ready.rest; behind = same.after ∙ ready.behind; fits = omega (arith, ready.fits, same.size) } in
      elim (cases_eq (get_or c 0 0) 1) [
        | inl one ↦ inr (fresh_is (g + 1) s c (omega arith) small short here one)
        | inr shut ↦ inl (inl (shut_head c (omega (arith, here.fits)) shut))
      ]

  pub opened_switch : (d : List ℕ) → IsReady (g + 1) s d → IsFresh (g + 1) s (put 0 (1 ∷ []) d)
  opened_switch d ready = fresh_is (g + 1) s (put 0 (1 ∷ []) d) (omega arith) small short (record { rest = ready.rest; behind = ready.behind; fits = omega (arith, ready.fits, (put_outside 0 (1 ∷ []) d (omega (arith, ready.fits))).size) }) refl

-- a torn switch over an older snapshot
pub torn_old : (g : ℕ) (d c : List ℕ) → 0 < length d → IsOtherHead g true (head_of d) → SameOutside 0 1 d c → IsPassive g c
torn_old g d c some (k, n, is, older) same =
    let here : 0 < length c = omega (arith, same.size) in
    elim (cases_eq (get_or c 0 0) 1) [
      | inl one ↦ inr (k, n, ap (λ (l : List ℕ). head_of l) (switch_split c here ∙ ap (λ (l : List ℕ). get_or c 0 0 ∷ l) same.after ∙ ap (λ (b : ℕ). b ∷ drop 1 d) (one ∙ sym (open_switch d some k n is)) ∙ sym (switch_split d some)) ∙ is, older)
      | inr shut ↦ inl (shut_head c here shut)
    ]

pub closed_switch : (d : List ℕ) → 0 < length d → head_of (put 0 (0 ∷ []) d) ≡ head.Shut
closed_switch d some = shut_head (put 0 (0 ∷ []) d) (omega arith) (λ zero_one. omega arith)
