-- What the images of the two disks stand for, through a call on one of them.
use Rattle.std.proofs.Common.{◌≡◌, ⊎_elim, ℕ, ◌+◌, ◌<◌, ◌≤◌, Bool, true, false, Option, Some, None, Result, Ok, Err, List, [], ◌∷◌, ◌++◌, length, take, drop, refl, sym, ◌∙◌, ap, subst, inl, inr, arith}
use Rattle.std.specs.Prelude.{nat_lt, not, OnOk}
use Rattle.std.proofs.lemmas.List.{take-take, drop-take}
use Rattle.std.proofs.lemmas.Bool.Decides.{nat_tests}
use Rattle.disk_model.specs.Disk.{DiskState, IsLawful, Leaves}
use Rattle.disk_model.proofs.Calls.{leaves_same, leaves_weaker, leaves_always}
use Rattle.disk_journal.specs.Reading.{reading}
use Rattle.disk_journal.specs.Keeping.{StandsFor, IsBeforeOrAfter, AddsAtMost, SameFront}
use Rattle.journal_checkpoint.specs.declared.types.Head.{Head}
use Rattle.journal_checkpoint.specs.declared.types.Head.TheVariants as head
use Rattle.journal_checkpoint.specs.declared.types.Active.{Active}
use Rattle.journal_checkpoint.specs.declared.types.Found.{Found}
use Rattle.journal_checkpoint.specs.declared.types.TwinError.{TwinError}
use Rattle.journal_checkpoint.specs.Pairs.{head_in, head_of, active_of, is_active, held, held_by, with_records, snapshot_in, chosen, pair_reading}
use Rattle.journal_checkpoint.specs.Images.{LeavesPairs, Either, PairStandsFor, only_snapshot, with_record, IsActiveDisk, IsOtherHead, IsPassive, IsFresh, IsOldOrFresh}
use Rattle.journal_checkpoint.specs.Keeping.{ordered}

abbrev pub found_as : Bool → ℕ → Option (List ℕ) → List (List ℕ) → Found
found_as second g snapshot records = record { second = second; generation = g; snapshot = snapshot; records = records }

-- ---- a pair of bytes

by_heads : (x y : List ℕ) (h k : Head) (r : Result Active TwinError) → head_of x ≡ h → head_of y ≡ k → active_of h k ≡ r → pair_reading x y ≡ held_by x y r
unfolding pair_reading
by_heads x y h k r one two is = ap (λ (i : Head). held_by x y (active_of i (head_of y))) one ∙ ap (λ (i : Head). held_by x y (active_of h i)) two ∙ ap (held_by x y) is

held_none : (second o : Bool) (g : ℕ) (a : List ℕ) (records : List (List ℕ)) → reading 9 (drop 9 a) ≡ Ok records → held (is_active second g None o) a ≡ Ok (found_as second g None records)
held_none second o g a records is = ap (with_records (is_active second g None o) a) is

held_some : (second o : Bool) (g : ℕ) (s a : List ℕ) (records : List (List ℕ)) → snapshot_in a (length s) ≡ s → reading (9 + length s) (drop (9 + length s) a) ≡ Ok records → held (is_active second g (Some (length s)) o) a ≡ Ok (found_as second g (Some s) records)
held_some second o g s a records text is =
    let with_text : List ℕ → Result Found TwinError = λ t. Ok (found_as second g (Some t) records) in
    ap (with_records (is_active second g (Some (length s)) o) a) is ∙ ap with_text text

newer_first : (g n k m : ℕ) → k < g → active_of (head.Open g n) (head.Open k m) ≡ Ok (is_active false g (Some n) true)
newer_first g n k m older = grind (arith, nat_tests)

newer_second : (g n k m : ℕ) → k < g → active_of (head.Open k m) (head.Open g n) ≡ Ok (is_active true g (Some n) true)
newer_second g n k m older = grind (arith, nat_tests)

-- an active disk and a passive one
pub reads_pair : (g from : ℕ) (second : Bool) (snap : Option (List ℕ)) (records : List (List ℕ)) (a b : List ℕ) → (g ≡ 0 → second ≡ false)
    → IsActiveDisk g from snap a → StandsFor from records a → IsPassive g b → PairStandsFor (found_as second g snap records) (chosen second a b) (chosen second b a)
reads_pair g from false None records a b side (none, nine, shut) stands (inl closed) =
    by_heads a b _ _ _ shut closed refl ∙ held_none false false 0 a records (subst (λ n. StandsFor n records a) nine stands) ∙ ap of_none (sym none)
  where
    of_none : ℕ → Result Found TwinError
    of_none n = Ok (found_as false n None records)
reads_pair g from false None records a b side (none, nine, shut) stands (inr (k, m, is, older)) = absurd (omega arith)
reads_pair g from true None records a b side (none, nine, shut) stands passive = let no : true ≡ false = side none in absurd (cc)
reads_pair g from false (Some s) records a b side (some, begins, is, text) stands (inl closed) =
    by_heads a b _ _ _ is closed refl ∙ held_some false false g s a records text (subst (λ n. StandsFor n records a) begins stands)
reads_pair g from false (Some s) records a b side (some, begins, is, text) stands (inr (k, m, was, older)) =
    by_heads a b _ _ _ is was (newer_first g (length s) k m older) ∙ held_some false true g s a records text (subst (λ n. StandsFor n records a) begins stands)
reads_pair g from true (Some s) records a b side (some, begins, is, text) stands (inl closed) =
    by_heads b a _ _ _ closed is refl ∙ held_some true false g s a records text (subst (λ n. StandsFor n records a) begins stands)
reads_pair g from true (Some s) records a b side (some, begins, is, text) stands (inr (k, m, was, older)) =
    by_heads b a _ _ _ was is (newer_second g (length s) k m older) ∙ held_some true true g s a records text (subst (λ n. StandsFor n records a) begins stands)

pub is_passive : (g : ℕ) (o : Bool) (c : List ℕ) → IsOtherHead g o (head_of c) → IsPassive g c
is_passive g false c is = inl is
is_passive g true c is = inr is

-- an active disk is passive beside the next generation
pub passed_over : (g from : ℕ) (snap : Option (List ℕ)) (c : List ℕ) → IsActiveDisk g from snap c → IsPassive (g + 1) c
passed_over g from None c (none, nine, shut) = inl shut
passed_over g from (Some s) c (some, begins, is, text) = inr (g, length s, is, omega arith)

fresh_pair : (g : ℕ) (second : Bool) (snap : Option (List ℕ)) (records : List (List ℕ)) (s a b : List ℕ) → IsPassive (g + 1) a → IsFresh (g + 1) s b → PairStandsFor (only_snapshot (found_as second g snap records) s) (chosen second a b) (chosen second b a)
fresh_pair g false snap records s a b passive fresh = reads_pair (g + 1) (9 + length s) true (Some s) [] b a (λ none. absurd (omega arith)) fresh.active fresh.empty passive
fresh_pair g true snap records s a b passive fresh = reads_pair (g + 1) (9 + length s) false (Some s) [] b a (λ none. refl) fresh.active fresh.empty passive

-- ---- a call on one of the disks

leaves_both : {old new : DiskState} {P Q : List ℕ → Type 0} → Leaves old new P → Leaves old new Q → Leaves old new (λ c. P c × Q c)
leaves_both one two = record {
  now = λ c left. (one.now c left, two.now c left);
  later = one.later;
  since = λ t c le left. ⊎_elim (λ was. inl was) (λ p. ⊎_elim (λ was. inl was) (λ q. inr (p, q)) (two.since t c le left)) (one.since t c le left);
  kept = one.kept;
}

pub pairs_leave : (second : Bool) {a a' b b' : DiskState} {P Q : List ℕ → Type 0} {R : List ℕ → List ℕ → Type 0} → IsLawful a → IsLawful b
    → Leaves a a' P → Leaves b b' Q → ((c : List ℕ) → a.may_leave c → P c) → ((c : List ℕ) → b.may_leave c → Q c)
    → ((c d : List ℕ) → P c → Q d → R (chosen second c d) (chosen second d c)) → LeavesPairs (ordered second a b) (ordered second a' b') R
pairs_leave false la lb one two p q r = record {
  now = λ c d left too. r c d (one.now c left) (two.now d too);
  since = λ c d left too. r c d (leaves_always la one p c left) (leaves_always lb two q d too);
}
pairs_leave true la lb one two p q r = record {
  now = λ d c too left. r c d (one.now c left) (two.now d too);
  since = λ d c too left. r c d (leaves_always la one p c left) (leaves_always lb two q d too);
}

-- what stands before the records is of the head and the snapshot
front_head : (from : ℕ) (c d : List ℕ) → 9 ≤ from → take from c ≡ take from d → length c ≡ length d → head_of c ≡ head_of d
front_head from c d le same size =
    let nine : take 9 c ≡ take 9 d = sym (take-take 9 from c le) ∙ ap (take 9) same ∙ take-take 9 from d le in
    ap (head_in (length c)) nine ∙ ap (λ (n : ℕ). head_in n (take 9 d)) size

pub front_active : (g from : ℕ) (snap : Option (List ℕ)) (c d : List ℕ) → take from c ≡ take from d → length c ≡ length d → IsActiveDisk g from snap d → IsActiveDisk g from snap c
front_active g from None c d same size (none, nine, shut) = (none, nine, front_head from c d (omega arith) same size ∙ shut)
front_active g from (Some s) c d same size (some, begins, is, text) =
    let whole : take (9 + length s) c ≡ take (9 + length s) d = subst (λ n. take n c ≡ take n d) begins same in
    (some, begins, front_head from c d (omega arith) same size ∙ is, sym (drop-take 9 (length s) c) ∙ ap (drop 9) whole ∙ drop-take 9 (length s) d ∙ text)

-- what is found, by its side and its generation
pub found_is : (found : Found) (second : Bool) (g : ℕ) → second ≡ found.second → g ≡ found.generation → found_as second g found.snapshot found.records ≡ found
found_is found second g one two = λ i. record found { second = one i; generation = two i }

module _ (second : Bool) (g from : ℕ) (found : Found) (second_is : second ≡ found.second) (generation_is : g ≡ found.generation) (o : Bool) (side : g ≡ 0 → second ≡ false)
    {a b : DiskState} (la : IsLawful a) (lb : IsLawful b)
    (active : (c : List ℕ) → a.may_leave c → IsActiveDisk g from found.snapshot c) (stands : (c : List ℕ) → a.may_leave c → StandsFor from found.records c)
    (passive : (c : List ℕ) → b.may_leave c → IsOtherHead g o (head_of c)) where
  here : found_as second g found.snapshot found.records ≡ found
  here = found_is found second g second_is generation_is

  reads_found : (a b : List ℕ) → IsActiveDisk g from found.snapshot a → StandsFor from found.records a → IsPassive g b → PairStandsFor found (chosen second a b) (chosen second b a)
  reads_found a b act is other = subst (λ (f : Found). PairStandsFor f (chosen second a b) (chosen second b a)) here (reads_pair g from second found.snapshot found.records a b side act is other)

  reads_more : (body a b : List ℕ) → IsActiveDisk g from found.snapshot a → StandsFor from (found.records ++ body ∷ []) a → IsPassive g b → PairStandsFor (with_record found body) (chosen second a b) (chosen second b a)
  reads_more body a b act is other = subst (λ (f : Found). PairStandsFor (with_record f body) (chosen second a b) (chosen second b a)) here (reads_pair g from second found.snapshot (found.records ++ body ∷ []) a b side act is other)

  fresh_found : (s a b : List ℕ) → IsPassive (g + 1) a → IsFresh (g + 1) s b → PairStandsFor (only_snapshot found s) (chosen second a b) (chosen second b a)
  fresh_found s a b passive fresh = subst (λ (f : Found). PairStandsFor (only_snapshot f s) (chosen second a b) (chosen second b a)) here (fresh_pair g second found.snapshot found.records s a b passive fresh)

  pub checkpoint_pairs : (s : List ℕ) {b' : DiskState} → Leaves b b' (IsOldOrFresh g s) → LeavesPairs (ordered second a b) (ordered second a b') (Either found (only_snapshot found s))
  checkpoint_pairs s leaves = pairs_leave second {P = λ c. IsActiveDisk g from found.snapshot c × StandsFor from found.records c} la lb
      (leaves_same (λ c left. (active c left, stands c left))) leaves (λ c left. (active c left, stands c left)) (λ d left. inl (is_passive g o d (passive d left)))
      (λ c d (act, is) other. ⊎_elim (λ old. inl (reads_found c d act is old)) (λ fresh. inr (fresh_found s c d (passed_over g from found.snapshot c act) fresh)) other)

  pub still_pairs : LeavesPairs (ordered second a b) (ordered second a b) (PairStandsFor found)
  still_pairs = pairs_leave second {P = λ c. IsActiveDisk g from found.snapshot c × StandsFor from found.records c} {Q = IsPassive g} la lb
      (leaves_same (λ c left. (active c left, stands c left))) (leaves_same (λ d left. is_passive g o d (passive d left))) (λ c left. (active c left, stands c left)) (λ d left. is_passive g o d (passive d left))
      (λ c d (act, is) other. reads_found c d act is other)

  module _ {a' : DiskState} (front : Leaves a a' (SameFront from a.may_leave)) where
    fronts : Leaves a a' (IsActiveDisk g from found.snapshot)
    fronts = leaves_weaker front (λ c (d, left, same, size). front_active g from found.snapshot c d same size (active d left))

    pub still_active : (c : List ℕ) → a'.may_leave c → IsActiveDisk g from found.snapshot c
    still_active c left = fronts.now c left

    pub append_pairs : (body : List ℕ) → AddsAtMost from found.records body a a' → LeavesPairs (ordered second a b) (ordered second a' b) (Either found (with_record found body))
    append_pairs body adds = pairs_leave second {P = λ c. IsActiveDisk g from found.snapshot c × IsBeforeOrAfter from found.records body c} {Q = IsPassive g} la lb
        (leaves_both fronts adds.leaves) (leaves_same (λ d left. is_passive g o d (passive d left))) (λ c left. (active c left, inl (stands c left))) (λ d left. is_passive g o d (passive d left))
        (λ c d (act, is) other. ⊎_elim (λ old. inl (reads_found c d act old other)) (λ new. inr (reads_more body c d act new other)) is)

    pub same_pairs : Leaves a a' (StandsFor from found.records) → LeavesPairs (ordered second a b) (ordered second a' b) (PairStandsFor found)
    same_pairs leaves = pairs_leave second {P = λ c. IsActiveDisk g from found.snapshot c × StandsFor from found.records c} {Q = IsPassive g} la lb
        (leaves_both fronts leaves) (leaves_same (λ d left. is_passive g o d (passive d left))) (λ c left. (active c left, stands c left)) (λ d left. is_passive g o d (passive d left))
        (λ c d (act, is) other. reads_found c d act is other)

-- the head of a disk that was active, beside the next generation
pub is_former : (g from : ℕ) (snap : Option (List ℕ)) (c : List ℕ) → IsActiveDisk g from snap c → IsOtherHead (g + 1) (nat_lt 0 g) (head_of c)
is_former g from None c (none, nine, shut) = rw none shut
is_former g from (Some s) c (some, begins, is, text) =
    let open_is : nat_lt 0 g ≡ true = grind (arith, nat_tests) in
    rw open_is (g, length s, is, omega arith)

-- the two change places
pub turned : (second : Bool) (a b b' : DiskState) {R : List ℕ → List ℕ → Type 0} → LeavesPairs (ordered second a b) (ordered second a b') R → LeavesPairs (ordered second a b) (ordered (not second) b' a) R
turned false a b b' leaves = leaves
turned true a b b' leaves = leaves

pub on_ok : {T E : Type 0} {P Q : Type 0} (r : Result T E) → (P → Q) → OnOk r P → OnOk r Q
on_ok (Ok x) f p = f p
on_ok (Err e) f p = tt
