-- What two disks that keep a snapshot and records say of their bytes.
use Rattle.std.proofs.Common.{◌≡◌, ℕ, ◌+◌, ◌*◌, ◌^◌, ◌<◌, ◌≤◌, Bool, true, false, Option, Some, None, Result, Ok, List, length, refl, sym, ◌∙◌, ap, subst, arith}
use Rattle.std.proofs.lemmas.Bool.Decides.{nat_tests}
use Rattle.std.proofs.lemmas.Option.{same_Some}
use Rattle.disk_model.specs.Disk.{DiskState, IsLawful, IsSettled, present}
use Rattle.disk_journal.specs.Reading.{row_length}
use Rattle.disk_journal.specs.Journals.{from_of}
use Rattle.journal_checkpoint.specs.declared.types.Head.{Head}
use Rattle.journal_checkpoint.specs.declared.types.Head.TheVariants as head
use Rattle.journal_checkpoint.specs.declared.types.Active.{Active}
use Rattle.journal_checkpoint.specs.declared.types.Found.{Found}
use Rattle.journal_checkpoint.specs.declared.types.TwinError.{TwinError}
use Rattle.journal_checkpoint.specs.declared.twin.Twin.{Twin}
use Rattle.journal_checkpoint.specs.Pairs.{head_of, active_of, is_active, chosen}
use Rattle.journal_checkpoint.specs.Extents.{Extent}
use Rattle.journal_checkpoint.specs.Images.{Pair, LeavesPairs, IsActiveDisk, IsOtherHead}
use Rattle.journal_checkpoint.specs.Keeping.{KeepsPair, active_disk, other_disk, first_disk, second_disk, disks, ordered}
use Rattle.memory_store.specs.Settling.{IsShort}
use Rattle.memory_store.specs.Keeping.{LeavesAlone}
use Rattle.memory_store.specs.Holdings.{second_of, second_in, records_at}

-- ---- which disk is active

of_heads : (x y : List ℕ) (h k : Head) (r : Result Active TwinError) → head_of x ≡ h → head_of y ≡ k → active_of h k ≡ r → second_in x y ≡ second_of r
of_heads x y h k r one two is = ap (λ (i : Head). second_of (active_of i (head_of y))) one ∙ ap (λ (i : Head). second_of (active_of h i)) two ∙ ap second_of is

newer_first : (g n k m : ℕ) → k < g → active_of (head.Open g n) (head.Open k m) ≡ Ok (is_active false g (Some n) true)
newer_first g n k m older = grind (arith, nat_tests)

newer_second : (g n k m : ℕ) → k < g → active_of (head.Open k m) (head.Open g n) ≡ Ok (is_active true g (Some n) true)
newer_second g n k m older = grind (arith, nat_tests)

second_is : (g from : ℕ) (second o : Bool) (snapshot : Option (List ℕ)) (x y : List ℕ) → (g ≡ 0 → second ≡ false)
    → IsActiveDisk g from snapshot x → IsOtherHead g o (head_of y) → second_in (chosen second x y) (chosen second y x) ≡ second
second_is g from false false None x y side (none, nine, shut) other = of_heads x y _ _ _ shut other refl
second_is g from false true None x y side (none, nine, shut) (k, n, was, older) = absurd (omega arith)
second_is g from true o None x y side (none, nine, shut) other = let no : true ≡ false = side none in absurd (cc)
second_is g from false false (Some s) x y side (some, begins, is, text) other = of_heads x y _ _ _ is other refl
second_is g from false true (Some s) x y side (some, begins, is, text) (k, n, was, older) = of_heads x y _ _ _ is was (newer_first g (length s) k n older)
second_is g from true false (Some s) x y side (some, begins, is, text) other = of_heads y x _ _ _ other is refl
second_is g from true true (Some s) x y side (some, begins, is, text) (k, n, was, older) = of_heads y x _ _ _ was is (newer_second g (length s) k n older)

module _ {D : Type 0} (state : D → DiskState) (found : Found) (t : Twin D) (keeps : KeepsPair state found t) where
  -- the records end where they can be counted
  pub end_is_small : from_of t.journal + row_length found.records < 2 ^ 32
  end_is_small = omega (arith, keeps.journal.end, t.journal.small)

  module _ (law : (d : D) → IsLawful (state d)) (a b : List ℕ) (one : present (state (first_disk t)) ≡ Some a) (two : present (state (second_disk t)) ≡ Some b) where
    here : (s : Bool) (x y : D) → present (state (chosen s x y)) ≡ Some a → present (state (chosen s y x)) ≡ Some b → (state x).may_leave (chosen s a b) × (state y).may_leave (chosen s b a)
    here true x y is too = ((law x).present_may_stay b too, (law y).present_may_stay a is)
    here false x y is too = ((law x).present_may_stay a is, (law y).present_may_stay b too)

    images : (state (active_disk t)).may_leave (chosen t.second a b) × (state (other_disk t)).may_leave (chosen t.second b a)
    images = here t.second (active_disk t) (other_disk t) one two

    pub records_are_small : records_at found.snapshot + row_length found.records < 2 ^ 64
    records_are_small = omega (arith, end_is_small, ap (λ (e : Extent). e.begins) keeps.extent)

    twice : (s : Bool) → second_in (chosen s (chosen s a b) (chosen s b a)) (chosen s (chosen s b a) (chosen s a b)) ≡ second_in a b
    twice true = refl
    twice false = refl

    pub second_here : second_in a b ≡ t.second
    second_here = sym (twice t.second) ∙ second_is t.generation (from_of t.journal) t.second t.other_open found.snapshot (chosen t.second a b) (chosen t.second b a) keeps.side
        (keeps.active _ images.0) (keeps.passive _ images.1)

-- ---- the two disks in their order

in_order_first : {D : Type 0} (state : D → DiskState) (s : Bool) (x y : D) → (ordered s (state x) (state y)).first ≡ state (chosen s x y)
in_order_first state true x y = refl
in_order_first state false x y = refl

in_order_second : {D : Type 0} (state : D → DiskState) (s : Bool) (x y : D) → (ordered s (state x) (state y)).second ≡ state (chosen s y x)
in_order_second state true x y = refl
in_order_second state false x y = refl

pub pairs_weaker : {old new : Pair} {P Q : List ℕ → List ℕ → Type 0} → LeavesPairs old new P → ((a b : List ℕ) → P a b → Q a b) → LeavesPairs old new Q
pairs_weaker leaves weaker = record {
  now = λ a b one two. weaker a b (leaves.now a b one two);
  since = λ a b one two. weaker a b (leaves.since a b one two);
}

-- what a crash leaves of the first and of the second disk
pub pairs_now : {D : Type 0} (state : D → DiskState) (old : Pair) (t : Twin D) {P : List ℕ → List ℕ → Type 0} → LeavesPairs old (disks state t) P
    → (a b : List ℕ) → (state (first_disk t)).may_leave a → (state (second_disk t)).may_leave b → P a b
pairs_now state old t leaves a b one two = leaves.now a b
    (subst (λ (d : DiskState). d.may_leave a) (sym (in_order_first state t.second (active_disk t) (other_disk t))) one)
    (subst (λ (d : DiskState). d.may_leave b) (sym (in_order_second state t.second (active_disk t) (other_disk t))) two)

-- ---- nothing is pending

alone : (disk : DiskState) (a c : List ℕ) → IsSettled disk → present disk ≡ Some a → disk.may_leave c → c ≡ a
alone disk a c settled is left = same_Some _ _ (sym (settled c left) ∙ is)

-- a crash leaves what is there
pub leaves_alone : {D : Type 0} (state : D → DiskState) (found : Found) (t : Twin D) → KeepsPair state found t → (a b : List ℕ)
    → present (state (first_disk t)) ≡ Some a → present (state (second_disk t)) ≡ Some b → LeavesAlone a (state (first_disk t)) × LeavesAlone b (state (second_disk t))
leaves_alone {D} state found t keeps a b is too = by t.second (active_disk t) (other_disk t) keeps.journal.disk.settled keeps.settled is too
  where
    by : (s : Bool) (x y : D) → IsSettled (state x) → IsSettled (state y) → present (state (chosen s x y)) ≡ Some a → present (state (chosen s y x)) ≡ Some b
        → LeavesAlone a (state (chosen s x y)) × LeavesAlone b (state (chosen s y x))
    by true x y active other is too = (λ c left. alone (state y) a c other is left, λ c left. alone (state x) b c active too left)
    by false x y active other is too = (λ c left. alone (state x) a c active is left, λ c left. alone (state y) b c other too left)

-- ---- no checkpoint is due

smaller : {D : Type 0} (state : D → DiskState) (n : ℕ) (s : Bool) (x y : D) → n ≤ (state (chosen s x y)).size → n ≤ (state (chosen s y x)).size → n ≤ (state x).size
smaller state n true x y one two = two
smaller state n false x y one two = one

pub is_short : {D : Type 0} (state : D → DiskState) (found : Found) (t : Twin D) → KeepsPair state found t
    → 2 * row_length found.records ≤ (state (first_disk t)).size → 2 * row_length found.records ≤ (state (second_disk t)).size → IsShort state t
is_short state found t keeps one two = omega (arith, keeps.journal.end, smaller state (2 * row_length found.records) t.second (active_disk t) (other_disk t) one two)
