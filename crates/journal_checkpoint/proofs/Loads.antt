-- Two disks that were read.
use Rattle.std.proofs.Common.{◌≡◌, ℕ, ◌+◌, ◌<◌, ◌≤◌, Bool, true, false, Option, Some, None, Result, Ok, Err, List, [], ◌∷◌, length, drop, refl, sym, ◌∙◌, ap, subst, inl, inr, arith, length-drop}
use Rattle.std.specs.Prelude.{option_map, nat_lt, nat_le, ◌&&◌, ◌==◌}
use Rattle.std.proofs.lemmas.List.{length-take-le}
use Rattle.std.proofs.lemmas.Bool.{cases_eq}
use Rattle.std.proofs.lemmas.Bool.Decides.{nat_tests}
use Rattle.disk_model.specs.Disk.{DiskState, Content, IsSettled, present}
use Rattle.disk_journal.specs.Keeping.{StandsFor, OnlyReads}
use Rattle.disk_journal.proofs.Readings.{no_reads, still_present}
use Rattle.journal_checkpoint.specs.declared.types.Head.{Head}
use Rattle.journal_checkpoint.specs.declared.types.Head.TheVariants as head
use Rattle.journal_checkpoint.specs.declared.types.Active.{Active}
use Rattle.journal_checkpoint.specs.declared.types.Found.{Found}
use Rattle.journal_checkpoint.specs.declared.types.TwinError.{TwinError}
use Rattle.journal_checkpoint.specs.declared.types.TwinError.TheVariants as why
use Rattle.journal_checkpoint.specs.Pairs.{open_head, head_of, active_of, is_active, held, held_by, with_records, begins_at, snapshot_in, chosen, pair_reading}
use Rattle.journal_checkpoint.specs.Images.{HasHead, TellAlike, TellsPair, Restarts, RecoversPair, PairStandsFor, IsActiveDisk, IsOtherHead, IsHeadDamage, IsPairDamage}
use Rattle.journal_checkpoint.specs.Keeping.{IsHeldDamage}
use Rattle.journal_checkpoint.proofs.Switches.{no_head, shut_head, opened_head}

-- ---- an open head

open_back : (size g n h m : ℕ) → open_head size g n ≡ head.Open h m → (0 < h) × (m + 10 ≤ size)
open_back size g n h m is = by (nat_lt 0 g && nat_le (n + 10) size) refl
  where
    by : (b : Bool) → (nat_lt 0 g && nat_le (n + 10) size) ≡ b → (0 < h) × (m + 10 ≤ size)
    by true e =
        let same : head.Open g n ≡ head.Open h m = grind (arith, nat_tests) in
        let some : 0 < g = grind (arith, nat_tests) in
        let fits : n + 10 ≤ size = grind (arith, nat_tests) in
        (grind arith, grind arith)
    by false e = absurd (grind (arith, nat_tests))

-- it is of a generation above 0, and its snapshot lies on the disk
pub open_fits : (c : List ℕ) (g n : ℕ) → head_of c ≡ head.Open g n → (0 < g) × (n + 10 ≤ length c)
open_fits [] g n is = let no : head.Shut ≡ head.Open g n = sym (no_head [] refl) ∙ is in absurd (cc)
open_fits (b ∷ rest) g n is = elim (cases_eq b 1) [
  | inl one ↦ open_back (length (b ∷ rest)) _ _ g n (sym (opened_head (b ∷ rest) (omega arith) one) ∙ is)
  | inr shut ↦ let no : head.Shut ≡ head.Open g n = sym (shut_head (b ∷ rest) (omega arith) shut) ∙ is in absurd (cc)
]

-- ---- which disk is active

abbrev IsOwnHead : ℕ → Option ℕ → Head → Type 0
IsOwnHead g None h = (g ≡ 0) × (h ≡ head.Shut)
IsOwnHead g (Some n) h = h ≡ head.Open g n

record IsChosen (h k : Head) (active : Active) : Type 0 where
  own : IsOwnHead active.generation active.snapshot (chosen active.second h k)
  other : IsOtherHead active.generation active.other_open (chosen active.second k h)
  side : (active.snapshot ≡ None) → active.second ≡ false

abbrev done : Active → Result Active TwinError
done a = Ok a

same_active : (a b : Active) → done a ≡ done b → a ≡ b
same_active a b e = cc

is_chosen : (h k : Head) (active : Active) → active_of h k ≡ Ok active → IsChosen h k active
is_chosen head.Broken k active e = absurd (cc)
is_chosen head.Shut head.Broken active e = absurd (cc)
is_chosen (head.Open g n) head.Broken active e = absurd (cc)
is_chosen head.Shut head.Shut active e = subst (λ a. IsChosen head.Shut head.Shut a) (same_active (is_active false 0 None false) active e) (record { own = (refl, refl); other = refl; side = λ none. refl })
is_chosen (head.Open g n) head.Shut active e = subst (λ a. IsChosen (head.Open g n) head.Shut a) (same_active (is_active false g (Some n) false) active e) (record { own = refl; other = refl; side = λ none. refl })
is_chosen head.Shut (head.Open h m) active e = subst (λ a. IsChosen head.Shut (head.Open h m) a) (same_active (is_active true h (Some m) false) active e) (record { own = refl; other = refl; side = λ none. absurd (cc) })
is_chosen (head.Open g n) (head.Open h m) active e = by (g == h) (nat_lt g h) refl refl
  where
    by : (s t : Bool) → (g == h) ≡ s → nat_lt g h ≡ t → IsChosen (head.Open g n) (head.Open h m) active
    by true t same less =
        let no : Err (why.Damaged true 0) ≡ done active = grind (arith, nat_tests) in absurd (cc)
    by false true same less =
        let is : done (is_active true h (Some m) true) ≡ done active = grind (arith, nat_tests) in
        let lower : g < h = grind (arith, nat_tests) in
        subst (λ a. IsChosen (head.Open g n) (head.Open h m) a) (same_active _ _ is) (record { own = refl; other = (g, n, refl, lower); side = λ none. absurd (cc) })
    by false false same less =
        let is : done (is_active false g (Some n) true) ≡ done active = grind (arith, nat_tests) in
        let lower : h < g = grind (arith, nat_tests) in
        subst (λ a. IsChosen (head.Open g n) (head.Open h m) a) (same_active _ _ is) (record { own = refl; other = (h, m, refl, lower); side = λ none. refl })

active_disk_is : (g : ℕ) (snapshot : Option ℕ) (c : List ℕ) (text : Option (List ℕ)) → IsOwnHead g snapshot (head_of c) → text ≡ option_map (snapshot_in c) snapshot → IsActiveDisk g (begins_at snapshot) text c
active_disk_is g None c text own is = subst (λ t. IsActiveDisk g 9 t c) (sym is) (own.0, refl, own.1)
active_disk_is g (Some n) c text own is =
    let fits = open_fits c g n own in
    let size : length (snapshot_in c n) ≡ n = length-take-le n (drop 9 c) (omega (arith, fits.1, length-drop 9 c)) in
    subst (λ t. IsActiveDisk g (9 + n) t c) (sym is) (fits.0, omega (arith, size), own ∙ ap (λ k. head.Open g k) (sym size), ap (snapshot_in c) size)

module _ (a b : List ℕ) (active : Active) (is : active_of (head_of a) (head_of b) ≡ Ok active) where
  chosen_is : IsChosen (head_of a) (head_of b) active
  chosen_is = is_chosen (head_of a) (head_of b) active is

  pub active_here : (text : Option (List ℕ)) → text ≡ option_map (snapshot_in (chosen active.second a b)) active.snapshot → IsActiveDisk active.generation (begins_at active.snapshot) text (chosen active.second a b)
  active_here text same = active_disk_is active.generation active.snapshot (chosen active.second a b) text (by active.second chosen_is.own) same
    where
      by : (s : Bool) → IsOwnHead active.generation active.snapshot (chosen s (head_of a) (head_of b)) → IsOwnHead active.generation active.snapshot (head_of (chosen s a b))
      by true own = own
      by false own = own

  pub other_here : IsOtherHead active.generation active.other_open (head_of (chosen active.second b a))
  other_here = by active.second chosen_is.other
    where
      by : (s : Bool) → IsOtherHead active.generation active.other_open (chosen s (head_of b) (head_of a)) → IsOtherHead active.generation active.other_open (head_of (chosen s b a))
      by true other = other
      by false other = other

  pub side_here : active.generation ≡ 0 → active.second ≡ false
  side_here none = by active.snapshot refl chosen_is.own
    where
      by : (o : Option ℕ) → active.snapshot ≡ o → IsOwnHead active.generation o (chosen active.second (head_of a) (head_of b)) → active.second ≡ false
      by None nothing own = chosen_is.side nothing
      by (Some n) some own = absurd (positive active.second own)
        where
          positive : (s : Bool) → chosen s (head_of a) (head_of b) ≡ head.Open active.generation n → ⊥
          positive true e = omega (arith, none, (open_fits b active.generation n e).0)
          positive false e = omega (arith, none, (open_fits a active.generation n e).0)

  pair_held : pair_reading a b ≡ held active (chosen active.second a b)
  unfolding pair_reading
  pair_held = ap (held_by a b) is

  pub found_here : (found : Found) → HasHead active found → found.snapshot ≡ option_map (snapshot_in (chosen active.second a b)) active.snapshot → StandsFor (begins_at active.snapshot) found.records (chosen active.second a b) → PairStandsFor found a b
  found_here found here text stands = pair_held ∙ ap (with_records active (chosen active.second a b)) stands ∙ same
    where
      is_found : Bool → ℕ → Option (List ℕ) → Result Found TwinError
      is_found second generation snapshot = Ok (record { second = second; generation = generation; snapshot = snapshot; records = found.records })

      same : is_found active.second active.generation (option_map (snapshot_in (chosen active.second a b)) active.snapshot) ≡ Ok found
      same = λ i. is_found (sym here.second i) (sym here.generation i) (sym text i)

  pub damage_here : (e : TwinError) → IsHeldDamage active (chosen active.second a b) e → IsPairDamage a b e
  damage_here (why.Damaged second at) held_is = pair_held ∙ held_is
  damage_here why.Failed held_is = tt
  damage_here why.NoMemory held_is = tt

pub head_damage : (a b : List ℕ) (e : TwinError) → IsHeadDamage a b e → IsPairDamage a b e
unfolding pair_reading
head_damage a b (why.Damaged second at) is = ap (held_by a b) is
head_damage a b why.Failed is = tt
head_damage a b why.NoMemory is = absurd is

-- ---- the two disks through the reads

pub present_same : {old new : DiskState} → OnlyReads old new → present new ≡ present old
present_same reads = ap (option_map (λ (k : Content). k.present)) reads.content.content

pub settled_after : {old new : DiskState} → OnlyReads old new → IsSettled old → IsSettled new
settled_after reads settled = λ c left. still_present c reads (settled c (reads.images.now c left))

pub own_present : {D : Type 0} (state : D → DiskState) (s : Bool) (x y : D) (a b : List ℕ) → present (state (chosen s x y)) ≡ Some a → present (state (chosen s y x)) ≡ Some b → present (state x) ≡ Some (chosen s a b)
own_present state true x y a b first second = second
own_present state false x y a b first second = first

module _ {D : Type 0} (state : D → DiskState) (X Y : DiskState) (alike : TellAlike X Y) where
  pub from_active : (s : Bool) (x y : D) → present (state (chosen s x y)) ≡ present X → present (state (chosen s y x)) ≡ present Y → IsSettled (state x) → (k : List ℕ) → (state x).may_leave k
      → (a b : List ℕ) × (present X ≡ Some a) × (present Y ≡ Some b) × (k ≡ chosen s a b)
  from_active true x y f s settled k left = let b : present Y ≡ Some k = sym s ∙ settled k left in let a = alike.back k b in (a.0, k, a.1, b, refl)
  from_active false x y f s settled k left = let a : present X ≡ Some k = sym f ∙ settled k left in let b = alike.forth k a in (k, b.0, a, b.1, refl)

  pub from_other : (s : Bool) (x y : D) → present (state (chosen s x y)) ≡ present X → present (state (chosen s y x)) ≡ present Y → IsSettled (state y) → (k : List ℕ) → (state y).may_leave k
      → (a b : List ℕ) × (present X ≡ Some a) × (present Y ≡ Some b) × (k ≡ chosen s b a)
  from_other true x y f s settled k left = let a : present X ≡ Some k = sym f ∙ settled k left in let b = alike.forth k a in (k, b.0, a, b.1, refl)
  from_other false x y f s settled k left = let b : present Y ≡ Some k = sym s ∙ settled k left in let a = alike.back k b in (a.0, k, a.1, b, refl)

pub settled_other : {D : Type 0} (state : D → DiskState) (s : Bool) (x y : D) → IsSettled (state (chosen s x y)) → IsSettled (state (chosen s y x)) → IsSettled (state y)
settled_other state true x y first second = first
settled_other state false x y first second = second

module _ {D : Type 0} (state : D → DiskState) (x y x' y' : D) (same : y' ≡ y) (reads : OnlyReads (state x) (state x')) where
  still : OnlyReads (state y) (state y')
  still = subst (λ d. OnlyReads (state y) (state d)) (sym same) (no_reads (state y))

  pub first_reads : (s s' : Bool) → s' ≡ s → OnlyReads (state (chosen s x y)) (state (chosen s' x' y'))
  first_reads true true e = still
  first_reads false false e = reads
  first_reads true false e = absurd (cc)
  first_reads false true e = absurd (cc)

  pub second_reads : (s s' : Bool) → s' ≡ s → OnlyReads (state (chosen s y x)) (state (chosen s' y' x'))
  second_reads true true e = reads
  second_reads false false e = still
  second_reads true false e = absurd (cc)
  second_reads false true e = absurd (cc)

pub alike_same : {X Y Z W : DiskState} → present Z ≡ present X → present W ≡ present Y → TellAlike Z W → TellAlike X Y
alike_same x y alike = record {
  forth = λ a is. let b = alike.forth a (x ∙ is) in (b.0, sym y ∙ b.1);
  back = λ b is. let a = alike.back b (y ∙ is) in (a.0, sym x ∙ a.1);
}

abbrev ok_found : Found → Result Found TwinError
ok_found f = Ok f

pub not_damaged : (a b : List ℕ) (found : Found) (e : TwinError) → PairStandsFor found a b → IsPairDamage a b e → RecoversPair found (Err e)
not_damaged a b found (why.Damaged second at) is damage = let no : ok_found found ≡ Err (why.Damaged second at) = sym is ∙ damage in absurd (cc)
not_damaged a b found why.Failed is damage = tt
not_damaged a b found why.NoMemory is damage = tt

-- ---- what was read

module _ {X Y : DiskState} where
  pub tells_found : (read : Found) → ((a b : List ℕ) → present X ≡ Some a → present Y ≡ Some b → PairStandsFor read a b) → TellsPair X Y (Ok read)
  tells_found read found = record { found = found; damaged = tt; recovers = λ other a b is too stands. let same : ok_found read ≡ ok_found other = sym (found a b is too) ∙ stands in cc }

  pub tells_damage : (e : TwinError) → ((a b : List ℕ) → present X ≡ Some a → present Y ≡ Some b → IsPairDamage a b e) → TellsPair X Y (Err e)
  tells_damage e damaged = record { found = tt; damaged = damaged; recovers = λ other a b is too stands. not_damaged a b other e stands (damaged a b is too) }

-- the same of disks with the same bytes
pub tells_same : {X Y Z W : DiskState} → present Z ≡ present X → present W ≡ present Y → (result : Result Found TwinError) → TellsPair X Y result → TellsPair Z W result
tells_same x y (Ok read) tells = tells_found read (λ a b is too. tells.found a b (sym x ∙ is) (sym y ∙ too))
tells_same x y (Err e) tells = tells_damage e (λ a b is too. tells.damaged a b (sym x ∙ is) (sym y ∙ too))

-- ---- restarts

-- reads after a restart
pub restarts_then : {old mid new : DiskState} (ok : Bool) (pick : ℕ) → Restarts true pick old mid → OnlyReads mid new → Restarts ok pick old new
restarts_then ok pick restarts reads = record {
  images = λ c left. restarts.images c (reads.images.now c left);
  outcome = λ is c left. restarts.outcome refl c (reads.images.now c left);
  settled = λ is. settled_after reads (restarts.settled refl);
  picked = λ is p last. restarts.picked refl p (sym reads.rest.last_pick ∙ last);
  unarmed = λ is. reads.left ∙ restarts.unarmed refl;
  faults = omega (arith, restarts.faults, reads.faults);
  own = omega (arith, restarts.own, reads.own);
  kind = record {
    size = reads.rest.kind.size ∙ restarts.kind.size;
    tells_images = reads.rest.kind.tells_images ∙ restarts.kind.tells_images;
    tells_moments = reads.rest.kind.tells_moments ∙ restarts.kind.tells_moments;
  };
}
