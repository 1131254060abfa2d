-- The disks of a resource after an entry.
use Rattle.std.proofs.Common.{◌≡◌, ◌⊎◌, inl, inr, ◌+◌, ◌-◌, ◌<◌, ◌≤◌, ◌^◌, ℕ, min, Bool, true, false, if◌then◌else◌, List, Option, Some, None, Result, option_map, refl, sym, ap, subst, ◌∙◌, arith}
use Rattle.std.proofs.lemmas.Bool.{false≢true}
use Rattle.std.proofs.lemmas.Bool.Decides.{nat_tests}
use Rattle.disk_model.specs.Disk.{DiskState, IsLawful, SameKind, Passed, Rose, last_pick}
use Rattle.disk_model.specs.Stop.{below, stop_of, failures_of, state_of, stopped_lawful}
use Rattle.disk_model.specs.declared.stoppable.Stoppable.{Stoppable}
use Rattle.journal_checkpoint.specs.Images.{Pair}
use Rattle.journal_checkpoint.specs.Keeping.{active_disk, other_disk, is_second, disks, twin_extent}
use Rattle.journal_checkpoint.specs.Pairs.{chosen}
use Rattle.memory_store.specs.Keeping.{Falls}
use Rattle.memory_store.specs.Settling.{RunsOn}
use Rattle.memory_store.proofs.TwinFacts.{pairs_now}
use Rattle.seata_types.specs.declared.acts.Act.{Act}
use Rattle.seata_types.specs.declared.acts.Act.TheVariants as act
use Rattle.seata_types.specs.declared.errors.StoreError.{StoreError}
use Rattle.seata_types.specs.declared.messages.Input.{Input}
use Rattle.durable_records.specs.declared.resources.ResourceRecord.{ResourceRecord}
use Rattle.history_rules.specs.Own.{Given, Left, leaves}
use Rattle.history_rules.specs.Devices.{fault_of, is_short, left_after, may_stand, spent, down_after}
use Rattle.history_rules.specs.ResourceMemory.{booted}
use Rattle.node_steps.specs.Durable.{own_faults, SamePicks}
use Rattle.node_steps.specs.Promises.{DisksFail}
use Rattle.resource_store.specs.declared.store.Store.{Store}
use Rattle.resource_store.specs.Keeping.{twin, setting_of, KeepsRecords, Loses, Moves, AtOrBehind}
use Rattle.resource_store.specs.Meaning.{Setting}
use Rattle.resource_store.specs.Standing.{StandsForRecords}
use Rattle.resource_store.proofs.OpeningLaws.{moved_first, moved_second, stands_now}
use Rattle.resource_core.specs.NodeStanding.{StandsForEither}
use Rattle.resource_core.specs.Shown.{pair_of, active_of}

pub false_true : {X : Type 0} → false ≡ true → X
false_true e = absurd (false≢true e)

-- ---- acts that are no records

abbrev pub is_still : Act → Bool
is_still (act.Durable done) = false
is_still (act.Down kept at) = false
is_still (act.Restarted kept) = false
is_still act.Armed = false
is_still _ = true

pub still_down : (a : Act) (b : Bool) → is_still a ≡ true → down_after a b ≡ b
still_down (act.Durable done) b e = false_true e
still_down (act.Down kept at) b e = false_true e
still_down (act.Restarted kept) b e = false_true e
still_down act.Armed b e = false_true e
still_down _ b e = refl

pub still_leaves : (a : Act) (asked : Option ResourceRecord) (left : Left ResourceRecord) → is_still a ≡ true → booted a (leaves a asked left) ≡ left
still_leaves (act.Durable done) asked left e = false_true e
still_leaves (act.Down kept at) asked left e = false_true e
still_leaves (act.Restarted kept) asked left e = false_true e
still_leaves act.Armed asked left e = false_true e
still_leaves _ asked left e = refl

pub still_left : (given : Input) (a : Act) (before : Option ℕ) → is_still a ≡ true → left_after true (Given given) a before ≡ before
still_left given (act.Durable done) before e = false_true e
still_left given (act.Down kept at) before e = false_true e
still_left given (act.Restarted kept) before e = false_true e
still_left given act.Armed before e = false_true e
still_left given _ before e = refl

pub still_fault : (a : Act) (left : Option ℕ) → is_still a ≡ true → fault_of a left ≡ 0
still_fault (act.Durable done) left e = false_true e
still_fault (act.Down kept at) left e = false_true e
still_fault (act.Restarted kept) left e = false_true e
still_fault act.Armed left e = false_true e
still_fault _ left e = refl

-- ---- stops

pub passed_left : (before after : Option ℕ) → Passed 4 before after → after ≡ option_map spent before
passed_left None None p = refl
passed_left (Some m) (Some n) p = ap (λ (k : ℕ). Some k) (omega (arith, p))
passed_left None (Some n) p = absurd p
passed_left (Some m) None p = absurd p

pub passed_long : (before after : Option ℕ) → Passed 4 before after → is_short before ≡ false
passed_long None None p = refl
passed_long (Some m) (Some n) p = grind (arith, nat_tests, p)
passed_long None (Some n) p = absurd p
passed_long (Some m) None p = absurd p

pub short_is : (before : Option ℕ) → ((calls : ℕ) × (before ≡ Some calls) × (calls < 4)) → is_short before ≡ true
short_is before (calls, is, few) = ap is_short is ∙ grind (arith, nat_tests, few)

cut_is : (before : Option ℕ) → may_stand before ≡ false → (calls : ℕ) × (before ≡ Some calls) × (calls < 2)
cut_is None e = false_true (sym e)
cut_is (Some calls) e = (calls, refl, grind (arith, nat_tests, e))

-- a fault more is counted
pub faults_more : (b : Bool) (entries own now : ℕ) → min entries (2 ^ 64 - 1) ≤ own → own ≤ now → (b ≡ true) ⊎ Rose own now
    → min (entries + (if b then 0 else 1)) (2 ^ 64 - 1) ≤ now
faults_more true entries own now counted later cause = omega (arith, counted, later)
faults_more false entries own now counted later (inl e) = false_true e
faults_more false entries own now counted later (inr rose) = omega (arith, counted, rose)

-- ---- two disks

-- what a call on the active disk leaves of both
pub record Moved (old new : Pair) : Type 0 where
  pub own : own_faults old ≤ own_faults new
  pub first_pick : last_pick new.first ≡ last_pick old.first
  pub second_pick : last_pick new.second ≡ last_pick old.second
  pub first_kind : SameKind old.first new.first
  pub second_kind : SameKind old.second new.second

both_grow : (a b a' b' : ℕ) → a ≤ a' → b ≤ b' → min (a + b) (2 ^ 64 - 1) ≤ min (a' + b') (2 ^ 64 - 1)
both_grow a b a' b' one two = omega (arith, one, two)

pub moved_on : (old new : Pair) → RunsOn old.first new.first → RunsOn old.second new.second → Moved old new
moved_on old new one two = record {
  own = both_grow _ _ _ _ one.own two.own;
  first_pick = one.rest.last_pick;
  second_pick = two.rest.last_pick;
  first_kind = one.rest.kind;
  second_kind = two.rest.kind;
}

pub same_kind : (d : DiskState) → SameKind d d
same_kind d = record { size = refl; tells_images = refl; tells_moments = refl }

pub moved_same : (p : Pair) → Moved p p
moved_same p = record { own = omega arith; first_pick = refl; second_pick = refl; first_kind = same_kind p.first; second_kind = same_kind p.second }

pub same_picks : (old new : Pair) → Moved old new → SamePicks old new
same_picks old new m = record { first = m.first_pick; second = m.second_pick }

abbrev pub pair_on : {D : Type 0} → (D → DiskState) → Bool → D → D → Pair
pair_on state second active other = record { first = state (chosen second active other); second = state (chosen second other active) }

-- an own fault of the active disk is one of both together
fails_by : {D : Type 0} (state : D → DiskState) (second : Bool) (a a' o : D) → Rose (state a).counts.own (state a').counts.own → DisksFail (pair_on state second a o) (pair_on state second a' o)
fails_by state false a a' o rose = omega (arith, rose)
fails_by state true a a' o rose = omega (arith, rose)

pair_same : {D : Type 0} (state : D → DiskState) (second second' : Bool) (a o o' : D) → second' ≡ second → o' ≡ o → pair_on state second a o ≡ pair_on state second' a o'
pair_same state second second' a o o' s e = λ i. pair_on state (sym s i) a (sym e i)

module _ {D : Type 0} (state : D → DiskState) (s s' : Store (Stoppable D)) where
  pub moved : (result : Result (Unit {0}) StoreError) → Moves (state_of state) result s s' → Moved (pair_of state s) (pair_of state s')
  moved result m = moved_on (pair_of state s) (pair_of state s') (moved_first (state_of state) result s s' m) (moved_second (state_of state) result s s' m)

  -- the disks failed for their own fault
  pub fault_fell : Falls (state_of state) (twin s) (twin s') → Rose (active_of state s).counts.own (active_of state s').counts.own → DisksFail (pair_of state s) (pair_of state s')
  fault_fell f rose =
      subst (λ (p : Pair). DisksFail (pair_of state s) p)
      (pair_same (state_of state) (is_second (twin s)) (is_second (twin s')) (active_disk (twin s')) (other_disk (twin s)) (other_disk (twin s')) f.second f.other)
      (fails_by (state_of state) (is_second (twin s)) (active_disk (twin s)) (active_disk (twin s')) (other_disk (twin s)) rose)

  -- why they failed, where a stop let so many calls pass
  pub fell_for : (calls : Option ℕ) → (active_of state s).counts.left ≡ calls → Falls (state_of state) (twin s) (twin s') → (is_short calls ≡ true) ⊎ DisksFail (pair_of state s) (pair_of state s')
  fell_for calls passes f = by f.cause
    where
      by : (Rose (active_of state s).counts.own (active_of state s').counts.own ⊎ ((n : ℕ) × ((active_of state s).counts.left ≡ Some n) × (n < 4))) → (is_short calls ≡ true) ⊎ DisksFail (pair_of state s) (pair_of state s')
      by (inl rose) = inr (fault_fell f rose)
      by (inr (n, is, few)) = inl (short_is calls (n, sym passes ∙ is, few))

module _ {D : Type 0} (state : D → DiskState) (law : (d : Stoppable D) → IsLawful (state_of state d)) where
  -- each pair of images of a store that keeps records stands for these
  pub keeps_images : (t : Setting) (rs : List ResourceRecord) (s : Store (Stoppable D)) → KeepsRecords (state_of state) t rs s → (a b : List ℕ)
      → (pair_of state s).first.may_leave a → (pair_of state s).second.may_leave b → StandsForRecords t rs a b
  keeps_images t rs s k a b first second = stands_now (state_of state) law t rs s k a b first second

  -- a record is in flight, since the disks failed at it where a stop let so many calls pass
  module _ (s s' : Store (Stoppable D)) (rs : List ResourceRecord) (r : ResourceRecord) (calls : Option ℕ) (passes : (active_of state s).counts.left ≡ calls) (same : setting_of s' ≡ setting_of s)
      (l : Loses (state_of state) r rs s s') where
    image_by : (b : Bool) → may_stand calls ≡ b → (x y : List ℕ) → (pair_of state s').first.may_leave x → (pair_of state s').second.may_leave y
        → AtOrBehind (setting_of s) r rs (twin_extent (twin s)) x y → StandsForEither (setting_of s) (record { records = rs; flight = Some r }) (if b then Some r else None) x y
    image_by b is x y first second (inl e) = inl e.0
    image_by true is x y first second (inr e) = inr (r, refl, e.0)
    image_by false is x y first second (inr e) =
        let few = cut_is calls is in
        inl (pairs_now (state_of state) (disks (state_of state) (twin s)) (twin s') (l.not_begun few.0 (passes ∙ few.1) few.2) x y first second).0

    pub lost_images : (x y : List ℕ) → (pair_of state s').first.may_leave x → (pair_of state s').second.may_leave y
        → StandsForEither (setting_of s') (record { records = rs; flight = Some r }) (if may_stand calls then Some r else None) x y
    lost_images x y first second =
        subst (λ (t : Setting). StandsForEither t (record { records = rs; flight = Some r }) (if may_stand calls then Some r else None) x y) (sym same)
        (image_by (may_stand calls) refl x y first second (pairs_now (state_of state) (disks (state_of state) (twin s)) (twin s') l.any_moment x y first second))

-- a disk with a stop keeps the laws of disks
pub stopped : {D : Type 0} (state : D → DiskState) → ((d : D) → IsLawful (state d)) → (d : Stoppable D) → IsLawful (state_of state d)
stopped state law d = stopped_lawful (stop_of d) (failures_of d) (state (below d)) (law (below d))
