-- A record without a place by the entries of its node has none behind those that the node's disks hold.
use Rattle.std.proofs.Common.{◌≡◌, ◌⊎◌, inl, inr, ◌+◌, ℕ, Bool, true, false, List, [], ◌∷◌, length, Option, Some, None, option_map, refl, ap, sym, subst, ◌∙◌}
use Rattle.std.proofs.lemmas.Option.{same_Some}
use Rattle.std.specs.Option.{option_and_then}
use Rattle.disk_journal.specs.Keeping.{IsFull}
use Rattle.journal_checkpoint.specs.Ends.{EndAt, HasNoPlace, row_end}
use Rattle.journal_checkpoint.specs.Extents.{Extent, extent_of, longer}
use Rattle.journal_checkpoint.specs.Images.{Pair}
use Rattle.journal_checkpoint.specs.declared.types.Found.{Found}
use Rattle.seata_types.specs.declared.acts.Act.{Act}
use Rattle.seata_types.specs.declared.acts.Act.TheVariants as act
use Rattle.seata_types.specs.declared.acts.Durable.TheVariants as durable
use Rattle.seata_types.specs.declared.errors.Full.{Full}
use Rattle.seata_types.specs.declared.messages.Input.{Input}
use Rattle.seata_types.specs.declared.messages.Step.{Step}
use Rattle.durable_records.specs.declared.coordinators.SessionRecord.{SessionRecord}
use Rattle.durable_records.specs.declared.resources.ResourceRecord.{ResourceRecord}
use Rattle.durable_records.specs.declared.resources.ResourceRecord.TheVariants as log
use Rattle.durable_records.specs.UndoRecords.{boots}
use Rattle.resource_log.specs.Records.{fields_bytes, record_bytes}
use Rattle.history_rules.specs.Own.{Own, asked_act, kept_records, leaves}
use Rattle.history_rules.specs.Devices.{down_after, is_down, kept_act}
use Rattle.history_rules.specs.CoordinatorMemory.{session_asked, sessions_left}
use Rattle.history_rules.specs.ResourceMemory.{Setup, boot_over, booted, memory, resource_record}
use Rattle.history_rules.specs.Nodes.{Role, Coordinator, Resource, Manager, answer, left_at}
use Rattle.node_steps.specs.Ends.{AreLaid, EntryOver, IsLaid, Recording, ends_at, extent, resource_recording, session_recording}
use Rattle.node_steps.specs.Promises.{BootHasNoPlace, HasNoBootPlace, boot_failed, own_step}
use Rattle.node_seat.specs.Faults.{IsPastEnd}

false_true : {X : Type 0} → true ≡ false → X
false_true e = absurd (let no : true ≡ false = e in cc)

-- ---- a node that is up has nothing in flight

sessions_land : (past : List SessionRecord) (os : List Own) → is_down os ≡ false → (sessions_left past os).flight ≡ None
sessions_land past [] up = refl
sessions_land past (o ∷ os) up = by o.step.act up (sessions_land past os)
  where
    by : (a : Act) → down_after a (is_down os) ≡ false → (is_down os ≡ false → (sessions_left past os).flight ≡ None) → (leaves a (session_asked o) (sessions_left past os)).flight ≡ None
    by (act.Durable d) up below = refl
    by (act.Down kept at) up below = false_true up
    by (act.Restarted kept) up below = refl
    by _ up below = below up

resource_lands : (s : Setup) (past : List ResourceRecord) (os : List Own) → is_down os ≡ false → (memory s past os).left.flight ≡ None
resource_lands s past [] up = refl
resource_lands s past (o ∷ os) up = by o.step.act up (resource_lands s past os)
  where
    by : (a : Act) → down_after a (is_down os) ≡ false → (is_down os ≡ false → (memory s past os).left.flight ≡ None)
        → (booted a (leaves a (option_and_then (resource_record s (kept_records a (memory s past os).left) (memory s past os).opens o.event) (asked_act a)) (memory s past os).left)).flight ≡ None
    by (act.Durable d) up below = refl
    by (act.Down kept at) up below = false_true up
    by (act.Restarted kept) up below = refl
    by _ up below = below up

-- ---- a record of such a node, by where its disks end

module _ {R : Type 0} (j : Recording R) (start : Extent) (size : ℕ) (os : List Own) (disks : Pair) where
  end_at : (j.left os).flight ≡ None → IsLaid j start size os disks → EndAt disks (extent j start size os).end
  end_at landed laid a b one two = let l = laid a b one two in (l.0, l.1, by l.0 l.2)
    where
      by : (found : Found) → (extent_of found ≡ extent j start size os) ⊎ ((r : R) × ((j.left os).flight ≡ Some r) × (extent_of found ≡ longer (length (j.bytes r)) (extent j start size os)))
          → (extent j start size os).end ≡ row_end found
      by found (inl same) = ap (λ (e : Extent). e.end) (sym same)
      by found (inr (r, flies, more)) = absurd (let no : None ≡ Some r = sym landed ∙ flies in cc)

  no_place : EndAt disks (extent j start size os).end → (given : Input) (now : ℕ) (step : Step) (r : R) (full : Full) → IsFull (ends_at j start size os (own_step given now step) r) size full
      → HasNoPlace disks size (length (j.bytes r)) full
  no_place held given now step r full over = record { end = (extent j start size os).end; held = held; past_end = over }

module _ (start : Extent) (size : ℕ) (os : List Own) (disks : Pair) (full : Full) (now : ℕ) (given : Input) (up : is_down os ≡ false) where
  pub step_past_end : (role : Role) → EntryOver role start size os (own_step given now (answer role os now given)) full → AreLaid role start size os disks
      → IsPastEnd role start size os (own_step given now (answer role os now given)) disks full
  step_past_end (Coordinator times past) (r, made, over) laid =
      let j = session_recording past in
      record {
        by_entries = (r, made, over);
        bytes = j.bytes r;
        asked = ap (option_map j.bytes) made;
        on_disks = no_place j start size os disks (end_at j start size os disks (sessions_land past os up) laid) given now (answer (Coordinator times past) os now given) r full over;
      }
  step_past_end (Resource setup past) (r, made, over) laid =
      let j = resource_recording setup past in
      record {
        by_entries = (r, made, over);
        bytes = j.bytes r;
        asked = ap (option_map j.bytes) made;
        on_disks = no_place j start size os disks (end_at j start size os disks (resource_lands setup past os up) laid) given now (answer (Resource setup past) os now given) r full over;
      }
  step_past_end (Manager settings) over laid = absurd over

-- ---- a boot, whose bytes are as many for each number

boot_bytes : (n k : ℕ) → length (record_bytes (log.Boot n)) ≡ length (record_bytes (log.Boot k))
unfolding fields_bytes
boot_bytes n k = refl

-- where the entries say of which size the disk is that it has no place on
on_size : (role : Role) (disks : Pair) (size : ℕ) (full : Full) → full.size ≡ size → HasNoBootPlace role disks full → BootHasNoPlace role disks size full
on_size (Resource setup past) disks size full is (inl one) = subst (λ (n : ℕ). HasNoPlace disks n (length (record_bytes (boot_over past))) full) (sym one.past_end.size_is ∙ is) one
on_size (Resource setup past) disks size full is (inr two) = subst (λ (n : ℕ). HasNoPlace disks n (length (record_bytes (boot_over past))) full) (sym two.past_end.size_is ∙ is) two
on_size (Coordinator times past) disks size full is (inl none) = absurd none
on_size (Coordinator times past) disks size full is (inr none) = absurd none
on_size (Manager settings) disks size full is (inl none) = absurd none
on_size (Manager settings) disks size full is (inr none) = absurd none

module _ (start : Extent) (size : ℕ) (os : List Own) (disks : Pair) (full : Full) (now pick : ℕ) (calls : Option ℕ) where
  pub boot_past_end : (role : Role) → (keeps : Bool) × EntryOver role start size os (boot_failed role os now pick calls keeps) full → HasNoBootPlace role disks full
      → (keeps : Bool) × IsPastEnd role start size os (boot_failed role os now pick calls keeps) disks full
  boot_past_end (Resource setup past) (keeps, (r, made, over)) on_disks =
      let role = Resource setup past in
      let rs = kept_records (act.Down (kept_act keeps os (left_at role os)) (Some durable.Boot)) (memory setup past os).left in
      let as_many : length (record_bytes (boot_over past)) ≡ length (record_bytes r) = boot_bytes (boots past + 1) (boots rs + 1) ∙ ap (λ (q : ResourceRecord). length (record_bytes q)) (same_Some (boot_over rs) r made) in (
        keeps,
        record {
          by_entries = (r, made, over);
          bytes = record_bytes r;
          asked = ap (option_map record_bytes) made;
          on_disks = subst (λ (n : ℕ). HasNoPlace disks size n full) as_many (on_size role disks size full over.size_is on_disks);
        },
      )
  boot_past_end (Coordinator times past) over (inl none) = absurd none
  boot_past_end (Coordinator times past) over (inr none) = absurd none
  boot_past_end (Manager settings) over (inl none) = absurd none
  boot_past_end (Manager settings) over (inr none) = absurd none
