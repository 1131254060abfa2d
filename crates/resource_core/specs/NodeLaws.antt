-- What always holds of a resource as a node.
use Rattle.std.proofs.Common.{◌≡◌, ◌⊎◌, inl, inr, ◌-◌, ◌≤◌, ◌^◌, ℕ, min, true, if◌then◌else◌, List, ◌∷◌, length, Option, Some, None, refl, sym, ap, subst, ◌∙◌, arith}
use Rattle.disk_model.specs.Disk.{DiskState}
use Rattle.disk_model.specs.Stop.{state_of}
use Rattle.disk_model.specs.declared.stoppable.Stoppable.{Stoppable}
use Rattle.seata_types.specs.declared.acts.Act.TheVariants as act
use Rattle.seata_types.specs.declared.ids.Place.TheVariants as place
use Rattle.durable_records.specs.declared.resources.ResourceRecord.{ResourceRecord}
use Rattle.journal_checkpoint.specs.Extents.{Extent, extent_of, longer}
use Rattle.journal_checkpoint.specs.Images.{PairStandsFor}
use Rattle.journal_checkpoint.specs.declared.types.Found.{Found}
use Rattle.history_rules.specs.Own.{Own, Left, Given, Stopped, Crashed, Restarted, still}
use Rattle.history_rules.specs.Devices.{calls_left, fault_entries, in_flight, may_stand, is_down as down_by}
use Rattle.history_rules.specs.Nodes.{Role, Coordinator, Manager}
use Rattle.history_rules.specs.Nodes.{Resource as ResourceRole}
use Rattle.history_rules.specs.ResourceMemory.{Memory, Setup, memory, opening_tables}
use Rattle.node_steps.specs.Durable.{StandsForRecords, StandsForLeft, of_resource, keepable, own_faults, AreNodeDisks}
use Rattle.node_steps.specs.Ends.{AreLaid, extent, resource_recording}
use Rattle.node_steps.specs.Nodes.{IsLawful, KeepsStill, Tells, has_disks, lost, own_entry, place_of}
use Rattle.resource_log.specs.Records.{record_bytes}
use Rattle.resource_store.specs.declared.store.Store.{Store}
use Rattle.resource_store.specs.Keeping.{setting_of}
use Rattle.resource_store.specs.Meaning.{Setting, opening_of}
use Rattle.resource_store.specs.Standing as store
use Rattle.resource_core.specs.declared.nodes.Resource.{Resource}
use Rattle.resource_core.specs.Holding.{Holds}
use Rattle.resource_core.specs.Lying.{AtEither, Lies}
use Rattle.resource_core.specs.NodeStanding.{LiesAs, OnDisks, StandsAs, StandsForEither, StandsOver, node_state}
use Rattle.resource_core.specs.Shown.{store_of, setup_in, stands_at, is_down, disks_of, pair_of}

-- ---- what disks stand for, in the words of histories

pub stands_for_records : (t : Setting) (rs : List ResourceRecord) (a b : List ℕ) → store.StandsForRecords t rs a b → StandsForRecords (of_resource (opening_of t)) rs a b
stands_for_records t rs a b s = record { found = s.found; pair = s.pair; records = s.list.records }

-- ---- laws

module _ {D : Type 0} (state : D → DiskState) where
  -- what is said of each role is said of a resource's
  of_resources : (r : Resource D) (P : Role → List Own → Type 0) → ((setup : Setup) (past : List ResourceRecord) (owns : List Own) → StandsOver state r setup past owns → P (ResourceRole setup past) owns)
      → (role : Role) (owns : List Own) → StandsAs state r role owns → P role owns
  of_resources r P so (ResourceRole setup past) owns s = so setup past owns s
  of_resources r P so (Coordinator times past) owns s = absurd s
  of_resources r P so (Manager settings) owns s = absurd s

  pub places : (r : Resource D) (role : Role) (owns : List Own) → StandsAs state r role owns → stands_at r ≡ place_of role
  places r = of_resources r (λ role owns. stands_at r ≡ place_of role) (λ setup past owns s. ap place.Res s.numbered)

  tells : (r : Resource D) → Tells (node_state state r)
  tells r = record {
    places = places r;
    with_disks = of_resources r (λ role owns. true ≡ has_disks role) (λ setup past owns s. refl);
    downs = of_resources r (λ role owns. is_down r ≡ down_by owns) (λ setup past owns s. s.down);
  }

  pub device : (r : Resource D) (role : Role) (owns : List Own) → StandsAs state r role owns → AreNodeDisks role owns (disks_of state r)
  device r = of_resources r (λ role owns. AreNodeDisks role owns (disks_of state r)) (λ setup past owns s. record {
    images = λ a b first second. either setup s.is owns (memory setup past owns).left a b (s.disks.images a b first second);
    counted = s.disks.counted;
  })
    where
      told : (setup : Setup) → setup ≡ setup_in r → (rs : List ResourceRecord) (a b : List ℕ) → store.StandsForRecords (setting_of (store_of r)) rs a b → StandsForRecords (of_resource (opening_tables setup)) rs a b
      told setup is rs a b e = subst (λ (w : Setup). StandsForRecords (of_resource (opening_tables w)) rs a b) (sym is) (stands_for_records (setting_of (store_of r)) rs a b e)

      either : (setup : Setup) → setup ≡ setup_in r → (owns : List Own) (left : Left ResourceRecord) (a b : List ℕ) → StandsForEither (setting_of (store_of r)) left (keepable true owns left) a b
          → StandsForLeft (of_resource (opening_tables setup)) left (keepable true owns left) a b
      either setup is owns left a b (inl e) = inl (told setup is left.records a b e)
      either setup is owns left a b (inr (q, kept, e)) = inr (q, kept, told setup is (q ∷ left.records) a b e)

  -- what disks are after an entry at which nothing of them changes
  pub on_same : (s : Store (Stoppable D)) (left left' : Left ResourceRecord) (os os' : List Own) → down_by os' ≡ down_by os → left' ≡ left
      → calls_left true os' ≡ calls_left true os → fault_entries true os' ≡ fault_entries true os → OnDisks state s left os → OnDisks state s left' os'
  on_same s left left' os os' down same calls faults d = record {
    passes = λ e. d.passes (sym down ∙ e) ∙ sym calls;
    images = λ a b first second. subst (λ (l : Left ResourceRecord). StandsForEither (setting_of s) l (keepable true os' l) a b) (sym same)
        (subst (λ (k : Option ℕ). StandsForEither (setting_of s) left (if may_stand k then left.flight else None) a b) (sym calls) (d.images a b first second));
    counted = subst (λ (n : ℕ). min n (2 ^ 64 - 1) ≤ own_faults (pair_of state s)) (sym faults) d.counted;
  }

  -- the same of a resource
  stands_same : (r : Resource D) (setup : Setup) (past : List ResourceRecord) (os os' : List Own) → down_by os' ≡ down_by os → memory setup past os' ≡ memory setup past os
      → calls_left true os' ≡ calls_left true os → fault_entries true os' ≡ fault_entries true os → in_flight os' ≡ in_flight os → StandsOver state r setup past os → StandsOver state r setup past os'
  stands_same r setup past os os' down same calls faults flight s = record {
    is = s.is;
    numbered = s.numbered;
    down = s.down ∙ sym down;
    disks = on_same (store_of r) (memory setup past os).left (memory setup past os').left os os' down (ap (λ (m : Memory). m.left) same) calls faults s.disks;
    holds = λ e. subst (λ (m : Memory). Holds (state_of state) r.branches m) (sym same) (s.holds (sym down ∙ e));
    fallen = λ e. let f = s.fallen (sym down ∙ e) in record {
      flight = f.flight ∙ sym flight;
      count = f.count ∙ ap (λ (m : Memory). length m.left.records) (sym same);
      closed = ap (λ (m : Memory). m.opens) same ∙ f.closed;
    };
  }

  -- an entry at which nothing changes is one more that it stands for
  keeps : (r : Resource D) → KeepsStill (node_state state r) (StandsAs state r)
  keeps r = record {
    given = λ down input now. by (lost (Given input) now) (λ setup past owns. stands_same r setup past owns (lost (Given input) now ∷ owns) refl refl refl (omega arith) refl);
    stopped = λ down calls now. by (lost (Stopped calls) now) (λ setup past owns. stands_same r setup past owns (lost (Stopped calls) now ∷ owns) refl refl refl (omega arith) refl);
    crashed = λ down now. by (lost Crashed now) (λ setup past owns. stands_same r setup past owns (lost Crashed now ∷ owns) refl refl refl (omega arith) refl);
    restarted = λ stops up pick calls now. by (own_entry (Restarted pick calls) now (still act.Nothing))
        (λ setup past owns. stands_same r setup past owns (own_entry (Restarted pick calls) now (still act.Nothing) ∷ owns) refl refl refl (omega arith) refl);
  }
    where
      by : (o : Own) → ((setup : Setup) (past : List ResourceRecord) (owns : List Own) → StandsOver state r setup past owns → StandsOver state r setup past (o ∷ owns))
          → (role : Role) (owns : List Own) → StandsAs state r role owns → StandsAs state r role (o ∷ owns)
      by o so = of_resources r (λ role owns. StandsAs state r role (o ∷ owns)) so

  -- ---- where its journal stands

  -- what is said of each role is said of a resource's
  lying_resources : (r : Resource D) (P : Role → List Own → Type 0) (start : Extent) (size : ℕ) → ((setup : Setup) (past : List ResourceRecord) (owns : List Own) → Lies (state_of state) (store_of r) setup past start size owns → P (ResourceRole setup past) owns)
      → (role : Role) (owns : List Own) → LiesAs state r role start size owns → P role owns
  lying_resources r P start size so (ResourceRole setup past) owns l = so setup past owns l
  lying_resources r P start size so (Coordinator times past) owns l = absurd l
  lying_resources r P start size so (Manager settings) owns l = absurd l

  lies_on : (r : Resource D) (start : Extent) (size : ℕ) → KeepsStill (node_state state r) (λ role owns. LiesAs state r role start size owns)
  lies_on r start size = record {
    given = λ down input now. lying_resources r (λ role owns. LiesAs state r role start size (lost (Given input) now ∷ owns)) start size (λ setup past owns l. record { sized = l.sized; up = l.up; images = l.images });
    stopped = λ down calls now. lying_resources r (λ role owns. LiesAs state r role start size (lost (Stopped calls) now ∷ owns)) start size (λ setup past owns l. record { sized = l.sized; up = l.up; images = l.images });
    crashed = λ down now. lying_resources r (λ role owns. LiesAs state r role start size (lost Crashed now ∷ owns)) start size (λ setup past owns l. record { sized = l.sized; up = l.up; images = l.images });
    restarted = λ stops up pick calls now. lying_resources r (λ role owns. LiesAs state r role start size (own_entry (Restarted pick calls) now (still act.Nothing) ∷ owns)) start size
        (λ setup past owns l. record { sized = l.sized; up = l.up; images = l.images });
  }

  laid : (r : Resource D) (start : Extent) (size : ℕ) (role : Role) (owns : List Own) → LiesAs state r role start size owns → AreLaid role start size owns (disks_of state r)
  laid r start size = lying_resources r (λ role owns. AreLaid role start size owns (disks_of state r)) start size (λ setup past owns l a b first second. by (memory setup past owns).left (extent (resource_recording setup past) start size owns) a b (l.images a b first second))
    where
      by : (left : Left ResourceRecord) (e : Extent) (a b : List ℕ) → AtEither (setting_of (store_of r)) left e a b
          → (found : Found) × PairStandsFor found a b × ((extent_of found ≡ e) ⊎ ((q : ResourceRecord) × (left.flight ≡ Some q) × (extent_of found ≡ longer (length (record_bytes q)) e)))
      by left e a b (inl h) = (h.0.found, h.0.pair, inl h.1)
      by left e a b (inr (q, flies, h)) = (h.0.found, h.0.pair, inr (q, flies, h.1))

  pub lawful : (r : Resource D) → IsLawful (node_state state r)
  lawful r = record { tells = tells r; keeps = keeps r; lies = lies_on r; falls = λ down. refl; device = device r; laid = λ role start size owns s. laid r start size role owns }
