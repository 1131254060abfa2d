-- Where the nodes weren't opened, their disks hold what they held, or a resource's boot behind it.
use Rattle.std.proofs.Common.{◌≡◌, ◌⊎◌, ⊎_elim, inl, inr, ◌∙◌, ◌+◌, ◌++◌, ℕ, suc, add-one, Bool, true, false, IsTrue, List, [], ◌∷◌, slice_get, Some, refl, ap, sym, subst, arith}
use Rattle.std.specs.List.{AllByRecursion}
use Rattle.disk_model.specs.Disk.{DiskState, IsLawful}
use Rattle.disk_model.specs.Shelf.{ShelfState, taken_tells}
use Rattle.journal_checkpoint.specs.Extents.{Extent, blank, extent_of}
use Rattle.journal_checkpoint.specs.Images.{Pair}
use Rattle.seata_types.specs.declared.ids.Place.{Place}
use Rattle.seata_types.specs.declared.ids.Place.TheVariants as place
use Rattle.durable_records.specs.declared.resources.ResourceRecord.{ResourceRecord}
use Rattle.resource_store.specs.Standing.{StandsForRecords}
use Rattle.scenario_form.specs.declared.scenarios.ResourceDef.{ResourceDef}
use Rattle.scenario_form.specs.declared.scenarios.Scenario.{Scenario}
use Rattle.history_rules.specs.ResourceMemory.{Setup, boot_over}
use Rattle.history_rules.specs.Nodes.{Past, Role, Coordinator, Resource, Manager}
use Rattle.history_rules.specs.Histories.{Moment}
use Rattle.history_rules.specs.Chains.{with_boots}
use Rattle.history_law.specs.ChainSafety.{MayFollow}
use Rattle.history_text.specs.Worlds.{setup_of, world_of}
use Rattle.node_steps.specs.Nodes.{place_of}
use Rattle.node_seat.specs.declared.faults.RunFault.{RunFault}
use Rattle.scenario_nodes.specs.Nodes.{Held, HoldAll, Holds, Server, StandAs, resource_role, resource_server, servers_of, store_setting}
use Rattle.scenario_nodes.specs.Opening.{AreNotOpened, HaveNoEntry, HaveNoRecord, IsBack, IsBackTaken, IsNotAsked, IsNotHad, IsNotLoaded, IsReturned, IsUntouched, NodesNotOpened, ShowNoEntry, ShowNoRecord, ShowsUnread}
use Rattle.scenario_nodes.specs.Shelves.{AreGivenBack, BackTell, IsGivenIn, IsNext, pair_of, second_name}
use Rattle.scenario_nodes.proofs.Holding.{bytes_of, next_given}
use Rattle.scenario_nodes.proofs.Returned.{is_next_since}
use Rattle.scenario_nodes.proofs.Together.{all_append, all_behind, all_front}
use Rattle.chain_law.specs.Chained.{IsAfter}
use Rattle.chain_law.proofs.Chosen.{choices, chosen_at, numbered_all, numbered_at, of_number}

-- ---- a boot more, or none

abbrev boot_if : Bool → List ResourceRecord → List ResourceRecord
boot_if false rs = rs
boot_if true rs = boot_over rs ∷ rs

abbrev with_boot : Bool → Role → Role
with_boot booted (Resource setup past) = Resource setup (boot_if booted past)
with_boot booted (Coordinator times past) = Coordinator times past
with_boot booted (Manager settings) = Manager settings

-- so many boots, or one more
more_boots : (booted : Bool) (rs first : List ResourceRecord) → (boots : ℕ) × (rs ≡ with_boots boots first) → (boots : ℕ) × (boot_if booted rs ≡ with_boots boots first)
more_boots false rs first (boots, is) = (boots, is)
more_boots true rs first (boots, is) = (suc boots, ap (λ (l : List ResourceRecord). boot_over l ∷ l) is)

-- whether there is a boot more, and where the journal stands
abbrev Kept : Type 0
Kept = Bool × Extent

abbrev none_kept : Kept
none_kept = (false, blank)

abbrev starts_of : Extent → (ℕ → Kept) → Place → Extent
starts_of first kept place.Tc = first
starts_of first kept (place.Res n) = (of_number kept none_kept n).1
starts_of first kept _ = blank

no_entry : (role : Role) (disks : Pair) → HaveNoRecord role disks → HaveNoEntry role disks
no_entry (Coordinator times past) disks none = none
no_entry (Resource setup past) disks none = λ a b one two. inl (none a b one two)
no_entry (Manager settings) disks none = tt

module _ {D : Type 0} (state : D → DiskState) (lawful : (d : D) → IsLawful (state d)) (s : Scenario) (old new : ShelfState D) (all : BackTell state old new) (tells : IsTrue new.tells) where
  -- ---- one node

  -- its disks hold its records, or a boot more
  record Goes (v : Server) : Type 0 where
    booted : Bool
    start : Extent
    hold : Holds state new s (record { name = v.name; role = with_boot booted v.role; start = start })

  -- a disk that was given back is the one that the shelf gives next, and its bytes are one of its images
  record IsBackNext (name : List ℕ) (d : D) : Type 0 where
    bytes : List ℕ
    stays : (state d).may_leave bytes
    taken : IsNext state new s.disk name bytes

  is_next : (name : List ℕ) (d : D) → IsGivenIn old new name d → IsBackNext name d
  is_next name d given = let (x, is) = bytes_of (state d) (all name d given) in record { bytes = x; stays = (lawful d).present_may_stay x is; taken = next_given state new s.disk name d x (given.back.given tells) is }

  booted_now : (setup : Setup) (past : List ResourceRecord) (x y : List ℕ) → StandsForRecords (store_setting setup) past x y ⊎ StandsForRecords (store_setting setup) (boot_over past ∷ past) x y
      → (kept : Kept) × StandAs s (with_boot kept.0 (Resource setup past)) kept.1 x y
  booted_now setup past x y (inl h) = ((false, extent_of h.found), λ _. (h, refl))
  booted_now setup past x y (inr h) = ((true, extent_of h.found), λ _. (h, refl))

  stand_now : (role : Role) (start : Extent) (disks : Pair) (p q x y : List ℕ) → StandAs s role start p q → HaveNoEntry role disks → disks.first.may_leave x → disks.second.may_leave y
      → (kept : Kept) × StandAs s (with_boot kept.0 role) kept.1 x y
  stand_now (Coordinator times past) start disks p q x y stand none one two =
      let (managers, resources, h) = none x y one two in (
        (false, extent_of h.found),
        (record { found = h.found; pair = h.pair; list = record { records = h.list.records; made = stand.0.list.made; few = h.list.few } }, refl),
      )
  stand_now (Resource setup past) start disks p q x y stand none one two = booted_now setup past x y (none x y one two)
  stand_now (Manager settings) start disks p q x y stand none one two = (none_kept, tt)

  -- both disks were given back, and show no entry
  given : (v : Server) (disks : D × D) → AreGivenBack old new v.name disks → HaveNoEntry v.role (pair_of state disks) → Holds state old s v → Goes v
  given v disks back none holds =
      let a = is_next v.name disks.0 back.first in
      let b = is_next (second_name v.name) disks.1 back.second in
      let (kept, stand) = stand_now v.role v.start (pair_of state disks) holds.first holds.second a.bytes b.bytes holds.stand none a.stays b.stays in
      record { booted = kept.0; start = kept.1; hold = record { first = a.bytes; second = b.bytes; next = record { first = a.taken; second = b.taken }; stand = stand } }

  -- the shelf gives the same bytes next
  same : (v : Server) (holds : Holds state old s v) → IsNext state new s.disk v.name holds.first → IsNext state new s.disk (second_name v.name) holds.second → Goes v
  same v holds one two = record { booted = false; start = v.start; hold = record { first = holds.first; second = holds.second; next = record { first = one; second = two }; stand = stand_same v.role v.start holds.first holds.second holds.stand } }
    where
      stand_same : (role : Role) (start : Extent) (x y : List ℕ) → StandAs s role start x y → StandAs s (with_boot false role) start x y
      stand_same (Coordinator times past) start x y stand = stand
      stand_same (Resource setup past) start x y stand = stand
      stand_same (Manager settings) start x y stand = stand

  untouched : (name x : List ℕ) → IsUntouched old new name → IsNext state old s.disk name x → IsNext state new s.disk name x
  untouched name x u next = is_next_since state s.disk name x old new u.same next

  back_taken : (name x : List ℕ) → IsBackTaken state s.disk old new name → IsNext state old s.disk name x → IsNext state new s.disk name x
  back_taken name x b next =
      let (c, is_c) = bytes_of (state b.disk) (next.tells b.disk b.taken) in
      let is : c ≡ x = taken_tells state (old.given_back name) s.disk (state b.disk) x c b.taken next.has is_c in
      next_given state new s.disk name b.disk x (b.back.back.given tells) (is_c ∙ ap Some is)

  module _ (v : Server) (holds : Holds state old s v) where
    not_asked : IsNotAsked old new v → Goes v
    not_asked u = same v holds (untouched v.name holds.first u.0 holds.next.first) (untouched (second_name v.name) holds.second u.1 holds.next.second)

    with_no_record : IsBack (ShowNoRecord state s old) old new v → Goes v
    with_no_record b = given v b.disks b.back (no_entry v.role (pair_of state b.disks) (b.shows.1 holds)) holds

    with_no_entry : IsBack (ShowNoEntry state s old) old new v → Goes v
    with_no_entry b = given v b.disks b.back (b.shows.1 holds).1 holds

    not_loaded : (missed : RunFault) → IsNotLoaded state s old new v missed → Goes v
    not_loaded missed refused =
        ⊎_elim (λ (h : IsNotHad state s.disk (place_of v.role) old new v.name missed).
        same v holds (⊎_elim (λ (u : IsUntouched old new v.name). untouched v.name holds.first u holds.next.first) (λ (b : IsBackTaken state s.disk old new v.name). back_taken v.name holds.first b holds.next.first) h.first)
        (untouched (second_name v.name) holds.second h.second holds.next.second))
        (λ (b : IsBack (ShowsUnread state s old missed) old new v). given v b.disks b.back (no_entry v.role (pair_of state b.disks) (b.shows.unwritten.1 holds)) holds) refused

    not_started : (missed : RunFault) → IsReturned state s old new v missed → Goes v
    not_started missed r = given v r.disks r.back (r.unopened holds).device holds

  -- ---- all nodes

  all_go : (P : Server → Type 0) → ((v : Server) → Holds state old s v → P v → Goes v) → (vs : List Server) → AllByRecursion (Holds state old s) vs → AllByRecursion P vs → AllByRecursion Goes vs
  all_go P go [] holds each = tt
  all_go P go (v ∷ vs) holds each = (go v holds.0 each.0, all_go P go vs holds.1 each.1)

  -- those before one, it, and those behind it
  parts_go : (vs before behind : List Server) (v : Server) → vs ≡ before ++ v ∷ behind → (P Q R : Server → Type 0) → ((u : Server) → Holds state old s u → P u → Goes u) → ((u : Server) → Holds state old s u → Q u → Goes u)
      → ((u : Server) → Holds state old s u → R u → Goes u) → AllByRecursion P before → Q v → AllByRecursion R behind → AllByRecursion (Holds state old s) vs → AllByRecursion Goes vs
  parts_go vs before behind v is P Q R p q r front at rest holds =
      let parts = subst (AllByRecursion (Holds state old s)) is holds in
      let later = all_behind (Holds state old s) before (v ∷ behind) parts in
      subst (AllByRecursion Goes) (sym is)
      (all_append Goes before (v ∷ behind) (all_go P p before (all_front (Holds state old s) before (v ∷ behind) parts) front) (q v later.0 at, all_go R r behind later.1 rest))

  each_goes : (vs : List Server) (missed : RunFault) → AreNotOpened state s vs old new missed → AllByRecursion (Holds state old s) vs → AllByRecursion Goes vs
  each_goes vs missed (inl l) =
      parts_go vs l.before l.behind l.server l.all (IsBack (ShowNoRecord state s old) old new) (λ v. IsNotLoaded state s old new v missed) (IsNotAsked old new)
      with_no_record (λ v holds. not_loaded v holds missed) not_asked l.loaded l.refused l.not_asked
  each_goes vs missed (inr t) =
      parts_go vs t.before t.behind t.server t.all (IsBack (ShowNoEntry state s old) old new) (λ v. IsReturned state s old new v missed) (IsBack (ShowNoRecord state s old) old new)
      with_no_entry (λ v holds. not_started v holds missed) with_no_record t.started t.refused t.unwritten

  module _ (held : Held) (go : AllByRecursion Goes (servers_of s held)) where
    resource_goes : (k : ℕ) (def : ResourceDef) → slice_get s.resources k ≡ Some def → (kept : Kept) × Holds state new s (record { name = def.name; role = with_boot kept.0 (resource_role s held (k + 1) def); start = kept.1 })
    resource_goes k def at =
        let g = subst (λ (j : ℕ). Goes (resource_server s held (j, def))) (let number : 1 + k ≡ k + 1 = omega arith in number) (numbered_at Goes (resource_server s held) 1 s.resources go.1 k def at) in
        ((g.booted, g.start), g.hold)

    all_chosen : (bs : List Kept) × ((k : ℕ) (def : ResourceDef) → slice_get s.resources k ≡ Some def
        → Holds state new s (record { name = def.name; role = with_boot (chosen_at none_kept bs k).0 (resource_role s held (k + 1) def); start = (chosen_at none_kept bs k).1 }))
    all_chosen = choices none_kept (λ k def kept. Holds state new s (record { name = def.name; role = with_boot kept.0 (resource_role s held (k + 1) def); start = kept.1 })) s.resources resource_goes

    abbrev kept_at : ℕ → Kept
    kept_at k = chosen_at none_kept all_chosen.0 k

    abbrev booted_at : ℕ → Bool
    booted_at n = (of_number kept_at none_kept n).0

    abbrev next : Held
    next = record { past = record { sessions = held.past.sessions; resource = λ n. boot_if (booted_at n) (held.past.resource n) }; starts = starts_of go.0.start kept_at }

    resource_holds : (k : ℕ) (def : ResourceDef) → slice_get s.resources k ≡ Some def → Holds state new s (resource_server s next (k + 1, def))
    resource_holds k def at =
        subst (λ (kept : Kept). Holds state new s (record { name = def.name; role = Resource (setup_of s (k + 1) def) (boot_if kept.0 (held.past.resource (k + 1))); start = kept.1 }))
        (sym (ap (of_number kept_at none_kept) (add-one k))) (all_chosen.1 k def at)

    hold : HoldAll state new s next
    hold = (
      go.0.hold,
      numbered_all (Holds state new s) (resource_server s next) 1 s.resources
          (λ k def at. subst (λ (j : ℕ). Holds state new s (resource_server s next (j, def))) (let number : k + 1 ≡ 1 + k = omega arith in number) (resource_holds k def at)),
    )

    follows : (chain : List (Past × List Moment)) → MayFollow (world_of s) chain held.past → MayFollow (world_of s) chain next.past
    follows [] blank = record { sessions = blank.sessions; resources = λ n. more_boots (booted_at n) (held.past.resource n) [] (blank.resources n) }
    follows ((before, ms) ∷ rest) left = record {
      coordinator = left.coordinator;
      resources = λ n setup at.
          let (rs, boots, stand, is) = left.resources n setup at in
          let (more, now) = more_boots (booted_at n) (held.past.resource n) rs (boots, is) in
          (rs, more, stand, now);
    }

  pub after_opening : (missed : RunFault) → NodesNotOpened state s (servers_of s) old new missed → (chain : List (Past × List Moment)) (held : Held) → IsAfter state old s chain held → (next : Held) × IsAfter state new s chain next
  after_opening missed refused chain held after =
      let go = each_goes (servers_of s held) missed (refused held) after.hold in
      (next held go, record { is_chain = after.is_chain; hold = hold held go; follows = follows held go chain after.follows })
