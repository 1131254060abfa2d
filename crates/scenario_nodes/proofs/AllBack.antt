-- Nodes whose disks were given back, and nodes that weren't opened behind others.
use Rattle.std.proofs.Common.{◌⊎◌, ⊎_elim, inl, inr, ◌∙◌, ◌++◌, ◌≤◌, ℕ, List, [], ◌∷◌, map, refl, ap, sym, subst, arith}
use Rattle.std.specs.List.{AllByRecursion}
use Rattle.std.proofs.lemmas.List.{append_assoc, map-append}
use Rattle.disk_model.specs.Disk.{DiskState}
use Rattle.disk_model.specs.Shelf.{KeepsOthers, SameUnder, ShelfState}
use Rattle.disk_model.proofs.Taken.{taken_since}
use Rattle.seata_types.specs.declared.ids.Place.{Place}
use Rattle.scenario_form.specs.declared.scenarios.Scenario.{Scenario}
use Rattle.node_steps.specs.Nodes.{place_of}
use Rattle.node_seat.specs.declared.faults.RunFault.{RunFault}
use Rattle.node_seat.specs.declared.faults.RunFault.TheVariants as fault
use Rattle.scenario_nodes.specs.Nodes.{Server, name_of}
use Rattle.scenario_nodes.specs.Opening.{IsBack, IsBackTaken, IsDamageOn, IsNotAsked, IsNotHad, IsNotLoaded, IsReturned, IsShelfFault, IsUntouched, ShowNoBoot, ShowNoEntry, ShowNoRecord, ShowsUnread, StopsLoading, StopsStarting}
use Rattle.scenario_nodes.specs.Shelves.{AreGivenBack, IsDiskName, second_name}
use Rattle.scenario_nodes.specs.Together.{AreApart, AreEach, GivesBack, HaveBoth, IsOfOne, Takes}
use Rattle.scenario_nodes.proofs.Together.{all_append, apart_between, back_stays, backs_since, have_still, of_front, one_stays}
use Rattle.scenario_nodes.proofs.Returned.{are_next_since, back_since, given_since, holds_since, keeps_then, same_back, same_then}

-- ---- names among others

pub of_at : (before behind : List Server) (v : Server) (n : List ℕ) → IsDiskName v.name n → IsOfOne (map name_of (before ++ v ∷ behind)) n
of_at [] behind v n named = inl named
of_at (u ∷ before) behind v n named = inr (of_at before behind v n named)

pub of_after : (before behind : List Server) (v : Server) (n : List ℕ) → IsOfOne (map name_of behind) n → IsOfOne (map name_of (before ++ v ∷ behind)) n
of_after [] behind v n o = inr o
of_after (u ∷ before) behind v n o = inr (of_after before behind v n o)

pub of_before : (before others : List Server) (n : List ℕ) → IsOfOne (map name_of before) n → IsOfOne (map name_of (before ++ others)) n
of_before before others n o = subst (λ (names : List (List ℕ)). IsOfOne names n) (sym (map-append name_of before others)) (of_front (map name_of before) (map name_of others) n o)

-- ---- given back

module _ {D : Type 0} where
  -- in a call that did more before and after it, for other nodes
  pub back_between : (Show Shown : Server → D × D → Type 0) (v : Server) (First Others : List ℕ → Type 0) (z a b c : ShelfState D) → KeepsOthers First z a → ((n : List ℕ) → IsDiskName v.name n → ¬ Others n) → KeepsOthers Others b c
      → ((d : D × D) → Show v d → Shown v d) → IsBack Show a b v → IsBack Shown z c v
  back_between Show Shown v First Others z a b c before away keeps to i = record {
    disks = i.disks;
    taken = record { first = keeps.places v.name i.taken.first; second = keeps.places (second_name v.name) i.taken.second };
    back = back_stays Others z b c v.name i.disks away keeps (back_since First z a b v.name i.disks before i.back);
    shows = to i.disks i.shows;
  }

  pub all_back : (Show : Server → D × D → Type 0) (vs : List Server) (disks : List (D × D)) (old new : ShelfState D) → HaveBoth new (map name_of vs) → AreEach (AreGivenBack old new) (map name_of vs) disks → AreEach Show vs disks
      → AllByRecursion (IsBack Show old new) vs
  all_back Show [] [] old new taken back shows = tt
  all_back Show (v ∷ vs) (d ∷ ds) old new taken back shows = (record { disks = d; taken = taken.0; back = back.0; shows = shows.0 }, all_back Show vs ds old new taken.1 back.1 shows.1)
  all_back Show [] (d ∷ ds) old new taken back shows = absurd shows
  all_back Show (v ∷ vs) [] old new taken back shows = absurd shows

  -- ---- what is said of what a shelf gives next

  module _ (state : D → DiskState) (s : Scenario) (v : Server) (old now : ShelfState D) (first : SameUnder v.name old now) (second : SameUnder (second_name v.name) old now) where
    pub record_before : (d : D × D) → ShowNoRecord state s now v d → ShowNoRecord state s old v d
    record_before d shows = (shows.0, λ holds. shows.1 (holds_since state s v old now first second holds))

    pub entry_before : (d : D × D) → ShowNoEntry state s now v d → ShowNoEntry state s old v d
    entry_before d shows = (shows.0, λ holds. shows.1 (holds_since state s v old now first second holds))

    pub boot_before : (missed : RunFault) (d : D × D) → ShowNoBoot state s now missed v d → ShowNoBoot state s old missed v d
    boot_before (fault.Store at) d shows = tt
    boot_before (fault.Full at full) d shows = record_before d shows
    boot_before (fault.Damaged at other offset) d shows = record_before d shows
    boot_before fault.Other d shows = record_before d shows
    boot_before fault.NoMemory d shows = record_before d shows

    pub damage_before : (missed : RunFault) → IsDamageOn state now s v missed → IsDamageOn state old s v missed
    damage_before missed damaged a b next = damaged a b (are_next_since state s.disk v.name a b old now first second next)

    pub unread_before : (missed : RunFault) (d : D × D) → ShowsUnread state s now missed v d → ShowsUnread state s old missed v d
    unread_before missed d u = record {
      blames = u.blames;
      damaged = damage_before missed u.damaged;
      cause = λ holds. u.cause (holds_since state s v old now first second holds);
      unwritten = record_before d u.unwritten;
    }

  -- ---- nodes that weren't opened

  -- a call for another node didn't ask for the disks of these
  untouched_for : (name : List ℕ) (old new : ShelfState D) (n : List ℕ) → KeepsOthers (IsDiskName name) old new → ¬ IsDiskName name n → IsUntouched old new n
  untouched_for name old new n keeps other = record { not_made = λ has. ⊎_elim (λ had. had) (λ its. absurd (other its)) (keeps.made n has); same = keeps.others n other }

  pub not_asked_for : (name : List ℕ) (old new : ShelfState D) (vs : List Server) → KeepsOthers (IsDiskName name) old new → ((n : List ℕ) → IsDiskName name n → ¬ IsOfOne (map name_of vs) n) → AllByRecursion (IsNotAsked old new) vs
  not_asked_for name old new [] keeps away = tt
  not_asked_for name old new (v ∷ vs) keeps away = (
    (untouched_for name old new v.name keeps (λ its. away v.name its (inl (inl refl))), untouched_for name old new (second_name v.name) keeps (λ its. away (second_name v.name) its (inl (inr refl)))),
    not_asked_for name old new vs keeps (λ n named o. away n named (inr o)),
  )

  -- nothing was done
  pub untouched : (shelf : ShelfState D) (name : List ℕ) → IsUntouched shelf shelf name
  untouched shelf name = record { not_made = λ had. had; same = λ disk. ((λ here. here), (λ here. here)) }

  -- memory was refused before any disk was asked for
  pub none_asked : (state : D → DiskState) (s : Scenario) (shelf : ShelfState D) (v : Server) (vs : List Server) → StopsLoading state s (v ∷ vs) shelf shelf fault.NoMemory
  none_asked state s shelf v vs = record { before = []; server = v; behind = vs; all = refl; loaded = tt; refused = inl (record { cause = tt; first = inl (untouched shelf v.name); second = untouched shelf (second_name v.name) }); not_asked = all vs }
    where
      all : (us : List Server) → AllByRecursion (IsNotAsked shelf shelf) us
      all [] = tt
      all (u ∷ us) = ((untouched shelf u.name, untouched shelf (second_name u.name)), all us)

  -- the first of them wasn't loaded
  pub first_stops : (state : D → DiskState) (s : Scenario) (old new : ShelfState D) (v : Server) (vs : List Server) (missed : RunFault) → AreApart (name_of v ∷ map name_of vs) → KeepsOthers (IsDiskName v.name) old new
      → IsNotLoaded state s old new v missed → StopsLoading state s (v ∷ vs) old new missed
  first_stops state s old new v vs missed apart keeps refused =
      record { before = []; server = v; behind = vs; all = refl; loaded = tt; refused = refused; not_asked = not_asked_for v.name old new vs keeps apart.0 }

  -- ---- behind others that were opened, and were closed

  pub fault_wider : (at : Place) (old now mid new : ShelfState D) (missed : RunFault) → old.faults ≤ now.faults → mid.faults ≤ new.faults → IsShelfFault at now mid missed → IsShelfFault at old new missed
  fault_wider at old now mid new (fault.Store place) before after (same, rose) = (same, omega (arith, rose, before, after))
  fault_wider at old now mid new fault.NoMemory before after cause = tt
  fault_wider at old now mid new (fault.Full place full) before after cause = absurd cause
  fault_wider at old now mid new (fault.Damaged place second offset) before after cause = absurd cause
  fault_wider at old now mid new fault.Other before after cause = absurd cause

  module _ (state : D → DiskState) (s : Scenario) (first servers : List Server) (disks : List (D × D)) (old now mid new : ShelfState D) (Asked : List ℕ → Type 0) (missed : RunFault)
      (apart : AreApart (map name_of first ++ map name_of servers)) (takes : Takes (map name_of first) old now) (keeps : KeepsOthers Asked now mid) (gives : GivesBack (map name_of first) disks mid new) where
    first_taken : HaveBoth new (map name_of first)
    first_taken = have_still now new (map name_of first) (λ n had. (gives.places n).1 (keeps.places n had)) takes.both

    first_back : AreEach (AreGivenBack old new) (map name_of first) disks
    first_back =
        backs_since (map name_of first) disks (λ n. IsOfOne (map name_of first) n ⊎ Asked n) old mid new
        (keeps_then (IsOfOne (map name_of first)) Asked (λ n. IsOfOne (map name_of first) n ⊎ Asked n) old now mid (λ n its. inl its) (λ n its. inr its) takes.keeps keeps) gives.back

    -- what wasn't made there wasn't made at all
    not_made : (n : List ℕ) → IsOfOne (map name_of servers) n → (mid.has_place n → now.has_place n) → new.has_place n → old.has_place n
    not_made n o not has =
        ⊎_elim (λ had. had) (λ theirs. absurd (apart_between (map name_of first) (map name_of servers) apart n theirs o)) (takes.keeps.made n (not ((gives.places n).0 has)))

    away : (n : List ℕ) → IsOfOne (map name_of servers) n → ¬ IsOfOne (map name_of first) n
    away n o theirs = apart_between (map name_of first) (map name_of servers) apart n theirs o

    -- under a name of the others the shelf was the same before the first ones were taken
    same_before : (n : List ℕ) → IsOfOne (map name_of servers) n → SameUnder n old now
    same_before n o = takes.keeps.others n (away n o)

    -- what was done for the first ones did nothing under a name of the others
    untouched_still : (n : List ℕ) → IsOfOne (map name_of servers) n → IsUntouched now mid n → IsUntouched old new n
    untouched_still n o u = record {
      not_made = not_made n o u.not_made;
      same = same_then n old now new (same_before n o) (same_then n now mid new u.same (gives.keeps.others n (away n o)));
    }

    taken_still : (n : List ℕ) → IsOfOne (map name_of servers) n → IsBackTaken state s.disk now mid n → IsBackTaken state s.disk old new n
    taken_still n o b = record {
      disk = b.disk;
      back = one_stays (IsOfOne (map name_of first)) old mid new n b.disk (away n o) gives.keeps (given_since old now mid n b.disk takes.keeps.tells (takes.keeps.gives n) b.back);
      taken = taken_since state (now.given_back n) (old.given_back n) s.disk (same_back n old now (same_before n o)) (state b.disk) b.taken;
    }

    not_asked : (vs : List Server) → ((n : List ℕ) → IsOfOne (map name_of vs) n → IsOfOne (map name_of servers) n) → AllByRecursion (IsNotAsked now mid) vs → AllByRecursion (IsNotAsked old new) vs
    not_asked [] among all = tt
    not_asked (v ∷ vs) among all = (
      (untouched_still v.name (among v.name (inl (inl refl))) all.0.0, untouched_still (second_name v.name) (among (second_name v.name) (inl (inr refl))) all.0.1),
      not_asked vs (λ n o. among n (inr o)) all.1,
    )

    module _ (v : Server) (among : (n : List ℕ) → IsDiskName v.name n → IsOfOne (map name_of servers) n) where
      same_first : SameUnder v.name old now
      same_first = same_before v.name (among v.name (inl refl))

      same_second : SameUnder (second_name v.name) old now
      same_second = same_before (second_name v.name) (among (second_name v.name) (inr refl))

      moved : (Show Shown : Server → D × D → Type 0) → ((d : D × D) → Show v d → Shown v d) → IsBack Show now mid v → IsBack Shown old new v
      moved Show Shown to i =
          back_between Show Shown v (IsOfOne (map name_of first)) (IsOfOne (map name_of first)) old now mid new takes.keeps (λ n named. away n (among n named)) gives.keeps to i

      still_refused : IsNotLoaded state s now mid v missed → IsNotLoaded state s old new v missed
      still_refused refused =
          ⊎_elim (λ (h : IsNotHad state s.disk (place_of v.role) now mid v.name missed). inl (record {
            cause = fault_wider (place_of v.role) old now mid new missed takes.keeps.faults gives.keeps.faults h.cause;
            first = ⊎_elim (λ (u : IsUntouched now mid v.name). inl (untouched_still v.name (among v.name (inl refl)) u))
                (λ (b : IsBackTaken state s.disk now mid v.name). inr (taken_still v.name (among v.name (inl refl)) b)) h.first;
            second = untouched_still (second_name v.name) (among (second_name v.name) (inr refl)) h.second;
          })) (λ (b : IsBack (ShowsUnread state s now missed) now mid v).
          inr (moved (ShowsUnread state s now missed) (ShowsUnread state s old missed) (unread_before state s v old now same_first same_second missed) b)) refused

      returned_still : IsReturned state s now mid v missed → IsReturned state s old new v missed
      returned_still r = record {
        disks = r.disks;
        taken = record { first = gives.keeps.places v.name r.taken.first; second = gives.keeps.places (second_name v.name) r.taken.second };
        back = back_stays (IsOfOne (map name_of first)) old mid new v.name r.disks (λ n named. away n (among n named)) gives.keeps (back_since (IsOfOne (map name_of first)) old now mid v.name r.disks takes.keeps r.back);
        sized = r.sized;
        blames = r.blames;
        damaged = damage_before state s v old now same_first same_second missed r.damaged;
        unopened = λ holds. r.unopened (holds_since state s v old now same_first same_second holds);
      }

    records_move : (vs : List Server) → ((n : List ℕ) → IsOfOne (map name_of vs) n → IsOfOne (map name_of servers) n) → AllByRecursion (IsBack (ShowNoRecord state s now) now mid) vs → AllByRecursion (IsBack (ShowNoRecord state s old) old new) vs
    records_move [] among all = tt
    records_move (v ∷ vs) among all =
        let its : (n : List ℕ) → IsDiskName v.name n → IsOfOne (map name_of servers) n = λ n named. among n (inl named) in
        (moved v its (ShowNoRecord state s now) (ShowNoRecord state s old) (record_before state s v old now (same_first v its) (same_second v its)) all.0, records_move vs (λ n o. among n (inr o)) all.1)

    entries_move : (vs : List Server) → ((n : List ℕ) → IsOfOne (map name_of vs) n → IsOfOne (map name_of servers) n) → AllByRecursion (IsBack (ShowNoEntry state s now) now mid) vs → AllByRecursion (IsBack (ShowNoEntry state s old) old new) vs
    entries_move [] among all = tt
    entries_move (v ∷ vs) among all =
        let its : (n : List ℕ) → IsDiskName v.name n → IsOfOne (map name_of servers) n = λ n named. among n (inl named) in
        (moved v its (ShowNoEntry state s now) (ShowNoEntry state s old) (entry_before state s v old now (same_first v its) (same_second v its)) all.0, entries_move vs (λ n o. among n (inr o)) all.1)

    pub loading_behind : AreEach (ShowNoRecord state s old) first disks → StopsLoading state s servers now mid missed → StopsLoading state s (first ++ servers) old new missed
    loading_behind shows l =
        let among : (n : List ℕ) → IsOfOne (map name_of (l.before ++ l.server ∷ l.behind)) n → IsOfOne (map name_of servers) n = λ n o. subst (λ (vs : List Server). IsOfOne (map name_of vs) n) (sym l.all) o in
        record {
          before = first ++ l.before;
          server = l.server;
          behind = l.behind;
          all = ap (λ (vs : List Server). first ++ vs) l.all ∙ sym (append_assoc first l.before (l.server ∷ l.behind));
          loaded = all_append (IsBack (ShowNoRecord state s old) old new) first l.before (all_back (ShowNoRecord state s old) first disks old new first_taken first_back shows)
              (records_move l.before (λ n o. among n (of_before l.before (l.server ∷ l.behind) n o)) l.loaded);
          refused = still_refused l.server (λ n named. among n (of_at l.before l.behind l.server n named)) l.refused;
          not_asked = not_asked l.behind (λ n o. among n (of_after l.before l.behind l.server n o)) l.not_asked;
        }

    pub starting_behind : AreEach (ShowNoEntry state s old) first disks → StopsStarting state s servers now mid missed → StopsStarting state s (first ++ servers) old new missed
    unfolding returned_still
    starting_behind shows t =
        let among : (n : List ℕ) → IsOfOne (map name_of (t.before ++ t.server ∷ t.behind)) n → IsOfOne (map name_of servers) n = λ n o. subst (λ (vs : List Server). IsOfOne (map name_of vs) n) (sym t.all) o in
        let its : (n : List ℕ) → IsDiskName t.server.name n → IsOfOne (map name_of servers) n = λ n named. among n (of_at t.before t.behind t.server n named) in
        record {
          before = first ++ t.before;
          server = t.server;
          behind = t.behind;
          all = ap (λ (vs : List Server). first ++ vs) t.all ∙ sym (append_assoc first t.before (t.server ∷ t.behind));
          started = all_append (IsBack (ShowNoEntry state s old) old new) first t.before (all_back (ShowNoEntry state s old) first disks old new first_taken first_back shows)
              (entries_move t.before (λ n o. among n (of_before t.before (t.server ∷ t.behind) n o)) t.started);
          refused = returned_still t.server its t.refused;
          unbooted = boot_before state s t.server old now (same_first t.server its) (same_second t.server its) missed t.refused.disks t.unbooted;
          unwritten = records_move t.behind (λ n o. among n (of_after t.before t.behind t.server n o)) t.unwritten;
        }
