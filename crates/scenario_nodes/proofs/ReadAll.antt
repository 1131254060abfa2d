-- The disks of several nodes, read and given back one node after the other.
use Rattle.std.proofs.Common.{◌≡◌, ⊎_elim, inl, inr, ◌∙◌, ◌+◌, ◌++◌, ℕ, List, [], ◌∷◌, map, take, drop, length, slice_get, Some, Ok, Err, refl, ap, sym, subst, take_all, arith}
use Rattle.std.specs.List.{AllByRecursion}
use Rattle.std.proofs.lemmas.List.{append_assoc, map-append}
use Rattle.disk_model.specs.Disk.{DiskState}
use Rattle.disk_model.specs.Shelf.{KeepsOthers, SameUnder, ShelfState}
use Rattle.disk_model.proofs.Taken.{taken_since}
use Rattle.scenario_form.specs.declared.scenarios.ResourceDef.{ResourceDef}
use Rattle.scenario_form.specs.declared.scenarios.Scenario.{Scenario}
use Rattle.scenario_form.specs.Runnable.{IsRunnable, resource_name}
use Rattle.session_log.specs.declared.sessions.Snapshot.{Snapshot}
use Rattle.resource_memory.specs.Known.{Known}
use Rattle.node_steps.specs.Nodes.{place_of}
use Rattle.node_seat.specs.declared.faults.RunFault.{RunFault}
use Rattle.scenario_nodes.specs.Nodes.{Held, Holds, Server, coordinator_server, name_of, resource_server, resource_servers, server_names, servers_of}
use Rattle.scenario_nodes.specs.Opening.{IsBack, IsBackTaken, IsNotAsked, IsNotHad, IsNotLoaded, IsUntouched, ShowNoRecord, ShowsUnread, StopsLoading}
use Rattle.scenario_nodes.specs.Reading.{GivesStill, HoldStill, IsReadBack, IsReadFault, IsSound, ReadsCoordinator, ReadsNodes, ReadsResource, SaysResource, SaysResources}
use Rattle.scenario_nodes.specs.Shelves.{IsDiskName, ReturnsAll, coordinator_name, second_name}
use Rattle.scenario_nodes.specs.Together.{AreApart, IsOfOne, numbered}
use Rattle.scenario_nodes.proofs.AllBack.{back_between, fault_wider, first_stops, of_after, of_at, record_before, unread_before}
use Rattle.scenario_nodes.proofs.AllBack.{of_before as of_first}
use Rattle.scenario_nodes.proofs.Apart.{servers_apart}
use Rattle.scenario_nodes.proofs.Cut.{names_before, names_up_to, numbered_around, numbered_up_to, of_before, of_it}
use Rattle.scenario_nodes.proofs.Numbered.{names_append, names_numbered, names_of}
use Rattle.scenario_nodes.proofs.ReadSound.{cause_wider, place_among, sound_before}
use Rattle.scenario_nodes.proofs.ReadStill.{still_here, still_then}
use Rattle.scenario_nodes.proofs.Returned.{all_after, all_same, are_next_since, given_since, holds_since, keeps_then, keeps_wider, same_back, same_then}
use Rattle.scenario_nodes.proofs.Together.{all_append, all_behind, all_front, apart_behind, apart_between, apart_front, each_append, of_behind, of_front, takes_none}

-- ---- the shelf gives what it gave

pub holds_still : {D : Type 0} (state : D → DiskState) (s : Scenario) (old new : ShelfState D) (vs : List Server) → AllByRecursion (IsReadBack state s old new) vs → AllByRecursion (Holds state old s) vs
    → AllByRecursion (Holds state new s) vs
holds_still state s old new [] back holds = tt
holds_still state s old new (v ∷ vs) back holds = (
  record { first = holds.0.first; second = holds.0.second; next = back.0.next holds.0.first holds.0.second holds.0.next; stand = holds.0.stand },
  holds_still state s old new vs back.1 holds.1,
)

-- ---- nodes behind others that were read

module _ {D : Type 0} (state : D → DiskState) (s : Scenario) (first servers : List Server) (old now new : ShelfState D) (apart : AreApart (map name_of first ++ map name_of servers))
    (before : KeepsOthers (IsOfOne (map name_of first)) old now) (keeps : KeepsOthers (IsOfOne (map name_of servers)) now new) where
  away : (n : List ℕ) → IsOfOne (map name_of servers) n → ¬ IsOfOne (map name_of first) n
  away n o theirs = apart_between (map name_of first) (map name_of servers) apart n theirs o

  -- under a name of the others the shelf was the same before the first ones were read
  same_before : (n : List ℕ) → IsOfOne (map name_of servers) n → SameUnder n old now
  same_before n o = before.others n (away n o)

  untouched_since : (n : List ℕ) → IsOfOne (map name_of servers) n → IsUntouched now new n → IsUntouched old new n
  untouched_since n o u = record {
    not_made = λ has. ⊎_elim (λ had. had) (λ theirs. absurd (away n o theirs)) (before.made n (u.not_made has));
    same = same_then n old now new (same_before n o) u.same;
  }

  back_taken_since : (n : List ℕ) → IsOfOne (map name_of servers) n → IsBackTaken state s.disk now new n → IsBackTaken state s.disk old new n
  back_taken_since n o b = record {
    disk = b.disk;
    back = given_since old now new n b.disk before.tells (before.gives n) b.back;
    taken = taken_since state (now.given_back n) (old.given_back n) s.disk (same_back n old now (same_before n o)) (state b.disk) b.taken;
  }

  not_asked_since : (vs : List Server) → ((n : List ℕ) → IsOfOne (map name_of vs) n → IsOfOne (map name_of servers) n) → AllByRecursion (IsNotAsked now new) vs → AllByRecursion (IsNotAsked old new) vs
  not_asked_since [] among all = tt
  not_asked_since (v ∷ vs) among all = (
    (untouched_since v.name (among v.name (inl (inl refl))) all.0.0, untouched_since (second_name v.name) (among (second_name v.name) (inl (inr refl))) all.0.1),
    not_asked_since vs (λ n o. among n (inr o)) all.1,
  )

  module _ (v : Server) (among : (n : List ℕ) → IsDiskName v.name n → IsOfOne (map name_of servers) n) where
    same_first : SameUnder v.name old now
    same_first = same_before v.name (among v.name (inl refl))

    same_second : SameUnder (second_name v.name) old now
    same_second = same_before (second_name v.name) (among (second_name v.name) (inr refl))

    moved : (Show Shown : Server → D × D → Type 0) → ((d : D × D) → Show v d → Shown v d) → IsBack Show now new v → IsBack Shown old new v
    moved Show Shown to i = back_between Show Shown v (IsOfOne (map name_of first)) (IsOfOne []) old now new new before (λ n named none. none) (takes_none new).keeps to i

    refused_since : (missed : RunFault) → IsNotLoaded state s now new v missed → IsNotLoaded state s old new v missed
    refused_since missed refused =
        ⊎_elim (λ (h : IsNotHad state s.disk (place_of v.role) now new v.name missed). inl (record {
          cause = fault_wider (place_of v.role) old now new new missed before.faults (omega arith) h.cause;
          first = ⊎_elim (λ (u : IsUntouched now new v.name). inl (untouched_since v.name (among v.name (inl refl)) u))
              (λ (b : IsBackTaken state s.disk now new v.name). inr (back_taken_since v.name (among v.name (inl refl)) b)) h.first;
          second = untouched_since (second_name v.name) (among (second_name v.name) (inr refl)) h.second;
        })) (λ (b : IsBack (ShowsUnread state s now missed) now new v).
        inr (moved (ShowsUnread state s now missed) (ShowsUnread state s old missed) (unread_before state s v old now same_first same_second missed) b)) refused

    record_since : IsBack (ShowNoRecord state s now) now new v → IsBack (ShowNoRecord state s old) old new v
    record_since b = moved (ShowNoRecord state s now) (ShowNoRecord state s old) (record_before state s v old now same_first same_second) b

  records_since : (vs : List Server) → ((n : List ℕ) → IsOfOne (map name_of vs) n → IsOfOne (map name_of servers) n) → AllByRecursion (IsBack (ShowNoRecord state s now) now new) vs
      → AllByRecursion (IsBack (ShowNoRecord state s old) old new) vs
  records_since [] among all = tt
  records_since (v ∷ vs) among all = (record_since v (λ n named. among n (inl named)) all.0, records_since vs (λ n o. among n (inr o)) all.1)

  -- the others were read too
  pub read_since : (vs : List Server) → ((n : List ℕ) → IsOfOne (map name_of vs) n → IsOfOne (map name_of servers) n) → AllByRecursion (IsReadBack state s now new) vs → AllByRecursion (IsReadBack state s old new) vs
  read_since [] among all = tt
  read_since (v ∷ vs) among all =
      let its : (n : List ℕ) → IsDiskName v.name n → IsOfOne (map name_of servers) n = λ n named. among n (inl named) in (
        record {
          back = record_since v its all.0.back;
          next = λ x y next. all.0.next x y (are_next_since state s.disk v.name x y old now (same_first v its) (same_second v its) next);
        },
        read_since vs (λ n o. among n (inr o)) all.1,
      )

  pub holds_now : (vs : List Server) → ((n : List ℕ) → IsOfOne (map name_of vs) n → IsOfOne (map name_of servers) n) → AllByRecursion (Holds state old s) vs → AllByRecursion (Holds state now s) vs
  holds_now [] among all = tt
  holds_now (v ∷ vs) among all =
      let its : (n : List ℕ) → IsDiskName v.name n → IsOfOne (map name_of servers) n = λ n named. among n (inl named) in
      (holds_since state s v old now (same_first v its) (same_second v its) all.0, holds_now vs (λ n o. among n (inr o)) all.1)

  -- the first ones still were
  still_away : (v : Server) → ((n : List ℕ) → IsDiskName v.name n → IsOfOne (map name_of first) n) → (n : List ℕ) → IsDiskName v.name n → ¬ IsOfOne (map name_of servers) n
  still_away v among n named theirs = away n theirs (among n named)

  still_back : (v : Server) → ((n : List ℕ) → IsDiskName v.name n → IsOfOne (map name_of first) n) → IsBack (ShowNoRecord state s old) old now v → IsBack (ShowNoRecord state s old) old new v
  still_back v among b =
      back_between (ShowNoRecord state s old) (ShowNoRecord state s old) v (IsOfOne []) (IsOfOne (map name_of servers)) old old now new (takes_none old).keeps (still_away v among) keeps (λ d shows. shows) b

  pub read_still : (vs : List Server) → ((n : List ℕ) → IsOfOne (map name_of vs) n → IsOfOne (map name_of first) n) → AllByRecursion (IsReadBack state s old now) vs → AllByRecursion (IsReadBack state s old new) vs
  read_still [] among all = tt
  read_still (v ∷ vs) among all =
      let its : (n : List ℕ) → IsDiskName v.name n → IsOfOne (map name_of first) n = λ n named. among n (inl named) in (
        record {
          back = still_back v its all.0.back;
          next = λ x y next.
              are_next_since state s.disk v.name x y now new (keeps.others v.name (still_away v its v.name (inl refl))) (keeps.others (second_name v.name) (still_away v its (second_name v.name) (inr refl)))
              (all.0.next x y next);
        },
        read_still vs (λ n o. among n (inr o)) all.1,
      )

  loaded_still : (vs : List Server) → ((n : List ℕ) → IsOfOne (map name_of vs) n → IsOfOne (map name_of first) n) → AllByRecursion (IsReadBack state s old now) vs → AllByRecursion (IsBack (ShowNoRecord state s old) old new) vs
  loaded_still [] among all = tt
  loaded_still (v ∷ vs) among all = (still_back v (λ n named. among n (inl named)) all.0.back, loaded_still vs (λ n o. among n (inr o)) all.1)

  pub reading_both : AllByRecursion (IsReadBack state s old now) first → AllByRecursion (IsReadBack state s now new) servers → AllByRecursion (IsReadBack state s old new) (first ++ servers)
  reading_both one two = all_append (IsReadBack state s old new) first servers (read_still first (λ n o. o) one) (read_since servers (λ n o. o) two)

  -- one of the others wasn't
  pub reading_stops : (missed : RunFault) → AllByRecursion (IsReadBack state s old now) first → StopsLoading state s servers now new missed → StopsLoading state s (first ++ servers) old new missed
  reading_stops missed read l =
      let among : (n : List ℕ) → IsOfOne (map name_of (l.before ++ l.server ∷ l.behind)) n → IsOfOne (map name_of servers) n = λ n o. subst (λ (vs : List Server). IsOfOne (map name_of vs) n) (sym l.all) o in
      record {
        before = first ++ l.before;
        server = l.server;
        behind = l.behind;
        all = ap (λ (vs : List Server). first ++ vs) l.all ∙ sym (append_assoc first l.before (l.server ∷ l.behind));
        loaded = all_append (IsBack (ShowNoRecord state s old) old new) first l.before (loaded_still first (λ n o. o) read)
            (records_since l.before (λ n o. among n (of_first l.before (l.server ∷ l.behind) n o)) l.loaded);
        refused = refused_since l.server (λ n named. among n (of_at l.before l.behind l.server n named)) missed l.refused;
        not_asked = not_asked_since l.behind (λ n o. among n (of_after l.before l.behind l.server n o)) l.not_asked;
      }

-- ---- the resources, one by one

abbrev pub first_servers : Scenario → Held → ℕ → List Server
first_servers s held k = map (resource_server s held) (numbered 1 (take k s.resources))

-- so many of the first ones were read
pub record AreReading {D : Type 0} (state : D → DiskState) (s : Scenario) (old now : ShelfState D) (k : ℕ) (memories : List Known) : Type 0 where
  pub says : (held : Held) → AllByRecursion (Holds state old s) (first_servers s held k) → SaysResources s (numbered 1 (take k s.resources)) held memories
  pub sound : (held : Held) → AllByRecursion (IsSound state old s) (first_servers s held k)
  pub back : (held : Held) → AllByRecursion (IsReadBack state s old now) (first_servers s held k)
  pub still : GivesStill state s.disk old now
  pub keeps : KeepsOthers (IsOfOne (names_before s.resources k)) old now
  pub returned : ReturnsAll old now

pub reading_none : {D : Type 0} (state : D → DiskState) (s : Scenario) (a : ShelfState D) (memories : List Known) → memories ≡ [] → AreReading state s a a 0 memories
reading_none state s a memories none =
    subst (AreReading state s a a 0) (sym none) (record { says = λ held holds. tt; sound = λ held. tt; back = λ held. tt; still = still_here state s.disk a; keeps = (takes_none a).keeps; returned = all_same a })

module _ {D : Type 0} (state : D → DiskState) (s : Scenario) (old now : ShelfState D) (k : ℕ) (memories : List Known) (a : AreReading state s old now k memories) where
  module _ (def : ResourceDef) (here : slice_get s.resources k ≡ Some def) (apart : AreApart (map resource_name s.resources)) where
    abbrev one : ℕ × ResourceDef
    one = (k + 1, def)

    abbrev behind : List (ℕ × ResourceDef)
    behind = numbered (k + 1 + 1) (drop (k + 1) s.resources)

    module _ (held : Held) where
      named : map name_of (first_servers s held k) ≡ names_before s.resources k
      named = names_numbered s held 1 (take k s.resources)

      around : resource_servers s held ≡ first_servers s held k ++ resource_server s held one ∷ map (resource_server s held) behind
      around = ap (map (resource_server s held)) (numbered_around s.resources k def here) ∙ map-append (resource_server s held) (numbered 1 (take k s.resources)) (one ∷ behind)

      up_to : first_servers s held (k + 1) ≡ first_servers s held k ++ resource_server s held one ∷ []
      up_to = ap (map (resource_server s held)) (numbered_up_to s.resources k def here) ∙ map-append (resource_server s held) (numbered 1 (take k s.resources)) (one ∷ [])

      apart_around : AreApart (map name_of (first_servers s held k) ++ def.name ∷ names_of s held behind)
      apart_around =
          subst AreApart (ap (names_of s held) (numbered_around s.resources k def here) ∙ names_append s held (numbered 1 (take k s.resources)) (one ∷ behind))
          (subst AreApart (sym (names_numbered s held 1 s.resources)) apart)

      apart_one : AreApart (map name_of (first_servers s held k) ++ def.name ∷ [])
      apart_one =
          apart_front (map name_of (first_servers s held k) ++ def.name ∷ []) (names_of s held behind)
          (subst AreApart (sym (append_assoc (map name_of (first_servers s held k)) (def.name ∷ []) (names_of s held behind))) apart_around)

      its_keeps : KeepsOthers (IsOfOne (map name_of (first_servers s held k))) old now
      its_keeps = subst (λ (names : List (List ℕ)). KeepsOthers (IsOfOne names) old now) (sym named) a.keeps

    keeps_both : (new : ShelfState D) → KeepsOthers (IsDiskName def.name) now new → KeepsOthers (IsOfOne (names_before s.resources (k + 1))) old new
    keeps_both new keeps =
        subst (λ (names : List (List ℕ)). KeepsOthers (IsOfOne names) old new) (sym (names_up_to s.resources k def here))
        (keeps_then (IsOfOne (names_before s.resources k)) (IsDiskName def.name) (IsOfOne (names_before s.resources k ++ def.name ∷ [])) old now new
        (of_front (names_before s.resources k) (def.name ∷ [])) (λ n its. of_behind (names_before s.resources k) (def.name ∷ []) n (inl its)) a.keeps keeps)

    -- the next one was read
    pub reading_next : (new : ShelfState D) (memory : Known) (more : List Known) → more ≡ memories ++ memory ∷ [] → ReadsResource state s one now new (Ok memory) → AreReading state s old new (k + 1) more
    reading_next new memory more same r =
        let keeps : (held : Held) → KeepsOthers (IsOfOne (def.name ∷ [])) now new = λ held. keeps_wider (IsDiskName def.name) (IsOfOne (def.name ∷ [])) now new (λ n its. inl its) r.keeps in
        subst (AreReading state s old new (k + 1)) (sym same) (record {
          says = λ held holds.
              let both = subst (AllByRecursion (Holds state old s)) (up_to held) holds in
              let front = all_front (Holds state old s) (first_servers s held k) (resource_server s held one ∷ []) both in
              let last = all_behind (Holds state old s) (first_servers s held k) (resource_server s held one ∷ []) both in
              let its = holds_now state s (first_servers s held k) (resource_server s held one ∷ []) old now new (apart_one held) (its_keeps held) (keeps held) (resource_server s held one ∷ []) (λ n o. o) last in
              subst (λ (ds : List (ℕ × ResourceDef)). SaysResources s ds held (memories ++ memory ∷ [])) (sym (numbered_up_to s.resources k def here))
              (each_append (λ (d : ℕ × ResourceDef) (m : Known). SaysResource s d held m) (numbered 1 (take k s.resources)) (one ∷ []) memories (memory ∷ []) (a.says held front) (r.says held its.0, tt));
          sound = λ held.
              subst (AllByRecursion (IsSound state old s)) (sym (up_to held))
              (all_append (IsSound state old s) (first_servers s held k) (resource_server s held one ∷ []) (a.sound held) (sound_before state s old now a.still (resource_server s held one) (r.sound held), tt));
          back = λ held.
              subst (AllByRecursion (IsReadBack state s old new)) (sym (up_to held))
              (reading_both state s (first_servers s held k) (resource_server s held one ∷ []) old now new (apart_one held) (its_keeps held) (keeps held) (a.back held) (r.back held, tt));
          still = still_then state s.disk old now new a.still r.still;
          keeps = keeps_both new r.keeps;
          returned = all_after old now new a.keeps.tells a.returned r.returned;
        })

    -- or it wasn't
    module _ (new : ShelfState D) (missed : RunFault) (r : ReadsResource state s one now new (Err missed)) where
      stops : (held : Held) → StopsLoading state s (resource_servers s held) old new missed
      stops held =
          let front = first_servers s held k in
          let v = resource_server s held one in
          let rest = map (resource_server s held) behind in
          subst (λ (vs : List Server). StopsLoading state s vs old new missed) (sym (around held))
          (reading_stops state s front (v ∷ rest) old now new (apart_around held) (its_keeps held) (keeps_wider (IsDiskName def.name) (IsOfOne (def.name ∷ map name_of rest)) now new (λ n its. inl its) r.keeps) missed (a.back held)
          (first_stops state s now new v rest missed (apart_behind (map name_of front) (def.name ∷ names_of s held behind) (apart_around held)) r.keeps (r.refused held)))

      caused : (held : Held) → IsReadFault (resource_servers s held) missed
      caused held =
          let front = first_servers s held k in
          let v = resource_server s held one in
          let rest = map (resource_server s held) behind in
          subst (λ (vs : List Server). IsReadFault vs missed) (sym (around held)) (cause_wider (v ∷ []) (front ++ v ∷ rest) (place_among front v rest) missed (r.cause held))

      pub reading_failed : {K : Type 0} (Says : Held → K → Type 0) → ReadsNodes state s (map resource_name s.resources) (resource_servers s) Says old new (Err missed)
      reading_failed Says = record {
        says = tt;
        sound = tt;
        back = tt;
        refused = stops;
        cause = caused;
        still = still_then state s.disk old now new a.still r.still;
        keeps = keeps_then (IsOfOne (names_before s.resources k)) (IsDiskName def.name) (IsOfOne (map resource_name s.resources)) old now new (of_before s.resources k def here) (of_it s.resources k def here) a.keeps r.keeps;
        returned = all_after old now new a.keeps.tells a.returned r.returned;
      }

  -- all were read
  module _ (end : k ≡ length s.resources) where
    whole : take k s.resources ≡ s.resources
    whole = take_all k s.resources (omega (arith, end))

    pub all_says : (held : Held) → AllByRecursion (Holds state old s) (resource_servers s held) → SaysResources s (numbered 1 s.resources) held memories
    all_says held holds =
        subst (λ (ds : List ResourceDef). SaysResources s (numbered 1 ds) held memories) whole
        (a.says held (subst (λ (ds : List ResourceDef). AllByRecursion (Holds state old s) (map (resource_server s held) (numbered 1 ds))) (sym whole) holds))

    pub all_sound : (held : Held) → AllByRecursion (IsSound state old s) (resource_servers s held)
    all_sound held = subst (λ (ds : List ResourceDef). AllByRecursion (IsSound state old s) (map (resource_server s held) (numbered 1 ds))) whole (a.sound held)

    pub all_read : (held : Held) → AllByRecursion (IsReadBack state s old now) (resource_servers s held)
    all_read held = subst (λ (ds : List ResourceDef). AllByRecursion (IsReadBack state s old now) (map (resource_server s held) (numbered 1 ds))) whole (a.back held)

    pub all_keep : KeepsOthers (IsOfOne (map resource_name s.resources)) old now
    all_keep = subst (λ (ds : List ResourceDef). KeepsOthers (IsOfOne (map resource_name ds)) old now) whole a.keeps

-- ---- the coordinator, and the resources behind it

module _ {D : Type 0} (state : D → DiskState) (s : Scenario) (runs : IsRunnable s) (old now new : ShelfState D) (sessions : Snapshot) (c : ReadsCoordinator state s coordinator_name old now (Ok sessions)) where
  abbrev names : List (List ℕ)
  names = map resource_name s.resources

  module _ (keeps : KeepsOthers (IsOfOne names) now new) (held : Held) where
    named_all : map name_of (resource_servers s held) ≡ names
    named_all = names_numbered s held 1 s.resources

    apart_all : AreApart (coordinator_name ∷ map name_of (resource_servers s held))
    apart_all = subst (λ (ns : List (List ℕ)). AreApart (coordinator_name ∷ ns)) (sym named_all) (servers_apart s runs)

    first_keeps : KeepsOthers (IsOfOne (coordinator_name ∷ [])) old now
    first_keeps = keeps_wider (IsDiskName coordinator_name) (IsOfOne (coordinator_name ∷ [])) old now (λ n its. inl its) c.keeps

    rest_keeps : KeepsOthers (IsOfOne (map name_of (resource_servers s held))) now new
    rest_keeps = subst (λ (ns : List (List ℕ)). KeepsOthers (IsOfOne ns) now new) (sym named_all) keeps

    pub both_read : AllByRecursion (IsReadBack state s now new) (resource_servers s held) → AllByRecursion (IsReadBack state s old new) (servers_of s held)
    both_read read = reading_both state s (coordinator_server s held ∷ []) (resource_servers s held) old now new apart_all first_keeps rest_keeps (c.back held, tt) read

    pub both_hold : AllByRecursion (Holds state old s) (resource_servers s held) → AllByRecursion (Holds state now s) (resource_servers s held)
    both_hold holds = holds_now state s (coordinator_server s held ∷ []) (resource_servers s held) old now new apart_all first_keeps rest_keeps (resource_servers s held) (λ n o. o) holds

    pub rest_stops : (missed : RunFault) → StopsLoading state s (resource_servers s held) now new missed → StopsLoading state s (servers_of s held) old new missed
    rest_stops missed stops = reading_stops state s (coordinator_server s held ∷ []) (resource_servers s held) old now new apart_all first_keeps rest_keeps missed (c.back held, tt) stops

  pub both_keep : KeepsOthers (IsOfOne names) now new → KeepsOthers (IsOfOne (server_names s)) old new
  both_keep keeps = keeps_then (IsDiskName coordinator_name) (IsOfOne names) (IsOfOne (server_names s)) old now new (λ n its. inl its) (λ n o. inr o) c.keeps keeps

-- the disks of all nodes hold what they held
pub hold_still : {D : Type 0} (state : D → DiskState) (s : Scenario) (old new : ShelfState D) → ((held : Held) → AllByRecursion (IsReadBack state s old new) (servers_of s held)) → HoldStill state s old new
hold_still state s old new back held holds = holds_still state s old new (servers_of s held) (back held) holds
