-- Members of the schedule that are played, one after the other.
use Rattle.std.proofs.Common.{◌≡◌, ◌+◌, ◌-◌, ◌<◌, ◌≤◌, ◌^◌, ℕ, zero, suc, List, [], ◌∷◌, ◌++◌, drop, length, map, slice_get, Option, Some, None, Result, refl, ap, sym, subst, ◌∙◌, arith}
use Rattle.disk_model.specs.Disk.{DiskState}
use Rattle.seata_types.specs.declared.ids.Place.{Place}
use Rattle.seata_types.specs.declared.ids.Place.TheVariants as place
use Rattle.seata_types.specs.declared.messages.Input.TheVariants as input
use Rattle.seata_types.specs.declared.statements.Stmt.{Stmt}
use Rattle.scenario_form.specs.declared.scenarios.Scenario.{Scenario}
use Rattle.scenario_form.specs.declared.scenarios.ScheduleItem.{ScheduleItem}
use Rattle.scenario_form.specs.Contents.{IsBetween}
use Rattle.scenario_form.specs.Runnable.{all_steps, steps_of}
use Rattle.scenario_form.specs.Runnable.{IsPlaceAmong, IsRunnable, IsServerAmong}
use Rattle.history_rules.specs.Own.{Event, Stopped, Crashed, Restarted}
use Rattle.history_rules.specs.Nodes.{ComesTo, Role, role_at}
use Rattle.history_rules.specs.Histories.{Moment}
use Rattle.history_rules.specs.Schedules.{Auto, CrashOf, Item, LocalOf, OutsideOf, RestartOf, StopOf, TurnOf, local_place, singles, singles_of, ticks_of, times}
use Rattle.history_text.specs.declared.entries.Cause.{Cause}
use Rattle.history_text.specs.declared.entries.Cause.TheVariants as cause
use Rattle.history_text.specs.Worlds.{item_of, resources_of, world_of}
use Rattle.node_seat.specs.Entering.{IsOfDisks}
use Rattle.node_seat.specs.Keeping.{IsInputOf}
use Rattle.node_seat.specs.declared.faults.RunFault.{RunFault}
use Rattle.history_law.specs.MessageSafety.{AreOfResources}
use Rattle.history_rules.specs.CoordinatorMemory.{start}
use Rattle.scenario_nodes.specs.Nodes.{Held}
use Rattle.replay_runner.specs.declared.runs.Run.{Run}
use Rattle.replay_runner.specs.Going.{AreLocals, CanGo, CanMake, MayBeGiven}
use Rattle.replay_runner.specs.Letters.{AreMessages}
use Rattle.replay_runner.specs.Plays.{Brings, HasMade, HasPlayed, IsAt, Made, Names, Plays, Ready}
use Rattle.replay_runner.specs.Standing.{AreNodes}
use Rattle.replay_runner.specs.Steps.{left_of}
use Rattle.replay_runner.proofs.Chosen.{ready_at}
use Rattle.replay_runner.proofs.Lists.{drop_get, drop_past, member_at}
use Rattle.replay_runner.proofs.Locals.{local_stands}
use Rattle.replay_runner.proofs.Played.{brings_crash, brings_local, brings_outside, brings_restart, brings_stop, brings_turn, made_quietly}
use Rattle.replay_runner.proofs.Roles.{comes_server, place_role, server_place}

-- ---- places of the schedule

-- a node stands at each place of the nodes
pub role_here : {D K : Type 0} (state : D → DiskState) (r : Run D K) (here : IsAt state r) (p : Place) → IsPlaceAmong (length r.nodes.resources.items) (length r.nodes.managers.items) p
    → (role : Role) × (role_at (world_of here.s) here.held.past p ≡ Some role)
role_here state r here p fits =
    place_role here.s here.held.past p
    (subst (λ n. IsPlaceAmong n (length here.s.managers) p) here.plays.nodes.resources (subst (λ n. IsPlaceAmong (length r.nodes.resources.items) n p) here.plays.nodes.managers fits))

-- ---- before the first step

pub plays_nothing : {D K : Type 0} (state : D → DiskState) (s : Scenario) (held : Held) (r : Run D K) → AreNodes state s held r.nodes [] → AreOfResources (world_of s) held.past.sessions → r.network.items ≡ [] → r.places.items ≡ [] → AreMessages r.messages [] → r.clock ≡ start held.past.sessions → Plays state s held r []
plays_nothing state s held r nodes named network places messages time = record {
  nodes = nodes;
  passed = network;
  standing = places;
  messages = messages;
  clocked = time;
  slow = let at = time in omega (arith, at);
  legal = tt;
  follows = tt;
  fits = tt;
  named = named;
}

-- ---- single steps

may_turn : (managers resources : ℕ) (p : Place) → MayBeGiven managers resources p input.Turn
may_turn managers resources place.Net = tt
may_turn managers resources place.Tc = tt
may_turn managers resources (place.Res n) = tt
may_turn managers resources (place.Man n) = tt

-- a turn can be given to each node
pub enters_turn : {D K : Type 0} (r : Run D K) (p : Place) → IsPlaceAmong (length r.nodes.resources.items) (length r.nodes.managers.items) p → CanGo r 1 → CanMake r p cause.Turn (Some input.Turn)
enters_turn r p there can = record { can = can; there = there; comes = tt; takes = (tt, may_turn (length r.nodes.managers.items) (length r.nodes.resources.items) p) }

pub turn_made : {D K : Type 0} (state : D → DiskState) (old new : Run D K) (p : Place) → IsPlaceAmong (length old.nodes.resources.items) (length old.nodes.managers.items) p → (names : Names state old (TurnOf p))
    → (r : Result (Unit {0}) RunFault) → ((b : Brings state old p cause.Turn (Some input.Turn)) → Made state old new p cause.Turn (Some input.Turn) b r) → HasMade state old new names.here r
turn_made state old new p fits names r made =
    let there = role_here state old names.here p fits in
    let b = brings_turn state old p names there.0 there.1 in
    made_quietly state old new p cause.Turn (Some input.Turn) b r (λ k. refl) (made b)

-- a member of one step names what it says
abbrev pub single : {D K : Type 0} (state : D → DiskState) (r : Run D K) (item : Item) → ticks_of item ≡ 0 → Ready state r (item ∷ []) → Names state r item
single state r item still ready = record { here = ready_at state r item ready; still = still; names = refl }

-- the same steps are next of a member that is the same
abbrev pub ready_as : {D K : Type 0} (state : D → DiskState) (r : Run D K) (item other : ScheduleItem) → item ≡ other → Ready state r (singles_of (item_of item)) → Ready state r (singles_of (item_of other))
ready_as state r item other same ready = record {
  s = ready.s;
  held = ready.held;
  runnable = ready.runnable;
  ms = ready.ms;
  plays = ready.plays;
  rest = ready.rest;
  is_next = ready.is_next ∙ ap (λ i. singles_of (item_of i) ++ ready.rest) same;
}

-- the first of the steps that the replay chooses
pub times_first : (n : ℕ) → 0 < n → times n (Auto 1) ≡ Auto 1 ∷ times (n - 1) (Auto 1)
times_first zero some = absurd (omega (arith, some))
times_first (suc n) some = ap (λ k. Auto 1 ∷ times k (Auto 1)) (let same : n ≡ suc n - 1 = omega arith in same)

abbrev pub choosing : {D K : Type 0} (state : D → DiskState) (r : Run D K) (s : Scenario) (held : Held) (ms : List Moment) (n : ℕ) (rest : List Item) → IsRunnable s → Plays state s held r ms → 0 < n
    → left_of s ms ≡ times n (Auto 1) ++ rest → Names state r (Auto 1)
choosing state r s held ms n rest runs plays some left =
    single state r (Auto 1) refl (record { s = s; held = held; runnable = runs; ms = ms; plays = plays; rest = times (n - 1) (Auto 1) ++ rest; is_next = left ∙ ap (λ l. l ++ rest) (times_first n some) })

-- the others are left, where one more was counted
pub one_fewer : (s : Scenario) (ms : List Moment) (steps counter : ℕ) (rest : List Item) → left_of s ms ≡ times (steps - counter - 1) (Auto 1) ++ rest → left_of s ms ≡ times (steps - (counter + 1)) (Auto 1) ++ rest
one_fewer s ms steps counter rest left = left ∙ ap (λ n. times n (Auto 1) ++ rest) (let same : steps - counter - 1 ≡ steps - (counter + 1) = omega arith in same)

-- all are, before the first; and none behind the last
pub none_chosen : (s : Scenario) (ms : List Moment) (steps : ℕ) (rest : List Item) → left_of s ms ≡ times steps (Auto 1) ++ rest → left_of s ms ≡ times (steps - 0) (Auto 1) ++ rest
none_chosen s ms steps rest left = left ∙ ap (λ n. times n (Auto 1) ++ rest) (let same : steps ≡ steps - 0 = omega arith in same)

pub all_chosen : (s : Scenario) (ms : List Moment) (steps counter : ℕ) (rest : List Item) → steps ≤ counter → left_of s ms ≡ times (steps - counter) (Auto 1) ++ rest → left_of s ms ≡ rest
all_chosen s ms steps counter rest whole left = left ∙ ap (λ n. times n (Auto 1) ++ rest) (let none : steps - counter ≡ 0 = omega (arith, whole) in none)

-- ---- all members

-- the steps of the next member stand before those of the others
pub member_next : (items : List ScheduleItem) (k : ℕ) (item : ScheduleItem) (behind : List ScheduleItem) → drop k items ≡ item ∷ behind
    → singles (map item_of (drop k items)) ≡ singles_of (item_of item) ++ singles (map item_of behind)
member_next items k item behind e = ap (λ is. singles (map item_of is)) e

abbrev pub member_ready : {D K : Type 0} (state : D → DiskState) (r : Run D K) (s : Scenario) (held : Held) (ms : List Moment) (item : ScheduleItem) (behind : List ScheduleItem) → IsRunnable s → Plays state s held r ms
    → left_of s ms ≡ singles_of (item_of item) ++ singles (map item_of behind) → Ready state r (singles_of (item_of item))
member_ready state r s held ms item behind runs plays left = record { s = s; held = held; runnable = runs; ms = ms; plays = plays; rest = singles (map item_of behind); is_next = left }

module _ {D K : Type 0} (state : D → DiskState) (r : Run D K) (schedule : List ScheduleItem) (k : ℕ) (item : ScheduleItem) (here : slice_get schedule k ≡ Some item) (s : Scenario) (held : Held) (runs : IsRunnable s)
    (ms : List Moment) (plays : Plays state s held r ms) (left : left_of s ms ≡ singles (map item_of (drop k schedule))) where
  -- the k-th member of the schedule is the next
  abbrev pub next_member : Ready state r (singles_of (item_of item))
  next_member = member_ready state r s held ms item (drop (k + 1) schedule) runs plays (left ∙ member_next schedule k item (drop (k + 1) schedule) (drop_get schedule k item here))

-- its steps are the first of those that are left
pub next_room : (schedule : List ScheduleItem) (k : ℕ) (item : ScheduleItem) → slice_get schedule k ≡ Some item → all_steps (drop k schedule) ≡ steps_of item + all_steps (drop (k + 1) schedule)
next_room schedule k item here = ap all_steps (drop_get schedule k item here)

-- before the first, and behind the last
pub none_played : (s : Scenario) (schedule : List ScheduleItem) → s.schedule ≡ schedule → left_of s [] ≡ singles (map item_of (drop 0 schedule))
none_played s schedule same = ap (λ items. singles (map item_of items)) same

pub all_played : (s : Scenario) (schedule : List ScheduleItem) (ms : List Moment) (k : ℕ) → length schedule ≤ k → left_of s ms ≡ singles (map item_of (drop k schedule)) → left_of s ms ≡ []
all_played s schedule ms k past left = left ∙ ap (λ items. singles (map item_of items)) (drop_past schedule k past)

-- ---- events of disks

-- one can be entered
pub enters_disks : {D K : Type 0} (r : Run D K) (p : Place) (why : Cause) → IsServerAmong (length r.nodes.resources.items) p → IsInputOf (length r.places.items + 1) why None → IsOfDisks why → CanGo r 1 → CanMake r p why None
enters_disks r p why fits comes disks can = record {
  can = can;
  there = server_place (length r.nodes.resources.items) (length r.nodes.managers.items) p fits;
  comes = comes;
  takes = (fits, disks);
}

module _ {D K : Type 0} (state : D → DiskState) (old new : Run D K) (p : Place) (fits : IsServerAmong (length old.nodes.resources.items) p) where
  server_role : (here : IsAt state old) → (role : Role) × (role_at (world_of here.s) here.held.past p ≡ Some role)
  server_role here = role_here state old here p (server_place (length old.nodes.resources.items) (length old.nodes.managers.items) p fits)

  server_fits : (here : IsAt state old) (event : Event) → ComesTo (server_role here).0 event
  server_fits here event = comes_server here.s here.held.past (length old.nodes.resources.items) p (server_role here).0 fits (server_role here).1 event

  pub stop_made : (calls : ℕ) (ready : Ready state old (StopOf p calls ∷ [])) (r : Result (Unit {0}) RunFault) → ((b : Brings state old p (cause.Stop calls) None) → Made state old new p (cause.Stop calls) None b r)
      → HasPlayed state ready.s ready.held new ready.rest r
  stop_made calls ready r made =
      let names = single state old (StopOf p calls) refl ready in
      let b = brings_stop state old p calls names (server_role names.here).0 (server_role names.here).1 (server_fits names.here (Stopped calls)) in
      made_quietly state old new p (cause.Stop calls) None b r (λ k. refl) (made b)

  pub crash_made : (ready : Ready state old (CrashOf p ∷ [])) (r : Result (Unit {0}) RunFault) → ((b : Brings state old p cause.Crash None) → Made state old new p cause.Crash None b r)
      → HasPlayed state ready.s ready.held new ready.rest r
  crash_made ready r made =
      let names = single state old (CrashOf p) refl ready in
      let b = brings_crash state old p names (server_role names.here).0 (server_role names.here).1 (server_fits names.here Crashed) in
      made_quietly state old new p cause.Crash None b r (λ k. refl) (made b)

  pub restart_made : (pick : ℕ) (calls : Option ℕ) (ready : Ready state old (RestartOf p pick calls ∷ [])) (r : Result (Unit {0}) RunFault)
      → ((b : Brings state old p (cause.Restart pick calls) None) → Made state old new p (cause.Restart pick calls) None b r) → HasPlayed state ready.s ready.held new ready.rest r
  restart_made pick calls ready r made =
      let names = single state old (RestartOf p pick calls) refl ready in
      let b = brings_restart state old p pick calls names (server_role names.here).0 (server_role names.here).1 (server_fits names.here (Restarted pick calls)) in
      made_quietly state old new p (cause.Restart pick calls) None b r (λ k. refl) (made b)

-- ---- local transactions

module _ {D K : Type 0} (r : Run D K) (locals : List (ℕ × List Stmt)) (number : ℕ) (within : IsBetween 1 (length locals) number) (are : AreLocals (length r.nodes.resources.items) locals) (p : Place)
    (stands : (local : ℕ × List Stmt) → slice_get locals (number - 1) ≡ Some local → p ≡ place.Res local.0) where
  the_local : (local : ℕ × List Stmt) × (slice_get locals (number - 1) ≡ Some local)
  the_local = member_at locals (number - 1) (let low = within.0 in let high = within.1 in omega (arith, low, high))

  at_resource : p ≡ place.Res the_local.0.0
  at_resource = stands the_local.0 the_local.1

  among : IsBetween 1 (length r.nodes.resources.items) the_local.0.0
  among = are.each (number - 1) the_local.0 the_local.1

  pub local_among : IsPlaceAmong (length r.nodes.resources.items) (length r.nodes.managers.items) p
  local_among = subst (IsPlaceAmong (length r.nodes.resources.items) (length r.nodes.managers.items)) (sym at_resource) among

  may_local : MayBeGiven (length r.nodes.managers.items) (length r.nodes.resources.items) p (input.Local number)
  may_local =
      subst (λ q. MayBeGiven (length r.nodes.managers.items) (length r.nodes.resources.items) q (input.Local number)) (sym at_resource)
      (let high = within.1 in let few = are.few in let low : number < 2 ^ 16 = omega (arith, high, few) in low)

  may_outside : MayBeGiven (length r.nodes.managers.items) (length r.nodes.resources.items) p (input.Outside number)
  may_outside = subst (λ q. MayBeGiven (length r.nodes.managers.items) (length r.nodes.resources.items) q (input.Outside number)) (sym at_resource) tt

  pub enters_local : CanGo r 1 → CanMake r p (cause.Local number) (Some (input.Local number))
  enters_local can = record { can = can; there = local_among; comes = refl; takes = (tt, may_local) }

  pub enters_outside : CanGo r 1 → CanMake r p (cause.Outside number) (Some (input.Outside number))
  enters_outside can = record { can = can; there = local_among; comes = refl; takes = (tt, may_outside) }

  module _ (state : D → DiskState) (new : Run D K) (result : Result (Unit {0}) RunFault) where
    listed_place : (here : IsAt state r) → here.s.locals ≡ locals → local_place (resources_of here.s) number ≡ p
    listed_place here same =
        local_stands here.s number the_local.0 within.0 (ap (λ ls. slice_get ls (number - 1)) same ∙ the_local.1) (subst (λ n. IsBetween 1 n the_local.0.0) here.plays.nodes.resources among) ∙ sym at_resource

    pub local_made : (ready : Ready state r (LocalOf number ∷ [])) → ready.s.locals ≡ locals → ((b : Brings state r p (cause.Local number) (Some (input.Local number))) → Made state r new p (cause.Local number) (Some (input.Local number)) b result)
        → HasPlayed state ready.s ready.held new ready.rest result
    local_made ready same made =
        let names = single state r (LocalOf number) refl ready in
        let there = role_here state r names.here p local_among in
        let b = brings_local state r p number names there.0 there.1 (listed_place names.here same) in
        made_quietly state r new p (cause.Local number) (Some (input.Local number)) b result (λ k. refl) (made b)

    pub outside_made : (ready : Ready state r (OutsideOf number ∷ [])) → ready.s.locals ≡ locals → ((b : Brings state r p (cause.Outside number) (Some (input.Outside number))) → Made state r new p (cause.Outside number) (Some (input.Outside number)) b result)
        → HasPlayed state ready.s ready.held new ready.rest result
    outside_made ready same made =
        let names = single state r (OutsideOf number) refl ready in
        let there = role_here state r names.here p local_among in
        let b = brings_outside state r p number names there.0 there.1 (listed_place names.here same) in
        made_quietly state r new p (cause.Outside number) (Some (input.Outside number)) b result (λ k. refl) (made b)
