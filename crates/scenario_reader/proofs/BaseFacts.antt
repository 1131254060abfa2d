-- The text under which a scenario is kept reads as that scenario, but for its schedule and its stops.
use Rattle.std.proofs.Common.{◌≡◌, ◌≤◌, ℕ, Bool, true, false, ◌&&◌, List, [], ◌∷◌, Ordering, Less, Equal, Greater, nat_cmp, length, Option, Some, None, Ok, Err, refl, ap, sym, ◌∙◌, subst}
use Rattle.std.specs.Cmp.Lexicographic.{slice_cmp}
use Rattle.std.specs.Ordering.{match_ordering}
use Rattle.std.specs.Prelude.{codes}
use Rattle.serde_json.proofs.Views.{get_member-put, get_member-put_other}
use Rattle.serde_json.specs.Data.{Data, null, boolean, number, string, array, object, no_items, Members, no_members, member as entry, put}
use Rattle.serde_json.specs.Find.{get, get_member}
use Rattle.seata_types.specs.Orders.{same_text}
use Rattle.scenario_reader.specs.declared.errors.ScenarioError.TheVariants as fault
use Rattle.scenario_form.specs.declared.scenarios.ManagerDef.{ManagerDef}
use Rattle.scenario_form.specs.declared.scenarios.ResourceDef.{ResourceDef}
use Rattle.scenario_form.specs.declared.scenarios.Scenario.{Scenario}
use Rattle.scenario_reader.specs.Bases.{kept, without, IsTextOf}
use Rattle.scenario_reader.specs.Calls.{locals}
use Rattle.scenario_reader.specs.Faults.{Outcome, is_known, are_known, an_object, only, only_by, list, member, to_member, within}
use Rattle.scenario_reader.specs.Form as form
use Rattle.scenario_reader.specs.Nodes.{stops}
use Rattle.scenario_reader.specs.Reading.{IsJson, IsScenario, IsScenarioOf, input_bytes, with_base, without_events}
use Rattle.scenario_reader.specs.Steps.{schedule}
use Rattle.scenario_reader.proofs.Inverses.{bind_ok, same_ok}
use Rattle.scenario_reader.proofs.Whole.{unlike, known_without}
use Rattle.scenario_reader.proofs.Rising.{AreRising, RisesAtTop, read_rises, rising_put, rising_without, gone, others, absent, present}

-- ---- the members that stay

abbrev kept_members : Members → Members
kept_members ms = put (codes "schedule") (array no_items) (without (codes "stops") ms)

-- a member of another name is the same
stays : (name : List ℕ) (ms : Members) → same_text name (codes "schedule") ≡ false → same_text name (codes "stops") ≡ false → get_member name (kept_members ms) ≡ get_member name ms
stays name ms one other =
    get_member-put_other name (codes "schedule") (array no_items) (without (codes "stops") ms) (unlike name (codes "schedule") one)
    ∙ others name (codes "stops") ms (unlike name (codes "stops") other)

-- no other members
known_put_by : (o : Ordering) (names : List (List ℕ)) (k l : List ℕ) (d e : Data) (ms : Members) → is_known names k ≡ true → is_known names l ≡ true → are_known names ms ≡ true
    → are_known names (put k d ms) ≡ true → are_known names (match_ordering o (entry k d (entry l e ms)) (entry l d ms) (entry l e (put k d ms))) ≡ true
known_put_by Less names k l d e ms one first all rest = rw (one, first, all)
known_put_by Equal names k l d e ms one first all rest = rw (first, all)
known_put_by Greater names k l d e ms one first all rest = rw (first, rest)

both : (a b : Bool) → (a && b) ≡ true → (a ≡ true) × (b ≡ true)
both true b e = (refl, e)
both false b e = absurd cc

known_put : (names : List (List ℕ)) (k : List ℕ) (d : Data) (ms : Members) → is_known names k ≡ true → are_known names ms ≡ true → are_known names (put k d ms) ≡ true
known_put names k d no_members one all = rw one
known_put names k d (entry l e ms) one all =
    let two = both (is_known names l) (are_known names ms) all in
    known_put_by (slice_cmp nat_cmp k l) names k l d e ms one two.0 two.1 (known_put names k d ms one two.1)

only_known : (b : Bool) → only_by b ≡ Ok tt → b ≡ true
only_known true e = refl
only_known false e = absurd cc

only_kept : (ms : Members) → form.only_members (object ms) ≡ Ok tt → form.only_members (object (kept_members ms)) ≡ Ok tt
unfolding form.only_members only
only_kept ms e =
    let all = only_known (are_known form.scenario_members ms) e in
    ap only_by (known_put form.scenario_members (codes "schedule") (array no_items) (without (codes "stops") ms) refl (known_without form.scenario_members (codes "stops") ms refl ∙ all))

-- ---- the parts that stay

settings_stay : (ms : Members) → form.settings (object (kept_members ms)) ≡ form.settings (object ms)
unfolding form.settings
settings_stay ms =
    rw (
      stays (codes "timeout") ms refl refl,
      stays (codes "lockTries") ms refl refl,
      stays (codes "retry") ms refl refl,
      stays (codes "forget") ms refl refl,
      stays (codes "disk") ms refl refl,
    )

nodes_stay : (ms : Members) → form.nodes (object (kept_members ms)) ≡ form.nodes (object ms)
unfolding form.nodes form.servers
nodes_stay ms = rw (settings_stay ms, stays (codes "resources") ms refl refl, stays (codes "managers") ms refl refl)

no_schedule : (servers : List ResourceDef) (users : List ManagerDef) (count : ℕ) → schedule servers users count (Some (array no_items)) ≡ Ok []
unfolding schedule list
no_schedule servers users count = refl

no_stops : (servers : List ResourceDef) → stops servers None ≡ Ok []
unfolding stops
no_stops servers = refl

abbrev quiet : form.Events → form.Events
quiet ev = (ev.0, [], [])

events_kept : (servers : List ResourceDef) (users : List ManagerDef) (found : Option Data) (ms : Members) (ev : form.Events) → form.events servers users found (object ms) ≡ Ok ev
    → form.events servers users None (object (kept_members ms)) ≡ Ok (quiet ev)
unfolding form.events
events_kept servers users found ms ev e =
    let writers = bind_ok (member (codes "locals") (locals servers) (object ms)) _ _ e in
    let halts = bind_ok (within (to_member (codes "stops")) (stops servers found)) _ _ writers.2 in
    let items = bind_ok (member (codes "schedule") (schedule servers users (length writers.0)) (object ms)) _ _ halts.2 in
    let same = same_ok (writers.0, halts.0, items.0) ev items.2 in
    let empty : get_member (codes "schedule") (kept_members ms) ≡ Some (array no_items) = get_member-put (codes "schedule") (array no_items) (without (codes "stops") ms) in
    let writers_stay : member (codes "locals") (locals servers) (object (kept_members ms)) ≡ Ok writers.0 =
    ap (λ (z : Option Data). within (47 ∷ codes "locals") (locals servers z)) (stays (codes "locals") ms refl refl) ∙ writers.1 in
    let no_items_left : member (codes "schedule") (schedule servers users (length writers.0)) (object (kept_members ms)) ≡ Ok [] =
    ap (λ (z : Option Data). within (47 ∷ codes "schedule") (schedule servers users (length writers.0) z)) empty
    ∙ ap (within (47 ∷ codes "schedule")) (no_schedule servers users (length writers.0)) in
    rw (writers_stay, no_stops servers, no_items_left) (ap (λ (z : form.Events). Ok (quiet z)) same)

-- ---- the whole

parts_kept : (found : Option Data) (ms : Members) (s : Scenario) → form.parts found (object ms) ≡ Ok s → form.parts None (object (kept_members ms)) ≡ Ok (without_events s)
unfolding form.parts
parts_kept found ms s e =
    let n = bind_ok (form.nodes (object ms)) _ _ e in
    let ev = bind_ok (form.events n.0.1 n.0.2 found (object ms)) _ _ n.2 in
    let last = bind_ok (form.only_members (object ms)) _ _ ev.2 in
    let same = same_ok (form.with_parts n.0 ev.0) s last.2 in
    let first = nodes_stay ms ∙ n.1 in
    let second = events_kept n.0.1 n.0.2 found ms ev.0 ev.1 in
    let third = only_kept ms last.1 in
    rw (first, second, third) (ap (λ (z : Scenario). Ok (without_events z)) same)

no_object : (found : Option Data) (d : Data) (s : Scenario) → an_object d ≡ Err (fault.Shape []) → form.parts found d ≡ Ok s → ⊥
unfolding form.parts form.nodes form.servers
no_object found d s none e =
    let n = bind_ok (form.nodes d) _ _ e in
    let servers = bind_ok (form.servers d) _ _ n.1 in
    let shape = bind_ok (an_object d) _ _ servers.1 in
    let twice = sym none ∙ shape.1 in cc

-- the stops of what is kept
no_stops_kept : (ms : Members) → AreRising ms → get_member (codes "stops") (kept_members ms) ≡ None
no_stops_kept ms all =
    get_member-put_other (codes "stops") (codes "schedule") (array no_items) (without (codes "stops") ms) (unlike (codes "stops") (codes "schedule") refl)
    ∙ gone (codes "stops") ms all

parts_of_kept : (d : Data) (s : Scenario) → RisesAtTop d → form.parts (get (codes "stops") d) d ≡ Ok s → form.parts (get (codes "stops") (kept d)) (kept d) ≡ Ok (without_events s)
parts_of_kept null s all e = absurd (no_object None null s refl e)
parts_of_kept (boolean b) s all e = absurd (no_object None (boolean b) s refl e)
parts_of_kept (number n) s all e = absurd (no_object None (number n) s refl e)
parts_of_kept (string t) s all e = absurd (no_object None (string t) s refl e)
parts_of_kept (array ds) s all e = absurd (no_object None (array ds) s refl e)
parts_of_kept (object ms) s all e = ap (λ found. form.parts found (object (kept_members ms))) (no_stops_kept ms all) ∙ parts_kept (get_member (codes "stops") ms) ms s e

told_ok : (found : Outcome Scenario) (s : Scenario) → form.told_of found ≡ Ok s → found ≡ Ok s
told_ok (Ok t) s e = e
told_ok (Err w) s e = absurd cc

-- what is kept of the data is the scenario without stops and with an empty schedule
scenario_kept : (d : Data) (s : Scenario) → RisesAtTop d → form.scenario_of d ≡ Ok s → form.scenario_of (kept d) ≡ Ok (without_events s)
unfolding form.scenario_of
scenario_kept d s all e = ap form.told_of (parts_of_kept d s all (told_ok (form.parts (get (codes "stops") d) d) s e))

-- what is kept of that is that
kept_twice : (d : Data) → RisesAtTop d → kept (kept d) ≡ kept d
kept_twice null all = refl
kept_twice (boolean b) all = refl
kept_twice (number n) all = refl
kept_twice (string t) all = refl
kept_twice (array ds) all = refl
kept_twice (object ms) all =
    let rest = without (codes "stops") ms in
    let rising = rising_put (codes "schedule") (array no_items) rest (rising_without (codes "stops") ms all) in
    let none = no_stops_kept ms all in
    let empty : get_member (codes "schedule") (kept_members ms) ≡ Some (array no_items) = get_member-put (codes "schedule") (array no_items) rest in
    ap (λ (z : Members). object (put (codes "schedule") (array no_items) z)) (absent (codes "stops") (kept_members ms) none)
    ∙ ap object (present (codes "schedule") (array no_items) (kept_members ms) rising empty)

-- the base of a scenario that was read reads as it, without stops and with an empty schedule
pub base_reads : (bytes : List ℕ) (s : Scenario) → IsScenario bytes s → length s.base ≤ input_bytes → IsScenario s.base (without_events s)
unfolding IsScenario IsScenarioOf IsJson
base_reads bytes s is short =
    let d = is.1 in
    let all = read_rises bytes d is.2.1 in
    let text = is.3.1 in
    (short, kept d, (text.utf8, text.reads), (scenario_kept d (with_base [] s) all is.3.0, subst (λ (z : Data). IsTextOf z s.base) (sym (kept_twice d all)) text))
