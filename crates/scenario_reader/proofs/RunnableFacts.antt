-- A scenario that was read is one that can be run.
use Rattle.std.proofs.Common.{◌≡◌, ◌≤◌, ℕ, List, [], map, Option, Ok, Err, ap, sym, subst}
use Rattle.std.proofs.lemmas.List.{append-nil}
use Rattle.std.specs.Prelude.{All, codes, length}
use Rattle.serde_json.specs.Data.{Data}
use Rattle.serde_json.specs.Find.{get}
use Rattle.seata_types.specs.declared.limits.TheConstants.{LOCALS, SCHEDULE_MEMBERS}
use Rattle.scenario_form.specs.declared.scenarios.ManagerDef.{ManagerDef}
use Rattle.scenario_form.specs.declared.scenarios.ResourceDef.{ResourceDef}
use Rattle.scenario_form.specs.declared.scenarios.Scenario.{Scenario}
use Rattle.scenario_reader.specs.declared.settings.Settings.{Settings}
use Rattle.scenario_reader.specs.Calls.{locals}
use Rattle.scenario_form.specs.Contents.{AreDifferent, IsLocal}
use Rattle.scenario_reader.specs.Faults.{Outcome, member, to_member, within, an_object}
use Rattle.scenario_reader.specs.Form as form
use Rattle.scenario_reader.specs.Managers.{managers}
use Rattle.scenario_reader.specs.Nodes.{stops}
use Rattle.scenario_reader.specs.Reading.{IsScenario, IsScenarioOf, with_base}
use Rattle.scenario_reader.specs.Resources.{resources}
use Rattle.scenario_form.specs.Runnable.{IsRunnable, IsStop, resource_name}
use Rattle.scenario_reader.specs.Steps.{schedule}
use Rattle.scenario_reader.proofs.CallFacts.{locals_ok}
use Rattle.scenario_reader.proofs.Inverses.{bind_ok, within_ok, same_ok}
use Rattle.scenario_reader.proofs.ResourceFacts.{AreResources, resources_ok}
use Rattle.scenario_reader.proofs.StepFacts.{AreSteps, stops_ok, schedule_ok}
use Rattle.scenario_reader.proofs.WholeFacts.{AreSettings, AreManagers, names, settings_ok, managers_ok}

told_ok : (found : Outcome Scenario) (s : Scenario) → form.told_of found ≡ Ok s → found ≡ Ok s
told_ok (Ok t) s e = e
told_ok (Err w) s e = absurd cc

-- what is known of the numbers and the nodes
record AreNodes (n : form.Nodes) : Type 0 where
  pub set : AreSettings n.0
  pub servers : AreResources n.1
  pub users : AreManagers n.1 n.2

alone : (servers : List ResourceDef) → AreDifferent (map resource_name servers) → AreDifferent (names servers [])
alone servers different = subst AreDifferent (sym (append-nil (map resource_name servers))) different

servers_ok : (d : Data) (s : Settings × List ResourceDef) → form.servers d ≡ Ok s → AreSettings s.0 × AreResources s.1
unfolding form.servers
servers_ok d s e =
    let shape = bind_ok (an_object d) _ _ e in
    let set = bind_ok (form.settings d) _ _ shape.2 in
    let servers = bind_ok (member (codes "resources") resources d) _ _ set.2 in
    let dbs = resources_ok (get (codes "resources") d) servers.0 (within_ok (to_member (codes "resources")) _ _ servers.1) in
    subst (λ (z : Settings × List ResourceDef). AreSettings z.0 × AreResources z.1) (same_ok (set.0, servers.0) s servers.2) (settings_ok d set.0 set.1, dbs)

nodes_ok : (d : Data) (n : form.Nodes) → form.nodes d ≡ Ok n → AreNodes n
unfolding form.nodes
nodes_ok d n e =
    let s = bind_ok (form.servers d) _ _ e in
    let users = bind_ok (member (codes "managers") (managers s.0.1 s.0.0.timeout) d) _ _ s.2 in
    let known = servers_ok d s.0 s.1 in
    let all = managers_ok s.0.1 s.0.0.timeout (get (codes "managers") d) users.0 known.0.timeout (alone s.0.1 known.1.different)
    (within_ok (to_member (codes "managers")) _ _ users.1) in
    subst AreNodes (same_ok (s.0.0, s.0.1, users.0) n users.2) (record { set = known.0; servers = known.1; users = all })

-- what is known of the locals, the stops and the schedule
record AreEvents (servers : List ResourceDef) (users : List ManagerDef) (ev : form.Events) : Type 0 where
  pub few : length ev.0 ≤ LOCALS
  pub locals : All (IsLocal servers) ev.0
  pub stops : All (IsStop (length servers)) ev.1
  pub short : length ev.2 ≤ SCHEDULE_MEMBERS
  pub steps : AreSteps (length servers) (length users) (length ev.0) ev.2

events_ok : (servers : List ResourceDef) (users : List ManagerDef) (found : Option Data) (d : Data) (ev : form.Events) → form.events servers users found d ≡ Ok ev → AreEvents servers users ev
unfolding form.events
events_ok servers users found d ev e =
    let writers = bind_ok (member (codes "locals") (locals servers) d) _ _ e in
    let halts = bind_ok (within (to_member (codes "stops")) (stops servers found)) _ _ writers.2 in
    let items = bind_ok (member (codes "schedule") (schedule servers users (length writers.0)) d) _ _ halts.2 in
    let ones = locals_ok servers (get (codes "locals") d) writers.0 (within_ok (to_member (codes "locals")) _ _ writers.1) in
    let arms = stops_ok servers found halts.0 (within_ok (to_member (codes "stops")) _ _ halts.1) in
    let plan = schedule_ok servers users (length writers.0) (get (codes "schedule") d) items.0 (within_ok (to_member (codes "schedule")) _ _ items.1) in
    subst (AreEvents servers users) (same_ok (writers.0, halts.0, items.0) ev items.2)
    (record { few = ones.0; locals = ones.1; stops = arms; short = plan.0; steps = plan.1 })

parts_ok : (found : Option Data) (d : Data) (s : Scenario) → form.parts found d ≡ Ok s → (n : form.Nodes) × (ev : form.Events) × AreNodes n × AreEvents n.1 n.2 ev × (form.with_parts n ev ≡ s)
unfolding form.parts
parts_ok found d s e =
    let n = bind_ok (form.nodes d) _ _ e in
    let ev = bind_ok (form.events n.0.1 n.0.2 found d) _ _ n.2 in
    let last = bind_ok (form.only_members d) _ _ ev.2 in
    (n.0, ev.0, nodes_ok d n.0 n.1, events_ok n.0.1 n.0.2 found d ev.0 ev.1, same_ok (form.with_parts n.0 ev.0) s last.2)

scenario_ok : (d : Data) (s : Scenario) → IsScenarioOf d s → (n : form.Nodes) × (ev : form.Events) × AreNodes n × AreEvents n.1 n.2 ev × (form.with_parts n ev ≡ with_base [] s)
unfolding IsScenarioOf form.scenario_of
scenario_ok d s is = parts_ok (get (codes "stops") d) d (with_base [] s) (told_ok (form.parts (get (codes "stops") d) d) (with_base [] s) is.0)

data_of : (bytes : List ℕ) (s : Scenario) → IsScenario bytes s → (d : Data) × IsScenarioOf d s
unfolding IsScenario
data_of bytes s is = (is.1, is.3)

-- each scenario that was read is one that can be run
pub given : (bytes : List ℕ) (s : Scenario) → IsScenario bytes s → IsRunnable s
given bytes s is =
    let of = data_of bytes s is in
    let all = scenario_ok of.0 s of.1 in
    let whole : with_base s.base (form.with_parts all.0 all.1) ≡ s = ap (with_base s.base) all.4 in
    subst IsRunnable whole
    (record {
      set = record {
        timeout = all.2.set.timeout;
        tries = all.2.set.tries;
        retry = all.2.set.retry;
        forget = all.2.set.forget;
        disk = all.2.set.disk;
      };
      servers = all.2.servers.few;
      resources = all.2.servers.each;
      few = all.2.users.few;
      timed = all.2.users.timed;
      managers = all.2.users.each;
      different = all.2.users.different;
      writers = all.3.few;
      locals = all.3.locals;
      stops = all.3.stops;
      short = all.3.short;
      steps = all.3.steps.few;
      fits = all.3.steps.fits;
    })
