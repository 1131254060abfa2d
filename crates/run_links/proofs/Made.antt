-- Links made one after the other.
use Rattle.std.proofs.Common.{◌≡◌, ◌+◌, ◌||◌, ◌++◌, ℕ, zero, suc, false, List, [], ◌∷◌, drop, All, length, slice_get, Option, Some, None, refl, ap, sym, subst, ◌∙◌, arith, append_assoc, append-nil}
use Rattle.std.specs.List.{AllByRecursion}
use Rattle.std.proofs.lemmas.Option.{get_or_from_slice_get, slice_get_within}
use Rattle.seata_types.specs.declared.ids.Place.{Place}
use Rattle.seata_types.specs.declared.ids.Place.TheVariants as place
use Rattle.seata_types.specs.declared.statements.Work.{Work}
use Rattle.scenario_form.specs.declared.scenarios.ManagerDef.{ManagerDef}
use Rattle.scenario_form.specs.declared.scenarios.ResourceDef.{ResourceDef}
use Rattle.scenario_form.specs.declared.scenarios.Scenario.{Scenario}
use Rattle.scenario_form.specs.Contents.{IsBetween, resource_numbered}
use Rattle.scenario_form.specs.Runnable.{IsRunnable}
use Rattle.history_rules.specs.Nodes.{counted_at}
use Rattle.link_queue.specs.Links.{Sending, Taking}
use Rattle.run_links.specs.declared.links.NodeLinks.{NodeLinks}
use Rattle.run_links.specs.declared.links.RunLinks.{RunLinks}
use Rattle.run_links.specs.Linked.{AreEnds, AreLinks, AreLinksOf, HasCallsAmong, AreEndsAt, HasEndsAt, HaveMade, IsCallAmong, IsUnlinked, goes_to, links_at, queue_of, senders_at, senders_of, takers_at, takers_of}
use Rattle.run_links.specs.Routes.{Route, both_ways, call_routes, is_route, manager_routes, resource_routes, routes_by, routes_of}
use Rattle.run_links.proofs.Adding.{drop_at, or_assoc, or_false}
use Rattle.run_links.proofs.AtNodes.{counted_next}
use Rattle.run_links.proofs.Routing.{next_resource, routes_append}

-- ---- one after the other

pub made_none : (l : RunLinks) → AreLinks l → HaveMade [] l l
made_none l are = record { links = are; resources = refl; managers = refl; go = λ p q. sym (or_false (goes_to q (senders_at l p))) }

pub made_then : (js ks : List Route) (l m n : RunLinks) → HaveMade js l m → HaveMade ks m n → HaveMade (js ++ ks) l n
made_then js ks l m n one two = record {
  links = two.links;
  resources = two.resources ∙ one.resources;
  managers = two.managers ∙ one.managers;
  go = λ p q.
      two.go p q ∙ ap (λ b. b || is_route ks p q) (one.go p q) ∙ or_assoc (goes_to q (senders_at l p)) (is_route js p q) (is_route ks p q)
      ∙ ap (λ b. goes_to q (senders_at l p) || b) (sym (routes_append js ks p q));
}

-- all of these but the rest were made
abbrev pub HaveMadeBut : (rest all : List Route) → (old new : RunLinks) → Type 0
HaveMadeBut rest all old new = (done : List Route) × (done ++ rest ≡ all) × HaveMade done old new

pub but_all : (all : List Route) (l : RunLinks) → AreLinks l → HaveMadeBut all all l l
but_all all l are = ([], refl, made_none l are)

pub but_less : (next rest rest' all : List Route) (l m n : RunLinks) → HaveMadeBut rest' all l m → rest' ≡ next ++ rest → HaveMade next m n → HaveMadeBut rest all l n
but_less next rest rest' all l m n (done, e, made) is two =
    (done ++ next, append_assoc done next rest ∙ ap (λ r. done ++ r) (sym is) ∙ e, made_then done next l m n made two)

pub but_none : (rest all : List Route) (l m : RunLinks) → HaveMadeBut rest all l m → rest ≡ [] → HaveMade all l m
but_none rest all l m (done, e, made) is = subst (λ r. HaveMade r l m) (sym (append-nil done) ∙ ap (λ r. done ++ r) (sym is) ∙ e) made

-- ---- the loops

-- the coordinator with one resource more
pub resource_more : (k : ℕ) (l m n : RunLinks) → HaveMade (resource_routes k) l m → HaveMade (both_ways place.Tc (place.Res (k + 1))) m n → HaveMade (resource_routes (k + 1)) l n
resource_more k l m n one two = subst (λ r. HaveMade r l n) (sym (next_resource k)) (made_then (resource_routes k) (both_ways place.Tc (place.Res (k + 1))) l m n one two)

-- a manager with the resource of one call more
pub call_more : (manager k : ℕ) (calls : List (ℕ × Work)) (call : ℕ × Work) (l m n : RunLinks) → slice_get calls k ≡ Some call
    → HaveMadeBut (call_routes manager (drop k calls)) (call_routes manager calls) l m → HaveMade (both_ways (place.Man manager) (place.Res call.0)) m n
    → HaveMadeBut (call_routes manager (drop (k + 1) calls)) (call_routes manager calls) l n
call_more manager k calls call l m n there made two =
    but_less (both_ways (place.Man manager) (place.Res call.0)) (call_routes manager (drop (k + 1) calls)) (call_routes manager (drop k calls)) (call_routes manager calls) l m n made
    (ap (call_routes manager) (drop_at calls k call there)) two

-- one manager more
pub manager_more : (k : ℕ) (defs : List ManagerDef) (def : ManagerDef) (l m n : RunLinks) → slice_get defs k ≡ Some def
    → HaveMadeBut (manager_routes (k + 1) (drop k defs)) (manager_routes 1 defs) l m → HaveMade (routes_by (k + 1) def.calls) m n
    → HaveMadeBut (manager_routes (k + 1 + 1) (drop (k + 1) defs)) (manager_routes 1 defs) l n
manager_more k defs def l m n there made two =
    but_less (routes_by (k + 1) def.calls) (manager_routes (k + 1 + 1) (drop (k + 1) defs)) (manager_routes (k + 1) (drop k defs)) (manager_routes 1 defs) l m n made
    (ap (manager_routes (k + 1)) (drop_at defs k def there)) two

-- ---- calls

placed : {A : Type 0} (P : A → Type 0) (xs : List A) (k : ℕ) (x : A) → slice_get xs k ≡ Some x → All P xs → P x
placed P xs k x at all = subst P (get_or_from_slice_get xs k x x at) (all k x (slice_get_within xs k x at))

pub call_placed : (resources : ℕ) (calls : List (ℕ × Work)) (k : ℕ) (call : ℕ × Work) → slice_get calls k ≡ Some call → All (IsCallAmong resources) calls → IsCallAmong resources call
call_placed resources calls k call = placed (IsCallAmong resources) calls k call

pub manager_placed : (resources : ℕ) (defs : List ManagerDef) (k : ℕ) (def : ManagerDef) → slice_get defs k ≡ Some def → All (HasCallsAmong resources) defs → HasCallsAmong resources def
manager_placed resources defs k def = placed (HasCallsAmong resources) defs k def

numbered : (resources : List ResourceDef) (n : ℕ) (def : ResourceDef) → resource_numbered resources n ≡ Some def → IsBetween 1 (length resources) n
numbered resources zero def e = absurd (let no : None ≡ Some def = e in cc)
numbered resources (suc k) def e = let below = slice_get_within resources k def e in (omega arith, omega (arith, below))

-- the calls of a scenario that can be run are of its resources
pub calls_among : (s : Scenario) → IsRunnable s → All (HasCallsAmong (length s.resources)) s.managers
calls_among s runs = λ k d below j e within. let call = (runs.managers k d below).calls j e within in numbered s.resources _ call.0 call.1

-- ---- none yet

module _ (l : RunLinks) (coordinator : IsUnlinked l.coordinator) (resources : AllByRecursion IsUnlinked l.resources.items) (managers : AllByRecursion IsUnlinked l.managers.items) where
  -- ends of no node, or of one without links
  abbrev IsBare : Option NodeLinks → Type 0
  IsBare o = (takers_of o ≡ []) × (senders_of o ≡ [])

  bare_in : (ns : List NodeLinks) → AllByRecursion IsUnlinked ns → (k : ℕ) → IsBare (slice_get ns k)
  bare_in [] all k = (refl, refl)
  bare_in (n ∷ ns) all zero = (all.0.takers, all.0.senders)
  bare_in (n ∷ ns) all (suc k) = bare_in ns all.1 k

  bare_counted : (ns : List NodeLinks) → AllByRecursion IsUnlinked ns → (k : ℕ) → IsBare (counted_at ns k)
  bare_counted ns all zero = (refl, refl)
  bare_counted ns all (suc k) = bare_in ns all k

  bare : (p : Place) → IsBare (links_at l p)
  bare place.Net = (refl, refl)
  bare place.Tc = (coordinator.takers, coordinator.senders)
  bare (place.Res n) = bare_counted l.resources.items resources n
  bare (place.Man n) = bare_counted l.managers.items managers n

  none_here : {A B : Type 0} (k : ℕ) (x : A) → slice_get [] k ≡ Some x → B
  none_here k x e = absurd (let no : None ≡ Some x = e in cc)

  no_ends : AreEnds (λ p. []) (λ p. [])
  no_ends = record {
    each = λ p. record {
      to_here = λ k t e. none_here k t e;
      from_here = λ k s e. none_here k s e;
      apart = record { come = λ j k t u e f same. none_here j t e; go = λ j k s u e f same. none_here j s e };
      unused = record { taken = λ k t e. none_here k t e; pushed = λ k s e. none_here k s e };
    };
    come = λ p q. refl;
  }

  senders_none : (p : Place) → senders_at l p ≡ []
  senders_none p = (bare p).1

  takers_none : (p : Place) → takers_at l p ≡ []
  takers_none p = (bare p).0

  pub goes_nowhere : (p q : Place) → goes_to q (senders_at l p) ≡ false
  goes_nowhere p q = ap (goes_to q) (senders_none p)

  pub unlinked : AreLinks l
  unlinked = record {
    ends = subst (λ (F : (Place → List Taking) × (Place → List Sending)). AreEnds F.0 F.1) (λ i. ((λ p. sym (takers_none p) i), (λ p. sym (senders_none p) i))) no_ends;
    returned = λ p q. goes_nowhere p q ∙ sym (goes_nowhere q p);
  }

-- ---- the whole

pub all_linked : (s : Scenario) (l m n : RunLinks) → length l.resources.items ≡ length s.resources → length l.managers.items ≡ length s.managers → ((p q : Place) → goes_to q (senders_at l p) ≡ false)
    → HaveMade (resource_routes (length l.resources.items)) l m → HaveMade (manager_routes 1 s.managers) m n → AreLinksOf s n
all_linked s l m n resources managers nowhere one two =
    let routes = ap (λ k. resource_routes k ++ manager_routes 1 s.managers) resources in
    let made = made_then (resource_routes (length l.resources.items)) (manager_routes 1 s.managers) l m n one two in
    let go : (p q : Place) → goes_to q (senders_at n p) ≡ is_route (routes_of s) p q =
    λ p q. made.go p q ∙ ap (λ b. b || is_route (resource_routes (length l.resources.items) ++ manager_routes 1 s.managers) p q) (nowhere p q) ∙ ap (λ js. is_route js p q) routes in
    record {
      resource_count = made.resources ∙ resources;
      manager_count = made.managers ∙ managers;
      coordinator = made.links.ends.each place.Tc;
      resources = λ k node there. at_node (place.Res (k + 1)) node (counted_next n.resources.items k ∙ there) made.links.ends;
      managers = λ k node there. at_node (place.Man (k + 1)) node (counted_next n.managers.items k ∙ there) made.links.ends;
      go = go;
      come = λ p q. made.links.ends.come p q ∙ go p q;
    }
  where
    at_node : (p : Place) (node : NodeLinks) → links_at n p ≡ Some node → AreEnds (takers_at n) (senders_at n) → HasEndsAt (queue_of n) p node
    at_node p node is ends = subst (λ (o : Option NodeLinks). AreEndsAt (queue_of n) p (takers_of o) (senders_of o)) is (ends.each p)
