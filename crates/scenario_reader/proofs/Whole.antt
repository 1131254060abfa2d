-- The data of a scenario without its stops has all other parts.
use Rattle.std.proofs.Common.{◌≡◌, true, false, true≢false, ◌&&◌, List, ℕ, Option, Ordering, Less, Equal, Greater, Ok, Err, refl, ap, sym, ◌∙◌}
use Rattle.std.specs.Ordering.{match_ordering}
use Rattle.std.specs.Prelude.{codes}
use Rattle.serde_json.specs.Data.{Data, null, boolean, number, string, array, object, Members, no_members, member as entry}
use Rattle.serde_json.specs.Find.{get, get_member}
use Rattle.seata_types.specs.Orders.{same_text}
use Rattle.local_tables.proofs.KeyLaws.{same_text_itself}
use Rattle.scenario_form.specs.declared.scenarios.ManagerDef.{ManagerDef}
use Rattle.scenario_form.specs.declared.scenarios.ResourceDef.{ResourceDef}
use Rattle.scenario_reader.specs.Bases.{without, without_stops}
use Rattle.scenario_reader.specs.Faults.{Outcome, ◌>>=◌, is_known, are_known, only, only_by}
use Rattle.scenario_reader.specs.Form as form
use Rattle.scenario_reader.proofs.Rising.{compare, same_name, others}

pub unlike : (a b : List ℕ) → same_text a b ≡ false → a ≡ b → ⊥
unlike a b other same = true≢false (sym (ap (λ z. same_text z b) same ∙ same_text_itself b) ∙ other)

known_without_by : (o : Ordering) (names : List (List ℕ)) (name k : List ℕ) (d : Data) (ms : Members) → compare name k ≡ o → is_known names name ≡ true
    → are_known names (without name ms) ≡ are_known names ms → are_known names (match_ordering o (entry k d (without name ms)) ms (entry k d (without name ms))) ≡ are_known names (entry k d ms)
known_without_by Less names name k d ms is known rest = ap (λ b. is_known names k && b) rest
known_without_by Equal names name k d ms is known rest = sym (ap (λ b. b && are_known names ms) (ap (is_known names) (sym (same_name name k is)) ∙ known))
known_without_by Greater names name k d ms is known rest = ap (λ b. is_known names k && b) rest

-- a known member changes nothing about the others
pub known_without : (names : List (List ℕ)) (name : List ℕ) (ms : Members) → is_known names name ≡ true → are_known names (without name ms) ≡ are_known names ms
known_without names name no_members known = refl
known_without names name (entry k d ms) known = known_without_by (compare name k) names name k d ms refl known (known_without names name ms known)

stays : (name : List ℕ) (ms : Members) → same_text name (codes "stops") ≡ false → get_member name (without (codes "stops") ms) ≡ get_member name ms
stays name ms other = others name (codes "stops") ms (unlike name (codes "stops") other)

settings_stay : (ms : Members) → form.settings (object (without (codes "stops") ms)) ≡ form.settings (object ms)
unfolding form.settings
settings_stay ms =
    rw (
      stays (codes "timeout") ms refl,
      stays (codes "lockTries") ms refl,
      stays (codes "retry") ms refl,
      stays (codes "forget") ms refl,
      stays (codes "disk") ms refl,
    )

nodes_stay : (ms : Members) → form.nodes (object (without (codes "stops") ms)) ≡ form.nodes (object ms)
unfolding form.nodes form.servers
nodes_stay ms = rw (settings_stay ms, stays (codes "resources") ms refl, stays (codes "managers") ms refl)

events_stay : (servers : List ResourceDef) (users : List ManagerDef) (found : Option Data) (ms : Members)
    → form.events servers users found (object (without (codes "stops") ms)) ≡ form.events servers users found (object ms)
unfolding form.events
events_stay servers users found ms = rw (stays (codes "locals") ms refl, stays (codes "schedule") ms refl)

only_stays : (ms : Members) → form.only_members (object (without (codes "stops") ms)) ≡ form.only_members (object ms)
unfolding form.only_members only
only_stays ms = ap only_by (known_without form.scenario_members (codes "stops") ms refl)

follow : {A B : Type 0} (o : Outcome A) (f g : A → Outcome B) → ((x : A) → f x ≡ g x) → (o >>= f) ≡ (o >>= g)
follow (Ok x) f g same = same x
follow (Err e) f g same = refl

-- the data without its stops gives the same scenario beside them
rest_is_enough : (found : Option Data) (d : Data) → form.parts found (without_stops d) ≡ form.parts found d
unfolding form.parts
rest_is_enough found null = refl
rest_is_enough found (boolean b) = refl
rest_is_enough found (number n) = refl
rest_is_enough found (string s) = refl
rest_is_enough found (array ds) = refl
rest_is_enough found (object ms) = rw (nodes_stay ms, only_stays ms) (follow (form.nodes (object ms)) _ _ (λ n. rw (events_stay n.1 n.2 found ms)))

pub scenario_apart : (d rest : Data) (found : Option Data) → rest ≡ without_stops d → found ≡ get (codes "stops") d → form.told_of (form.parts found rest) ≡ form.scenario_of d
unfolding form.scenario_of
scenario_apart d rest found a b = ap form.told_of (ap (form.parts found) a ∙ rest_is_enough found d ∙ ap (λ (z : Option Data). form.parts z d) b)
