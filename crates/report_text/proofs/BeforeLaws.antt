-- How many records the disks had before, and how many entries a node has.
use Rattle.std.proofs.Common.{◌≡◌, ◌≤◌, ℕ, zero, suc, max, List, [], ◌∷◌, length, slice_get, Option, Some, None, option_map, ap, refl, subst, ◌∙◌, arith}
use Rattle.std.proofs.lemmas.List.Sums.{count_by-le-length, length-filter}
use Rattle.std.proofs.lemmas.Option.{same_Some}
use Rattle.seata_types.specs.declared.ids.Place.{Place}
use Rattle.seata_types.specs.declared.ids.Place.TheVariants as place
use Rattle.scenario_form.specs.declared.scenarios.Scenario.{Scenario}
use Rattle.session_log.specs.declared.sessions.Snapshot.{Snapshot}
use Rattle.resource_memory.specs.Known.{Known}
use Rattle.history_rules.specs.Histories.{same_place}
use Rattle.history_rules.specs.Nodes.{Past, Resource, Manager, counted_at}
use Rattle.history_rules.specs.ManagerRules.{Settings}
use Rattle.history_rules.specs.ResourceMemory.{Setup}
use Rattle.history_text.specs.declared.entries.Entry.{Entry}
use Rattle.history_text.specs.Worlds.{resources_of, world_of}
use Rattle.report_text.specs.declared.before.Before.{Before}
use Rattle.report_text.specs.Following.{IsRead, acts_before, acts_of, entries_at, most_acts, most_of}
use Rattle.report_text.proofs.NumberedLaws.{setup_at}

-- the entries of one node are among all entries
pub few_at : (p : Place) (es : List Entry) → length (entries_at p es) ≤ length es
few_at p es = let count = length-filter (λ (e : Entry). same_place p e.place) es in let most = count_by-le-length (λ (e : Entry). same_place p e.place) es in omega (arith, count, most)

-- the most is none less than the first number, and than that of each resource
most_first : (first : ℕ) (ks : List Known) → first ≤ most_of first ks
most_first first [] = omega arith
most_first first (k ∷ ks) = let more = most_first (max first k.acts) ks in omega (arith, more)

most_each : (first : ℕ) (ks : List Known) (k : ℕ) (r : Known) → slice_get ks k ≡ Some r → r.acts ≤ most_of first ks
most_each first [] k r at = absurd (let no : None ≡ Some r = at in cc)
most_each first (x ∷ ks) zero r at =
    let more = most_first (max first x.acts) ks in
    subst (λ (y : Known). y.acts ≤ most_of (max first x.acts) ks) (same_Some x r at) (omega (arith, more))
most_each first (x ∷ ks) (suc k) r at = most_each (max first x.acts) ks k r at

-- no node had more records than the most
module _ (s : Scenario) (past : Past) (before : Before) (read : IsRead s before past) where
  of_resource : (k : ℕ) (o : Option Setup) → slice_get (resources_of s) k ≡ o → acts_of (option_map (λ v. Resource v (past.resource (suc k))) o) ≤ most_acts before
  of_resource k None at = omega arith
  of_resource k (Some u) at =
      let is = setup_at s k u at in
      let number : u.number ≡ suc k = ap (λ (v : Setup). v.number) is.is ∙ omega arith in
      let held = most_each before.sessions.acts before.resources.items k _ (read.resources k u at).0 in
      let same = ap (λ n. length (past.resource n)) number in
      omega (arith, held, same)

  pub acts_most : (p : Place) → acts_before s past p ≤ most_acts before
  acts_most place.Net = omega arith
  acts_most place.Tc =
      let acts = ap (λ (b : Snapshot). b.acts) read.sessions in
      let most = most_first before.sessions.acts before.resources.items in
      omega (arith, acts, most)
  acts_most (place.Res zero) = omega arith
  acts_most (place.Res (suc k)) = of_resource k (slice_get (resources_of s) k) refl
  acts_most (place.Man n) = none (counted_at (world_of s).managers n)
    where
      none : (o : Option Settings) → acts_of (option_map (λ m. Manager m) o) ≤ most_acts before
      none None = omega arith
      none (Some m) = omega arith
