-- How many entries a node has, among all that are printed.
use Rattle.std.proofs.Common.{◌≡◌, ◌+◌, ◌<◌, ◌≤◌, ◌^◌, ℕ, suc, Bool, true, false, cond, List, [], ◌∷◌, ◌++◌, length, slice_get, Option, Some, None, option_map, ap, ◌∙◌, arith, length-append}
use Rattle.std.proofs.lemmas.List.Elements.{filter-append}
use Rattle.seata_types.specs.declared.ids.Place.{Place}
use Rattle.seata_types.specs.declared.ids.Place.TheVariants as place
use Rattle.scenario_form.specs.declared.scenarios.Scenario.{Scenario}
use Rattle.history_rules.specs.Own.{Event, Own}
use Rattle.history_rules.specs.Histories.{Moment, own, own_if, same_place}
use Rattle.history_rules.specs.Nodes.{Past, Resource, counted_at}
use Rattle.history_rules.specs.ResourceMemory.{Setup}
use Rattle.history_text.specs.declared.entries.Entry.{Entry}
use Rattle.history_text.specs.History.{entries, entry_of}
use Rattle.history_text.specs.Worlds.{resources_of}
use Rattle.report_text.specs.Following.{AreCounted, acts_before, acts_of, entries_at}
use Rattle.report_text.proofs.NumberedLaws.{setup_at}

-- the setup of the k-th resource, counted from 0, is found by its number
pub counted_setup : (s : Scenario) (k : ℕ) (u : Setup) → slice_get (resources_of s) k ≡ Some u → counted_at (resources_of s) u.number ≡ Some u
counted_setup s k u there =
    let is = setup_at s k u there in
    let number : u.number ≡ suc k = ap (λ (v : Setup). v.number) is.is ∙ omega arith in
    ap (counted_at (resources_of s)) number ∙ there

-- so many records it had before
pub acts_at : (s : Scenario) (past : Past) (k : ℕ) (u : Setup) → slice_get (resources_of s) k ≡ Some u → acts_before s past (place.Res u.number) ≡ length (past.resource u.number)
acts_at s past k u there = ap (λ (o : Option Setup). acts_of (option_map (λ v. Resource v (past.resource u.number)) o)) (counted_setup s k u there)

-- the own entries of each node, with the records of before, are so few
abbrev pub AreFew : Scenario → Past → List Moment → Type 0
AreFew s past ms = (p : Place) → acts_before s past p + length (own p ms) + 1 < 2 ^ 32

-- one entry more at the end
at_end : (p : Place) (es : List Entry) (e : Entry) → length (entries_at p (es ++ e ∷ [])) ≡ length (entries_at p es) + length (entries_at p (e ∷ []))
at_end p es e = ap length (filter-append (λ (d : Entry). same_place p d.place) es (e ∷ [])) ∙ length-append (entries_at p es) (entries_at p (e ∷ []))

own_by : (b : Bool) (event : Option Event) (m : Moment) (os : List Own) (e : Entry) → length (own_if b event m os) ≤ length os + length (cond b (e ∷ []) [])
own_by true (Some event) m os e = omega arith
own_by true None m os e = omega arith
own_by false event m os e = omega arith

own_most : (p : Place) (ms : List Moment) → length (own p ms) ≤ length (entries_at p (entries ms))
own_most p [] = omega arith
own_most p (m ∷ ms) =
    let one = own_by (same_place p m.place) m.event m (own p ms) (entry_of m) in
    let below = own_most p ms in
    let end = at_end p (entries ms) (entry_of m) in
    omega (arith, one, below, end)

pub few_of : (s : Scenario) (past : Past) (ms : List Moment) → AreCounted s past (entries ms) → AreFew s past ms
few_of s past ms counted p = let most = own_most p ms in let few = counted p in omega (arith, most, few)

own_rises : (b : Bool) (event : Option Event) (m : Moment) (os : List Own) → length os ≤ length (own_if b event m os)
own_rises true (Some event) m os = omega arith
own_rises true None m os = omega arith
own_rises false event m os = omega arith

-- so they are before the newest one
pub few_below : (s : Scenario) (past : Past) (m : Moment) (ms : List Moment) → AreFew s past (m ∷ ms) → AreFew s past ms
few_below s past m ms few p = let rises = own_rises (same_place p m.place) m.event m (own p ms) in let now = few p in omega (arith, rises, now)

pub counted_front : (s : Scenario) (past : Past) (es : List Entry) (e : Entry) → AreCounted s past (es ++ e ∷ []) → AreCounted s past es
counted_front s past es e counted p = let end = at_end p es e in let now = counted p in omega (arith, end, now)
