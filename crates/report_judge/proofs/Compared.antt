-- What the comparison of a text with a report tells of the text.
use Rattle.std.proofs.Common.{◌≡◌, ◌≢◌, ◌≤◌, ℕ, Bool, true, false, cond, List, [], ◌∷◌, length, filter, Option, Some, None, option_map, refl, sym, ◌∙◌, arith}
use Rattle.seata_types.specs.Orders.{same_text}
use Rattle.seata_types.specs.declared.ids.Place.{Place}
use Rattle.seata_types.specs.declared.ids.Place.TheVariants as place
use Rattle.seata_types.specs.declared.limits.TheConstants.{HISTORY_BYTES}
use Rattle.scenario_form.specs.declared.scenarios.Scenario.{Scenario}
use Rattle.history_rules.specs.ManagerRules.{Settings}
use Rattle.history_rules.specs.ResourceMemory.{Setup}
use Rattle.history_rules.specs.Histories.{same_place}
use Rattle.history_rules.specs.Nodes.{Manager, Resource, counted_at, no_past}
use Rattle.history_text.specs.declared.entries.Entry.{Entry}
use Rattle.history_text.specs.Report.{report}
use Rattle.history_text.specs.Worlds.{world_of}
use Rattle.verdict_law.specs.Verdicts.{AreLegal}
use Rattle.entry_reader.proofs.Tests.{equal_texts}
use Rattle.report_text.specs.Following.{AreCounted, acts_before, acts_of, entries_at}
use Rattle.report_judge.specs.Judging.{AreReported}
use Rattle.report_judge.specs.Steps.{ComparesReport}
use Rattle.report_judge.proofs.Readings.{other_text}

-- ---- no disk had records, so few entries are counted

resource_acts : (n : ℕ) (o : Option Setup) → acts_of (option_map (λ (s : Setup). Resource s (no_past.resource n)) o) ≡ 0
resource_acts n None = refl
resource_acts n (Some s) = refl

manager_acts : (o : Option Settings) → acts_of (option_map (λ (m : Settings). Manager m) o) ≡ 0
manager_acts None = refl
manager_acts (Some m) = refl

no_acts : (s : Scenario) (p : Place) → acts_before s no_past p ≡ 0
no_acts s place.Net = refl
no_acts s place.Tc = refl
no_acts s (place.Res n) = resource_acts n (counted_at (world_of s).resources n)
no_acts s (place.Man n) = manager_acts (counted_at (world_of s).managers n)

filter_few : {A : Type 0} (p : A → Bool) (xs : List A) → length (filter p xs) ≤ length xs
filter_few p [] = omega arith
filter_few p (x ∷ xs) = by (p x) (filter_few p xs)
  where
    by : (b : Bool) → length (filter p xs) ≤ length xs → length (cond b (x ∷ filter p xs) (filter p xs)) ≤ length (x ∷ xs)
    by true below = omega (arith, below)
    by false below = omega (arith, below)

few_counted : (s : Scenario) (es : List Entry) → length es ≤ HISTORY_BYTES → AreCounted s no_past es
few_counted s es few p =
    let none = no_acts s p in
    let some : length (entries_at p es) ≤ length es = filter_few (λ (e : Entry). same_place p e.place) es in
    omega (arith, none, some, few)

-- ---- the comparison

module _ (s : Scenario) (es : List Entry) (text : List ℕ) (few : length es ≤ HISTORY_BYTES) (legal : AreLegal (world_of s) no_past es) where
  told_is : (told : List ℕ) → told ≡ report s no_past legal.history → same_text told text ≡ true → text ≡ report s no_past legal.history
  told_is told is same = sym (equal_texts told text same) ∙ is

  told_not : (told : List ℕ) → told ≡ report s no_past legal.history → same_text told text ≡ false → text ≢ report s no_past legal.history
  told_not told is differs same = other_text told text differs (is ∙ sym same)

  pub is_told : ComparesReport s es text true → AreReported s es (λ told. text ≡ told)
  is_told c = record {
    history = legal.history;
    legal = legal.legal;
    printed = legal.printed;
    holds = told_is c.0 (c.1 legal.history legal.legal legal.printed (few_counted s es few)) (sym c.2);
  }

  pub is_not_told : ComparesReport s es text false → AreReported s es (λ told. text ≢ told)
  is_not_told c = record {
    history = legal.history;
    legal = legal.legal;
    printed = legal.printed;
    holds = told_not c.0 (c.1 legal.history legal.legal legal.printed (few_counted s es few)) (sym c.2);
  }
