-- That an input is a scenario or has a fault, and not both, and what the bytes that were read say of a longer input.
use Rattle.std.proofs.Common.{◌≡◌, ◌≤◌, inl, inr, ℕ, List, length, Some, None, ap, sym, subst, ◌∙◌, arith}
use Rattle.std.proofs.lemmas.Option.{same_Some}
use Rattle.seata_types.specs.declared.limits.TheConstants.{INPUT_BYTES}
use Rattle.scenario_reader.specs.Form.{scenario_of}
use Rattle.scenario_reader.specs.Reading.{IsScenario, IsScenarioOf, IsFault, IsJson, IsNoJson, IsTooLong, IsNotJson, IsOtherForm}
use Rattle.scenario_reader.specs.declared.errors.ScenarioError.{ScenarioError}
use Rattle.scenario_form.specs.declared.scenarios.Scenario.{Scenario}

-- a scenario is short enough to be read whole
pub scenario_is_short : (bytes : List ℕ) (s : Scenario) → IsScenario bytes s → length bytes ≤ INPUT_BYTES
unfolding IsScenario
scenario_is_short bytes s is = is.0

none_some : {A : Type 0} {a : A} → None ≡ Some a → ⊥
none_some e = cc

-- no input is both a scenario and not one
pub scenario_has_no_fault : (bytes : List ℕ) (s : Scenario) (e : ScenarioError) → IsScenario bytes s → IsFault bytes e → ⊥
unfolding IsScenario IsScenarioOf IsFault IsTooLong IsNotJson IsOtherForm IsJson IsNoJson
scenario_has_no_fault bytes s e is f =
    elim f.1 [
      | inl long ↦ let short = is.0 in let many = long.0 in absurd (omega (arith, short, many))
      | inr other ↦
          elim other [
            | inl bare ↦ none_some (sym (bare.1 is.2.0) ∙ is.2.1)
            | inr form ↦
                let same : is.1 ≡ form.1 = same_Some is.1 form.1 (sym is.2.1 ∙ form.2.1) in
                let twice = sym is.3.0 ∙ ap scenario_of same ∙ form.3 in cc
          ]
    ]

-- a fault of the front of an input that was read is one of the input
pub fault_of_whole : (front whole : List ℕ) → length front ≤ length whole → (length front ≤ INPUT_BYTES → whole ≡ front)
    → (e : ScenarioError) → IsFault front e → IsFault whole e
unfolding IsFault IsTooLong IsNotJson IsOtherForm
fault_of_whole front whole longer all e f =
    elim f.1 [
      | inl long ↦ let many = long.0 in (f.0, inl (omega (arith, longer, many), long.1))
      | inr other ↦
          let short : length front ≤ INPUT_BYTES = elim other [ inl bare ↦ bare.0 | inr form ↦ form.0 ] in
          subst (λ b. IsFault b e) (sym (all short)) f
    ]
