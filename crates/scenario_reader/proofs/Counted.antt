-- The single steps of a schedule.
use Rattle.std.proofs.Common.{◌≡◌, ◌+◌, ◌≤◌, ◌<◌, ℕ, List, [], ◌∷◌, ◌++◌, Ok, true, false, nat_le, refl, arith}
use Rattle.std.proofs.lemmas.Bool.Decides.{nat_tests}
use Rattle.serde_json.specs.Data.{Data}
use Rattle.seata_types.specs.declared.limits.TheConstants.{STEPS}
use Rattle.scenario_form.specs.declared.scenarios.ManagerDef.{ManagerDef}
use Rattle.scenario_form.specs.declared.scenarios.ResourceDef.{ResourceDef}
use Rattle.scenario_form.specs.declared.scenarios.ScheduleItem.{ScheduleItem}
use Rattle.scenario_reader.specs.Faults.{beyond}
use Rattle.scenario_form.specs.Runnable.{all_steps, steps_of}
use Rattle.scenario_reader.specs.Steps.{item_of, next_item}

-- the steps with one more item
pub all_steps_push : (items : List ScheduleItem) (x : ScheduleItem) → all_steps (items ++ x ∷ []) ≡ all_steps items + steps_of x
all_steps_push [] x = omega arith
all_steps_push (y ∷ items) x =
    let rest = all_steps_push items x in
    let whole : all_steps (y ∷ (items ++ x ∷ [])) ≡ steps_of y + all_steps (items ++ x ∷ []) = refl in
    let before : all_steps (y ∷ items) ≡ steps_of y + all_steps items = refl in
    omega (arith, rest, whole, before)

fits : (n : ℕ) → n ≤ STEPS → nat_le n STEPS ≡ true
fits n h = grind (arith, nat_tests)

passes : (n : ℕ) → STEPS < n → nat_le n STEPS ≡ false
passes n h = grind (arith, nat_tests)

-- an item whose steps still fit
pub item_fits : (rs : List ResourceDef) (ms : List ManagerDef) (count steps : ℕ) (items : List ScheduleItem) (d : Data) (x : ScheduleItem)
    → item_of rs ms count d ≡ Ok x → steps ≡ all_steps items → steps + steps_of x ≤ STEPS → next_item rs ms count items d ≡ Ok x
unfolding next_item
item_fits rs ms count steps items d x reads is few = rw (reads, fits (all_steps items + steps_of x) (omega (arith, is, few)))

-- an item that passes the bound
pub item_is_beyond : (rs : List ResourceDef) (ms : List ManagerDef) (count steps : ℕ) (items : List ScheduleItem) (d : Data) (x : ScheduleItem)
    → item_of rs ms count d ≡ Ok x → steps ≡ all_steps items → STEPS < steps + steps_of x → next_item rs ms count items d ≡ beyond STEPS
unfolding next_item
item_is_beyond rs ms count steps items d x reads is many = rw (reads, passes (all_steps items + steps_of x) (omega (arith, is, many)))
