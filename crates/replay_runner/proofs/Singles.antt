-- How many single steps a schedule has.
use Rattle.std.proofs.Common.{◌≡◌, ℕ, zero, suc, List, [], ◌∷◌, length, map, refl, arith, length-append}
use Rattle.scenario_form.specs.declared.scenarios.ScheduleItem.{ScheduleItem}
use Rattle.scenario_form.specs.declared.scenarios.ScheduleItem.TheVariants as step
use Rattle.scenario_form.specs.Runnable.{all_steps, steps_of}
use Rattle.history_rules.specs.Schedules.{Auto, singles, singles_of, times}
use Rattle.history_text.specs.Worlds.{item_of}

length-times : {A : Type 0} (n : ℕ) (a : A) → length (times n a) ≡ n
length-times zero a = refl
length-times (suc n) a = let rest = length-times n a in omega (arith, rest)

single_steps : (i : ScheduleItem) → length (singles_of (item_of i)) ≡ steps_of i
single_steps (step.Turn place) = refl
single_steps (step.Deliver stamp) = refl
single_steps (step.Wait ticks) = refl
single_steps (step.Stop place calls) = refl
single_steps (step.Crash place) = refl
single_steps (step.Restart place pick calls) = refl
single_steps (step.Local number) = refl
single_steps (step.Outside number) = refl
single_steps (step.Auto steps) = length-times steps (Auto 1)

pub length-singles : (items : List ScheduleItem) → length (singles (map item_of items)) ≡ all_steps items
length-singles [] = refl
length-singles (i ∷ items) =
    let first = single_steps i in
    let rest = length-singles items in
    omega (arith, length-append (singles_of (item_of i)) (singles (map item_of items)), first, rest)
