-- How an answer is shown, from what is seen of the acts.
use Rattle.std.proofs.Common.{◌≡◌, ◌≢◌, ℕ, Bool, true, false, if◌then◌else◌, Option, Some, None, refl, sym, ap, subst, ◌∙◌, true≢false}
use Rattle.seata_types.specs.declared.acts.Act.{Act}
use Rattle.seata_types.specs.declared.acts.Act.TheVariants as act
use Rattle.seata_types.specs.declared.acts.Durable.{Durable}
use Rattle.seata_types.specs.declared.messages.Step.{Step}
use Rattle.history_rules.specs.Devices.{fails, is_short, written}
use Rattle.judged_devices.specs.declared.shown.Shown.{Shown}
use Rattle.judged_devices.specs.declared.shown.Shown.TheVariants as shown
use Rattle.judged_devices.specs.Looking.{ShowsDurable, cut_in, durable_in}
use Rattle.judged_devices.specs.Showing.{Shows, done_as, shown_act, shown_step}
use Rattle.judged_devices.proofs.Seen.{is_cut, is_durable}

-- ---- durable answers

module _ (left : Option ℕ) (d : Durable) (done : Act) where
  abbrev cut_step : Bool → Shown
  cut_step failed = if failed then shown.Cut d else shown.Done

  done_shown : (seen : durable_in done ≡ Some d) → is_short left ≡ false → Shows left (act.Durable d) done (Some shown.Done)
  done_shown seen long = record { fault = false; so = ap cut_step long; same_act = sym (is_durable done d seen) }

  cut_shown : cut_in done ≡ Some d → Shows left (act.Durable d) done (Some (shown.Cut d))
  cut_shown cut = record { fault = true; so = refl; same_act = sym (is_cut done d cut) }

  not_shown : cut_in done ≢ Some d → (durable_in done ≡ Some d → is_short left ≡ true) → Shows left (act.Durable d) done None
  not_shown uncut short fault = by (fails fault left) refl
    where
      by : (failed : Bool) → fails fault left ≡ failed → shown_act (cut_step failed) (act.Durable d) ≢ done
      by true e is = uncut (ap cut_in (sym is))
      by false e is = longer fault e (short (ap durable_in (sym is)))
        where
          longer : (fault : Bool) → fails fault left ≡ false → is_short left ≡ true → ⊥
          longer true e s = true≢false e
          longer false e s = true≢false (sym s ∙ e)

  durable_as : (result : Option Shown) → ShowsDurable left d (durable_in done) (cut_in done) result → Shows left (act.Durable d) done result
  durable_as (Some shown.Done) s = done_shown s.0 s.1
  durable_as (Some (shown.Cut flight)) s = subst (λ (f : Durable). Shows left (act.Durable d) done (Some (shown.Cut f))) (sym s.1) (cut_shown s.0)
  durable_as None s = not_shown s.0 s.1

-- a durable answer, by what is seen of the entry's act
pub shows_durable : (left : Option ℕ) (answer done : Act) (d : Durable) (result : Option Shown) → durable_in answer ≡ Some d
    → ShowsDurable left d (durable_in done) (cut_in done) result → Shows left answer done result
shows_durable left answer done d result is s =
    subst (λ (a : Act). Shows left a done result) (sym (is_durable answer d is)) (durable_as left d done result s)

-- ---- all others

done_only : (failed : Bool) (answer : Act) → durable_in answer ≡ None → done_as failed answer ≡ shown.Done
done_only failed (act.Durable d) e = absurd cc
done_only failed _ e = refl

pub shows_same : (left : Option ℕ) (answer done : Act) → durable_in answer ≡ None → answer ≡ done → Shows left answer done (Some shown.Done)
shows_same left answer done is same = record { fault = false; so = done_only (fails false left) answer is; same_act = same }

pub shows_none : (left : Option ℕ) (answer done : Act) → durable_in answer ≡ None → answer ≢ done → Shows left answer done None
shows_none left answer done is other fault same = other (sym (ap (λ (s : Shown). shown_act s answer) (done_only (fails fault left) answer is)) ∙ same)

-- ---- the step of an answer that is shown

pub written_as : (failed : Bool) (step : Step) (a : Act) → written failed step a ≡ shown_step (done_as failed a) step
written_as true step (act.Durable d) = refl
written_as false step (act.Durable d) = refl
written_as failed step _ = refl

pub shown_acts : (s : Shown) (step : Step) → (shown_step s step).act ≡ shown_act s step.act
shown_acts shown.Done step = refl
shown_acts (shown.Cut flight) step = refl
