-- What a desk and a bench take: what is shown of the device, in the words of the rules.
use Rattle.std.proofs.Common.{◌≡◌, ◌+◌, ℕ, Bool, true, false, if◌then◌else◌, List, length, Option, Some, None, refl, sym, ap, ◌∙◌, arith}
use Rattle.seata_types.specs.declared.acts.Act.{Act}
use Rattle.seata_types.specs.declared.messages.Input.{Input}
use Rattle.seata_types.specs.declared.messages.Step.{Step}
use Rattle.history_rules.specs.Own.{Event, Given, Stopped, Crashed, Restarted, Own, still}
use Rattle.history_rules.specs.Devices.{is_down, calls_left, in_flight, down_after, left_after, flight_after, fails, kept_act, may_stand, restarted, written}
use Rattle.history_rules.specs.Nodes.{Role, ComesTo, answer, down_answer, happens, left_at, up_answer, writes_boot}
use Rattle.judged_devices.specs.declared.devices.Device.{Device}
use Rattle.judged_devices.specs.declared.shown.Plain.{Plain}
use Rattle.judged_devices.specs.declared.shown.Shown.{Shown}
use Rattle.judged_devices.specs.Noting.{IsDevice, noted}
use Rattle.judged_devices.specs.Showing.{IsGiven, IsPlain, given_in, Shows, ShowsPlain, done_as, down_step, kept_flight, own_step, shown_step, up_step}
use Rattle.judged_devices.specs.Taking.{IsDoneAs, one_more}
use Rattle.judged_devices.proofs.Answered.{shown_acts, written_as}

-- ---- the device after one more entry

pub device_after : (boots : Bool) (os : List Own) (d : Device) (event : Event) (now : ℕ) (step : Step) (done : Act) → IsDevice boots os d → step.act ≡ done
    → IsDevice boots (one_more os event now step) (noted boots event done d)
device_after boots os d event now step done is same = record {
  down = ap (down_after done) is.down ∙ ap (λ (a : Act). down_after a (is_down os)) (sym same);
  left = ap (left_after boots event done) is.left ∙ ap (λ (a : Act). left_after boots event a (calls_left boots os)) (sym same);
  flight = ap (flight_after done) is.flight ∙ ap (λ (a : Act). flight_after a (in_flight os)) (sym same);
  taken = ap (λ (n : ℕ). n + 1) is.taken ∙ (let more : length os + 1 ≡ length (one_more os event now step) = omega arith in more);
}

-- ---- what is given

pub given_is : (down : Bool) (event : Event) (given : Input) → given_in down event ≡ Some given → (down ≡ false) × (event ≡ Given given)
given_is false (Given g) given e = let same : g ≡ given = cc in (refl, ap Given same)
given_is false (Stopped calls) given e = absurd cc
given_is false Crashed given e = absurd cc
given_is false (Restarted pick calls) given e = absurd cc
given_is true event given e = absurd cc

pub not_given : (d : Device) (event : Event) → given_in d.down event ≡ None → IsPlain d event
not_given d (Given g) e up given = let no : ◌≡◌ {A = Option Input} (Some g) None = sym (ap (λ (b : Bool). given_in b (Given g)) up) ∙ e in absurd cc
not_given d (Stopped calls) e up given = given
not_given d Crashed e up given = given
not_given d (Restarted pick calls) e up given = given

module _ (role : Role) (os : List Own) (d : Device) (now : ℕ) (is : IsDevice (writes_boot role) os d) where
  -- ---- what the rule answers

  module _ (given : Input) (up : d.down ≡ false) where
    -- what happens is the rule's answer, done or cut short
    happens_given : (fault keeps : Bool) → happens role os now fault keeps (Given given)
        ≡ shown_step (done_as (fails fault d.left) (answer role os now given).act) (answer role os now given)
    happens_given fault keeps =
        ap (λ (b : Bool). if b then down_answer role os now fault keeps (Given given) else up_answer role os now fault keeps (Given given)) (sym is.down ∙ up)
        ∙ ap (λ (left : Option ℕ). written (fails fault left) (answer role os now given) (answer role os now given).act) (sym is.left)
        ∙ written_as (fails fault d.left) (answer role os now given) (answer role os now given).act

    pub taken_shown : (done : Act) (s : Shown) → ComesTo role (Given given) → Shows d.left (answer role os now given).act done (Some s)
        → IsDoneAs role os (Given given) now done (shown_step s (answer role os now given))
    taken_shown done s comes shows = record {
      happens = record {
        fault = shows.fault;
        keeps = false;
        comes = comes;
        done = ap (λ (t : Shown). shown_step t (answer role os now given)) (sym shows.so) ∙ sym (happens_given shows.fault false);
      };
      same_act = shown_acts s (answer role os now given) ∙ shows.same_act;
    }

    pub none_shown : (done : Act) → Shows d.left (answer role os now given).act done None → (step : Step) → IsDoneAs role os (Given given) now done step → ⊥
    none_shown done shows step does =
        let s = done_as (fails does.happens.fault d.left) (answer role os now given).act in
        shows does.happens.fault
        (sym (shown_acts s (answer role os now given)) ∙ ap (λ (t : Step). t.act) (sym (does.happens.done ∙ happens_given does.happens.fault does.happens.keeps)) ∙ does.same_act)

  -- ---- what a node does by itself

  kept_is : (keeps : Bool) → kept_act keeps os (left_at role os) ≡ kept_flight keeps d.left d.flight
  kept_is keeps = λ i. if keeps then (if may_stand (sym is.left i) then sym is.flight i else None) else None

  down_is : (fault keeps : Bool) (event : Event) → down_answer role os now fault keeps event ≡ down_step (writes_boot role) fault keeps d event
  down_is fault keeps (Restarted pick calls) = ap (restarted (writes_boot role) (fails fault calls)) (kept_is keeps)
  down_is fault keeps (Given given) = refl
  down_is fault keeps (Stopped calls) = refl
  down_is fault keeps Crashed = refl

  up_is : (fault keeps : Bool) (event : Event) → (IsGiven event → ⊥) → up_answer role os now fault keeps event ≡ up_step event
  up_is fault keeps (Given given) alone = absurd (alone tt)
  up_is fault keeps (Stopped calls) alone = refl
  up_is fault keeps Crashed alone = refl
  up_is fault keeps (Restarted pick calls) alone = refl

  happens_own : (event : Event) → IsPlain d event → (fault keeps : Bool) → happens role os now fault keeps event ≡ own_step (writes_boot role) fault keeps d event
  happens_own event alone fault keeps = ap by (sym is.down) ∙ same d.down refl
    where
      by : Bool → Step
      by down = if down then down_answer role os now fault keeps event else up_answer role os now fault keeps event

      same : (down : Bool) → d.down ≡ down → by d.down ≡ own_step (writes_boot role) fault keeps d event
      same true e = ap by e ∙ down_is fault keeps event ∙ sym (ap (λ (b : Bool). if b then down_step (writes_boot role) fault keeps d event else up_step event) e)
      same false e = ap by e ∙ up_is fault keeps event (alone e) ∙ sym (ap (λ (b : Bool). if b then down_step (writes_boot role) fault keeps d event else up_step event) e)

  pub taken_plain : (event : Event) (done : Act) (p : Plain) → IsPlain d event → ComesTo role event → ShowsPlain (writes_boot role) d event done (Some p)
      → IsDoneAs role os event now done (still done)
  taken_plain event done p alone comes shows = record {
    happens = record { fault = shows.1.fault; keeps = shows.1.keeps; comes = comes; done = sym (happens_own event alone shows.1.fault shows.1.keeps ∙ shows.1.is) };
    same_act = refl;
  }

  pub none_plain : (event : Event) (done : Act) → IsPlain d event → ShowsPlain (writes_boot role) d event done None → (step : Step) → IsDoneAs role os event now done step → ⊥
  none_plain event done alone shows step does =
      shows does.happens.fault does.happens.keeps
      (ap (λ (t : Step). t.act) (sym (does.happens.done ∙ happens_own event alone does.happens.fault does.happens.keeps)) ∙ does.same_act)
