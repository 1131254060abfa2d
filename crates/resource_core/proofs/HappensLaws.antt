-- What a resource answers is what happens by the rules of all nodes.
use Rattle.std.proofs.Common.{◌≡◌, ◌∙◌, ℕ, Bool, true, false, cond, List, ◌∷◌, Some, None, refl, sym, ap, subst}
use Rattle.disk_model.specs.Disk.{DiskState}
use Rattle.seata_types.specs.declared.acts.Act.{Act}
use Rattle.seata_types.specs.declared.acts.Act.TheVariants as act
use Rattle.seata_types.specs.declared.acts.Durable.{Durable}
use Rattle.seata_types.specs.declared.messages.Input.{Input}
use Rattle.seata_types.specs.declared.messages.Step.{Step}
use Rattle.durable_records.specs.declared.resources.ResourceRecord.{ResourceRecord}
use Rattle.history_rules.specs.Devices.{down_after, is_down, is_short, written}
use Rattle.history_rules.specs.Nodes.{Resource, down_answer, given_answer, happens, left_at, up_answer}
use Rattle.history_rules.specs.Own.{Given, Own, still}
use Rattle.history_rules.specs.ResourceMemory.{Setup, memory}
use Rattle.history_rules.specs.ResourceRules.{resource_answer}
use Rattle.node_steps.specs.Promises.{own_step}
use Rattle.resource_store.specs.Keeping.{setting_of}
use Rattle.resource_store.specs.Meaning.{Setting}
use Rattle.resource_rules.specs.Setups.{actions_of}
use Rattle.resource_core.specs.Holding.{Holds, setup_of}
use Rattle.resource_core.specs.Standing.{AnswersAreSteps, FailuresAreSteps}
use Rattle.resource_core.specs.declared.branches.Branches.{Branches}
use Rattle.resource_core.proofs.QuietLaws.{answers_stay_up}

-- an answer that isn't cut is done
uncut : (step : Step) (a : Act) → written false step a ≡ step
uncut step (act.Durable d) = refl
uncut step _ = refl

module _ (s : Setup) (past : List ResourceRecord) (os : List Own) (now : ℕ) (up : is_down os ≡ false) where
  -- what happens at a node that is up
  pub happens_up : (fault : Bool) (given : Input) → happens (Resource s past) os now fault false (Given given) ≡ given_answer (Resource s past) os now fault false (resource_answer s (memory s past os) given)
  happens_up fault given =
      ap (λ (b : Bool). cond b (down_answer (Resource s past) os now fault false (Given given)) (up_answer (Resource s past) os now fault false (Given given))) up

  whole : (given : Input) → is_short (left_at (Resource s past) os) ≡ false → happens (Resource s past) os now false false (Given given) ≡ resource_answer s (memory s past os) given
  whole given long =
      let step = resource_answer s (memory s past os) given in
      happens_up false given ∙ ap (λ (b : Bool). written b step step.act) long ∙ uncut step step.act

  pub cut : (given : Input) (flight : Durable) → (resource_answer s (memory s past os) given).act ≡ act.Durable flight → still (act.Down None (Some flight)) ≡ happens (Resource s past) os now true false (Given given)
  cut given flight e =
      let step = resource_answer s (memory s past os) given in
      sym (happens_up true given ∙ ap (written true step) e)

module _ {D : Type 0} (state : D → DiskState) where
  -- an answer leaves what it is of
  pub same_setup : (old new : Branches D) → setting_of new.store ≡ setting_of old.store → new.setup ≡ old.setup → setup_of old ≡ setup_of new
  same_setup old new setting same = λ i. record {
    number = (ap (λ (t : Setting). t.resource) (sym setting)) i;
    schema = (ap (λ (t : Setting). t.schema) (sym setting)) i;
    opening = (ap (λ (t : Setting). t.opening) (sym setting)) i;
    tries = ((sym same) i).tries;
    actions = actions_of ((sym same) i).actions;
    locals = ((sym same) i).locals;
  }

  pub answers_are_steps : AnswersAreSteps state
  answers_are_steps old new given step past os now a stands =
      let m = memory (setup_of old) past os in
      let taken = (a.steps m stands.holds).tells in
      record {
        is = λ long. taken.is ∙ sym (whole (setup_of old) past os now stands.up given long);
        stands = record {
          up = ap (λ (b : Bool). down_after step.act b) stands.up ∙ ap (λ (x : Step). down_after x.act false) taken.is ∙ answers_stay_up (setup_of old) m given;
          holds = subst (λ (s : Setup). Holds state new (memory s past (own_step given now step ∷ os))) (same_setup old new a.leaves.setting a.same) (taken.holds now);
        };
      }

  pub failures_are_steps : FailuresAreSteps state
  failures_are_steps old new given flight past os now a stands =
      cut (setup_of old) past os now stands.up given flight (a.steps (memory (setup_of old) past os) stands.holds).tells
