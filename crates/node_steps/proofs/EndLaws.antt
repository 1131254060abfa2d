-- A record that an entry makes has a place, or it has none: never both, whatever the disks do.
use Rattle.std.proofs.Common.{◌≡◌, ℕ, Bool, true, false, List, Option, Some, None, refl, ◌∙◌, ap, subst, arith}
use Rattle.std.specs.Option.{option_and_then}
use Rattle.seata_types.specs.declared.acts.Act.{Act}
use Rattle.seata_types.specs.declared.acts.Act.TheVariants as act
use Rattle.seata_types.specs.declared.acts.Durable.{Durable}
use Rattle.seata_types.specs.declared.errors.Full.{Full}
use Rattle.seata_types.specs.declared.messages.Input.{Input}
use Rattle.seata_types.specs.declared.messages.Step.{Step}
use Rattle.journal_checkpoint.specs.Extents.{Extent}
use Rattle.durable_records.specs.declared.resources.ResourceRecord.{ResourceRecord}
use Rattle.history_rules.specs.Own.{Own, Given, Restarted, asked_act, kept_records}
use Rattle.history_rules.specs.Devices.{is_down, written, fails, restarted, kept_act}
use Rattle.history_rules.specs.CoordinatorMemory.{session_record}
use Rattle.history_rules.specs.ResourceMemory.{Setup, memory, resource_record}
use Rattle.history_rules.specs.Nodes.{Role, Coordinator, Resource, Manager, answer, happens, left_at}
use Rattle.node_steps.specs.Ends.{EntryFits, EntryOver, boot_or}
use Rattle.node_steps.specs.Promises.{own_entry, own_step, boot_failed}

-- what a durable answer asks for, it asks for too where it takes the node down
asked_alike : {X : Type 0} (f : Act → X) → ((d : Durable) → f (act.Down None (Some d)) ≡ f (act.Durable d)) → (b : Bool) (step : Step) (a : Act) → step.act ≡ a → f (written b step a).act ≡ f a
asked_alike f same true step (act.Durable d) e = same d
asked_alike f same false step (act.Durable d) e = ap f e
asked_alike f same b step _ e = ap f e

-- at a node that is up
module _ (start : Extent) (size : ℕ) (os : List Own) (now : ℕ) (given : Input) (fault keeps : Bool) (full : Full) (up : is_down os ≡ false) where
  pub full_or_made : (role : Role) → EntryFits role start size os (own_step given now (happens role os now fault keeps (Given given))) → EntryOver role start size os (own_step given now (answer role os now given)) full → ⊥
  full_or_made (Coordinator times past) fits over =
      let role = Coordinator times past in
      let step = answer role os now given in
      let asked = λ (a : Act). option_and_then (session_record now (Given given)) (asked_act a) in
      let made : asked (happens role os now fault keeps (Given given)).act ≡ asked step.act = rw up (asked_alike asked (λ d. refl) (fails fault (left_at role os)) step step.act refl) in
      omega (arith, fits over.0 (made ∙ over.1), over.2.past_end)
  full_or_made (Resource setup past) fits over =
      let role = Resource setup past in
      let step = answer role os now given in
      let m = memory setup past os in
      let asked = λ (a : Act). boot_or a m.left (option_and_then (resource_record setup (kept_records a m.left) m.opens (Given given)) (asked_act a)) in
      let made : asked (happens role os now fault keeps (Given given)).act ≡ asked step.act = rw up (asked_alike asked (λ d. refl) (fails fault (left_at role os)) step step.act refl) in
      omega (arith, fits over.0 (made ∙ over.1), over.2.past_end)
  full_or_made (Manager settings) fits over = over

-- the boot of a restart, by what it keeps
module _ (setup : Setup) (past : List ResourceRecord) (start : Extent) (size : ℕ) (os : List Own) (now pick : ℕ) (calls : Option ℕ) (keeps : Bool) (full : Full) where
  boot_by : (failed : Bool) → EntryFits (Resource setup past) start size os (own_entry (Restarted pick calls) now (restarted true failed (kept_act keeps os (left_at (Resource setup past) os))))
      → EntryOver (Resource setup past) start size os (boot_failed (Resource setup past) os now pick calls keeps) full → ⊥
  boot_by true fits over = omega (arith, fits over.0 over.1, over.2.past_end)
  boot_by false fits over = omega (arith, fits over.0 over.1, over.2.past_end)

  pub boot_or_full : (fault : Bool) → is_down os ≡ true → EntryFits (Resource setup past) start size os (own_entry (Restarted pick calls) now (happens (Resource setup past) os now fault keeps (Restarted pick calls)))
      → EntryOver (Resource setup past) start size os (boot_failed (Resource setup past) os now pick calls keeps) full → ⊥
  boot_or_full fault down fits over =
      let here : happens (Resource setup past) os now fault keeps (Restarted pick calls) ≡ restarted true (fails fault calls) (kept_act keeps os (left_at (Resource setup past) os)) = rw down refl in
      boot_by (fails fault calls) (subst (λ (s : Step). EntryFits (Resource setup past) start size os (own_entry (Restarted pick calls) now s)) here fits) over
