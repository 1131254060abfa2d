-- Each message that was sent in a legal history is one that its receiver answers by the rules.
use Rattle.std.proofs.Common.{◌≡◌, ⊎_elim, inl, inr, ◌&&◌, ℕ, Bool, true, false, if◌then◌else◌, List, [], ◌∷◌, ◌++◌, length, Option, Some, None, refl, ap, sym, subst, ◌∙◌}
use Rattle.seata_types.specs.declared.ids.Place.{Place}
use Rattle.seata_types.specs.declared.ids.Place.TheVariants as place
use Rattle.seata_types.specs.declared.messages.Message.{Message}
use Rattle.seata_types.specs.declared.messages.Message.TheVariants as message
use Rattle.seata_types.specs.declared.messages.Outgoing.{Outgoing}
use Rattle.durable_records.specs.Members.{In}
use Rattle.durable_records.specs.SessionOrder.{is_counted}
use Rattle.frame_codec.specs.Packets.{Sent}
use Rattle.scenario_form.specs.declared.scenarios.Scenario.{Scenario}
use Rattle.scenario_form.specs.Runnable.{IsRunnable}
use Rattle.history_rules.specs.Nodes.{World, Past}
use Rattle.history_rules.specs.Histories.{Moment, Legal, same_place}
use Rattle.history_law.specs.MessageSafety.{AreOfResources, NamesNodes, ReachesNode}
use Rattle.history_law.specs.Network.{EachSent, OnSent}
use Rattle.history_law.proofs.MessageHistory.{messages_over_any}
use Rattle.history_text.specs.Worlds.{world_of}
use Rattle.trace_rules.specs.Links.{said_to, sent_to, with_stamp}
use Rattle.trace_rules.specs.Traces.{at}
use Rattle.trace_rules.proofs.Order.{of_at}
use Rattle.node_seat.specs.Running.{have_resources, may_hear}
use Rattle.node_seat.specs.declared.plans.Plan.{Plan}
use Rattle.replay_runner.proofs.Roles.{length-managers, length-resources}
use Rattle.replay_runner.proofs.Worlds.{world_of-names}
use Rattle.thread_runner.proofs.Lists.{in_either}

-- ---- what was sent to a place

abbrev SaysOf : (Message → Type 0) → Option Outgoing → Type 0
SaysOf P None = Unit {0}
SaysOf P (Some out) = P out.message

module _ (P : Message → Type 0) (p : Place) where
  said_has : (stamp : ℕ) (sent : Option Outgoing) (x : Sent) → SaysOf P sent → In x (said_to p stamp sent) → P x.message
  said_has stamp None x says h = absurd h
  said_has stamp (Some out) x says h = by (same_place p out.to) h
    where
      by : (b : Bool) → In x (if b then with_stamp stamp out.message ∷ [] else []) → P x.message
      by true (inl is) = subst P (sym (ap (λ (y : Sent). y.message) is)) says
      by true (inr none) = absurd none
      by false none = absurd none

  sent_has : (ms : List Moment) → ((m : Moment) → In m ms → SaysOf P m.step.sent) → (x : Sent) → In x (sent_to p ms) → P x.message
  sent_has [] each x h = absurd h
  sent_has (m ∷ ms) each x h =
      ⊎_elim (λ older. sent_has ms (λ l i. each l (inr i)) x older) (λ newest. said_has m.stamp m.step.sent x (each m (inl refl)) newest)
      (in_either (sent_to p ms) (said_to p m.stamp m.step.sent) x h)

-- ---- of a legal history

names_of : (w : World) (past : Past) (from : Place) (sent : Option Outgoing) → OnSent (ReachesNode w past) from sent → SaysOf (NamesNodes w) sent
names_of w past from None says = tt
names_of w past from (Some out) says = says.named

each_names : (w : World) (past : Past) (ms : List Moment) → EachSent (ReachesNode w past) ms → (m : Moment) → In m ms → SaysOf (NamesNodes w) m.step.sent
each_names w past [] each m h = absurd h
each_names w past (l ∷ ms) each m (inl is) = subst (λ (k : Moment). SaysOf (NamesNodes w) k.step.sent) (sym is) (names_of w past l.place l.step.sent each.1)
each_names w past (l ∷ ms) each m (inr h) = each_names w past ms each.0 m h

both : (a b : Bool) → a ≡ true → b ≡ true → (a && b) ≡ true
both a b one two = ap (λ x. x && b) one ∙ two

named_heard : (w : World) (plan : Plan) → plan.managers ≡ length w.managers → plan.resources ≡ length w.resources → (heard : Message) → NamesNodes w heard → may_hear plan place.Tc heard ≡ true
named_heard w plan users servers (message.Begin manager timeout) named = ap (λ n. is_counted n manager) users ∙ named
named_heard w plan users servers (message.Register xid resource call ticket kind hold check) named =
    ap (λ n. is_counted n resource && have_resources n hold) servers ∙ both (is_counted (length w.resources) resource) (have_resources (length w.resources) hold) named.0 named.1
named_heard w plan users servers _ named = refl

-- what was sent to a node it may hear
pub sent_heard : (s : Scenario) → IsRunnable s → (past : Past) → AreOfResources (world_of s) past.sessions → (ms : List Moment) → Legal (world_of s) past ms → (plan : Plan) → plan.managers ≡ length s.managers → plan.resources ≡ length s.resources
    → (p from : Place) (x : Sent) → In x (sent_to p (at from ms)) → may_hear plan p x.message ≡ true
sent_heard s runs past of ms legal plan users servers place.Tc from x h =
    named_heard (world_of s) plan (users ∙ sym (length-managers s.lock_tries 1 s.managers)) (servers ∙ sym (length-resources s)) x.message
    (sent_has (NamesNodes (world_of s)) place.Tc (at from ms)
    (λ m i. each_names (world_of s) past ms (messages_over_any (world_of s) past ms (world_of-names s runs) of legal) m (of_at from ms m i).0) x h)
sent_heard s runs past of ms legal plan users servers place.Net from x h = refl
sent_heard s runs past of ms legal plan users servers (place.Res n) from x h = refl
sent_heard s runs past of ms legal plan users servers (place.Man n) from x h = refl
