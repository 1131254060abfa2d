-- What a talk takes of an entry, by the rules.
use Rattle.std.proofs.Common.{◌≡◌, ◌+◌, ◌<◌, ◌≤◌, ◌^◌, ℕ, Bool, false, if◌then◌else◌, List, [], ◌∷◌, length, Option, Some, None, refl, sym, ap, ◌∙◌, arith}
use Rattle.seata_types.specs.declared.acts.Act.{Act}
use Rattle.seata_types.specs.declared.acts.Act.TheVariants as act
use Rattle.seata_types.specs.declared.messages.Input.{Input}
use Rattle.seata_types.specs.declared.messages.Outgoing.{Outgoing}
use Rattle.seata_types.specs.declared.messages.Step.{Step}
use Rattle.history_rules.specs.Own.{Given, Own}
use Rattle.history_rules.specs.Devices.{fails, written}
use Rattle.history_rules.specs.Nodes.{down_answer, happens, left_at, up_answer}
use Rattle.history_rules.specs.Nodes.{Manager as ManagerRole}
use Rattle.history_rules.specs.ManagerRules.{Settings, counted, manager_answer, sent_count}
use Rattle.judged_devices.specs.declared.limits.TheConstants.{OWN_ENTRIES}
use Rattle.judged_devices.specs.Taking.{Takes}
use Rattle.manager_rules.specs.Answers.{IsAnswered, IsUndurable, own_step}
use Rattle.judged_talk.specs.Following.{CanTake, Follows}
use Rattle.judged_talk.specs.declared.talks.Talk.{Talk}

-- ---- room

one_sent : (out : Option Outgoing) (n : ℕ) → counted out n ≤ n + 1
one_sent None n = omega arith
one_sent (Some o) n = omega arith

sent_few : (os : List Own) → sent_count os ≤ length os
sent_few [] = omega arith
sent_few (o ∷ os) =
    let below = sent_few os in
    let one = one_sent o.step.sent (sent_count os) in
    let long : length (o ∷ os) ≡ length os + 1 = omega arith in
    omega (arith, below, one, long)

pub has_room : (t : Talk) → CanTake t → t.taken < OWN_ENTRIES → t.talk.sent + 1 < 2 ^ 32
has_room t can room =
    let few = sent_few can.1 in
    let sent = can.2.tracks.counted in
    let taken = can.2.taken in
    omega (arith, few, sent, taken, room)

-- ---- what happens

written_so : (failed : Bool) (step : Step) (a : Act) → IsUndurable a → written failed step a ≡ step
written_so failed step (act.Durable d) quiet = absurd quiet
written_so failed step _ quiet = refl

module _ (t u : Talk) (m : Settings) (os : List Own) (f : Follows m os t) (given : Input) (step : Step) (now : ℕ) (a : IsAnswered t.talk u.talk given step) (more : u.taken ≡ t.taken + 1) where
  rule : step ≡ manager_answer m os given
  rule = (a.takes os now f.tracks).0 ∙ ap (λ (s : Settings). manager_answer s os given) f.settings

  happens_so : (fault keeps : Bool) → happens (ManagerRole m) os now fault keeps (Given given) ≡ step
  happens_so fault keeps =
      ap (λ (b : Bool). if b then down_answer (ManagerRole m) os now fault keeps (Given given) else up_answer (ManagerRole m) os now fault keeps (Given given)) f.tracks.up
      ∙ ap (λ (s : Step). written (fails fault (left_at (ManagerRole m) os)) s s.act) (sym rule)
      ∙ written_so (fails fault (left_at (ManagerRole m) os)) step step.act a.undurable

  follows : Follows m (own_step given now step ∷ os) u
  follows = record {
    settings = a.same ∙ f.settings;
    tracks = (a.takes os now f.tracks).1;
    taken = more ∙ ap (λ (n : ℕ). n + 1) f.taken ∙ (let long : length os + 1 ≡ length (own_step given now step ∷ os) = omega arith in long);
  }

  pub taken_same : (done : Act) → step.act ≡ done → Takes (ManagerRole m) os (Given given) now done (λ after. Follows m after u) (Some step)
  taken_same done same =
      (record { happens = record { fault = false; keeps = false; comes = tt; done = sym (happens_so false false) }; same_act = same }, follows)

  pub taken_not : (done : Act) → (step.act ≡ done → ⊥) → Takes (ManagerRole m) os (Given given) now done (λ after. Follows m after u) None
  taken_not done other s does =
      other (ap (λ (z : Step). z.act) (sym (happens_so does.happens.fault does.happens.keeps) ∙ sym does.happens.done) ∙ does.same_act)
