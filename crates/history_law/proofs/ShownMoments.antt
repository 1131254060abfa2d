-- A legal history is told by what its entries show: an act tells its step.
use Rattle.std.proofs.Common.{◌≡◌, ℕ, Bool, true, false, if◌then◌else◌, List, [], ◌∷◌, map, Option, Some, None, refl, sym, ap, ◌∙◌, subst}
use Rattle.seata_types.specs.declared.acts.Act.{Act}
use Rattle.seata_types.specs.declared.acts.Act.TheVariants as act
use Rattle.seata_types.specs.declared.acts.Durable.{Durable}
use Rattle.seata_types.specs.declared.ids.Place.{Place}
use Rattle.seata_types.specs.declared.messages.Step.{Step}
use Rattle.history_rules.specs.Own.{Event, Given, Stopped, Crashed, Restarted, Own, still}
use Rattle.history_rules.specs.Devices.{is_down, fails, kept_act, written, restarted}
use Rattle.history_rules.specs.Nodes.{Role, World, Past, role_at, writes_boot, answer, left_at, up_answer, down_answer, happens}
use Rattle.history_rules.specs.Histories.{Moment, own, brings, HappensAt, IsDone, Stands}
use Rattle.history_law.specs.EntrySafety.{Shown, shown, EntriesTellMoments}

-- ---- steps

-- what is done of an answer is told by its act
written_told : (f g : Bool) (step : Step) (a : Act) → step.act ≡ a → (written f step a).act ≡ (written g step a).act → written f step a ≡ written g step a
written_told true true step a is same = refl
written_told false false step a is same = refl
written_told true false step (act.Durable flight) is same = let no : act.Down None (Some flight) ≡ act.Durable flight = same ∙ is in absurd cc
written_told true false step _ is same = refl
written_told false true step (act.Durable flight) is same = let no : act.Durable flight ≡ act.Down None (Some flight) = sym is ∙ same in absurd cc
written_told false true step _ is same = refl

restarted_still : (boots failed : Bool) (kept : Option Durable) → restarted boots failed kept ≡ still (restarted boots failed kept).act
restarted_still true true kept = refl
restarted_still true false kept = refl
restarted_still false failed kept = refl

module _ (role : Role) (os : List Own) (now : ℕ) (f k g l : Bool) where
  up_told : (event : Event) → (up_answer role os now f k event).act ≡ (up_answer role os now g l event).act → up_answer role os now f k event ≡ up_answer role os now g l event
  up_told (Given given) e = written_told (fails f (left_at role os)) (fails g (left_at role os)) (answer role os now given) (answer role os now given).act refl e
  up_told (Stopped calls) e = refl
  up_told Crashed e = refl
  up_told (Restarted pick calls) e = refl

  down_told : (event : Event) → (down_answer role os now f k event).act ≡ (down_answer role os now g l event).act → down_answer role os now f k event ≡ down_answer role os now g l event
  down_told (Given given) e = refl
  down_told (Stopped calls) e = refl
  down_told Crashed e = refl
  down_told (Restarted pick calls) e =
      restarted_still (writes_boot role) (fails f calls) (kept_act k os (left_at role os)) ∙ ap still e
      ∙ sym (restarted_still (writes_boot role) (fails g calls) (kept_act l os (left_at role os)))

  by_down : (event : Event) (down : Bool)
      → (if down then down_answer role os now f k event else up_answer role os now f k event).act ≡ (if down then down_answer role os now g l event else up_answer role os now g l event).act
      → (if down then down_answer role os now f k event else up_answer role os now f k event) ≡ (if down then down_answer role os now g l event else up_answer role os now g l event)
  by_down event true e = down_told event e
  by_down event false e = up_told event e

-- ---- moments

at_told : (r : Option Role) (os : List Own) (now : ℕ) (event : Event) (s t : Step) → HappensAt r os now event s → HappensAt r os now event t → s.act ≡ t.act → s ≡ t
at_told None os now event s t h k e = absurd h
at_told (Some role) os now event s t h k e =
    let same : (happens role os now h.fault h.keeps event).act ≡ (happens role os now k.fault k.keeps event).act = sym (ap (λ (z : Step). z.act) h.done) ∙ e ∙ ap (λ (z : Step). z.act) k.done in
    h.done ∙ by_down role os now h.fault h.keeps k.fault k.keeps event (is_down os) same ∙ sym k.done

module _ (w : World) (past : Past) (ms : List Moment) where
  -- what is done at a place is told by its act
  done_told : (m n : Moment) (event : Option Event) → m.place ≡ n.place → m.now ≡ n.now → IsDone w past ms m event → IsDone w past ms n event → m.step.act ≡ n.step.act → m.step ≡ n.step
  done_told m n None p at d e same = d.1 ∙ sym e.1
  done_told m n (Some event) p at d e same =
      at_told (role_at w past n.place) (own n.place ms) n.now event m.step n.step
      (subst (λ (t : ℕ). HappensAt (role_at w past n.place) (own n.place ms) t event m.step) at (subst (λ (q : Place). HappensAt (role_at w past q) (own q ms) m.now event m.step) p d)) e same

  -- two moments that may come after these are told by what they show
  moment_told : (m n : Moment) → Stands w past ms m → Stands w past ms n → shown m ≡ shown n → m ≡ n
  moment_told m n a b e =
      let place_is : m.place ≡ n.place = ap (λ (z : Shown). z.place) e in
      let now_is : m.now ≡ n.now = ap (λ (z : Shown). z.now) e in
      let cause_is : m.cause ≡ n.cause = ap (λ (z : Shown). z.cause) e in
      let event_is : m.event ≡ n.event =
      a.brought ∙ ap (λ (p : Place). brings ms p m.cause) place_is ∙ ap (brings ms n.place) cause_is ∙ sym b.brought in
      let stamp_is : m.stamp ≡ n.stamp = ap (λ (z : Shown). z.stamp) e in
      let step_is : m.step ≡ n.step =
      done_told m n n.event place_is now_is (subst (IsDone w past ms m) event_is a.done) b.done (ap (λ (z : Shown). z.act) e) in
      λ i. record { stamp = stamp_is i; place = place_is i; now = now_is i; cause = cause_is i; event = event_is i; step = step_is i }

-- ---- histories

pub entries_tell_moments : EntriesTellMoments
entries_tell_moments w past [] [] a b e = refl
entries_tell_moments w past [] (n ∷ ns) a b e = absurd cc
entries_tell_moments w past (m ∷ ms) [] a b e = absurd cc
entries_tell_moments w past (m ∷ ms) (n ∷ ns) a b e =
    let head : shown m ≡ shown n = cc in
    let tail : map shown ms ≡ map shown ns = cc in
    let below : ms ≡ ns = entries_tell_moments w past ms ns a.0 b.0 tail in
    let one : m ≡ n = moment_told w past ns m n (subst (λ (z : List Moment). Stands w past z m) below a.1) b.1 head in
    ap (λ (z : List Moment). m ∷ z) below ∙ ap (λ (z : Moment). z ∷ ns) one
