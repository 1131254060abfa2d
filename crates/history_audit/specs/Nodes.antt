-- What is kept of the nodes, and of which own entries it is.
use Rattle.std.specs.Prelude.{◌≡◌, ◌<◌, ℕ, List, length, slice_get, Some}
use Rattle.seata_types.specs.declared.ids.Place.{Place}
use Rattle.seata_types.specs.declared.ids.Place.TheVariants as place
use Rattle.history_rules.specs.Own.{Own}
use Rattle.history_rules.specs.Nodes.{World, counted_at}
use Rattle.history_rules.specs.Histories.{Moment, own}
use Rattle.judged_devices.specs.declared.limits.TheConstants.{OWN_ENTRIES}
use Rattle.judged_bench.specs.Following as bench
use Rattle.judged_bench.specs.declared.benches.Bench.{Bench}
use Rattle.judged_desk.specs.Following as desk
use Rattle.judged_talk.specs.Following as talk
use Rattle.judged_talk.specs.declared.talks.Talk.{Talk}
use Rattle.history_audit.specs.declared.kept.Nodes.{Nodes}

-- ---- after these moments

-- of each setting a part is kept, which is of the own entries of its place; all are counted from 1
pub record AreParts {S P : Type 0} (at : ℕ → Place) (Follows : S → List Own → P → Type 0) (settings : List S) (parts : List P) (ms : List Moment) : Type 0 where
  pub same : length parts ≡ length settings
  pub each : (n : ℕ) (s : S) (p : P) → counted_at settings n ≡ Some s → counted_at parts n ≡ Some p → Follows s (own (at n) ms) p

-- the resources, and the managers
abbrev pub AreBenches : World → List Bench → List Moment → Type 0
AreBenches w benches ms = AreParts place.Res bench.Follows w.resources benches ms

abbrev pub AreTalks : World → List Talk → List Moment → Type 0
AreTalks w talks ms = AreParts place.Man talk.Follows w.managers talks ms

-- all nodes
pub record AreNodes (w : World) (n : Nodes) (ms : List Moment) : Type 0 where
  pub desk : desk.Follows w.times (own place.Tc ms) n.desk
  pub benches : AreBenches w n.benches.items ms
  pub talks : AreTalks w n.talks.items ms

-- ---- for the proofs alone: one entry more may come

-- each stands for own entries, and has room
abbrev pub BenchesCan : List Bench → Type 0
BenchesCan benches = (k : ℕ) (b : Bench) → slice_get benches k ≡ Some b → bench.CanTake b × (b.device.taken < OWN_ENTRIES)

abbrev pub TalksCan : List Talk → Type 0
TalksCan talks = (k : ℕ) (t : Talk) → slice_get talks k ≡ Some t → talk.CanTake t × (t.taken < OWN_ENTRIES)

pub record NodesCan (n : Nodes) : Type 0 where
  pub desk : desk.CanTake n.desk × (n.desk.device.taken < OWN_ENTRIES)
  pub benches : BenchesCan n.benches.items
  pub talks : TalksCan n.talks.items
