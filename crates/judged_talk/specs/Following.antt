-- What a talk is of its own entries.
use Rattle.std.specs.Prelude.{◌≡◌, List, length}
use Rattle.history_rules.specs.Own.{Own}
use Rattle.history_rules.specs.ManagerRules.{Settings}
use Rattle.manager_rules.specs.Tracks.{Tracks}
use Rattle.judged_talk.specs.declared.talks.Talk.{Talk}

-- a talk is a manager with these settings after these own entries
pub record Follows (m : Settings) (os : List Own) (t : Talk) : Type 0 where
  pub settings : t.talk.settings ≡ m
  pub tracks : Tracks t.talk os
  pub taken : t.taken ≡ length os

-- it is one after some own entries
abbrev pub CanTake : Talk → Type 0
CanTake t = (m : Settings) × (os : List Own) × Follows m os t
