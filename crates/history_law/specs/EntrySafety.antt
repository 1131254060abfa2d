-- What an entry shows of its moment, and that it tells the moment whole.
use Rattle.std.specs.Prelude.{◌≡◌, ℕ, List, map}
use Rattle.seata_types.specs.declared.acts.Act.{Act}
use Rattle.seata_types.specs.declared.ids.Place.{Place}
use Rattle.history_rules.specs.Nodes.{World, Past}
use Rattle.history_rules.specs.Histories.{Cause, Moment, Legal}

-- what the line of an entry shows besides what was sent: its stamp, place and clock, why it happened, and what was done
pub record Shown : Type 0 where
  pub stamp : ℕ
  pub place : Place
  pub now : ℕ
  pub cause : Cause
  pub act : Act

-- the same of a moment; its event and its message are left out
abbrev pub shown : Moment → Shown
shown m = record { stamp = m.stamp; place = m.place; now = m.now; cause = m.cause; act = m.step.act }

-- two legal histories over the same disks whose entries show the same are the same
abbrev pub EntriesTellMoments : Type 0
EntriesTellMoments = (w : World) (past : Past) (ms ns : List Moment) → Legal w past ms → Legal w past ns → map shown ms ≡ map shown ns → ms ≡ ns
