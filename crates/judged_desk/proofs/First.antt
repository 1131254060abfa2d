-- The coordinator without own entries, over disks without records.
use Rattle.std.proofs.Common.{◌≡◌, ℕ, [], None, refl, subst, sym}
use Rattle.session_log.specs.declared.sessions.Snapshot.{Snapshot}
use Rattle.session_log.specs.SnapshotOf.{snapshot_of}
use Rattle.coordinator_rules.specs.declared.moments.Moments.{Moments}
use Rattle.coordinator_rules.specs.Knowledge.{knows, waits}
use Rattle.coordinator_rules.specs.Starting.{no_moments}
use Rattle.coordinator_rules.specs.Tracks.{Follows as Knows}
use Rattle.judged_desk.specs.Standing.{Stands, course}

pub first_stands : (retry forget : ℕ) (s : Snapshot) (m : Moments) → s ≡ snapshot_of [] → m ≡ no_moments
    → Stands (waits retry forget) [] (record { retry = retry; forget = forget; memory = s; moments = m; flight = None })
first_stands retry forget s m known none = record {
  times = refl;
  knows = subst (λ (z : Moments). Knows (knows (waits retry forget) s z) (course [])) (sym none) (record {
    tracks = record { allowed = tt; known = known; turns_in_order = tt; rests_in_order = tt; planned = λ x. refl; resting = λ x. refl };
  });
  flight = refl;
  comes = tt;
  idle = λ e. refl;
}
