use Rattle.std.proofs.Common.{◌≡◌, map, drop}
use Rattle.local_tables.specs.Rows.{put_all}
use Rattle.local_tables.specs.Touches.{is_matched}
use Rattle.local_tables.specs.Lookups.{kept}
use Rattle.local_tables.proofs.matching.passed.Given as goal

abbrev pub invariant-loop-change : goal.invariant-loop-change
invariant-loop-change l =
    put_all l.found.entries (map (kept (is_matched l.resource l.def l.cond)) (drop l.change-index l.changes)) ≡ put_all l.initial.found.entries (map (kept (is_matched l.resource l.def l.cond)) l.changes)
