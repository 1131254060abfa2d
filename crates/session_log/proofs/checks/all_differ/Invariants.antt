use Rattle.std.proofs.Common.{◌≡◌, drop, [], List}
use Rattle.std.specs.List.{list_any}
use Rattle.std.specs.BTreeSet.{contains}
use Rattle.session_log.specs.Soundness.{differ_after}
use Rattle.session_log.proofs.checks.all_differ.Given as goal

-- the set has the keys so far, in whatever order
abbrev pub invariant-loop-key : goal.invariant-loop-key
invariant-loop-key g l =
    (before : List g.row.K.Denot) × (differ_after g.K.PartialEq.eq before (drop l.key-index l.keys) ≡ differ_after g.K.PartialEq.eq [] l.keys) ×
    ((q : g.row.K.Denot) → contains g.K.Ord.cmp l.seen q ≡ list_any (g.K.PartialEq.eq q) before)
