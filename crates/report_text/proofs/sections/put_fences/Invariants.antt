use Rattle.std.proofs.Common.{◌≡◌, ◌++◌, drop, map, string_bytes}
use Rattle.tcc_fence.specs.Meanings.{entry_of}
use Rattle.history_text.specs.Report.{lines, fence_text}
use Rattle.report_text.proofs.sections.put_fences.Given as goal

abbrev pub invariant-loop-leg : goal.invariant-loop-leg
invariant-loop-leg l =
    string_bytes l.out ++ lines (fence_text l.names) (map (λ f. (l.resource, entry_of f)) (drop l.leg-index l.fences)) ≡ string_bytes l.initial.out ++ lines (fence_text l.names) (map (λ f. (l.resource, entry_of f)) l.fences)
