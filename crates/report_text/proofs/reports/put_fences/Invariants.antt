use Rattle.std.proofs.Common.{◌≡◌, ◌++◌, drop, string_bytes}
use Rattle.history_text.specs.Report.{lines, fence_text}
use Rattle.report_text.specs.Sections.{fences_kept}
use Rattle.report_text.proofs.reports.put_fences.Given as goal

abbrev pub invariant-loop-resource : goal.invariant-loop-resource
invariant-loop-resource l =
    string_bytes l.out ++ lines (fence_text l.names) (fences_kept (drop l.resource-index l.resources))
    ≡ string_bytes l.initial.out ++ lines (fence_text l.names) (fences_kept l.resources)
