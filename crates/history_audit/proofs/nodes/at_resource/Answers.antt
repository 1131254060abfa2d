use Rattle.std.proofs.Common.{◌≡◌, ◌⊎◌, ◌-◌, ◌<◌, ◌≤◌, inl, inr, length, refl, sym, subst, arith}
use Rattle.std.proofs.lemmas.Option.{slice_get_read}
use Rattle.std.specs.Vec.{with_item}
use Rattle.judged_devices.specs.Taking.{event_of}
use Rattle.history_audit.specs.Finding.{Finds}
use Rattle.history_audit.specs.Nodes.{AreBenches}
use Rattle.history_audit.specs.declared.kept.Found.{Found}
use Rattle.history_audit.proofs.Counted.{counted_is, counted_none}
use Rattle.history_audit.proofs.NodeLaws.{at_bench, no_bench}
use Rattle.history_audit.proofs.nodes.at_resource.Goals as goal
use Rattle.history_audit.proofs.nodes.at_resource.Goals.{then-number-eq0-via-then-number-eq0, then-number-eq0-via-else-number-eq0+then-number-len}

pub take-requires-clause-stands : goal.take-requires-clause-stands
take-requires-clause-stands c =
    let bs = c.args.benches.now.items in
    let below : c.args.number - 1 < length bs = omega arith in
    (c.requires.can (c.args.number - 1) c.index_mut.result.now (slice_get_read bs (length bs) (c.args.number - 1) c.index_mut.result.now refl below c.index_mut.ensures.value)).0

pub take-requires-clause-room : goal.take-requires-clause-room
take-requires-clause-room c =
    let bs = c.args.benches.now.items in
    let below : c.args.number - 1 < length bs = omega arith in
    (c.requires.can (c.args.number - 1) c.index_mut.result.now (slice_get_read bs (length bs) (c.args.number - 1) c.index_mut.result.now refl below c.index_mut.ensures.value)).1

pub returns-then-number-eq0 : goal.returns-then-number-eq0
returns-then-number-eq0 c = λ w ms are brought.
    let bs = c.args.benches.now.items in
    let size = c.args.benches.now.ok.0 in
    let past : (c.args.number ≡ 0) ⊎ (length bs < c.args.number) = elim c.then-number-eq0.branch [
      | then-number-eq0-via-then-number-eq0 b ↦ inl (omega (arith, b.if-number-eq0.true))
      | then-number-eq0-via-else-number-eq0+then-number-len b ↦ inr (omega (arith, size, b.len.ensures, b.if-number-len.true))
    ] in
    no_bench w ms c.args.next.now (event_of c.args.event.now) brought c.args.number c.requires.here bs are (counted_none bs c.args.number past)

pub returns : goal.returns
returns c = λ w ms are brought.
    let bs = c.args.benches.now.items in
    let low : 1 ≤ c.args.number = omega arith in
    let below : c.args.number - 1 < length bs = omega arith in
    let kept = counted_is bs c.args.number c.index_mut.result.now low (slice_get_read bs (length bs) (c.args.number - 1) c.index_mut.result.now refl below c.index_mut.ensures.value) in
    subst (λ (f : Found). Finds w ms c.args.next.now (AreBenches w (with_item c.args.benches.now (c.args.number - 1) c.take.new.self).items) f) (sym c.found.ensures)
    (at_bench w ms c.args.next.now (event_of c.args.event.now) brought c.args.number c.requires.here bs are c.index_mut.result.now c.take.new.self kept c.in_ok-step.step c.in_ok-step.ensures)
