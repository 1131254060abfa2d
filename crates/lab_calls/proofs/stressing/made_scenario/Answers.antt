use Rattle.std.proofs.Common.{◌∙◌, subst}
use Rattle.scenario_reader.proofs.Causes.{scenario_has_no_fault}
use Rattle.scenario_reader.specs.Reading.{IsFault, with_base}
use Rattle.scenario_maker.specs.Made.{made}
use Rattle.scenario_maker.specs.Scenarios.{scenario}
use Rattle.scenario_maker.proofs.Whole.{made_is_scenario}
use Rattle.lab_calls.proofs.stressing.made_scenario.Goals as goal

pub unreachable-requires : goal.unreachable-requires
unreachable-requires c =
    let n = c.args.number in
    let size = c.args.size in
    let is = made_is_scenario n size c.requires.size.0 c.requires.size.1 in
    let other = c.is_memory-out_of_memory.ensures.other c.if-out_of_memory.false in
    let fault : IsFault (made n size) c.in-Err.error = subst (λ bytes. IsFault bytes c.in-Err.error) (c.as_bytes.ensures.value ∙ c.in_ok-text.ensures) (c.in-Err.ensures.err other) in
    scenario_has_no_fault (made n size) (with_base is.0 (scenario n size)) c.in-Err.error is.1 fault
