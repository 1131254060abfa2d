use Rattle.std.proofs.Common.{◌-◌, ℕ, List, All, sym, subst}
use Rattle.seata_types.specs.declared.statements.Work.{Work}
use Rattle.manager_core.specs.Within.{IsWithin, settings_with}
use Rattle.scenario_nodes.specs.Calls.{HasReadCalls, IsFramableCall, IsReadCall}
use Rattle.scenario_nodes.proofs.Passes.{placed}
use Rattle.scenario_nodes.proofs.ReadParts.{manager_within, managers_read}
use Rattle.scenario_nodes.proofs.managers.new_manager.Goals as goal

pub tell_calls-requires : goal.tell_calls-requires
tell_calls-requires c =
    let s = c.args.scenario.now in
    let read = placed HasReadCalls s.managers (c.args.number - 1) c.args.def.now c.requires.there (managers_read s c.requires.runnable) in
    subst (λ (l : List (ℕ × Work)). All IsReadCall l) (sym c.as_slice.ensures) read.each

pub new-requires : goal.new-requires
new-requires c =
    let s = c.args.scenario.now in
    let def = c.args.def.now in
    let framable = subst (λ (l : List (ℕ × Work)). All IsFramableCall l) c.as_slice.ensures c.in_ok-tell_calls.ensures in
    record {
      within = subst (λ (l : List (ℕ × Work)). IsWithin (settings_with c.args.number def.timeout s.lock_tries l def.ending def.silent def.poll)) (sym c.in_ok-calls.ensures)
          (manager_within s c.requires.runnable c.args.number (c.args.number - 1) def c.requires.counted c.requires.there framable);
    }
