use Rattle.std.proofs.Common.{◌≡◌, ◌-◌, ℕ, List, All, get_or, sym, subst}
use Rattle.std.specs.List.{AllByRecursion}
use Rattle.std.proofs.lemmas.List.Elements.{All-from_recursion, All-weaker, recursion_from_All}
use Rattle.seata_types.specs.declared.rows.Row.{Row}
use Rattle.seata_types.specs.declared.statements.Action.{Action}
use Rattle.seata_types.specs.declared.statements.Stmt.{Stmt}
use Rattle.seata_types.specs.declared.statements.Work.{Work}
use Rattle.seata_types.specs.declared.statements.Work.TheVariants as work
use Rattle.scenario_form.specs.declared.scenarios.Scenario.{Scenario}
use Rattle.scenario_form.specs.Runnable.{IsRunnable}
use Rattle.history_text.specs.Worlds.{actions_at, locals_at}
use Rattle.resource_core.specs.Ready.{HasActionWithin, HasStmtsWithin}
use Rattle.resource_rules.specs.Setups.{actions_of}
use Rattle.scenario_setups.proofs.Listed.{OfCall, OfEntry, OfManager, each_action, each_local, each_made}
use Rattle.scenario_nodes.specs.Calls.{AreRead, HasFramableAction, HasReadAction, HasTypes, IsFramableLocal, IsReadAction, IsReadCall, IsReadLocal}
use Rattle.scenario_nodes.proofs.Framable.{action_within, have_places}
use Rattle.scenario_nodes.proofs.ReadParts.{locals_read, managers_read}
use Rattle.scenario_nodes.proofs.SetupWithin.{setup_within}
use Rattle.scenario_nodes.proofs.setups.setup_of.Goals as goal

-- ---- what is made was read

call_read : (call : ℕ × Work) → IsReadCall call → OfCall IsReadAction call
call_read (resource, work.Tcc action) read = read
call_read (resource, work.At stmts) read = tt

calls_read : (s : Scenario) → IsRunnable s → All (OfManager IsReadAction) s.managers
calls_read s runs = λ k d below i e low. call_read (get_or (get_or s.managers k d).calls i e) ((managers_read s runs k d below).each i e low)

actions_read : (s : Scenario) → IsRunnable s → (n : ℕ) (made : List (ℕ × ℕ × Action)) → actions_at n 1 s.managers ≡ actions_of made → All HasReadAction made
actions_read s runs n made is =
    All-from_recursion HasReadAction made
    (each_made IsReadAction made (subst (AllByRecursion (OfEntry IsReadAction)) is (each_action IsReadAction n 1 s.managers (calls_read s runs))))

own_read : (s : Scenario) → IsRunnable s → (n : ℕ) (made : List (ℕ × List Stmt)) → locals_at n 1 s.locals ≡ made → All IsReadLocal made
own_read s runs n made is = All-from_recursion IsReadLocal made (subst (AllByRecursion IsReadLocal) is (each_local AreRead n 1 s.locals (locals_read s runs)))

-- ---- what can be framed has places

actions_within : (made : List (ℕ × ℕ × Action)) → All HasFramableAction made → AllByRecursion HasActionWithin made
actions_within made all = recursion_from_All HasActionWithin made (All-weaker HasFramableAction HasActionWithin (λ a is. action_within a.2 is) made all)

locals_within : (made : List (ℕ × List Stmt)) → All IsFramableLocal made → AllByRecursion HasStmtsWithin made
locals_within made all = recursion_from_All HasStmtsWithin made (All-weaker IsFramableLocal HasStmtsWithin (λ one is. have_places one.1 is) made all)

-- ---- the goals

pub tell_actions-requires : goal.tell_actions-requires
tell_actions-requires c =
    subst (λ (l : List (ℕ × ℕ × Action)). All HasReadAction l) (sym c.as_slice.ensures)
    (actions_read c.args.scenario.now c.requires.runnable c.args.number c.in_ok-found.found.actions (c.in_ok-found.ensures c.args.def.now).actions)

pub tell_locals-requires : goal.tell_locals-requires
tell_locals-requires c =
    subst (λ (l : List (ℕ × List Stmt)). All IsReadLocal l) (sym c.as_slice-2.ensures)
    (own_read c.args.scenario.now c.requires.runnable c.args.number c.in_ok-found.found.locals (c.in_ok-found.ensures c.args.def.now).locals)

pub returns-clause-setup : goal.returns-clause-setup
returns-clause-setup c =
    let is = c.in_ok-found.ensures c.args.def.now in
    λ i. record {
      number = c.args.number;
      schema = c.in_ok-schema.ensures i;
      opening = c.in_ok-opening.ensures i;
      tries = sym is.tries i;
      actions = sym is.actions i;
      locals = sym is.locals i;
    }

pub returns-clause-within : goal.returns-clause-within
returns-clause-within c =
    setup_within c.args.scenario.now c.requires.runnable c.args.number (c.args.number - 1) c.args.def.now c.requires.counted c.requires.there
    (subst (λ (l : List (List ℕ × Row)). All HasTypes l) c.as_slice-3.ensures c.tell_rows.ensures) _ c.in_ok-schema.ensures c.in_ok-opening.ensures
    (actions_within c.in_ok-found.found.actions (subst (λ (l : List (ℕ × ℕ × Action)). All HasFramableAction l) c.as_slice.ensures c.in_ok-tell_actions.ensures))
    (locals_within c.in_ok-found.found.locals (subst (λ (l : List (ℕ × List Stmt)). All IsFramableLocal l) c.as_slice-2.ensures c.in_ok-tell_locals.ensures))
