use Rattle.std.proofs.Common.{◌≡◌, ◌+◌, ◌++◌, ◌∷◌, ℕ, List, [], drop, Some, None, refl, sym, ap, subst, ◌∙◌}
use Rattle.std.specs.Option.{option_copied}
use Rattle.std.proofs.lemmas.Option.{slice_get_read}
use Rattle.seata_types.specs.declared.statements.Action.{Action}
use Rattle.history_text.specs.Worlds.{call_actions}
use Rattle.resource_rules.specs.Setups.{actions_of}
use Rattle.scenario_setups.specs.Setups.{action_here}
use Rattle.scenario_setups.proofs.Made.{call_passed, call_taken}
use Rattle.scenario_setups.proofs.setups.put_calls.Goals as goal
use Rattle.scenario_setups.proofs.setups.put_calls.Goals.{in-Some+in_ok-action+in_ok-put, in_default}

pub loop-k-preserved : goal.loop-k-preserved
loop-k-preserved c =
    let r = c.args.resource in
    let m = c.args.manager in
    let k = c.loop-k.k in
    let calls = c.args.calls.now in
    let call = c.index-calls-k.result in
    let at = slice_get_read calls _ k call refl c.loop-k-test.true c.index-calls-k.is in
    let all = actions_of c.args.made.now.items ++ call_actions r m 1 calls in
    elim c.match-action_here.branch [
      | in-Some+in_ok-action+in_ok-put w ↦
          let action = w.in_ok-action.action in
          let items : c.match-action_here.made.items ≡ c.loop-k.made.items ++ (m, k + 1, action) ∷ [] = ap (λ v. v.items) w.made-is ∙ w.in_ok-put.ensures in
          let here : action_here r call ≡ Some action = sym c.action_here.ensures ∙ ap option_copied w.in-Some.is ∙ ap (λ (a : Action). Some a) (sym w.in_ok-action.ensures) in
          subst (λ (l : List (ℕ × ℕ × Action)). actions_of l ++ call_actions r m (k + 1 + 1) (drop (k + 1) calls) ≡ all) (sym items)
          (call_taken r m k calls call at c.loop-k.made.items all action here c.loop-k.invariant)
      | in_default w ↦
          let items : c.match-action_here.made.items ≡ c.loop-k.made.items = ap (λ v. v.items) w.made-is in
          let here : action_here r call ≡ None = sym c.action_here.ensures ∙ ap option_copied w.in_default.is in
          subst (λ (l : List (ℕ × ℕ × Action)). actions_of l ++ call_actions r m (k + 1 + 1) (drop (k + 1) calls) ≡ all) (sym items)
          (call_passed r m k calls call at c.loop-k.made.items all here c.loop-k.invariant)
    ]
