use Rattle.std.proofs.Common.{◌≡◌, ◌∙◌, ◌++◌, ◌∷◌, [], ap, sym, Some, None}
use Rattle.std.proofs.lemmas.Option.{same_Some}
use Rattle.history_text.specs.History.{entry_of}
use Rattle.replay_runner.proofs.Collected.{on_ok}
use Rattle.replay_runner.proofs.collecting.Traces.move_newest.Goals as goal

pub returns-in-Some : goal.returns-in-Some
returns-in-Some c =
    on_ok c.put.result _ _ (λ added m ms have stands.
    let popped = c.pop.ensures m ms have stands in
    (added ∙ ap (λ e. c.args.history.now.items ++ e ∷ []) (same_Some c.in-Some.entry (entry_of m) (sym c.in-Some.is ∙ popped.0)), popped.1)) c.put.ensures

pub returns-in-None : goal.returns-in-None
returns-in-None c = λ m ms have stands. absurd (let no : None ≡ Some (entry_of m) = sym c.in-None.is ∙ (c.pop.ensures m ms have stands).0 in cc)
