use Rattle.std.proofs.Common.{◌≡◌, ◌∙◌, ◌++◌, ◌∷◌, [], sym, ap, arith, List}
use Rattle.std.specs.List.{position, insert}
use Rattle.std.proofs.lemmas.Grind.{common_steps}
use Rattle.session_log.specs.declared.sessions.Forgotten.{Forgotten}
use Rattle.session_memory.specs.Lookups.{is_later}
use Rattle.session_memory.proofs.PlaceLaws.{first_place, no_place, put_first, put_last}
use Rattle.session_memory.proofs.sessions.put_forgotten.Goals as goal

pub returns-in_ok-insert-in-Some-clause-ok : goal.returns-in_ok-insert-in-Some-clause-ok
returns-in_ok-insert-in-Some-clause-ok c =
    let is : c.insert.new.self.items ≡ insert c.args.forgotten.now.items c.in-Some.at c.args.entry = grind (arith, common_steps) in
    is ∙ put_first c.args.entry c.args.forgotten.now.items c.in-Some.at
    (first_place (is_later c.args.entry.xid.0) c.args.forgotten.now.items c.in-Some.at
    (ap (λ (gs : List Forgotten). position (is_later c.args.entry.xid.0) gs) (sym c.deref.ensures.value) ∙ sym c.later_place.ensures ∙ c.in-Some.is))

pub returns-in_ok-push-in-None-clause-ok : goal.returns-in_ok-push-in-None-clause-ok
returns-in_ok-push-in-None-clause-ok c =
    let is : c.push.new.self.items ≡ c.args.forgotten.now.items ++ c.args.entry ∷ [] = grind (arith, common_steps) in
    is ∙ put_last c.args.entry c.args.forgotten.now.items
    (no_place (is_later c.args.entry.xid.0) c.args.forgotten.now.items
    (ap (λ (gs : List Forgotten). position (is_later c.args.entry.xid.0) gs) (sym c.deref.ensures.value) ∙ sym c.later_place.ensures ∙ c.in-None.is))
