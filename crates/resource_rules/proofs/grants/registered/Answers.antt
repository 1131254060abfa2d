use Rattle.std.proofs.Common.{◌≡◌, ◌∙◌, Option, Some, option_map, refl, sym, ap}
use Rattle.std.specs.Option.{option_copied}
use Rattle.local_txn.specs.OpenTickets.{open_at}
use Rattle.local_txn.specs.Answers.{open_of}
use Rattle.resource_rules.specs.Owned.{of_call}
use Rattle.resource_rules.proofs.GrantAnswers.{Heard, closed_ok, conflicted_ok, counted_try, granted_ok, late_ok, unopened}
use Rattle.resource_rules.proofs.Owners.{call_found}
use Rattle.resource_rules.proofs.RulingLaws.{of_like}
use Rattle.resource_rules.proofs.TccEnds.{none_found}
use Rattle.resource_rules.proofs.grants.registered.Goals as goal

pub returns-in_default : goal.returns-in_default
returns-in_default c = λ xid from.
    unopened c.args.setup.now c.args.memory.now c.args.txns.now c.args.ticket xid from c.args.answer.now
    (sym c.call_at.ensures ∙ ap (λ (o : Option _). option_map open_of (option_copied o)) (none_found c.call_at.result c.in_default.not-Some)) _ c.ignored.ensures

pub granted-requires : goal.granted-requires
granted-requires c =
    let is : Some (open_of c.in-Some.txn.now) ≡ of_call (open_at c.args.txns.now.opens c.args.ticket) =
    sym (ap (λ (o : Option _). option_map open_of (option_copied o)) c.in-Some.is) ∙ c.call_at.ensures in
    let found = call_found c.in-Some.txn.now (open_at c.args.txns.now.opens c.args.ticket) is in
    counted_try c.args.memory.now.tables c.in-Some.txn.now found.1 (c.requires c.args.ticket (open_of c.in-Some.txn.now) found.0) c.in-Some.txn.now.work refl

pub returns-in-Granted : goal.returns-in-Granted
returns-in-Granted c =
    let is : Some (open_of c.in-Some.txn.now) ≡ of_call (open_at c.args.txns.now.opens c.args.ticket) =
    sym (ap (λ (o : Option _). option_map open_of (option_copied o)) c.in-Some.is) ∙ c.call_at.ensures in
    let found = call_found c.in-Some.txn.now (open_at c.args.txns.now.opens c.args.ticket) is in
    of_like (Heard c.args.setup.now c.args.memory.now c.args.txns.now c.args.ticket c.in-Some.txn.now found.0 found.1) c.args.answer.now _ c.granted.result c.in-Granted.is
    (granted_ok c.args.setup.now c.args.memory.now c.args.txns.now c.args.ticket c.in-Some.txn.now found.0 found.1 _ (c.requires c.args.ticket (open_of c.in-Some.txn.now) found.0) c.kept-known.ensures.kept.rows _ c.kept-known.ensures.same c.granted.result c.granted.ensures)

pub returns-in-Conflict : goal.returns-in-Conflict
returns-in-Conflict c =
    let is : Some (open_of c.in-Some.txn.now) ≡ of_call (open_at c.args.txns.now.opens c.args.ticket) =
    sym (ap (λ (o : Option _). option_map open_of (option_copied o)) c.in-Some.is) ∙ c.call_at.ensures in
    let found = call_found c.in-Some.txn.now (open_at c.args.txns.now.opens c.args.ticket) is in
    of_like (Heard c.args.setup.now c.args.memory.now c.args.txns.now c.args.ticket c.in-Some.txn.now found.0 found.1) c.args.answer.now _ c.conflicted.result c.in-Conflict.is
    (conflicted_ok c.args.setup.now c.args.memory.now c.args.txns.now c.args.ticket c.in-Some.txn.now found.0 found.1 _ _ _ c.in_word.ensures c.conflicted.result c.conflicted.ensures)

pub returns-in-Closed : goal.returns-in-Closed
returns-in-Closed c =
    let is : Some (open_of c.in-Some.txn.now) ≡ of_call (open_at c.args.txns.now.opens c.args.ticket) =
    sym (ap (λ (o : Option _). option_map open_of (option_copied o)) c.in-Some.is) ∙ c.call_at.ensures in
    let found = call_found c.in-Some.txn.now (open_at c.args.txns.now.opens c.args.ticket) is in
    of_like (Heard c.args.setup.now c.args.memory.now c.args.txns.now c.args.ticket c.in-Some.txn.now found.0 found.1) c.args.answer.now _ c.dropped.result c.in-Closed.is
    (closed_ok c.args.setup.now c.args.memory.now c.args.txns.now c.args.ticket c.in-Some.txn.now found.0 found.1 _ c.dropped.result c.dropped.ensures)

pub returns-in-Late : goal.returns-in-Late
returns-in-Late c =
    let is : Some (open_of c.in-Some.txn.now) ≡ of_call (open_at c.args.txns.now.opens c.args.ticket) =
    sym (ap (λ (o : Option _). option_map open_of (option_copied o)) c.in-Some.is) ∙ c.call_at.ensures in
    let found = call_found c.in-Some.txn.now (open_at c.args.txns.now.opens c.args.ticket) is in
    of_like (Heard c.args.setup.now c.args.memory.now c.args.txns.now c.args.ticket c.in-Some.txn.now found.0 found.1) c.args.answer.now _ c.dropped-in-Late.result c.in-Late.is
    (late_ok c.args.setup.now c.args.memory.now c.args.txns.now c.args.ticket c.in-Some.txn.now found.0 found.1 c.dropped-in-Late.result c.dropped-in-Late.ensures)
