use Rattle.std.proofs.Common.{rules}
use Rattle.std.proofs.lemmas.List.Sorted.{answers_always}
use Rattle.session_memory.specs.Order.{branch_number}
use Rattle.session_memory.proofs.SearchLaws.{found_in, nowhere_in}
use Rattle.session_memory.proofs.lookups.branch_place.Goals as goal

pub returns-in-Ok : goal.returns-in-Ok
returns-in-Ok c =
    found_in branch_number c.args.branches.now c.args.id.0 c.requires.rising c.in-Ok.at c.in-Ok.ensures.bound (c.in-Ok.ensures.position branch_number (answers_always _ _ _ (λ f a r g called. search rules)))

pub returns-in-Err : goal.returns-in-Err
returns-in-Err c =
    nowhere_in branch_number c.args.branches.now c.args.id.0 c.requires.rising c.in-Err.field-0 (c.in-Err.ensures.position branch_number (answers_always _ _ _ (λ f a r g called. search rules)))
