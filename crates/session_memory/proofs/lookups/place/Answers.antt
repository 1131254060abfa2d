use Rattle.std.proofs.Common.{rules}
use Rattle.std.proofs.lemmas.List.Sorted.{answers_always}
use Rattle.session_log.specs.Soundness.{entry_xid}
use Rattle.session_memory.proofs.SearchLaws.{found_in, nowhere_in}
use Rattle.session_memory.proofs.lookups.place.Goals as goal

pub returns-in-Ok : goal.returns-in-Ok
returns-in-Ok c =
    found_in entry_xid c.args.sessions.now c.args.xid.0 c.requires.rising c.in-Ok.at c.in-Ok.ensures.bound (c.in-Ok.ensures.position entry_xid (answers_always _ _ _ (λ f a r g called. search rules)))

pub returns-in-Err : goal.returns-in-Err
returns-in-Err c =
    nowhere_in entry_xid c.args.sessions.now c.args.xid.0 c.requires.rising c.in-Err.field-0 (c.in-Err.ensures.position entry_xid (answers_always _ _ _ (λ f a r g called. search rules)))
