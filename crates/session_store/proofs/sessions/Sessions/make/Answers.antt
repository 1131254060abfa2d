use Rattle.session_store.proofs.ShortRecords.{short_record}
use Rattle.session_store.proofs.sessions.Sessions.make.Goals as goal

pub add-made-requires-clause-small : goal.add-made-requires-clause-small
add-made-requires-clause-small g c = short_record c.args.item c.requires.short
