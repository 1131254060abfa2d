use Rattle.history_audit.proofs.LetterLaws.{message_brings}
use Rattle.history_audit.proofs.kept.Letters.event.Goals as goal

pub returns-in-Deliver : goal.returns-in-Deliver
returns-in-Deliver c = message_brings c.args.self.now c.in-Deliver.stamp c.in-Deliver.from c.args.to c.args.cause.now c.in-Deliver.is c.message.result c.message.ensures
