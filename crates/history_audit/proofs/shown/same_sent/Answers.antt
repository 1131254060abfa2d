use Rattle.std.proofs.lemmas.Bool.Decides.{Decides-at}
use Rattle.history_audit.proofs.SameNotes.{sent_decides}
use Rattle.history_audit.proofs.shown.same_sent.Goals as goal

pub returns : goal.returns
returns c = Decides-at c.eq.result _ c.eq.ensures (sent_decides c.args.a.now c.args.b.now)
