use Rattle.std.proofs.Common.{◌<◌, arith}
use Rattle.std.proofs.lemmas.List.Elements.{All-from_get_or}
use Rattle.memory_store.proofs.Replaying.{sound_of_read}
use Rattle.memory_store.proofs.reading.recall.Goals as goal

pub returns-clause-sound : goal.returns-clause-sound
returns-clause-sound g c =
    sound_of_read (g.M.StateMachine.meaning c.args.machine.now) (g.met.M.StateMachine.lawful c.args.machine.now) c.args.bytes.now
    (All-from_get_or (λ b. b < 256) c.args.bytes.now 0 (λ i lt. omega (arith, c.type_inv.bytes i))) c.read_snapshot.result c.read_snapshot.ensures
