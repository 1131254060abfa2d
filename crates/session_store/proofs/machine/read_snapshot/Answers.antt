use Rattle.std.proofs.Common.{◌<◌, arith}
use Rattle.std.proofs.lemmas.List.Elements.{All-from_get_or}
use Rattle.session_memory.proofs.WritingLaws.{places_found, tickets_found}
use Rattle.session_store.proofs.machine.read_snapshot.Goals as goal

pub load-requires-clause-counted : goal.load-requires-clause-counted
load-requires-clause-counted c =
    let places = places_found c.args.managers c.args.resources c.args.bytes.now c.in-Ok.snapshot (All-from_get_or (λ b. b < 256) c.args.bytes.now 0 (λ i lt. omega (arith, c.type_inv.bytes i))) c.in-Ok.ensures.exact in
    places.counted

pub load-requires-clause-tickets : goal.load-requires-clause-tickets
load-requires-clause-tickets c = tickets_found c.args.managers c.args.resources c.args.bytes.now c.in-Ok.snapshot c.in-Ok.ensures.exact
