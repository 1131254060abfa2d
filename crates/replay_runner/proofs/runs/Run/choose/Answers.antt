use Rattle.std.proofs.Common.{◌+◌, length, arith, refl}
use Rattle.replay_runner.proofs.Chosen.{looked_delivers, looked_turns}
use Rattle.replay_runner.proofs.Sound.{few_letters, looked_goes, marked_each, within_letters}
use Rattle.replay_runner.proofs.runs.Run.choose.Goals as goal

pub oldest-requires-clause-marked : goal.oldest-requires-clause-marked
oldest-requires-clause-marked g c = marked_each c.args.self.now c.requires.can

pub oldest-requires-clause-within : goal.oldest-requires-clause-within
oldest-requires-clause-within g c = within_letters c.args.self.now c.requires.can

pub oldest-requires-clause-short : goal.oldest-requires-clause-short
oldest-requires-clause-short g c = few_letters c.args.self.now c.requires.can

-- a message waits
pub deliver-requires : goal.deliver-requires
deliver-requires g c =
    let (is, below, waits) = c.in-Some.ensures.found in
    record { can = looked_goes c.args.self.now c.requires.can c.oldest.new.self c.oldest.ensures.letters c.oldest.ensures.taken (omega (arith, below)) }

pub returns-in-Some-clause-made : goal.returns-in-Some-clause-made
returns-in-Some-clause-made g c = λ names.
    c.deliver.ensures.made
    (looked_delivers g.D.Disk.state c.args.self.now c.oldest.new.self names c.oldest.ensures.letters c.oldest.ensures.taken
    (let (is, below, waits) = c.in-Some.ensures.found in omega (arith, below)) c.oldest.ensures.none c.in-Some.stamp c.in-Some.ensures.found.0 c.in-Some.ensures.found.1 c.in-Some.ensures.found.2)

-- none waits
pub longest_waiting-place-requires : goal.longest_waiting-place-requires
longest_waiting-place-requires g c = record { numbered = (length c.args.self.now.places.items + 1, c.args.self.now.clock, c.requires.can.goes.nodes) }

pub turn-requires-clause-can : goal.turn-requires-clause-can
turn-requires-clause-can g c = looked_goes c.args.self.now c.requires.can c.oldest.new.self c.oldest.ensures.letters c.oldest.ensures.taken (let all = c.in-None.ensures.all refl in omega (arith, all))

pub returns-in-None-clause-made : goal.returns-in-None-clause-made
returns-in-None-clause-made g c = λ names.
    c.turn.ensures.made
    (looked_turns g.D.Disk.state c.args.self.now c.oldest.new.self names c.oldest.ensures.letters c.oldest.ensures.taken
    (let all = c.in-None.ensures.all refl in omega (arith, all)) c.oldest.ensures.none c.longest_waiting-place.result (c.in-None.ensures.all refl) c.longest_waiting-place.ensures.earliest)
