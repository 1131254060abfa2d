use Rattle.replay_runner.proofs.Playing.{enters_turn, turn_made}
use Rattle.replay_runner.proofs.runs.Run.turn.Goals as goal

pub make-requires : goal.make-requires
make-requires g c = record { can = enters_turn c.args.self.now c.args.place c.requires.there c.requires.can }

pub returns-clause-made : goal.returns-clause-made
returns-clause-made g c = λ names. turn_made g.D.Disk.state c.args.self.now c.make.new.self c.args.place c.requires.there names c.make.result c.make.ensures.made
