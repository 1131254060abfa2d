use Rattle.lab_calls.proofs.Concluded.{concluded}
use Rattle.lab_calls.specs.Answers.{IsFramesAnswer, frames_statuses}
use Rattle.seata_types.specs.declared.limits.TheConstants.{INPUT_BYTES}
use Rattle.lab_calls.specs.Streams.{devices}
use Rattle.lab_calls.proofs.FramesListed.{tells_frames, frames_texts}
use Rattle.lab_calls.proofs.tops.frames_once.Goals as goal

pub returns : goal.returns
returns g c =
    let old = devices (g.S.Source.state c.args.source.now) (g.K.Sink.state c.args.sink.now) in
    let new = devices (g.S.Source.state c.list_input.new.source) (g.K.Sink.state c.write_answer.new.sink) in
    let t = concluded INPUT_BYTES IsFramesAnswer frames_statuses frames_texts c.write_answer.result old new c.list_input.result c.list_input.ensures c.write_answer.ensures in
    record { frames = tells_frames c.write_answer.result old new t; faults = t.faults }
