use Rattle.lab_calls.proofs.FrameLaws.{frame_adds_line, nothing_has_no_line, bad_frame_ends, frame_or_fault}
use Rattle.lab_calls.proofs.laws.frames_have_their_lines.Goals as goal

pub returns : goal.returns
returns c = record { frame = frame_adds_line; nothing = nothing_has_no_line; bad_frame = bad_frame_ends; all = frame_or_fault }
