use Rattle.std.proofs.Common.{◌≡◌, ◌++◌, string_bytes}
use Rattle.std.specs.Vec.Iter.{into_iter_items}
use Rattle.lab_calls.specs.FrameLines.{no_names, given_lines}
use Rattle.lab_calls.proofs.frames.put_frames.Given as goal

abbrev pub invariant-loop-given : goal.invariant-loop-given
invariant-loop-given l =
    record {
      names : l.names ≡ no_names;
      so_far : string_bytes l.out ++ given_lines (into_iter_items l.given-iterator) ≡ string_bytes l.initial.out ++ given_lines l.fn.frames;
    }
