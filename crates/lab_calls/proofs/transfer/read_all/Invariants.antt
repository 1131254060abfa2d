use Rattle.std.proofs.Common.{◌≡◌, ◌≤◌, ◌-◌, ◌+◌, vec_len}
use Rattle.seata_types.specs.declared.limits.TheConstants.{PIECE_BYTES}
use Rattle.std.specs.Io.KnownBytes.{Consumes}
use Rattle.lab_calls.proofs.transfer.read_all.Given as goal

abbrev pub invariant-loop-bytes : goal.invariant-loop-bytes
invariant-loop-bytes g l =
    record {
      most : vec_len l.bytes ≤ l.fn.most + 1;
      taken : Consumes (g.S.Source.state l.initial.source).left (g.S.Source.state l.source).left l.bytes.items;
      counted : (g.S.Source.state l.initial.source).faults ≤ (g.S.Source.state l.source).faults;
      buffer : vec_len l.buffer ≡ PIECE_BYTES;
    }

abbrev pub decreases-loop-bytes : goal.decreases-loop-bytes
decreases-loop-bytes g l = l.fn.most + 1 - vec_len l.bytes
