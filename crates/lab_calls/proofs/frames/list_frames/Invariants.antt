use Rattle.std.proofs.Common.{◌≡◌, ◌≤◌, ◌-◌, ◌+◌, ℕ, List, Some, vec_len}
use Rattle.seata_types.specs.declared.limits.TheConstants.{INPUT_BYTES, PIECE_BYTES}
use Rattle.lab_calls.specs.Listings.{fed, IsReady, IsListing}
use Rattle.lab_calls.proofs.frames.list_frames.Given as goal

abbrev pub invariant-loop-total : goal.invariant-loop-total
invariant-loop-total g l =
    record {
      most : l.total ≤ INPUT_BYTES + 1;
      ready : IsReady l.listing;
      fed_by : fed l.listing ≤ l.total;
      counted : (g.S.Source.state l.initial.source).faults ≤ (g.S.Source.state l.source).faults;
      buffer : vec_len l.buffer ≡ PIECE_BYTES;
      listing : (input : List ℕ) → (g.S.Source.state l.initial.source).left ≡ Some input → IsListing input (g.S.Source.state l.source).left l.total l.listing;
    }

abbrev pub decreases-loop-total : goal.decreases-loop-total
decreases-loop-total g l = INPUT_BYTES + 1 - l.total
