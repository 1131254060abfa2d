use Rattle.std.proofs.Common.{ℕ, List, [], ◌∷◌, ◌++◌, subst}
use Rattle.disk_journal.specs.Keeping.{WritesThrough}
use Rattle.journal_checkpoint.specs.Pairs.{checkpoint_bytes}
use Rattle.journal_checkpoint.proofs.writing.stage.Goals as goal

pub returns : goal.returns
unfolding checkpoint_bytes
returns g c =
    subst (λ (h : List ℕ). WritesThrough 4 1 (h ++ (c.args.snapshot.now ++ 0 ∷ [])) c.write_three.result (g.D.Disk.state c.args.disk.now) (g.D.Disk.state c.write_three.new.disk)) c.head_bytes-head.ensures c.write_three.ensures
