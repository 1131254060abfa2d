use Rattle.disk_model.proofs.Taken.{fresh}
use Rattle.case_lab.proofs.devices.FewDisksShelf.take.Goals as goal

pub returns-clause-taken : goal.returns-clause-taken
returns-clause-taken c = fresh (λ disk. ⊥) c.args.size c.in_ok-disk.disk c.in_ok-disk.ensures (λ disk never. absurd never)
