use Rattle.std.proofs.Common.{◌≡◌, ℕ, ◌+◌, ◌-◌, ◌<◌, Some, List, take, drop}
use Rattle.disk_model.specs.Disk.{present}
use Rattle.disk_journal.specs.Reading.{row_length}
use Rattle.disk_journal.specs.Keeping.{OnlyReads}
use Rattle.disk_journal.proofs.Rows.{AreRecords}
use Rattle.disk_journal.proofs.opening.read_records.Given as goal

abbrev pub invariant-loop-records : goal.invariant-loop-records
invariant-loop-records g l = record {
  only_reads : OnlyReads (g.D.Disk.state l.initial.disk) (g.D.Disk.state l.disk);
  gate : l.gate ≡ l.from + row_length l.records.items;
  inside : l.gate < (g.D.Disk.state l.initial.disk).size;
  records : (c : List ℕ) → present (g.D.Disk.state l.initial.disk) ≡ Some c → AreRecords l.records.items (take (row_length l.records.items) (drop l.from c));
}

abbrev pub decreases-loop-records : goal.decreases-loop-records
decreases-loop-records g l = (g.D.Disk.state l.initial.disk).size - l.gate
