-- How `MemDisk` keeps its disk.
use Rattle.std.specs.Prelude.{◌^◌, ◌<◌, length}
use Rattle.disk_model.specs.Memory.{Memory, IsSound}
use Rattle.disk_model.specs.declared.memory.MemDisk.TheInside.{Inside}

-- the disk that it stands for
abbrev pub memory_of : Inside → Memory
memory_of disk = record {
  stable = disk.bytes.stable;
  present = disk.bytes.present;
  pending = disk.pending;
  last_pick = disk.last_pick;
}

-- what holds of a disk that it keeps
pub record IsStored (disk : Memory) : Type 0 where
  pub sound : IsSound disk
  pub small : length disk.present < 2 ^ 32
