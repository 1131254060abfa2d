use Rattle.std.proofs.Common.{◌≡◌, Bool, Some, Result, Err, sym, ◌∙◌, ap, subst}
use Rattle.seata_types.specs.declared.errors.OpenError.{OpenError}
use Rattle.disk_model.specs.Disk.{present}
use Rattle.disk_journal.specs.Keeping.{OnlyReads}
use Rattle.journal_checkpoint.specs.declared.types.Found.{Found}
use Rattle.journal_checkpoint.specs.declared.types.TwinError.{TwinError}
use Rattle.journal_checkpoint.specs.Keeping.{first_disk, second_disk}
use Rattle.journal_checkpoint.proofs.Loads.{present_same}
use Rattle.memory_store.specs.Holdings.{first_place, second_in}
use Rattle.memory_store.specs.Keeping.{IsDamage, IsNotFull}
use Rattle.memory_store.proofs.Damages.{pair_damage, held_damage, same_found, not_failed, twin_failed, two_disks_not_full, reading_not_full}
use Rattle.memory_store.proofs.TwinFacts.{records_are_small, second_here}
use Rattle.memory_store.proofs.store.Store.read.Goals as goal

abbrev failing : TwinError → Result Found TwinError
failing e = Err e

pub returns-in-Err-clause-reads : goal.returns-in-Err-clause-reads
returns-in-Err-clause-reads g c = record {
  read = tt;
  place = tt;
  damaged = λ a b is too.
      subst (λ (e : OpenError). IsDamage (g.M.StateMachine.meaning c.args.machine) a b e) (sym c.store_error.ensures)
      (pair_damage (g.M.StateMachine.meaning c.args.machine) a b c.in-Err.error (c.in-Err.ensures.reads.tells.damaged a b is too));
  failed = λ is. c.in-Err.ensures.reads.failed (ap failing (twin_failed c.in-Err.error (sym c.store_error.ensures ∙ is)));
  not_full = subst IsNotFull (sym c.store_error.ensures) (two_disks_not_full c.in-Err.error);
  first_reads = c.in-Err.ensures.reads.first_reads;
  second_reads = c.in-Err.ensures.reads.second_reads;
  up = tt;
}

pub returns-in-Ok-read_found-clause-reads : goal.returns-in-Ok-read_found-clause-reads
returns-in-Ok-read_found-clause-reads g c = record {
  read = λ a b is too.
      let pair = c.in-Ok.ensures.keeps (record { forth = λ x other. (b, too); back = λ x other. (a, is) }) in
      let one : present (g.D.Disk.state (first_disk c.in-Ok.twin)) ≡ Some a = present_same c.in-Ok.ensures.reads.first_reads ∙ is in
      let two : present (g.D.Disk.state (second_disk c.in-Ok.twin)) ≡ Some b = present_same c.in-Ok.ensures.reads.second_reads ∙ too in
      record {
        found = c.in-Ok.found;
        stands = c.in-Ok.ensures.reads.tells.found a b is too;
        keeps = record {
          pair = pair;
          held = c.in-Ok-read_found.ensures.held (records_are_small g.D.Disk.state c.in-Ok.found c.in-Ok.twin pair g.met.D.Disk.lawful a b one two);
        };
      };
  place = λ a b is too found stands.
      let pair = c.in-Ok.ensures.keeps (record { forth = λ x other. (b, too); back = λ x other. (a, is) }) in
      let one : present (g.D.Disk.state (first_disk c.in-Ok.twin)) ≡ Some a = present_same c.in-Ok.ensures.reads.first_reads ∙ is in
      let two : present (g.D.Disk.state (second_disk c.in-Ok.twin)) ≡ Some b = present_same c.in-Ok.ensures.reads.second_reads ∙ too in
      let here : second_in a b ≡ c.in-Ok.twin.second = second_here g.D.Disk.state c.in-Ok.found c.in-Ok.twin pair g.met.D.Disk.lawful a b one two in
      c.first_place.ensures ∙ ap (λ (s : Bool). first_place s c.in-Ok.found) (c.is_second-second.ensures ∙ sym here)
      ∙ ap (first_place (second_in a b)) (same_found a b c.in-Ok.found found (c.in-Ok.ensures.reads.tells.found a b is too) stands);
  damaged = tt;
  failed = tt;
  not_full = tt;
  first_reads = c.in-Ok.ensures.reads.first_reads;
  second_reads = c.in-Ok.ensures.reads.second_reads;
  up = c.in-Ok.ensures.up;
}

pub returns-in-Err-read_found-clause-reads : goal.returns-in-Err-read_found-clause-reads
returns-in-Err-read_found-clause-reads g c = record {
  read = tt;
  place = tt;
  damaged = λ a b is too.
      let pair = c.in-Ok.ensures.keeps (record { forth = λ x other. (b, too); back = λ x other. (a, is) }) in
      let one : present (g.D.Disk.state (first_disk c.in-Ok.twin)) ≡ Some a = present_same c.in-Ok.ensures.reads.first_reads ∙ is in
      let two : present (g.D.Disk.state (second_disk c.in-Ok.twin)) ≡ Some b = present_same c.in-Ok.ensures.reads.second_reads ∙ too in
      let here : second_in a b ≡ c.in-Ok.twin.second = second_here g.D.Disk.state c.in-Ok.found c.in-Ok.twin pair g.met.D.Disk.lawful a b one two in
      held_damage (g.M.StateMachine.meaning c.args.machine) a b c.in-Ok.found (c.in-Ok.ensures.reads.tells.found a b is too) c.is_second-second.result (here ∙ sym c.is_second-second.ensures)
      c.in-Err-read_found.error (c.in-Err-read_found.ensures.held (records_are_small g.D.Disk.state c.in-Ok.found c.in-Ok.twin pair g.met.D.Disk.lawful a b one two));
  failed = λ failed. absurd (not_failed c.in-Err-read_found.error c.in-Err-read_found.ensures.error failed);
  not_full = reading_not_full c.in-Err-read_found.error c.in-Err-read_found.ensures.error;
  first_reads = subst (λ (z : g.row.D.Denot × g.row.D.Denot). OnlyReads (g.D.Disk.state c.args.first) (g.D.Disk.state z.0)) (sym c.into_disks-first.ensures) c.in-Ok.ensures.reads.first_reads;
  second_reads = subst (λ (z : g.row.D.Denot × g.row.D.Denot). OnlyReads (g.D.Disk.state c.args.second) (g.D.Disk.state z.1)) (sym c.into_disks-first.ensures) c.in-Ok.ensures.reads.second_reads;
  up = tt;
}
