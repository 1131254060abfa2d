use Rattle.std.proofs.Common.{◌*◌, ◌≤◌, refl, sym, subst, ◌∙◌, inl, inr, arith}
use Rattle.disk_journal.specs.Reading.{row_length}
use Rattle.journal_checkpoint.specs.declared.twin.Twin.{Twin}
use Rattle.journal_checkpoint.specs.Keeping.{disks, first_disk, second_disk}
use Rattle.journal_checkpoint.specs.Extents.{Extent}
use Rattle.memory_store.specs.Checkpoints.{AreChecked}
use Rattle.memory_store.specs.Keeping.{LeavesAlone}
use Rattle.memory_store.proofs.Damages.{held_damage, not_failed, reading_not_full, settling_not_full}
use Rattle.memory_store.proofs.DiskFacts.{runs_same}
use Rattle.memory_store.proofs.TwinFacts.{is_short, leaves_alone, pairs_now, records_are_small, second_here}
use Rattle.memory_store.proofs.store.Store.recover.Goals as goal

pub returns-in-Err-clause-over : goal.returns-in-Err-clause-over
returns-in-Err-clause-over g c = record {
  damaged = inr (
    refl,
    λ a b is too stands keeps.
        held_damage (g.M.StateMachine.meaning c.args.self.now.machine) a b c.args.found.now stands c.is_second-second.result
        (second_here g.D.Disk.state c.args.found.now c.args.self.now.twin keeps g.met.D.Disk.lawful a b is too ∙ sym c.is_second-second.ensures)
        c.in-Err.error (c.in-Err.ensures.held (records_are_small g.D.Disk.state c.args.found.now c.args.self.now.twin keeps g.met.D.Disk.lawful a b is too)),
  );
  images = λ a b x y is too stands keeps one two.
      let alone = leaves_alone g.D.Disk.state c.args.found.now c.args.self.now.twin keeps a b is too in
      inl (alone.0 x one, alone.1 y two);
  failed = λ failed. absurd (not_failed c.in-Err.error c.in-Err.ensures.error (cc));
  not_due = λ short. refl;
  first = runs_same _;
  second = runs_same _;
  not_full = reading_not_full c.in-Err.error c.in-Err.ensures.error;
}

pub returns-in-Ok-settle-clause-ok : goal.returns-in-Ok-settle-clause-ok
returns-in-Ok-settle-clause-ok g c = λ a b is too stands keeps. record {
  found = c.args.found.now;
  stands = stands;
  held = c.in-Ok.ensures.held (records_are_small g.D.Disk.state c.args.found.now c.args.self.now.twin keeps g.met.D.Disk.lawful a b is too);
  kept = c.in-Ok-settle.ensures.keeps c.args.found.now keeps;
  short = c.in-Ok-settle.ensures.short c.args.found.now keeps;
  extent = subst (λ (e : Extent). AreChecked g.D.Disk.state (g.M.StateMachine.meaning c.args.self.now.machine) c.in-Ok.memory e c.settle.new.twin) keeps.extent c.in-Ok-settle.ensures.extent;
  same = λ one two.
      let few : 2 * row_length c.args.found.now.records ≤ (g.D.Disk.state (first_disk c.args.self.now.twin)).size = omega (arith, one, c.settle.ensures.first.rest.kind.size) in
      let few_too : 2 * row_length c.args.found.now.records ≤ (g.D.Disk.state (second_disk c.args.self.now.twin)).size = omega (arith, two, c.settle.ensures.second.rest.kind.size) in
      subst (λ (t : Twin g.row.D.Denot). LeavesAlone a (g.D.Disk.state (first_disk t)) × LeavesAlone b (g.D.Disk.state (second_disk t)))
      (sym (c.settle.ensures.not_due (is_short g.D.Disk.state c.args.found.now c.args.self.now.twin keeps few few_too)))
      (leaves_alone g.D.Disk.state c.args.found.now c.args.self.now.twin keeps a b is too);
}

pub returns-in-Ok-settle-clause-over : goal.returns-in-Ok-settle-clause-over
returns-in-Ok-settle-clause-over g c = record {
  damaged = tt;
  images = λ a b x y is too stands keeps one two.
      inr (
        c.args.found.now,
        (
          c.in-Ok.memory,
          stands,
          c.in-Ok.ensures.held (records_are_small g.D.Disk.state c.args.found.now c.args.self.now.twin keeps g.met.D.Disk.lawful a b is too),
          pairs_now g.D.Disk.state (disks g.D.Disk.state c.args.self.now.twin) c.settle.new.twin (c.settle.ensures.any_moment c.args.found.now keeps) x y one two,
        ),
      );
  failed = λ is. absurd (cc);
  not_due = c.settle.ensures.not_due;
  first = c.settle.ensures.first;
  second = c.settle.ensures.second;
  not_full = tt;
}

pub returns-in-Err-settle-clause-over : goal.returns-in-Err-settle-clause-over
returns-in-Err-settle-clause-over g c = record {
  damaged = inl c.in-Err-settle.ensures.error;
  images = λ a b x y is too stands keeps one two.
      inr (
        c.args.found.now,
        (
          c.in-Ok.memory,
          stands,
          c.in-Ok.ensures.held (records_are_small g.D.Disk.state c.args.found.now c.args.self.now.twin keeps g.met.D.Disk.lawful a b is too),
          pairs_now g.D.Disk.state (disks g.D.Disk.state c.args.self.now.twin) c.settle.new.twin (c.settle.ensures.any_moment c.args.found.now keeps) x y one two,
        ),
      );
  failed = c.in-Err-settle.ensures.failed;
  not_due = c.settle.ensures.not_due;
  first = c.settle.ensures.first;
  second = c.settle.ensures.second;
  not_full = settling_not_full c.in-Err-settle.error c.in-Err-settle.ensures.error;
}
