use Rattle.std.proofs.Common.{◌*◌, ◌≤◌, ◌⊎◌, ⊎_elim, inl, inr, Result, Err, sym, ap, subst, ◌∙◌, arith}
use Rattle.disk_journal.specs.Reading.{row_length}
use Rattle.disk_journal.specs.Keeping.{OnlyReads}
use Rattle.journal_checkpoint.specs.declared.twin.Twin.{Twin}
use Rattle.journal_checkpoint.proofs.Loads.{present_same}
use Rattle.memory_store.specs.Keeping.{LeavesAlone}
use Rattle.seata_types.specs.declared.errors.OpenError.{OpenError}
use Rattle.disk_model.specs.Disk.{HasCause}
use Rattle.memory_store.proofs.Damages.{no_damage, settling_not_full, same_found}
use Rattle.memory_store.proofs.DiskFacts.{cause_after, read_again, reads_run, runs_then}
use Rattle.journal_checkpoint.specs.Keeping.{KeepsPair, disks, first_disk, second_disk}
use Rattle.journal_checkpoint.specs.Extents.{Extent, extent_of}
use Rattle.memory_store.specs.Checkpoints.{AreChecked}
use Rattle.memory_store.specs.Settling.{IsShort, CannotSettle, KeepsOrSettled, RunsOn, StandsOrSettled}
use Rattle.memory_store.proofs.TwinFacts.{pairs_now, is_short, leaves_alone}
use Rattle.memory_store.proofs.store.Store.open.Goals as goal

abbrev failing : OpenError → Result (Unit {0}) OpenError
failing e = Err e

pub returns-in-Err-clause-opens : goal.returns-in-Err-clause-opens
returns-in-Err-clause-opens g c =
    let e = c.in-Err.ensures.reads in
    record {
      opened = tt;
      place = tt;
      damaged = e.damaged;
      images = λ a b x y is too one two. inl (read_again a x c.requires.first e.first_reads is one, read_again b y c.requires.second e.second_reads too two);
      not_due = λ a b found is too stands one two. (e.first_reads, e.second_reads);
      failed = e.failed;
      not_full = e.not_full;
      first_disk = reads_run e.first_reads;
      second_disk = reads_run e.second_reads;
      up = tt;
    }

pub returns-in-Ok-settle-clause-opens : goal.returns-in-Ok-settle-clause-opens
returns-in-Ok-settle-clause-opens g c = record {
  opened = λ a b is too.
      let read = c.in-Ok.ensures.reads.read a b is too in
      record {
        found = read.found;
        stands = read.stands;
        held = read.keeps.held;
        kept = subst (λ (k : g.row.M.Denot). KeepsOrSettled g.D.Disk.state (g.M.StateMachine.meaning k) read.found c.in-Ok.store.memory c.settle.new.twin)
            c.in-Ok.ensures.machine (c.in-Ok-settle.ensures.keeps read.found read.keeps.pair);
        short = subst (λ (k : g.row.M.Denot). IsShort g.D.Disk.state c.settle.new.twin ⊎ CannotSettle (g.M.StateMachine.meaning k) g.D.Disk.state c.in-Ok.store.memory c.settle.new.twin)
            c.in-Ok.ensures.machine (c.in-Ok-settle.ensures.short read.found read.keeps.pair);
        extent = subst (λ (k : g.row.M.Denot). AreChecked g.D.Disk.state (g.M.StateMachine.meaning k) c.in-Ok.store.memory (extent_of read.found) c.settle.new.twin) c.in-Ok.ensures.machine
            (subst (λ (e : Extent). AreChecked g.D.Disk.state (g.M.StateMachine.meaning c.in-Ok.store.machine) c.in-Ok.store.memory e c.settle.new.twin) read.keeps.pair.extent c.in-Ok-settle.ensures.extent);
        same = λ one two.
            let few : 2 * row_length read.found.records ≤ (g.D.Disk.state (first_disk c.in-Ok.store.twin)).size = omega (arith, one, c.settle.ensures.first.rest.kind.size) in
            let few_too : 2 * row_length read.found.records ≤ (g.D.Disk.state (second_disk c.in-Ok.store.twin)).size = omega (arith, two, c.settle.ensures.second.rest.kind.size) in
            subst (λ (t : Twin g.row.D.Denot). LeavesAlone a (g.D.Disk.state (first_disk t)) × LeavesAlone b (g.D.Disk.state (second_disk t)))
            (sym (c.settle.ensures.not_due (is_short g.D.Disk.state read.found c.in-Ok.store.twin read.keeps.pair few few_too)))
            (leaves_alone g.D.Disk.state read.found c.in-Ok.store.twin read.keeps.pair a b (present_same c.in-Ok.ensures.reads.first_reads ∙ is) (present_same c.in-Ok.ensures.reads.second_reads ∙ too));
      };
  place = c.in-Ok.ensures.reads.place;
  damaged = tt;
  images = λ a b x y is too one two.
      let read = c.in-Ok.ensures.reads.read a b is too in
      inr (
        read.found,
        (
          c.in-Ok.store.memory,
          read.stands,
          read.keeps.held,
          subst (λ (k : g.row.M.Denot). StandsOrSettled (g.M.StateMachine.meaning k) read.found c.in-Ok.store.memory x y) c.in-Ok.ensures.machine
              (pairs_now g.D.Disk.state (disks g.D.Disk.state c.in-Ok.store.twin) c.settle.new.twin (c.settle.ensures.any_moment read.found read.keeps.pair) x y one two),
        ),
      );
  not_due = λ a b found is too stands one two.
      let read = c.in-Ok.ensures.reads.read a b is too in
      let pair = subst (λ f. KeepsPair g.D.Disk.state f c.in-Ok.store.twin) (same_found a b read.found found read.stands stands) read.keeps.pair in
      let small : 2 * row_length found.records ≤ (g.D.Disk.state (first_disk c.in-Ok.store.twin)).size = omega (arith, one, c.in-Ok.ensures.reads.first_reads.rest.kind.size) in
      let small_too : 2 * row_length found.records ≤ (g.D.Disk.state (second_disk c.in-Ok.store.twin)).size = omega (arith, two, c.in-Ok.ensures.reads.second_reads.rest.kind.size) in
      let same = sym (c.settle.ensures.not_due (is_short g.D.Disk.state found c.in-Ok.store.twin pair small small_too)) in (
        subst (λ (t : Twin g.row.D.Denot). OnlyReads (g.D.Disk.state c.args.first) (g.D.Disk.state (first_disk t))) same c.in-Ok.ensures.reads.first_reads,
        subst (λ (t : Twin g.row.D.Denot). OnlyReads (g.D.Disk.state c.args.second) (g.D.Disk.state (second_disk t))) same c.in-Ok.ensures.reads.second_reads,
      );
  failed = tt;
  not_full = tt;
  first_disk = runs_then (reads_run c.in-Ok.ensures.reads.first_reads) c.settle.ensures.first;
  second_disk = runs_then (reads_run c.in-Ok.ensures.reads.second_reads) c.settle.ensures.second;
  up = c.in-Ok-settle.ensures.up;
}

pub returns-in-Err-settle-clause-opens : goal.returns-in-Err-settle-clause-opens
returns-in-Err-settle-clause-opens g c = record {
  opened = tt;
  place = tt;
  damaged = λ a b is too. no_damage (g.M.StateMachine.meaning c.args.machine) a b c.in-Err-settle.error c.in-Err-settle.ensures.error;
  images = λ a b x y is too one two.
      let read = c.in-Ok.ensures.reads.read a b is too in
      inr (
        read.found,
        (
          c.in-Ok.store.memory,
          read.stands,
          read.keeps.held,
          subst (λ (k : g.row.M.Denot). StandsOrSettled (g.M.StateMachine.meaning k) read.found c.in-Ok.store.memory x y) c.in-Ok.ensures.machine
              (pairs_now g.D.Disk.state (disks g.D.Disk.state c.in-Ok.store.twin) c.settle.new.twin (c.settle.ensures.any_moment read.found read.keeps.pair) x y
              (subst (λ (z : g.row.D.Denot × g.row.D.Denot). (g.D.Disk.state z.0).may_leave x) c.into_disks-first.ensures one)
              (subst (λ (z : g.row.D.Denot × g.row.D.Denot). (g.D.Disk.state z.1).may_leave y) c.into_disks-first.ensures two)),
        ),
      );
  not_due = λ a b found is too stands one two.
      let read = c.in-Ok.ensures.reads.read a b is too in
      let pair = subst (λ f. KeepsPair g.D.Disk.state f c.in-Ok.store.twin) (same_found a b read.found found read.stands stands) read.keeps.pair in
      let small : 2 * row_length found.records ≤ (g.D.Disk.state (first_disk c.in-Ok.store.twin)).size = omega (arith, one, c.in-Ok.ensures.reads.first_reads.rest.kind.size) in
      let small_too : 2 * row_length found.records ≤ (g.D.Disk.state (second_disk c.in-Ok.store.twin)).size = omega (arith, two, c.in-Ok.ensures.reads.second_reads.rest.kind.size) in
      let same = sym (c.settle.ensures.not_due (is_short g.D.Disk.state found c.in-Ok.store.twin pair small small_too)) in
      let back = sym c.into_disks-first.ensures in (
        subst (λ (z : g.row.D.Denot × g.row.D.Denot). OnlyReads (g.D.Disk.state c.args.first) (g.D.Disk.state z.0)) back
            (subst (λ (t : Twin g.row.D.Denot). OnlyReads (g.D.Disk.state c.args.first) (g.D.Disk.state (first_disk t))) same c.in-Ok.ensures.reads.first_reads),
        subst (λ (z : g.row.D.Denot × g.row.D.Denot). OnlyReads (g.D.Disk.state c.args.second) (g.D.Disk.state z.1)) back
            (subst (λ (t : Twin g.row.D.Denot). OnlyReads (g.D.Disk.state c.args.second) (g.D.Disk.state (second_disk t))) same c.in-Ok.ensures.reads.second_reads),
      );
  failed = λ is.
      subst (λ (z : g.row.D.Denot × g.row.D.Denot). HasCause (g.D.Disk.state c.args.first).counts (g.D.Disk.state z.0).counts ⊎ HasCause (g.D.Disk.state c.args.second).counts (g.D.Disk.state z.1).counts)
      (sym c.into_disks-first.ensures)
      (⊎_elim
      (λ one. inl (cause_after (g.D.Disk.state (first_disk c.settle.new.twin)) (reads_run c.in-Ok.ensures.reads.first_reads) one))
      (λ two. inr (cause_after (g.D.Disk.state (second_disk c.settle.new.twin)) (reads_run c.in-Ok.ensures.reads.second_reads) two))
      (c.in-Err-settle.ensures.failed (ap failing is)));
  not_full = settling_not_full c.in-Err-settle.error c.in-Err-settle.ensures.error;
  first_disk = subst (λ (z : g.row.D.Denot × g.row.D.Denot). RunsOn (g.D.Disk.state c.args.first) (g.D.Disk.state z.0)) (sym c.into_disks-first.ensures)
      (runs_then (reads_run c.in-Ok.ensures.reads.first_reads) c.settle.ensures.first);
  second_disk = subst (λ (z : g.row.D.Denot × g.row.D.Denot). RunsOn (g.D.Disk.state c.args.second) (g.D.Disk.state z.1)) (sym c.into_disks-first.ensures)
      (runs_then (reads_run c.in-Ok.ensures.reads.second_reads) c.settle.ensures.second);
  up = tt;
}
