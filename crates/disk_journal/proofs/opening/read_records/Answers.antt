use Rattle.std.proofs.Common.{◌≡◌, ◌+◌, ◌<◌, [], ◌∷◌, ◌++◌, length, drop, ap, arith, rules, length-drop}
use Rattle.std.proofs.lemmas.Result.{err_from_is_err_and}
use Rattle.disk_journal.specs.Reading.{record_length}
use Rattle.disk_journal.proofs.Rows.{empty_reads, row_length-append}
use Rattle.disk_journal.proofs.Readings.{still_present, present_size, reads_then, next_records, damage_in, end_reads}
use Rattle.disk_journal.proofs.opening.read_records.Goals as goal

pub returns-then-from-size-clause-damaged : goal.returns-then-from-size-clause-damaged
returns-then-from-size-clause-damaged g c = λ k is.
    let size = present_size k (g.met.D.Disk.lawful c.args.disk.now) is in
    empty_reads c.args.from (drop c.args.from k) (omega (arith, length-drop c.args.from k))

pub returns-in_err-body-clause-damaged : goal.returns-in_err-body-clause-damaged
returns-in_err-body-clause-damaged g c =
    let p = err_from_is_err_and c.from_residual.result c.from_residual.ensures.1 in
    let kept = c.loop-records.invariant in
    rw (p.1, p.2) (λ k is.
    let size = present_size k (g.met.D.Disk.lawful c.args.disk.now) is in
    damage_in k c.args.from c.loop-records.records.items c.loop-records.gate kept.gate (omega (arith, kept.inside)) (kept.records k is) c.in_err-body.field-0.0 (c.in_err-body.ensures.found k (still_present k kept.only_reads is)))

pub loop-records-preserved : goal.loop-records-preserved
loop-records-preserved g c =
    let kept = c.loop-records.invariant in
    let body = c.in-Some.body in
    let pushed : c.push.new.self.items ≡ c.loop-records.records.items ++ body ∷ [] = search rules in
    let size : length c.as_slice.result.now ≡ length body = ap length c.as_slice.ensures in
    let fits : c.loop-records.gate + record_length body < (g.D.Disk.state c.loop-records.disk).size = rw c.in-Some.is at c.in_ok-body.ensures.fits in
    record {
      only_reads = reads_then kept.only_reads c.read_record.ensures.only_reads;
      gate = rw pushed (omega (arith, kept.gate, size, row_length-append c.loop-records.records.items (body ∷ [])));
      inside = omega (arith, fits, size, kept.only_reads.rest.kind.size);
      records = λ k is.
          let whole = present_size k (g.met.D.Disk.lawful c.args.disk.now) is in
          let found_is = rw c.in-Some.is at (c.in_ok-body.ensures.found k (still_present k kept.only_reads is)) in
          rw pushed (next_records k c.args.from c.loop-records.records.items c.loop-records.gate kept.gate (omega (arith, kept.inside)) (kept.records k is) body found_is);
    }

pub returns-clause-records : goal.returns-clause-records
returns-clause-records g c = λ k is.
    let kept = c.loop-records.invariant in
    let whole = present_size k (g.met.D.Disk.lawful c.args.disk.now) is in
    let found_is = rw c.in_default.is at (c.in_ok-body.ensures.found k (still_present k kept.only_reads is)) in
    end_reads k c.args.from c.loop-records.records.items c.loop-records.gate kept.gate (omega (arith, kept.inside)) (kept.records k is) found_is
