use Rattle.std.proofs.Common.{◌≡◌, ℕ, ◌<◌, List, length, refl, sym, ◌∙◌, ap, arith}
use Rattle.std.proofs.lemmas.List.{take_at, length-replicate}
use Rattle.disk_journal.specs.Reading.{Record}
use Rattle.disk_journal.proofs.Readings.{still_present, present_size, closed_at, short_at, long_at, cut_at, record_at}
use Rattle.disk_journal.proofs.opening.read_record.Goals as goal
use Rattle.disk_journal.proofs.opening.read_record.Goals.{then-count-gt-BODY_BYTES-via-then-count-gt-BODY_BYTES, then-count-gt-BODY_BYTES-via-else-count-gt-BODY_BYTES+then-left-count}

pub returns-then-first-ne-OPEN-clause-found : goal.returns-then-first-ne-OPEN-clause-found
returns-then-first-ne-OPEN-clause-found g c = λ k is.
    let size = present_size k (g.met.D.Disk.lawful c.args.disk.now) is in
    closed_at k c.args.gate (omega (arith, c.requires)) c.read.new.into (omega arith) (c.in_ok-read.ensures.read k is) c.if-first-ne-OPEN.true

pub returns-then-left-lt-SHORTEST-clause-found : goal.returns-then-left-lt-SHORTEST-clause-found
returns-then-left-lt-SHORTEST-clause-found g c = λ k is.
    let size = present_size k (g.met.D.Disk.lawful c.args.disk.now) is in
    (refl, short_at k c.args.gate (omega (arith, c.requires)) c.read.new.into (omega arith) (c.in_ok-read.ensures.read k is) c.if-first-ne-OPEN.false (omega (arith, c.requires)))

pub returns-then-count-gt-BODY_BYTES-clause-found : goal.returns-then-count-gt-BODY_BYTES-clause-found
returns-then-count-gt-BODY_BYTES-clause-found g c = λ k is.
    let size = present_size k (g.met.D.Disk.lawful c.args.disk.now) is in
    let inside : c.args.gate < length k = omega (arith, c.requires) in
    let first = c.in_ok-read.ensures.read k is in
    let head = c.in_ok-read-2.ensures.read k (still_present k c.read.ensures.only_reads is) in
    elim c.then-count-gt-BODY_BYTES.branch [
      | then-count-gt-BODY_BYTES-via-then-count-gt-BODY_BYTES w ↦ (refl, long_at k c.args.gate inside c.read.new.into (omega arith) first c.if-first-ne-OPEN.false c.read-2.new.into (omega arith) head _ c.from_be_bytes-count.ensures w.if-count-gt-BODY_BYTES.true)
      | then-count-gt-BODY_BYTES-via-else-count-gt-BODY_BYTES+then-left-count w ↦ (refl, cut_at k c.args.gate inside c.read.new.into (omega arith) first c.if-first-ne-OPEN.false c.read-2.new.into (omega arith) head _ c.from_be_bytes-count.ensures (omega (arith, w.if-left-count.true)))
    ]

pub returns-clause-found : goal.returns-clause-found
returns-clause-found g c = λ k is.
    let size = present_size k (g.met.D.Disk.lawful c.args.disk.now) is in
    let inside : c.args.gate < length k = omega (arith, c.requires) in
    let first = c.in_ok-read.ensures.read k is in
    let here = still_present k c.read.ensures.only_reads is in
    let head = c.in_ok-read-2.ensures.read k here in
    let body = c.in_ok-read-3.ensures.read k (still_present k c.read-2.ensures.only_reads here) in
    let count : length c.read-3.new.into ≡ c.from_be_bytes-count.result = omega (arith, ap length c.in_ok-body.ensures, length-replicate {A = ℕ} c.from_be_bytes-count.result 0) in
    rw c.of.ensures (record_at k c.args.gate inside c.read.new.into (omega arith) first c.if-first-ne-OPEN.false c.read-2.new.into (omega arith) head c.read-3.new.into (count ∙ c.from_be_bytes-count.ensures) (omega arith) (omega arith) body
    ∙ ap (λ (l : List ℕ). Record l) (sym (take_at c.read-3.new.into _ c.in_ok-body.body.len (omega arith))))
