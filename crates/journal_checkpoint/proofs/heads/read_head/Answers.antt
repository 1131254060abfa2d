use Rattle.std.proofs.Common.{arith}
use Rattle.disk_journal.proofs.Readings.{still_present, present_size}
use Rattle.journal_checkpoint.proofs.Switches.{no_head, read_shut, read_short, read_opened}
use Rattle.journal_checkpoint.proofs.heads.read_head.Goals as goal

pub returns-then-size-eq0-clause-head : goal.returns-then-size-eq0-clause-head
returns-then-size-eq0-clause-head g c = λ k is.
    let size = present_size k (g.met.D.Disk.lawful c.args.disk.now) is in
    no_head k (omega arith)

pub returns-then-switch-ne-OPEN-clause-head : goal.returns-then-switch-ne-OPEN-clause-head
returns-then-switch-ne-OPEN-clause-head g c = λ k is.
    let size = present_size k (g.met.D.Disk.lawful c.args.disk.now) is in
    read_shut k (omega arith) c.read.new.into (omega arith) (c.in_ok-read.ensures.read k is) c.if-switch-ne-OPEN.true

pub returns-then-size-lt-AROUND-clause-head : goal.returns-then-size-lt-AROUND-clause-head
returns-then-size-lt-AROUND-clause-head g c = λ k is.
    let size = present_size k (g.met.D.Disk.lawful c.args.disk.now) is in
    read_short k (omega arith) c.read.new.into (omega arith) (c.in_ok-read.ensures.read k is) c.if-switch-ne-OPEN.false (omega arith)

pub returns-clause-head : goal.returns-clause-head
returns-clause-head g c = λ k is.
    let size = present_size k (g.met.D.Disk.lawful c.args.disk.now) is in
    let here = still_present k c.read.ensures.only_reads is in
    let then = still_present k c.read-2.ensures.only_reads here in
    read_opened k (omega arith) c.read.new.into (omega arith) (c.in_ok-read.ensures.read k is) c.if-switch-ne-OPEN.false
    c.read-2.new.into c.read-3.new.into (omega arith) (c.in_ok-read-2.ensures.read k here) (omega arith) (c.in_ok-read-3.ensures.read k then)
    c.size-size.result c.from_be_bytes.result c.from_be_bytes-2.result (omega arith) c.from_be_bytes.ensures c.from_be_bytes-2.ensures c.open_head.result c.open_head.ensures.head
