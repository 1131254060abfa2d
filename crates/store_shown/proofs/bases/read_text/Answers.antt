use Rattle.std.proofs.Common.{Err, IfOk, sym, subst}
use Rattle.disk_journal.specs.Keeping.{OnlyReads}
use Rattle.store_shown.specs.Bases.{ReadsText}
use Rattle.store_shown.specs.Texts.{IsKeptIn}
use Rattle.store_shown.proofs.BaseRead.{not_opened, text_told}
use Rattle.store_shown.proofs.bases.read_text.Goals as goal

pub returns-in-Err : goal.returns-in-Err
returns-in-Err g c =
    let disk = g.D.Disk.state c.args.disk in
    let after = g.D.Disk.state c.in-Err.disk in
    let e = c.in-Err.ensures in
    subst (λ missed. ReadsText disk after (Err missed)) (sym c.journal_fault.ensures) (not_opened disk after e.only_reads c.in-Err.error e.damaged e.failed)

pub returns : goal.returns
returns g c =
    let state = g.D.Disk.state in
    let reads = subst (λ d. OnlyReads (state c.args.disk) (state d)) (sym c.into_disk.ensures) c.in-Ok.ensures.only_reads in
    let records = c.in-Ok.opened.1 in
    let kept = subst (λ rs. IfOk c.text_in-read.result (IsKeptIn rs)) c.as_slice.ensures c.text_in-read.ensures.kept in
    text_told (state c.args.disk) (state c.into_disk.result) reads records c.text_in-read.result c.in-Ok.ensures.records kept c.text_in-read.ensures.refused
