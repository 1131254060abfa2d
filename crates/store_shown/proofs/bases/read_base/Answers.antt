use Rattle.std.proofs.Common.{◌∙◌, Err, ap}
use Rattle.base_shelf.proofs.NetKept.{no_net_fault}
use Rattle.store_shown.proofs.BaseRead.{base_read, no_base}
use Rattle.store_shown.proofs.bases.read_base.Goals as goal

pub returns-in-Err : goal.returns-in-Err
returns-in-Err g c =
    let old = g.H.Shelf.state c.args.shelf.now in
    let new = g.H.Shelf.state c.take.new.self in
    no_base g.H.D.Disk.state old new c.not_had.result
    (no_net_fault old new c.in-Err.error c.not_had.result c.not_had.ensures.store c.not_had.ensures.memory (λ failed. c.take.ensures.failed (c.in-Err.is ∙ ap Err failed)))
    c.in-Err.ensures.none c.in-Err.ensures.kept c.take.ensures.keeps

pub returns : goal.returns
returns g c =
    let state = g.H.D.Disk.state in
    let old = g.H.Shelf.state c.args.shelf.now in
    let mid = g.H.Shelf.state c.take.new.self in
    let new = g.H.Shelf.state c.give.new.self in
    let read = c.read_text-read.result in
    base_read state old mid new c.in-Ok.disk read.1 (g.met.H.Shelf.lawful c.args.shelf.now) (g.met.H.Shelf.lawful c.give.new.self) c.in-Ok.ensures.taken c.take.ensures.keeps
    (c.give.ensures.back c.in-Ok.ensures.out.place) (λ told. c.give.ensures.counted told c.in-Ok.ensures.out.place) c.give.ensures.places c.give.ensures.keeps read.0 c.read_text-read.ensures
