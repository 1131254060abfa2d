use Rattle.std.proofs.Common.{◌≡◌, ◌∙◌, Err, ap, sym, subst}
use Rattle.base_disk.specs.Keeping.{KeepsText}
use Rattle.base_shelf.specs.Keeping.{KeepsBase, net_name}
use Rattle.base_shelf.proofs.NetKept.{net_kept, no_net_fault, not_had}
use Rattle.base_shelf.proofs.NetName.{nodes_hold}
use Rattle.scenario_nodes.proofs.Returned.{keeps_then}
use Rattle.base_shelf.proofs.keeping.keep_base.Goals as goal

pub returns-in-Err-clause-base : goal.returns-in-Err-clause-base
returns-in-Err-clause-base g c =
    let old = g.H.Shelf.state c.args.shelf.now in
    let new = g.H.Shelf.state c.take.new.self in
    not_had g.H.D.Disk.state c.args.scenario.now.base old new c.not_had.result
    (no_net_fault old new c.in-Err.error c.not_had.result c.not_had.ensures.store c.not_had.ensures.memory (λ failed. c.take.ensures.failed (c.in-Err.is ∙ ap Err failed)))
    c.in-Err.ensures.none c.in-Err.ensures.kept c.take.ensures.keeps

pub returns-in-Err-clause-still : goal.returns-in-Err-clause-still
returns-in-Err-clause-still g c = nodes_hold g.H.D.Disk.state c.args.scenario.now (g.H.Shelf.state c.args.shelf.now) (g.H.Shelf.state c.take.new.self) c.requires c.take.ensures.keeps

pub returns-clause-base : goal.returns-clause-base
returns-clause-base g c =
    let state = g.H.D.Disk.state in
    let old = g.H.Shelf.state c.args.shelf.now in
    let mid = g.H.Shelf.state c.take.new.self in
    let new = g.H.Shelf.state c.give.new.self in
    let text = c.args.scenario.now.base in
    let kept = c.keep_text-kept.result in
    let k = c.keep_text-kept.ensures in
    let place = c.in-Ok.ensures.out.place in
    let its = subst (λ t. KeepsText t (state c.in-Ok.disk) (state kept.1) k.answer) (c.as_bytes.ensures.value ∙ c.as_str.ensures) k.kept in
    subst (KeepsBase state text old new) (sym k.told)
    (net_kept state text old mid new c.in-Ok.disk kept.1 k.stays c.in-Ok.ensures.taken place c.take.ensures.keeps
    (c.give.ensures.back place) (λ told. c.give.ensures.counted told place) c.give.ensures.places c.give.ensures.keeps k.answer its)

pub returns-clause-still : goal.returns-clause-still
returns-clause-still g c =
    let old = g.H.Shelf.state c.args.shelf.now in
    let mid = g.H.Shelf.state c.take.new.self in
    let new = g.H.Shelf.state c.give.new.self in
    nodes_hold g.H.D.Disk.state c.args.scenario.now old new c.requires
    (keeps_then (λ n. n ≡ net_name) (λ n. n ≡ net_name) (λ n. n ≡ net_name) old mid new (λ n its. its) (λ n its. its) c.take.ensures.keeps c.give.ensures.keeps)
