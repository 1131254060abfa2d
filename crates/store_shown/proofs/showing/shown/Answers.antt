use Rattle.std.proofs.Common.{Ok, subst}
use Rattle.scenario_reader.specs.Reading.{IsFault, IsScenario}
use Rattle.store_shown.specs.Bases.{ReadsBase}
use Rattle.store_shown.proofs.Told.{base_empty, base_unread, scenario_shown, text_refused}
use Rattle.store_shown.proofs.showing.shown.Goals as goal

pub returns-in-Err : goal.returns-in-Err
returns-in-Err g c =
    let state = g.H.D.Disk.state in
    let seen = g.H.Shelf.state in
    let old = c.args.shelf.now in
    let mid = c.read_base.new.shelf in
    base_unread state seen g.met.H.Shelf.lawful old mid c.in-Err.fault c.no_names.result c.unread.result (subst (ReadsBase state (seen old) (seen mid)) c.in-Err.is c.read_base.ensures) c.unread.ensures

pub returns-in_default : goal.returns-in_default
returns-in_default g c =
    let state = g.H.D.Disk.state in
    let seen = g.H.Shelf.state in
    let old = c.args.shelf.now in
    let mid = c.read_base.new.shelf in
    base_empty state seen g.met.H.Shelf.lawful old mid
    (subst (λ f. ReadsBase state (seen old) (seen mid) (Ok f)) c.in_default.is (subst (ReadsBase state (seen old) (seen mid)) c.in-Ok.is c.read_base.ensures))

pub returns-in-Ok-read : goal.returns-in-Ok-read
returns-in-Ok-read g c =
    let state = g.H.D.Disk.state in
    let seen = g.H.Shelf.state in
    let old = c.args.shelf.now in
    let mid = c.read_base.new.shelf in
    let base = subst (λ f. ReadsBase state (seen old) (seen mid) (Ok f)) c.in-Some.is (subst (ReadsBase state (seen old) (seen mid)) c.in-Ok.is c.read_base.ensures) in
    let s = c.in-Ok-read.scenario in
    scenario_shown state seen g.met.H.Shelf.lawful old mid c.in-Some.text base c.show_nodes.new.shelf s (subst (λ t. IsScenario t s) c.as_slice.ensures c.in-Ok-read.ensures.ok) c.in-Ok-read.ensures.runnable
    c.show_nodes.result c.show_nodes.ensures

pub returns : goal.returns
returns g c =
    let state = g.H.D.Disk.state in
    let seen = g.H.Shelf.state in
    let old = c.args.shelf.now in
    let mid = c.read_base.new.shelf in
    let base = subst (λ f. ReadsBase state (seen old) (seen mid) (Ok f)) c.in-Some.is (subst (ReadsBase state (seen old) (seen mid)) c.in-Ok.is c.read_base.ensures) in
    let e = c.in-Err-read.error in
    text_refused state seen g.met.H.Shelf.lawful old mid c.in-Some.text base e c.no_scenario.result (λ other. subst (λ t. IsFault t e) c.as_slice.ensures (c.in-Err-read.ensures.err other)) c.no_scenario.ensures
