use Rattle.std.proofs.Common.{◌≡◌, ℕ, Ok, Err, length, ap, subst}
use Rattle.memory_store.specs.Openings.{ReadsDisks}
use Rattle.session_store.specs.Keeping.{KeepsEach, store_of}
use Rattle.session_store.specs.Meaning.{meaning_of}
use Rattle.scenario_nodes.proofs.ReadStores.{sessions_read, sessions_unread}
use Rattle.scenario_nodes.proofs.reading.read_sessions.Goals as goal

pub returns-in-Ok : goal.returns-in-Ok
returns-in-Ok g c =
    let s = c.args.scenario.now in
    let state = g.D.Disk.state in
    let one = c.args.first in
    let two = c.args.second in
    let k = c.in-Ok.sessions in
    let managed : length c.as_slice.result.now ≡ length s.managers = ap length c.as_slice.ensures in
    let served : length c.as_slice-2.result.now ≡ length s.resources = ap length c.as_slice-2.ensures in
    let parts = c.into_parts-memory.ensures in
    let r = c.into_parts-memory.result in
    sessions_read state s one two k r.0 r.1 r.2 parts.memory parts.first parts.second
    (subst (λ (m : ℕ). KeepsEach state m (length s.resources) one two (Ok k)) managed (subst (λ (n : ℕ). KeepsEach state (length c.as_slice.result.now) n one two (Ok k)) served c.in-Ok.ensures.stands))
    (subst (λ (m : ℕ). ReadsDisks state (meaning_of m (length s.resources)) store_of one two (Ok k)) managed
    (subst (λ (n : ℕ). ReadsDisks state (meaning_of (length c.as_slice.result.now) n) store_of one two (Ok k)) served c.in-Ok.ensures.reads))

pub returns-in-Err : goal.returns-in-Err
returns-in-Err g c =
    let s = c.args.scenario.now in
    let state = g.D.Disk.state in
    let one = c.args.first in
    let two = c.args.second in
    let e = c.in-Err in
    let failed = Err (e.error, e.first, e.second) in
    let managed : length c.as_slice.result.now ≡ length s.managers = ap length c.as_slice.ensures in
    let served : length c.as_slice-2.result.now ≡ length s.resources = ap length c.as_slice-2.ensures in
    sessions_unread state s one two e.error e.first e.second
    (subst (λ (m : ℕ). KeepsEach state m (length s.resources) one two failed) managed (subst (λ (n : ℕ). KeepsEach state (length c.as_slice.result.now) n one two failed) served e.ensures.stands))
    (subst (λ (m : ℕ). ReadsDisks state (meaning_of m (length s.resources)) store_of one two failed) managed
    (subst (λ (n : ℕ). ReadsDisks state (meaning_of (length c.as_slice.result.now) n) store_of one two failed) served e.ensures.reads))
