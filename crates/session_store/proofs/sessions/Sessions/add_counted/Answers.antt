use Rattle.std.proofs.Common.{◌≡◌, ℕ, ◌∙◌, length, ap, subst, rules}
use Rattle.memory_store.specs.Keeping.{HasRoomFor}
use Rattle.session_memory.specs.Changes.{after}
use Rattle.session_store.proofs.SessionLaws.{adds, loses}
use Rattle.session_store.proofs.sessions.Sessions.add_counted.Goals as goal

pub returns-in-Ok-append-clause-made : goal.returns-in-Ok-append-clause-made
returns-in-Ok-append-clause-made g c =
    let old = c.args.self.now in
    let same : c.len.result ≡ length c.deref.result.now = search rules in
    let room = subst (λ (n : ℕ). HasRoomFor g.D.Disk.state n old.store) same c.in_default-fits.ensures.ok in
    adds g.D.Disk.state old (record { store = c.append.new.self }) c.args.item.now c.deref.result.now c.requires.fits (c.deref.ensures.value ∙ c.in-Ok.ensures) c.requires.allowed c.requires.within
    c.append.ensures.machine c.append.ensures.found c.append.ensures.any_moment c.append.ensures.not_begun room (λ found keeps. c.in-Ok-append.ensures.acknowledged found keeps.pair)
    (c.append.ensures.memory ∙ c.in-Ok-apply.ensures.ok ∙ ap (after c.args.item.now) c.memory_mut.ensures.memory) c.in-Ok-append.ensures.took c.in-Ok-append.ensures.extent c.in-Ok-append.ensures.down

pub returns-clause-made : goal.returns-clause-made
returns-clause-made g c =
    let old = c.args.self.now in
    let same : c.len.result ≡ length c.deref.result.now = search rules in
    let room = subst (λ (n : ℕ). HasRoomFor g.D.Disk.state n old.store) same c.in_default-fits.ensures.ok in
    loses g.D.Disk.state old (record { store = c.append.new.self }) c.args.item.now c.deref.result.now c.requires.fits (c.deref.ensures.value ∙ c.in-Ok.ensures) c.requires.allowed c.requires.within
    c.append.ensures.machine c.append.ensures.found c.append.ensures.any_moment c.append.ensures.not_begun room
    (c.append.ensures.memory ∙ c.in-Ok-apply.ensures.ok ∙ ap (after c.args.item.now) c.memory_mut.ensures.memory) c.in-Err-append.ensures.failed c.in-Err-append.ensures.down
