use Rattle.std.proofs.Common.{◌≡◌, ⊎_elim, Some, Result, Err, refl, sym, ◌∙◌, ap, subst}
use Rattle.seata_types.specs.declared.errors.OpenError.{OpenError}
use Rattle.disk_model.specs.Disk.{present}
use Rattle.journal_checkpoint.specs.declared.types.Found.{Found}
use Rattle.journal_checkpoint.specs.declared.types.TwinError.{TwinError}
use Rattle.journal_checkpoint.specs.declared.twin.Twin.{Twin}
use Rattle.journal_checkpoint.specs.Keeping.{first_disk, second_disk}
use Rattle.memory_store.specs.Keeping.{IsDamage, IsNotFull, twin_of}
use Rattle.memory_store.proofs.Damages.{pair_damage, no_damage, twin_failed, two_disks_not_full}
use Rattle.memory_store.proofs.DiskFacts.{told_bytes, told_after}
use Rattle.memory_store.proofs.Openings.{came_back, stayed_down}
use Rattle.memory_store.proofs.store.Store.restart.Goals as goal

abbrev failing : TwinError → Result Found TwinError
failing e = Err e

pub returns-in-Err-clause-comes : goal.returns-in-Err-clause-comes
returns-in-Err-clause-comes g c =
    stayed_down g.D.Disk.state (g.M.StateMachine.meaning c.args.self.now.machine) c.args.pick twin_of c.args.self.now (record c.args.self.now { twin = c.restart.new.self })
    c.in-Err.ensures.restarts c.store_error.result (subst IsNotFull (sym c.store_error.ensures) (two_disks_not_full c.in-Err.error)) c.in-Err.ensures.up
    (λ is. c.in-Err.ensures.failed (ap failing (twin_failed c.in-Err.error (sym c.store_error.ensures ∙ is))))
    (λ a b is too. subst (λ (e : OpenError). IsDamage (g.M.StateMachine.meaning c.args.self.now.machine) a b e) (sym c.store_error.ensures)
    (pair_damage (g.M.StateMachine.meaning c.args.self.now.machine) a b c.in-Err.error (c.in-Err.ensures.tells.damaged a b is too)))

pub returns-in-Ok-recover-clause-back : goal.returns-in-Ok-recover-clause-back
returns-in-Ok-recover-clause-back g c = λ one two.
    let x = told_bytes (g.D.Disk.state (first_disk c.restart.new.self)) (told_after c.in-Ok.ensures.restarts.first.kind one) in
    let y = told_bytes (g.D.Disk.state (second_disk c.restart.new.self)) (told_after c.in-Ok.ensures.restarts.second.kind two) in
    let stays = (g.met.D.Disk.lawful (first_disk c.restart.new.self)).present_may_stay x.0 x.1 in
    let stays_too = (g.met.D.Disk.lawful (second_disk c.restart.new.self)).present_may_stay y.0 y.1 in
    record {
      a = x.0;
      b = y.0;
      first = (c.in-Ok.ensures.restarts.first.images x.0 stays, c.in-Ok.ensures.restarts.first.outcome refl x.0 stays);
      second = (c.in-Ok.ensures.restarts.second.images y.0 stays_too, c.in-Ok.ensures.restarts.second.outcome refl y.0 stays_too);
      is = c.in-Ok-recover.ensures.ok x.0 y.0 x.1 y.1 (c.in-Ok.ensures.tells.found x.0 y.0 x.1 y.1) (c.in-Ok.ensures.keeps (record { forth = λ k other. (y.0, y.1); back = λ k other. (x.0, x.1) }));
    }

pub returns-in-Ok-recover-clause-comes : goal.returns-in-Ok-recover-clause-comes
returns-in-Ok-recover-clause-comes g c =
    came_back g.D.Disk.state g.met.D.Disk.lawful (g.M.StateMachine.meaning c.args.self.now.machine) c.args.pick twin_of c.args.self.now c.recover.new.self c.restart.new.self c.recover.new.self.twin
    c.in-Ok.ensures.restarts c.in-Ok.found c.in-Ok.ensures.tells.found c.in-Ok.ensures.keeps _ c.in-Ok-recover.ensures.over refl refl c.in-Ok-recover.ensures.up tt

pub returns-clause-comes : goal.returns-clause-comes
returns-clause-comes g c =
    let m = g.M.StateMachine.meaning c.args.self.now.machine in
    came_back g.D.Disk.state g.met.D.Disk.lawful m c.args.pick twin_of c.args.self.now (record c.recover.new.self { twin = c.fall.new.self }) c.restart.new.self c.recover.new.self.twin
    c.in-Ok.ensures.restarts c.in-Ok.found c.in-Ok.ensures.tells.found c.in-Ok.ensures.keeps (Err c.in-Err-recover.error) c.in-Err-recover.ensures.over c.fall.ensures.first c.fall.ensures.second c.fall.ensures.down
    (λ a b is too. ⊎_elim
    (λ settles. no_damage m a b c.in-Err-recover.error settles)
    (λ unchanged.
    let one : present (g.D.Disk.state (first_disk c.restart.new.self)) ≡ Some a =
    ap (λ (t : Twin g.row.D.Denot). present (g.D.Disk.state (first_disk t))) (sym unchanged.0) ∙ ap (λ (d : g.row.D.Denot). present (g.D.Disk.state d)) (sym c.fall.ensures.first) ∙ is in
    let two : present (g.D.Disk.state (second_disk c.restart.new.self)) ≡ Some b =
    ap (λ (t : Twin g.row.D.Denot). present (g.D.Disk.state (second_disk t))) (sym unchanged.0) ∙ ap (λ (d : g.row.D.Denot). present (g.D.Disk.state d)) (sym c.fall.ensures.second) ∙ too in
    unchanged.1 a b one two (c.in-Ok.ensures.tells.found a b one two) (c.in-Ok.ensures.keeps (record { forth = λ k other. (b, two); back = λ k other. (a, one) })))
    c.in-Err-recover.ensures.over.damaged)
