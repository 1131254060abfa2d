use Rattle.std.proofs.Common.{◌⊎◌, ⊎_elim, inl, inr, ◌∙◌, Ok, Err, subst, sym}
use Rattle.seata_types.specs.declared.errors.OpenError.{OpenError}
use Rattle.disk_model.specs.Disk.{HasCause}
use Rattle.journal_checkpoint.specs.Keeping.{first_disk, second_disk}
use Rattle.memory_store.specs.Settling.{RunsOn}
use Rattle.memory_store.proofs.DiskFacts.{runs_then, cause_after}
use Rattle.resource_memory.specs.Known.{Known}
use Rattle.resource_store.specs.Keeping.{known, twin}
use Rattle.resource_store.specs.Meaning.{setting, meaning_of}
use Rattle.resource_store.specs.Openings.{IsUndamaged, IsBootDamage}
use Rattle.resource_store.proofs.OpeningLaws.{boots_as, boot_refused, boot_images, boot_damage, boot_sound, failed_disk, moved_first, moved_second, read_damage, read_undamaged}
use Rattle.resource_store.proofs.store.Store.open.Goals as goal

pub returns-in-Err-clause-recovers : goal.returns-in-Err-clause-recovers
returns-in-Err-clause-recovers g c = λ rs a b is too stands.
    read_undamaged (g.D.Disk.state c.in-Err.failed.1) (g.D.Disk.state c.in-Err.failed.2) c.in-Err.failed.0 (c.in-Err.ensures.stands.recovers rs a b is too stands)

pub returns-in-Err-clause-damaged : goal.returns-in-Err-clause-damaged
returns-in-Err-clause-damaged g c = λ a b is too. read_damage (meaning_of (setting c.args.resource c.args.schema c.args.opening)) a b c.in-Err.failed.0 (c.in-Err.ensures.opens.damaged a b is too)

pub returns-in-Err-clause-images : goal.returns-in-Err-clause-images
returns-in-Err-clause-images g c = λ a b x y is too one two rs stands. inl (c.in-Err.ensures.opens.images a b x y is too one two rs stands)

pub returns-in-Ok-start-clause-keeps : goal.returns-in-Ok-start-clause-keeps
returns-in-Ok-start-clause-keeps g c = λ rs a b is too stands.
    boots_as g.D.Disk.state (setting c.args.resource c.args.schema c.args.opening) a b c.in-Ok.store c.in-Ok.ensures.stands.setting (λ qs p. c.in-Ok.ensures.stands.keeps qs a b is too p) c.start.new.self c.in-Ok-start.ensures rs stands

pub returns-in-Ok-start-clause-opened : goal.returns-in-Ok-start-clause-opened
returns-in-Ok-start-clause-opened g c = λ a b is too. record { loaded = c.in-Ok.store; is = c.in-Ok.ensures.opens.opened a b is too; boots = c.in-Ok-start.ensures }

pub returns-in-Ok-start-clause-place : goal.returns-in-Ok-start-clause-place
returns-in-Ok-start-clause-place g c = λ a b is too found stands. c.in-Ok-start.ensures.found ∙ c.in-Ok.ensures.opens.place a b is too found stands

pub returns-in-Ok-start-clause-sound : goal.returns-in-Ok-start-clause-sound
returns-in-Ok-start-clause-sound g c =
    subst (λ (k : Known). (meaning_of (setting c.args.resource c.args.schema c.args.opening)).IsSound k) (sym c.in-Ok-start.ensures.knows)
    (boot_sound (setting c.args.resource c.args.schema c.args.opening) (known c.in-Ok.store) c.in-Ok.ensures.sound)

pub returns-in-Ok-start-clause-images : goal.returns-in-Ok-start-clause-images
returns-in-Ok-start-clause-images g c = λ a b x y is too one two.
    boot_images g.D.Disk.state (setting c.args.resource c.args.schema c.args.opening) a b c.in-Ok.store c.in-Ok.ensures.stands.setting (λ qs p. c.in-Ok.ensures.stands.keeps qs a b is too p)
    (λ p q left left_too. c.in-Ok.ensures.opens.images a b p q is too left left_too) (Ok tt) c.start.new.self c.in-Ok-start.ensures x y one two

pub returns-in-Ok-start-clause-first_disk : goal.returns-in-Ok-start-clause-first_disk
returns-in-Ok-start-clause-first_disk g c = runs_then c.in-Ok.ensures.opens.first_disk (moved_first g.D.Disk.state (Ok tt) c.in-Ok.store c.start.new.self c.in-Ok-start.ensures.disks)

pub returns-in-Ok-start-clause-second_disk : goal.returns-in-Ok-start-clause-second_disk
returns-in-Ok-start-clause-second_disk g c = runs_then c.in-Ok.ensures.opens.second_disk (moved_second g.D.Disk.state (Ok tt) c.in-Ok.store c.start.new.self c.in-Ok-start.ensures.disks)

pub returns-in-Err-start-clause-recovers : goal.returns-in-Err-start-clause-recovers
returns-in-Err-start-clause-recovers g c = λ rs a b is too stands.
    subst (λ (z : g.row.D.Denot × g.row.D.Denot). IsUndamaged (g.D.Disk.state z.0) (g.D.Disk.state z.1) c.opening_error.result) (sym c.into_disks-first.ensures)
    (subst (λ (e : OpenError). IsUndamaged (g.D.Disk.state (first_disk (twin c.start.new.self))) (g.D.Disk.state (second_disk (twin c.start.new.self))) e) (sym c.opening_error.ensures)
    (boot_refused g.D.Disk.state (setting c.args.resource c.args.schema c.args.opening) a b c.in-Ok.store c.in-Ok.ensures.stands.setting (λ qs p. c.in-Ok.ensures.stands.keeps qs a b is too p) g.met.D.Disk.lawful c.in-Err-start.error c.start.new.self c.in-Err-start.ensures rs stands))

pub returns-in-Err-start-clause-damaged : goal.returns-in-Err-start-clause-damaged
returns-in-Err-start-clause-damaged g c = λ a b is too.
    subst (λ (e : OpenError). IsBootDamage (meaning_of (setting c.args.resource c.args.schema c.args.opening)) a b e) (sym c.opening_error.ensures)
    (boot_damage (meaning_of (setting c.args.resource c.args.schema c.args.opening)) a b c.in-Err-start.error)

pub returns-in-Err-start-clause-images : goal.returns-in-Err-start-clause-images
returns-in-Err-start-clause-images g c = λ a b x y is too one two.
    boot_images g.D.Disk.state (setting c.args.resource c.args.schema c.args.opening) a b c.in-Ok.store c.in-Ok.ensures.stands.setting (λ qs p. c.in-Ok.ensures.stands.keeps qs a b is too p)
    (λ p q left left_too. c.in-Ok.ensures.opens.images a b p q is too left left_too) (Err c.in-Err-start.error) c.start.new.self c.in-Err-start.ensures x y
    (subst (λ (z : g.row.D.Denot × g.row.D.Denot). (g.D.Disk.state z.0).may_leave x) c.into_disks-first.ensures one)
    (subst (λ (z : g.row.D.Denot × g.row.D.Denot). (g.D.Disk.state z.1).may_leave y) c.into_disks-first.ensures two)

pub returns-in-Err-start-clause-failed : goal.returns-in-Err-start-clause-failed
returns-in-Err-start-clause-failed g c = λ failed.
    subst (λ (z : g.row.D.Denot × g.row.D.Denot). HasCause (g.D.Disk.state c.args.first).counts (g.D.Disk.state z.0).counts ⊎ HasCause (g.D.Disk.state c.args.second).counts (g.D.Disk.state z.1).counts)
    (sym c.into_disks-first.ensures)
    (⊎_elim
    (λ one. inl (cause_after (g.D.Disk.state (first_disk (twin c.start.new.self))) c.in-Ok.ensures.opens.first_disk one))
    (λ two. inr (cause_after (g.D.Disk.state (second_disk (twin c.start.new.self))) c.in-Ok.ensures.opens.second_disk two))
    (failed_disk g.D.Disk.state c.in-Err-start.error c.in-Ok.store c.start.new.self (sym c.opening_error.ensures ∙ failed) c.in-Err-start.ensures.disks))

pub returns-in-Err-start-clause-first_disk : goal.returns-in-Err-start-clause-first_disk
returns-in-Err-start-clause-first_disk g c =
    subst (λ (z : g.row.D.Denot × g.row.D.Denot). RunsOn (g.D.Disk.state c.args.first) (g.D.Disk.state z.0)) (sym c.into_disks-first.ensures)
    (runs_then c.in-Ok.ensures.opens.first_disk (moved_first g.D.Disk.state (Err c.in-Err-start.error) c.in-Ok.store c.start.new.self c.in-Err-start.ensures.disks))

pub returns-in-Err-start-clause-second_disk : goal.returns-in-Err-start-clause-second_disk
returns-in-Err-start-clause-second_disk g c =
    subst (λ (z : g.row.D.Denot × g.row.D.Denot). RunsOn (g.D.Disk.state c.args.second) (g.D.Disk.state z.1)) (sym c.into_disks-first.ensures)
    (runs_then c.in-Ok.ensures.opens.second_disk (moved_second g.D.Disk.state (Err c.in-Err-start.error) c.in-Ok.store c.start.new.self c.in-Err-start.ensures.disks))
