use Rattle.disk_journal.proofs.Adding.{stage_leaves, stage_adds, both_add, both_added, front_staged, front_both}
use Rattle.disk_journal.proofs.journal.add_record.Goals as goal

pub returns-in_err-write_through-clause-any_moment : goal.returns-in_err-write_through-clause-any_moment
returns-in_err-write_through-clause-any_moment g c = λ from bodies body stages holds.
    stage_adds _ _ from bodies body stages _ (g.met.D.Disk.lawful c.args.disk.now) holds _ c.write_through.ensures.images

pub returns-in_err-write_through-clause-not_begun : goal.returns-in_err-write_through-clause-not_begun
returns-in_err-write_through-clause-not_begun g c = λ from bodies body stages holds calls left few.
    stage_leaves _ _ from bodies body stages _ (g.met.D.Disk.lawful c.args.disk.now) holds _ c.write_through.ensures.images

pub returns-in_err-write_through-2-clause-any_moment : goal.returns-in_err-write_through-2-clause-any_moment
returns-in_err-write_through-2-clause-any_moment g c = λ from bodies body stages holds.
    both_add _ _ from bodies body stages _ (g.met.D.Disk.lawful c.args.disk.now) holds (g.D.Disk.state c.write_through.new.disk) _ c.requires.fits c.in_ok-write_through.ensures.written c.write_through.ensures.images c.write_through-2.ensures.images

pub returns-clause-any_moment : goal.returns-clause-any_moment
returns-clause-any_moment g c = λ from bodies body stages holds.
    both_add _ _ from bodies body stages _ (g.met.D.Disk.lawful c.args.disk.now) holds (g.D.Disk.state c.write_through.new.disk) _ c.requires.fits c.in_ok-write_through.ensures.written c.write_through.ensures.images c.write_through-2.ensures.images

pub returns-clause-added : goal.returns-clause-added
returns-clause-added g c = λ from bodies body stages holds.
    both_added _ _ from bodies body stages _ (g.met.D.Disk.lawful c.args.disk.now) holds (g.D.Disk.state c.write_through.new.disk) (g.D.Disk.state c.write_through-2.new.disk) c.requires.fits c.in_ok-write_through.ensures.written c.in_ok-write_through-2.ensures.settled c.in_ok-write_through-2.ensures.written

pub returns-in_err-write_through-clause-front : goal.returns-in_err-write_through-clause-front
returns-in_err-write_through-clause-front g c = front_staged _ _ _ _ c.write_through.ensures.images

pub returns-in_err-write_through-2-clause-front : goal.returns-in_err-write_through-2-clause-front
returns-in_err-write_through-2-clause-front g c = front_both _ _ _ (g.D.Disk.state c.write_through.new.disk) _ c.write_through.ensures.images c.write_through-2.ensures.images

pub returns-clause-front : goal.returns-clause-front
returns-clause-front g c = front_both _ _ _ (g.D.Disk.state c.write_through.new.disk) _ c.write_through.ensures.images c.write_through-2.ensures.images
