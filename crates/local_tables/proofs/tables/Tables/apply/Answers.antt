use Rattle.local_tables.proofs.ApplyLaws.{sound_applied}
use Rattle.local_tables.proofs.tables.Tables.apply.Goals as goal

pub invariant_of-self-2 : goal.invariant_of-self-2
invariant_of-self-2 c =
    sound_applied _ c.args.self.now c.args.way c.args.images.now _ c.self.view_is c.self.invariant c.requires.each c.in_ok-put_sides.ensures.done
