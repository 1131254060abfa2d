use Rattle.local_tables.proofs.EffectLaws.{means_of_err, means_of_ok, images_rise, images_apply}
use Rattle.local_tables.proofs.tables.Tables.effect.Goals as goal

pub returns-in-Err-clause-means : goal.returns-in-Err-clause-means
returns-in-Err-clause-means c = means_of_err c.args.self.now c.args.stmts.now _ c.in-Err.ensures.meaning

pub returns-in-Ok-effect_of-clause-means : goal.returns-in-Ok-effect_of-clause-means
returns-in-Ok-effect_of-clause-means c =
    means_of_ok _ c.args.self.now c.args.stmts.now c.in-Ok.call c.in-Ok-effect_of.effect c.self.view_is c.in-Ok.ensures.meaning c.in-Ok-effect_of.ensures.images c.in-Ok-effect_of.ensures.reads c.in-Ok-effect_of.ensures.touched

pub returns-in-Ok-effect_of-clause-rising : goal.returns-in-Ok-effect_of-clause-rising
returns-in-Ok-effect_of-clause-rising c =
    images_rise c.self.inside.rows.entries c.in-Ok.call.changes _ c.in-Ok-effect_of.ensures.images c.in-Ok-effect_of.ensures.rising

pub returns-in-Ok-effect_of-clause-applicable : goal.returns-in-Ok-effect_of-clause-applicable
returns-in-Ok-effect_of-clause-applicable c =
    images_apply _ c.args.self.now c.in-Ok.call.changes _ c.self.view_is c.in-Ok-effect_of.ensures.images c.self.invariant c.in-Ok.ensures.changes c.in-Ok-effect_of.ensures.rising
