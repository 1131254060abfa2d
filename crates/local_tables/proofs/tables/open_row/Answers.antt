use Rattle.std.proofs.Common.{sym, ◌∙◌, subst}
use Rattle.local_tables.specs.Rows.{Rows}
use Rattle.local_tables.specs.Sound.{IsSound}
use Rattle.local_tables.proofs.SoundLaws.{sound_opened}
use Rattle.local_tables.proofs.tables.open_row.Goals as goal

pub returns-in_ok-insert-clause-sound : goal.returns-in_ok-insert-clause-sound
returns-in_ok-insert-clause-sound c =
    λ sound. subst
    (λ (rows : Rows). IsSound c.args.schema.now rows)
    (sym c.in_ok-insert.ensures.ok)
    (sound_opened c.args.resource c.args.schema.now c.args.name.now c.in-Some.def.now c.args.row (c.in-Some-2.key, c.in-Some-2.row) c.args.rows.now.entries c.in-Some.ensures (sym c.in_ok-key.ensures ∙ c.in-Some-2.is) sound)
