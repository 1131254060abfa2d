-- The layouts of a snapshot.
use Rattle.byte_fields.specs.declared.layouts.KeyLayout.{KeyLayout}
use Rattle.byte_fields.specs.declared.layouts.KeyLayout.TheVariants as key
use Rattle.session_log.specs.declared.layouts.SnapshotLayout.{SnapshotLayout}
use Rattle.session_log.specs.declared.layouts.SnapshotLayout.TheVariants as layout

-- the layout of the keys of a snapshot
abbrev pub keys_of : SnapshotLayout → KeyLayout
keys_of layout.SingleKeys = key.Single
keys_of layout.CountedKeys = key.Counted
keys_of layout.WithForgotten = key.Counted
