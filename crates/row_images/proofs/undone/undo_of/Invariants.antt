use Rattle.std.proofs.Common.{◌≡◌, map, take}
use Rattle.row_images.specs.Undoing.{exchanged}
use Rattle.row_images.proofs.undone.undo_of.Given as goal

abbrev pub invariant-loop-image : goal.invariant-loop-image
invariant-loop-image l = l.undo.items ≡ map exchanged (take l.image-index l.images)
