use Rattle.std.proofs.Common.{◌≡◌, ◌++◌, take}
use Rattle.std.specs.List.{flat_map}
use Rattle.byte_fields.specs.Appending.{Keeps}
use Rattle.byte_fields.proofs.appending.append_items.Given as goal

abbrev pub invariant-loop-item : goal.invariant-loop-item
invariant-loop-item g l = record {
  appended : l.out.items ≡ l.initial.out.items ++ flat_map g.T.Appended.bytes (take l.item-index l.items);
  kept : Keeps l.initial.out.items l.out.items;
}
