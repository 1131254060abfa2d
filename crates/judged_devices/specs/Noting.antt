-- What own entries leave of a node's disk.
use Rattle.std.specs.Prelude.{◌≡◌, ◌+◌, Bool, List, length}
use Rattle.seata_types.specs.declared.acts.Act.{Act}
use Rattle.history_rules.specs.Own.{Event, Own}
use Rattle.history_rules.specs.Devices.{is_down, calls_left, in_flight, down_after, left_after, flight_after}
use Rattle.judged_devices.specs.declared.devices.Device.{Device}

-- the device is that of these own entries, at a node whose restart writes a boot or doesn't
pub record IsDevice (boots : Bool) (os : List Own) (d : Device) : Type 0 where
  pub down : d.down ≡ is_down os
  pub left : d.left ≡ calls_left boots os
  pub flight : d.flight ≡ in_flight os
  pub taken : d.taken ≡ length os

-- a device after one entry more
abbrev pub noted : (boots : Bool) → Event → Act → Device → Device
noted boots event done d = record {
  down = down_after done d.down;
  left = left_after boots event done d.left;
  flight = flight_after done d.flight;
  taken = d.taken + 1;
}
