use Rattle.std.proofs.Common.{◌≡◌, map, drop}
use Rattle.std.specs.List.{list_all}
use Rattle.local_tables.specs.Checks.{is_once, set_name}
use Rattle.local_tables.proofs.checking.sets_once.Given as goal

abbrev pub invariant-loop-set : goal.invariant-loop-set
invariant-loop-set l =
    list_all (is_once (map set_name l.sets)) (map set_name (drop l.set-index l.sets)) ≡ list_all (is_once (map set_name l.sets)) (map set_name l.sets)
