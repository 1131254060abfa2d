use Rattle.std.proofs.Common.{◌++◌, codes, string_bytes}
use Rattle.scenario_maker.specs.Made.{made, managers, resources, schedule}
use Rattle.scenario_maker.proofs.ListLemmas.{behind}
use Rattle.scenario_maker.proofs.making.add_scenario.Goals as goal

pub returns : goal.returns
unfolding made
returns c =
    let whole = string_bytes c.push_str-4.new.self in
    let from_schedule = schedule c.args.size ++ codes "}" in
    let from_resources = resources ++ (codes "],\"schedule\":" ++ from_schedule) in
    let from_managers = managers c.args.number c.args.size ++ (codes "],\"resources\":[" ++ from_resources) in
    behind (string_bytes c.args.out.now) (codes "{\"managers\":[") from_managers (string_bytes c.push_str.new.self) whole c.in_ok-push_str.ensures.bytes
    (behind (string_bytes c.push_str.new.self) (managers c.args.number c.args.size) (codes "],\"resources\":[" ++ from_resources) (string_bytes c.add_managers.new.out) whole
    c.in_ok-add_managers.ensures
    (behind (string_bytes c.add_managers.new.out) (codes "],\"resources\":[") from_resources (string_bytes c.push_str-2.new.self) whole c.in_ok-push_str-2.ensures.bytes
    (behind (string_bytes c.push_str-2.new.self) resources (codes "],\"schedule\":" ++ from_schedule) (string_bytes c.add_resources.new.out) whole c.in_ok-add_resources.ensures
    (behind (string_bytes c.add_resources.new.out) (codes "],\"schedule\":") from_schedule (string_bytes c.push_str-3.new.self) whole c.in_ok-push_str-3.ensures.bytes
    (behind (string_bytes c.push_str-3.new.self) (schedule c.args.size) (codes "}") (string_bytes c.add_schedule.new.out) whole c.in_ok-add_schedule.ensures
    c.in_ok-push_str-4.ensures.bytes)))))
