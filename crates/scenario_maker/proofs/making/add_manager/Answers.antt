use Rattle.std.proofs.Common.{◌++◌, ◌∙◌, ap, codes, decimal, string_bytes}
use Rattle.scenario_maker.specs.Made.{calls, end, manager}
use Rattle.scenario_maker.proofs.ListLemmas.{behind}
use Rattle.scenario_maker.proofs.making.add_manager.Goals as goal

pub returns : goal.returns
unfolding manager
returns c =
    let out = string_bytes c.args.out.now in
    let p = c.args.plan.now in
    let rest = codes "\",\"name\":\"m" ++ (decimal c.args.number ++ codes "\"}") in
    let ending = codes "],\"end\":\"" ++ (end p ++ rest) in
    let wrote = c.in_ok-write.ensures.bytes ∙ ap (λ t. string_bytes c.add_calls.new.out ++ (codes "],\"end\":\"" ++ (t ++ rest))) c.end.ensures in
    behind out (codes "{\"calls\":[") (calls p ++ ending) (string_bytes c.push_str.new.self) (string_bytes c.write.new.self) c.in_ok-push_str.ensures.bytes
    (behind (string_bytes c.push_str.new.self) (calls p) ending (string_bytes c.add_calls.new.out) (string_bytes c.write.new.self) c.in_ok-add_calls.ensures wrote)
