use Rattle.std.proofs.Common.{rules}
use Rattle.std.proofs.lemmas.Str.{IsUtf8-string_bytes}
use Rattle.serde_json.specs.View.{view}
use Rattle.scenario_reader.proofs.Kept.{without_steps_depth}
use Rattle.scenario_reader.proofs.bases.base_of.Goals as goal

pub returns : goal.returns
returns c =
    let shallow = without_steps_depth (view c.args.value) c.requires in
    search (rules, shallow, IsUtf8-string_bytes c.in_ok-text.text)
