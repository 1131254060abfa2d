use Rattle.std.proofs.Common.{◌∙◌, ap, codes, option_map}
use Rattle.serde_json.specs.View.{view, members_view}
use Rattle.serde_json.proofs.Views.{view-lookup}
use Rattle.scenario_reader.proofs.Kept.{members_view_without}
use Rattle.scenario_reader.proofs.bases.take_stops.Goals as goal

pub returns : goal.returns
returns c =
    record {
      rest = ap members_view c.remove.ensures.entries ∙ members_view_without (codes "stops") c.args.members.now.entries;
      taken = ap (option_map view) c.remove.ensures.value ∙ view-lookup (codes "stops") c.args.members.now.entries;
    }
