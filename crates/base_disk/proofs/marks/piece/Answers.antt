use Rattle.std.proofs.Common.{◌≡◌, ◌-◌, drop, length, min, sym, rules}
use Rattle.std.proofs.lemmas.List.{length-drop}
use Rattle.seata_types.specs.declared.limits.TheConstants.{BODY_BYTES}
use Rattle.base_disk.proofs.Records.{first_bytes}
use Rattle.base_disk.proofs.marks.piece.Goals as goal

pub returns : goal.returns
returns c =
    let text = c.args.text.now in
    let at = c.args.at in
    let step : c.min.result ≡ min (length text - at) BODY_BYTES = search rules in
    first_bytes (drop at text) (length text - at) BODY_BYTES c.min.result (sym (length-drop at text)) step
