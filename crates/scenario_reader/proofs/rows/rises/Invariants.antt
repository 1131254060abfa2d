use Rattle.std.proofs.Common.{◌≡◌, drop}
use Rattle.scenario_reader.specs.Tables as form
use Rattle.scenario_reader.proofs.rows.rises.Given as goal

abbrev pub invariant-loop-place : goal.invariant-loop-place
invariant-loop-place l = form.rises (drop l.place-index l.places) l.a l.b ≡ form.rises l.places l.a l.b
