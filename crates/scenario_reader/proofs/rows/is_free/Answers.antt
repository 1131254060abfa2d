use Rattle.std.proofs.Common.{◌≡◌, Some, rules, arith}
use Rattle.std.specs.Prelude.{option_map}
use Rattle.std.specs.BTreeSet as sets
use Rattle.std.proofs.lemmas.Grind.{common_steps}
use Rattle.scenario_reader.proofs.Rowed.{noted_answer, noted_free, noted_keys}
use Rattle.scenario_reader.proofs.rows.is_free.Goals as goal

pub returns-in-Some-clause-answer : goal.returns-in-Some-clause-answer
returns-in-Some-clause-answer c = λ noted.
    let some : option_map sets.keys c.args.noted.now ≡ Some c.in-Some.keys.keys = first_of (search rules, grind (arith, common_steps)) in
    let have = noted_keys c.args.places.now c.args.rows.now c.in-Some.keys.keys (option_map sets.keys c.args.noted.now) some noted in
    noted_answer c.args.places.now c.args.rows.now c.args.row.now c.in_ok-key.key c.in-Some.keys.keys c.is_new.result c.in_ok-key.ensures.value have c.is_new.ensures.answer

pub returns-clause-answer : goal.returns-clause-answer
returns-clause-answer c = λ noted.
    noted_free c.args.places.now c.args.rows.now c.args.row.now c.in_ok-key-2.key c.in_ok-keys.keys.keys c.in_ok-is_free.is_free c.in_ok-key-2.ensures.value c.in_ok-keys.ensures.value c.in_ok-is_free.ensures.answer
