use Rattle.std.proofs.Common.{◌≡◌, ℕ, ◌<◌, List, true, false, length, sym, ◌∙◌, ap, arith}
use Rattle.std.specs.Prelude.{◌==◌}
use Rattle.std.proofs.lemmas.Bool.Decides.{nat_tests}
use Rattle.memory_store.proofs.Replaying.{nothing_there, record_there, snapshot_there}
use Rattle.memory_store.proofs.reading.first_place.Goals as goal

pub returns-in-Some : goal.returns-in-Some
returns-in-Some c = sym (snapshot_there c.args.second c.args.found.now.snapshot c.in-Some.field-0 c.args.found.now.records c.in-Some.is)

pub returns-then-is_empty : goal.returns-then-is_empty
returns-then-is_empty c =
    let test : (length c.as_slice.result.now == 0) ≡ true = sym c.is_empty.ensures ∙ c.if-is_empty.true in
    let none : length c.as_slice.result.now ≡ 0 = grind (arith, nat_tests) in
    sym (nothing_there c.args.second c.args.found.now.snapshot c.args.found.now.records c.in-None.is (ap (λ (l : List (List ℕ)). length l) (sym c.as_slice.ensures) ∙ none))

pub returns-else-is_empty : goal.returns-else-is_empty
returns-else-is_empty c =
    let test : (length c.as_slice.result.now == 0) ≡ false = sym c.is_empty.ensures ∙ c.if-is_empty.false in
    let some : 0 < length c.as_slice.result.now = grind (arith, nat_tests) in
    sym (record_there c.args.second c.args.found.now.snapshot c.args.found.now.records c.in-None.is (omega (arith, some, ap (λ (l : List (List ℕ)). length l) c.as_slice.ensures)))
