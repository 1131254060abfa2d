-- The places that a Confirm or a Cancel has for its record, as the rules ask for them.
use Rattle.std.proofs.Common.{◌≡◌, List, [], ◌∷◌, Some, subst, sym}
use Rattle.seata_types.specs.declared.rows.Image.{Image}
use Rattle.seata_types.specs.declared.statements.Action.{Action}
use Rattle.seata_types.specs.declared.statements.Stmt.{Stmt}
use Rattle.local_tables.specs.Rows.{Database}
use Rattle.durable_records.specs.declared.resources.ResourceRecord.{ResourceRecord}
use Rattle.history_rules.specs.ResourceMemory.{action_in}
use Rattle.resource_rules.specs.Answers.{HavePlaces}
use Rattle.resource_rules.specs.Setups.{actions_of}
use Rattle.resource_store.specs.Answers.{HasPlaces}

some_is : {A : Type 0} (b a : A) → Some b ≡ Some a → b ≡ a
some_is b a e = cc

-- of the statements of the one action that there is
pub places_of : (db : Database) (of : Action → List Stmt) (action : Action) (r : List Image → ResourceRecord) → HasPlaces db (of action) r
    → (a : Action) → action_in 1 1 (actions_of ((1, 1, action) ∷ [])) ≡ Some a → HavePlaces db (of a) r
places_of db of action r places a here =
    let mine : HavePlaces db (of action) r = λ e means. let place = places e means in record { fits = place.fits; small = place.small } in
    subst (λ (x : Action). HavePlaces db (of x) r) (some_is action a here) mine
