-- The resource of an outside write, and its errors.
use Rattle.std.proofs.Common.{◌≡◌, ◌∙◌, ℕ, ◌<◌, ◌^◌, Bool, if◌then◌else◌, List, [], ◌∷◌, Some, None, Err, refl, sym, ap, subst}
use Rattle.seata_types.specs.declared.errors.StoreError.{StoreError}
use Rattle.seata_types.specs.declared.errors.StoreError.TheVariants as store_error
use Rattle.seata_types.specs.declared.statements.Stmt.{Stmt}
use Rattle.local_tables.specs.Rows.{Database}
use Rattle.durable_records.specs.declared.resources.ResourceRecord.TheVariants as log
use Rattle.local_txn.proofs.Tests.{nat_same}
use Rattle.history_rules.specs.ResourceMemory.{local_in}
use Rattle.resource_rules.specs.Answers.{HavePlaces}
use Rattle.resource_store.specs.Answers.{HasPlaces}
use Rattle.local_guard.specs.Outside.{failure, told}

some_is : {A : Type 0} (b a : A) → Some b ≡ Some a → b ≡ a
some_is b a e = cc

module _ (number : ℕ) (stmts : List Stmt) where
  -- its statements
  pub here : local_in number ((number, stmts) ∷ []) ≡ Some stmts
  here = ap (λ (b : Bool). if b then Some stmts else None) (nat_same number number refl)

  -- the places that it has for its record, as the rules ask for them
  pub has_places : (db : Database) → HasPlaces db stmts (log.Outside number) → (found : List Stmt) → local_in number ((number, stmts) ∷ []) ≡ Some found → number < 2 ^ 16
      → HavePlaces db found (log.Outside number)
  has_places db places found is small =
      let mine : HavePlaces db stmts (log.Outside number) = λ e means. let place = places e means in record { fits = place.fits; small = place.small } in
      subst (λ (x : List Stmt). HavePlaces db x (log.Outside number)) (some_is stmts found (sym here ∙ is)) mine

-- the error of the store is told
pub fails_so : (e : StoreError) → told (Err (failure e)) ≡ Err e
fails_so store_error.Failed = refl
fails_so (store_error.Full full) = refl
fails_so store_error.NoMemory = refl
