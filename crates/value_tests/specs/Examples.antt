-- The rows of the tests.
use Rattle.std.specs.Prelude.{ℤ, [], ◌∷◌, codes}
use Rattle.seata_types.specs.declared.rows.RowKey.{RowKey}
use Rattle.seata_types.specs.declared.rows.Value.TheVariants as value

-- the row of a table `acc` with this number as its key
abbrev pub key_of_number : ℤ → RowKey
key_of_number number = record { resource = 1; table = codes "acc"; pk = value.Int number ∷ [] }
