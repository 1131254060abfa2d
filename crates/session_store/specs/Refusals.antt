-- Why a registration is refused.
use Rattle.lock_table.specs.declared.errors.HoldError.{HoldError}
use Rattle.lock_table.specs.declared.errors.HoldError.TheVariants as hold_error
use Rattle.seata_types.specs.declared.errors.StoreError.TheVariants as store_error
use Rattle.session_store.specs.declared.errors.RegisterError.{RegisterError}
use Rattle.session_store.specs.declared.errors.RegisterError.TheVariants as register_error

-- why rows weren't taken, as an answer to a registration
abbrev pub of_hold : HoldError → RegisterError
of_hold (hold_error.Held key by) = register_error.Held key by
of_hold hold_error.NoMemory = register_error.Store store_error.NoMemory
