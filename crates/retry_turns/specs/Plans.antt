-- Which transactions are planned, and which of them is due first.
use Rattle.std.specs.Prelude.{◌≡◌, ℕ, ◌<◌, ◌≤◌, ◌==◌, nat_lt, ◌||◌, ◌&&◌, Bool, false, List, Option, Some, None, is_some}
use Rattle.std.specs.BTreeMap.{insert_entry, is_at}
use Rattle.std.specs.Map.{lookup, remove_entry}
use Rattle.std.specs.Ordering.{nat_cmp}
use Rattle.seata_types.specs.declared.ids.Xid.{Xid}

-- the number of each planned transaction with its moment, in order of numbers
abbrev pub Plans : Type 0
Plans = List (ℕ × ℕ)

-- the moment for which a transaction is planned
abbrev pub moment_of : Plans → ℕ → Option ℕ
moment_of ps x = lookup (is_at (nat_cmp x)) ps

abbrev pub is_planned : Plans → ℕ → Bool
is_planned ps x = is_some (moment_of ps x)

-- a transaction is planned for this moment, and for no other
abbrev pub with_plan : Plans → ℕ → ℕ → Plans
with_plan ps x moment = insert_entry nat_cmp ps x moment

-- a transaction isn't planned
abbrev pub without_plan : Plans → ℕ → Plans
without_plan ps x = remove_entry (is_at (nat_cmp x)) ps

-- whether x, planned for m, goes before y, planned for n: by their moments, and by their numbers where these tie
abbrev pub goes_before : (m x n y : ℕ) → Bool
goes_before m x n y = nat_lt m n || ((m == n) && nat_lt x y)

-- x is due, and no plan goes before its own
pub record IsFirstDue (ps : Plans) (now x : ℕ) : Type 0 where
  pub moment : ℕ
  pub planned : moment_of ps x ≡ Some moment
  pub come : moment ≤ now
  pub least : (y n : ℕ) → moment_of ps y ≡ Some n → goes_before n y moment x ≡ false

-- nothing is due
abbrev pub IsNoneDue : Plans → ℕ → Type 0
IsNoneDue ps now = (y n : ℕ) → moment_of ps y ≡ Some n → now < n

-- the transaction that is due first, and none exactly where nothing is due
abbrev pub TellsDue : Plans → ℕ → Option Xid → Type 0
TellsDue ps now (Some x) = IsFirstDue ps now x.0
TellsDue ps now None = IsNoneDue ps now
