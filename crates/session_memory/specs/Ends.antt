-- Which branches of each transaction are known to be ended: so many at the beginning, and all from a place on. What isn't known so is
-- looked at.
use Rattle.std.specs.Prelude.{◌≡◌, ℕ, ◌+◌, ◌<◌, ◌≤◌, ◌==◌, true, false, List, take, drop, length, get_or, Option, Some, None}
use Rattle.std.specs.BTreeMap.{is_at as is_at_key}
use Rattle.std.specs.Map.{lookup}
use Rattle.std.specs.Ordering.{nat_cmp}
use Rattle.session_log.specs.declared.sessions.Branch.{Branch}
use Rattle.session_log.specs.declared.sessions.SessionEntry.{SessionEntry}
use Rattle.session_memory.specs.declared.ends.Span.{Span}
use Rattle.session_memory.specs.Order.{Each}

-- the numbers of transactions with the places between which branches may be open
abbrev pub Spans : Type 0
Spans = List (ℕ × Span)

abbrev pub span_of : Spans → ℕ → Option Span
span_of ss x = lookup (is_at_key (nat_cmp x)) ss

abbrev pub IsEnded : Branch → Type 0
IsEnded b = b.ended ≡ true

-- all branches before the first place and all from the last one on are ended
pub record IsSpan (s : Span) (bs : List Branch) : Type 0 where
  pub before : Each IsEnded (take s.first bs)
  pub behind : Each IsEnded (drop s.last bs)

-- so it is of a transaction of which places are known
abbrev pub IsSpanIn : Option Span → List Branch → Type 0
IsSpanIn None bs = Unit {0}
IsSpanIn (Some s) bs = IsSpan s bs

abbrev pub HasSpan : Spans → SessionEntry → Type 0
HasSpan ss e = IsSpanIn (span_of ss e.xid.0) e.session.branches

-- and of each of these transactions
abbrev pub AreSpans : Spans → List SessionEntry → Type 0
AreSpans ss es = Each (HasSpan ss) es

-- the places of the others stay
abbrev pub SpansStay : ℕ → Spans → Spans → Type 0
SpansStay x old new = (y : ℕ) → (y == x) ≡ false → span_of new y ≡ span_of old y

-- ---- searches

-- the branch at a place, if one is there, isn't ended
abbrev pub IsOpenAt : ℕ → List Branch → Type 0
IsOpenAt n bs = (d : Branch) → n < length bs → (get_or bs n d).ended ≡ false

-- all before the first open branch are ended, and none is open where it would be behind them all
pub record IsFirstOpen (first : ℕ) (bs : List Branch) : Type 0 where
  pub before : Each IsEnded (take first bs)
  pub here : IsOpenAt first bs

-- all behind the last open branch, which is the last one of so many, are ended
pub record IsLastOpen (last : ℕ) (bs : List Branch) : Type 0 where
  pub within : last ≤ length bs
  pub behind : Each IsEnded (drop last bs)
  pub here : (n : ℕ) → last ≡ n + 1 → IsOpenAt n bs
