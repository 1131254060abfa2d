-- The one history that traces merge to: their moments by stamp, and those of one stamp by place, newest first.
use Rattle.std.specs.Prelude.{◌≡◌, ◌==◌, nat_lt, ℕ, Bool, if◌then◌else◌, List, [], ◌∷◌}
use Rattle.seata_types.specs.declared.ids.Place.{Place}
use Rattle.history_rules.specs.Histories.{Moment, Rises, rank, same_place}
use Rattle.trace_rules.specs.Traces.{IsAfter, at}

-- moments that rise by stamp, and those of one stamp by place
abbrev pub Sorted : List Moment → Type 0
Sorted [] = Unit {0}
Sorted (m ∷ ms) = Sorted ms × Rises ms m

-- a history in this order, which has of each place its trace
pub record IsMergeOf (traces : Place → List Moment) (ms : List Moment) : Type 0 where
  pub sorted : Sorted ms
  pub each : (p : Place) → at p ms ≡ traces p

-- ---- the order, as a test

-- the kind of a place in order, and its number among those of a kind
abbrev pub kind_of : Place → ℕ
kind_of p = (rank p).0

abbrev pub number_of : Place → ℕ
number_of p = (rank p).1

-- whether one number is below another, and where they are the same whether a test passes
abbrev pub below_or : ℕ → ℕ → Bool → Bool
below_or m n same = if m == n then same else nat_lt m n

-- whether one place comes before another, and so one moment
abbrev pub place_before : Place → Place → Bool
place_before p q = below_or (kind_of p) (kind_of q) (nat_lt (number_of p) (number_of q))

abbrev pub is_before : Moment → Moment → Bool
is_before a b = below_or a.stamp b.stamp (place_before a.place b.place)

-- ---- the merge

-- a sorted history with a moment more, and with a whole trace more
abbrev pub insert : Moment → List Moment → List Moment
insert m [] = m ∷ []
insert m (l ∷ ms) = if is_before l m then m ∷ l ∷ ms else l ∷ insert m ms

abbrev pub insert_all : List Moment → List Moment → List Moment
insert_all [] ms = ms
insert_all (m ∷ trace) ms = insert m (insert_all trace ms)

-- a trace with its place
pub record Placed : Type 0 where
  pub place : Place
  pub moments : List Moment

-- the history that traces merge to
abbrev pub merged : List Placed → List Moment
merged [] = []
merged (t ∷ ts) = insert_all t.moments (merged ts)

-- the trace of a place among these, empty where there is none
abbrev pub trace_at : List Placed → Place → List Moment
trace_at [] p = []
trace_at (t ∷ ts) p = if same_place p t.place then t.moments else trace_at ts p

-- the moments of a trace are of its place, and their stamps rise
abbrev pub IsTraceOf : Place → List Moment → Type 0
IsTraceOf p [] = Unit {0}
IsTraceOf p (m ∷ ms) = IsTraceOf p ms × (m.place ≡ p) × IsAfter ms m.stamp

-- traces, no two of one place
abbrev pub AreTraces : List Placed → Type 0
AreTraces [] = Unit {0}
AreTraces (t ∷ ts) = AreTraces ts × IsTraceOf t.place t.moments × (trace_at ts t.place ≡ [])

-- they have a merge
abbrev pub MergesAll : Type 0
MergesAll = (ts : List Placed) → AreTraces ts → IsMergeOf (trace_at ts) (merged ts)
