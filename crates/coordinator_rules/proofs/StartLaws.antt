-- What a coordinator goes by as it starts is what its records say.
use Rattle.std.proofs.Common.{◌≡◌, ◌==◌, ◌&&◌, ◌||◌, ◌<◌, ◌^◌, not, ℕ, min, max, Bool, true, false, cond, if◌then◌else◌, List, [], ◌∷◌, ◌++◌, Option, Some, None, option_map, is_none, refl, sym, ap, subst, ◌∙◌, arith}
use Rattle.std.specs.Prelude.{filter, find, map}
use Rattle.std.specs.List.{list_any}
use Rattle.seata_types.specs.declared.limits.TheConstants.{LATEST_START}
use Rattle.seata_types.specs.declared.statuses.GlobalStatus.{GlobalStatus}
use Rattle.seata_types.specs.declared.statuses.GlobalStatus.TheVariants as status
use Rattle.durable_records.specs.declared.coordinators.SessionRecord.{SessionRecord}
use Rattle.durable_records.specs.Transactions.{Session as Began, sessions, is_forgotten}
use Rattle.durable_records.specs.Progress.{status_of, is_going as goes, is_finished as is_over}
use Rattle.durable_records.specs.SessionOrder.{Allowed}
use Rattle.history_rules.specs.CoordinatorMemory.{later, latest, start}
use Rattle.retry_turns.specs.Plans.{moment_of}
use Rattle.session_log.specs.declared.sessions.SessionEntry.{SessionEntry}
use Rattle.session_log.specs.declared.sessions.Snapshot.{Snapshot}
use Rattle.session_log.specs.SnapshotOf.{in_order, entry_now, is_kept_session, snapshot_of}
use Rattle.session_memory.specs.Changes.{is_going, is_finished}
use Rattle.session_memory.specs.Lookups.{has_xid, session_of, status_or_finished}
use Rattle.session_memory.proofs.Small.{false_true, same_nat}
use Rattle.coordinator_rules.specs.declared.moments.Moments.{Moments}
use Rattle.coordinator_rules.specs.Starting.{started_as, started_by, started_on, no_moments, latest_of, start_in}
use Rattle.coordinator_rules.specs.Tracks.{AreInOrder, Tracks}
use Rattle.session_memory.proofs.MayLaws.{none_found}
use Rattle.coordinator_rules.proofs.Laws.{answers_alike}
use Rattle.coordinator_rules.proofs.PlanLaws.{moment_with, in_order_with}

-- ---- moments

-- each of these has the status that its number has
abbrev AreOf : (ℕ → GlobalStatus) → List SessionEntry → Type 0
AreOf st [] = Unit {0}
AreOf st (e ∷ es) = (e.session.status ≡ st e.xid.0) × AreOf st es

abbrev has_any : ℕ → List SessionEntry → Bool
has_any x es = list_any (has_xid x) es

one_more : {A : Type 0} (any b g has : Bool) (n m : A) → (b ≡ true → g ≡ has)
    → (if any && has then n else (if b && g then n else m)) ≡ (if (b || any) && has then n else m)
one_more true true g true n m e = refl
one_more true false g true n m e = refl
one_more true true g false n m e = ap (λ k. if k then n else m) (e refl)
one_more true false g false n m e = refl
one_more false true g has n m e = ap (λ k. if k then n else m) (e refl)
one_more false false g has n m e = refl

-- a decided transaction that goes on isn't finished
going_only : (s : GlobalStatus) → is_going s ≡ true → is_finished s ≡ false
going_only status.Committed e = false_true e
going_only status.Rollbacked e = false_true e
going_only status.TimeoutRollbacked e = false_true e
going_only _ e = refl

module _ (now x : ℕ) where
  turn_one : (y : ℕ) (m : Moments) (g over b : Bool) → (y == x) ≡ b → moment_of (started_as now y g over m).turns x ≡ (if b && g then Some now else moment_of m.turns x)
  turn_one y m true over true is = moment_with m.turns y now x ∙ ap (λ k. cond k (Some now) (moment_of m.turns x)) is
  turn_one y m true over false is = moment_with m.turns y now x ∙ ap (λ k. cond k (Some now) (moment_of m.turns x)) is
  turn_one y m false true true is = refl
  turn_one y m false true false is = refl
  turn_one y m false false true is = refl
  turn_one y m false false false is = refl

  rest_one : (y : ℕ) (m : Moments) (g over b : Bool) → (g ≡ true → over ≡ false) → (y == x) ≡ b → moment_of (started_as now y g over m).rests x ≡ (if b && over then Some now else moment_of m.rests x)
  rest_one y m true true b only is = false_true (sym (only refl))
  rest_one y m true false true only is = refl
  rest_one y m true false false only is = refl
  rest_one y m false true true only is = moment_with m.rests y now x ∙ ap (λ k. cond k (Some now) (moment_of m.rests x)) is
  rest_one y m false true false only is = moment_with m.rests y now x ∙ ap (λ k. cond k (Some now) (moment_of m.rests x)) is
  rest_one y m false false true only is = refl
  rest_one y m false false false only is = refl

  module _ (st : ℕ → GlobalStatus) where
    has_status : (test : GlobalStatus → Bool) (e : SessionEntry) → e.session.status ≡ st e.xid.0 → (e.xid.0 == x) ≡ true → test e.session.status ≡ test (st x)
    has_status test e is here = ap test (is ∙ ap st (same_nat e.xid.0 x here))

    turns_on : (es : List SessionEntry) → AreOf st es → (m : Moments) → moment_of (started_on now es m).turns x ≡ (if has_any x es && is_going (st x) then Some now else moment_of m.turns x)
    turns_on [] of m = refl
    turns_on (e ∷ es) of m =
        turns_on es of.1 (started_by now e m)
        ∙ ap (λ o. if has_any x es && is_going (st x) then Some now else o) (turn_one e.xid.0 m (is_going e.session.status) (is_finished e.session.status) (e.xid.0 == x) refl)
        ∙ one_more (has_any x es) (e.xid.0 == x) (is_going e.session.status) (is_going (st x)) (Some now) (moment_of m.turns x) (has_status is_going e of.0)

    rests_on : (es : List SessionEntry) → AreOf st es → (m : Moments) → moment_of (started_on now es m).rests x ≡ (if has_any x es && is_finished (st x) then Some now else moment_of m.rests x)
    rests_on [] of m = refl
    rests_on (e ∷ es) of m =
        rests_on es of.1 (started_by now e m)
        ∙ ap (λ o. if has_any x es && is_finished (st x) then Some now else o)
        (rest_one e.xid.0 m (is_going e.session.status) (is_finished e.session.status) (e.xid.0 == x) (going_only e.session.status) refl)
        ∙ one_more (has_any x es) (e.xid.0 == x) (is_finished e.session.status) (is_finished (st x)) (Some now) (moment_of m.rests x) (has_status is_finished e of.0)

-- they stand in order
turns_rise : (now : ℕ) (es : List SessionEntry) (m : Moments) → AreInOrder m.turns → AreInOrder (started_on now es m).turns
turns_rise now [] m o = o
turns_rise now (e ∷ es) m o = turns_rise now es (started_by now e m) (by (is_going e.session.status) (is_finished e.session.status))
  where
    by : (g over : Bool) → AreInOrder (started_as now e.xid.0 g over m).turns
    by true over = in_order_with m.turns e.xid.0 now o
    by false true = o
    by false false = o

rests_rise : (now : ℕ) (es : List SessionEntry) (m : Moments) → AreInOrder m.rests → AreInOrder (started_on now es m).rests
rests_rise now [] m o = o
rests_rise now (e ∷ es) m o = rests_rise now es (started_by now e m) (by (is_going e.session.status) (is_finished e.session.status))
  where
    by : (g over : Bool) → AreInOrder (started_as now e.xid.0 g over m).rests
    by true over = o
    by false true = in_order_with m.rests e.xid.0 now o
    by false false = o

-- ---- records

entries_of : (rs : List SessionRecord) (ss : List Began) → AreOf (status_of rs) (map (entry_now rs) ss)
entries_of rs [] = tt
entries_of rs (s ∷ ss) = (refl, entries_of rs ss)

both_is : (any g : Bool) → (any ≡ false → g ≡ false) → (any && g) ≡ g
both_is true g e = refl
both_is false g e = sym (e refl)

none_is : {X : Type 0} (o : Option X) → is_none o ≡ true → o ≡ None
none_is None e = refl
none_is (Some x) e = false_true e

module _ (rs : List SessionRecord) (allowed : Allowed rs) (x : ℕ) where
  abbrev known : Snapshot
  known = snapshot_of rs

  unknown : has_any x known.sessions ≡ false → status_of rs x ≡ status.Finished
  unknown none = sym ((answers_alike rs allowed).transaction x).status
      ∙ ap (λ o. status_or_finished (option_map session_of o)) (none_is (find (has_xid x) known.sessions) (none_found (has_xid x) known.sessions ∙ ap not none))

  going_is : (has_any x known.sessions && is_going (status_of rs x)) ≡ goes rs x
  going_is = both_is (has_any x known.sessions) (is_going (status_of rs x)) (λ none. ap is_going (unknown none))
      ∙ ap is_going (sym ((answers_alike rs allowed).transaction x).status) ∙ ((answers_alike rs allowed).transaction x).going

  over_is : (has_any x known.sessions && is_finished (status_of rs x)) ≡ is_over rs x
  over_is = both_is (has_any x known.sessions) (is_finished (status_of rs x)) (λ none. ap is_finished (unknown none))
      ∙ ap is_finished (sym ((answers_alike rs allowed).transaction x).status) ∙ ((answers_alike rs allowed).transaction x).over

-- what is known of records that start at a moment
pub starts : (rs : List SessionRecord) (memory : Snapshot) (now : ℕ) → Allowed rs → memory ≡ snapshot_of rs → now < 2 ^ 64
    → Tracks memory (started_on now memory.sessions no_moments) rs (λ x. now) (λ x. now)
starts rs memory now allowed known in_time = subst (λ m. Tracks m (started_on now m.sessions no_moments) rs (λ x. now) (λ x. now)) (sym known) (record {
  allowed = allowed;
  known = refl;
  turns_in_order = turns_rise now (snapshot_of rs).sessions no_moments tt;
  rests_in_order = rests_rise now (snapshot_of rs).sessions no_moments tt;
  planned = λ x. turns_on now x (status_of rs) (snapshot_of rs).sessions (entries_of rs _) no_moments
      ∙ ap (λ b. if b then Some now else None) (going_is rs allowed x);
  resting = λ x. rests_on now x (status_of rs) (snapshot_of rs).sessions (entries_of rs _) no_moments ∙ ap (λ b. if b then Some now else None) (over_is rs allowed x);
})

-- ---- the moment at which the clock starts

latest_push : (es : List SessionEntry) (e : SessionEntry) → latest_of (es ++ e ∷ []) ≡ max e.session.begun (latest_of es)
latest_push [] e = refl
latest_push (k ∷ es) e = ap (max k.session.begun) (latest_push es e) ∙ swapped k.session.begun e.session.begun (latest_of es)
  where
    swapped : (a b c : ℕ) → max a (max b c) ≡ max b (max a c)
    swapped a b c = omega arith

map_push : {X Y : Type 0} (f : X → Y) (xs : List X) (x : X) → map f (xs ++ x ∷ []) ≡ map f xs ++ f x ∷ []
map_push f [] x = refl
map_push f (y ∷ xs) x = ap (λ l. f y ∷ l) (map_push f xs x)

module _ (rs : List SessionRecord) where
  abbrev entries : List Began → List SessionEntry
  entries ss = map (entry_now rs) (in_order (filter (is_kept_session rs) ss))

  latest_by : (s : Began) (ss : List Began) (b : Bool) → is_forgotten rs s.xid ≡ b → latest_of (entries ss) ≡ latest rs ss
      → latest_of (map (entry_now rs) (in_order (if not b then s ∷ filter (is_kept_session rs) ss else filter (is_kept_session rs) ss))) ≡ later b s.begun (latest rs ss)
  latest_by s ss true is below = below
  latest_by s ss false is below =
      ap latest_of (map_push (entry_now rs) (in_order (filter (is_kept_session rs) ss)) s)
      ∙ latest_push (entries ss) (entry_now rs s) ∙ ap (max s.begun) below

  latest_is : (ss : List Began) → latest_of (entries ss) ≡ latest rs ss
  latest_is [] = refl
  latest_is (s ∷ ss) = latest_by s ss (is_forgotten rs s.xid) refl (latest_is ss)

  pub start_is : (memory : Snapshot) → memory ≡ snapshot_of rs → start_in memory ≡ start rs
  start_is memory known = ap start_in known ∙ ap (λ n. min n LATEST_START) (latest_is (sessions rs))
