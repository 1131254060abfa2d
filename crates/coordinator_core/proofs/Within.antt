-- A branch that the rules ask is asked with numbers of the scenario whose records stand.
use Rattle.std.proofs.Common.{◌≡◌, ◌==◌, ◌&&◌, ◌≤◌, not, ℕ, Bool, true, false, cond, if◌then◌else◌, List, [], ◌∷◌, length, Option, Some, None, is_some, refl, subst, arith}
use Rattle.std.specs.Prelude.{find, filter, nat_le}
use Rattle.std.specs.List.{list_all}
use Rattle.std.proofs.lemmas.Bool.Decides.{nat_tests}
use Rattle.seata_types.specs.declared.limits.TheConstants.{MANAGERS, CALLS}
use Rattle.seata_types.specs.declared.messages.Input.TheVariants as input
use Rattle.durable_records.specs.declared.coordinators.SessionRecord.{SessionRecord}
use Rattle.durable_records.specs.declared.coordinators.SessionRecord.TheVariants as log
use Rattle.durable_records.specs.Transactions.{Session as Began, sessions, session, has_xid, decided, is_commit, is_forgotten}
use Rattle.durable_records.specs.Branches.{Grant, grants, branches, unended, is_unended}
use Rattle.durable_records.specs.Progress.{is_going as goes, is_known, is_on, progress}
use Rattle.durable_records.specs.SessionOrder.{is_counted, is_within}
use Rattle.history_rules.specs.CoordinatorMemory.{due_moment}
use Rattle.history_rules.specs.CoordinatorRules.{due_answer, first_of, last_of, manager_of, next_asked, turn_answer}
use Rattle.session_memory.specs.Order.{Each}
use Rattle.session_memory.proofs.Small.{false_true, none_some, and_left, and_right, and_both}
use Rattle.session_memory.proofs.Lists.{each_same, each_filtered}
use Rattle.coordinator_rules.specs.Answers.{asks_nodes, late_at, due_at, old_at}
use Rattle.coordinator_rules.specs.Knowledge.{Knowledge, times_in}
use Rattle.coordinator_rules.specs.Tracks.{Course, rule_answer, due_on, records}
use Rattle.coordinator_rules.proofs.Firsts.{soonest_is}
use Rattle.coordinator_core.specs.Answers.{AreWithin}

-- ---- numbers of the scenario

module _ (managers resources : ℕ) where
  abbrev HasManager : Began → Type 0
  HasManager s = is_counted managers s.manager ≡ true

  abbrev HasPlace : Grant → Type 0
  HasPlace g = (is_counted resources g.resource ≡ true) × (is_counted CALLS g.call ≡ true)

  sessions_within : (rs : List SessionRecord) → list_all (is_within managers resources) rs ≡ true → Each HasManager (sessions rs)
  sessions_within [] w = tt
  sessions_within (log.Begun xid manager begun timeout ∷ rs) w = (and_left (is_counted managers manager) _ w, sessions_within rs (and_right (is_counted managers manager) _ w))
  sessions_within (r ∷ rs) w = sessions_within rs (and_right (is_within managers resources r) _ w)

  grants_within : (rs : List SessionRecord) → list_all (is_within managers resources) rs ≡ true → Each HasPlace (grants rs)
  grants_within [] w = tt
  grants_within (log.Granted xid branch resource call ticket kind hold ∷ rs) w =
      let here = and_left (is_within managers resources (log.Granted xid branch resource call ticket kind hold)) _ w in (
        (and_left (is_counted resources resource) _ here, and_left (is_counted CALLS call) _ (and_right (is_counted resources resource) _ here)),
        grants_within rs (and_right (is_within managers resources (log.Granted xid branch resource call ticket kind hold)) _ w),
      )
  grants_within (r ∷ rs) w = grants_within rs (and_right (is_within managers resources r) _ w)

each_some_by : {X : Type 0} (P : X → Type 0) (x y : X) (o : Option X) → P y → (o ≡ Some x → P x) → (b : Bool) → cond b (Some y) o ≡ Some x → P x
each_some_by P x y o here below true f = let same : y ≡ x = cc in subst P same here
each_some_by P x y o here below false f = below f

each_some : {X : Type 0} (P : X → Type 0) (t : X → Bool) (x : X) (xs : List X) → Each P xs → find t xs ≡ Some x → P x
each_some P t x [] e f = none_some f
each_some P t x (y ∷ ys) e f = each_some_by P x y (find t ys) e.0 (each_some P t x ys e.1) (t y) f

each_first : {X : Type 0} (P : X → Type 0) (x : X) (xs : List X) → Each P xs → first_of xs ≡ Some x → P x
each_first P x [] e f = none_some f
each_first P x (y ∷ ys) e f = let same : y ≡ x = cc in subst P same e.0

each_last : {X : Type 0} (P : X → Type 0) (x : X) (xs : List X) → Each P xs → last_of xs ≡ Some x → P x
each_last P x [] e f = none_some f
each_last P x (y ∷ []) e f = let same : y ≡ x = cc in subst P same e.0
each_last P x (y ∷ z ∷ zs) e f = each_last P x (z ∷ zs) e.1 f

first_test : {X : Type 0} (P : X → Type 0) (p : X → Bool) (xs : List X) → Each P xs → Each P (filter p xs)
first_test P p xs e = each_same (λ x. P x × (p x ≡ true)) P (λ x both. both.0) (filter p xs) (each_filtered p P xs e)

counted_in : (count most n : ℕ) → count ≤ most → is_counted count n ≡ true → is_counted most n ≡ true
counted_in count most n few is = grind (arith, nat_tests)

module _ (managers resources : ℕ) (rs : List SessionRecord) (w : AreWithin managers resources rs) (x : ℕ) where
  place_within : (commit : Bool) (k : Grant) → next_asked rs x commit ≡ Some k → HasPlace managers resources k
  place_within commit k e = by commit e
    where
      unended_within : Each (HasPlace managers resources) (unended rs x)
      unended_within = first_test (HasPlace managers resources) (is_unended rs) (branches rs x)
          (first_test (HasPlace managers resources) (λ k. k.xid == x) (grants rs) (grants_within managers resources rs w.within))

      by : (c : Bool) → next_asked rs x c ≡ Some k → HasPlace managers resources k
      by true e = each_last (HasPlace managers resources) k (unended rs x) unended_within e
      by false e = each_first (HasPlace managers resources) k (unended rs x) unended_within e

  manager_within : (o : Option Began) → session rs x ≡ o → is_some o ≡ true → is_counted managers (manager_of o) ≡ true
  manager_within None there e = false_true e
  manager_within (Some s) there e = each_some (HasManager managers resources) (has_xid x) s (sessions rs) (sessions_within managers resources rs w.within) there

  asks_one : (k : Grant) (c : Bool) → next_asked rs x c ≡ Some k → is_some (session rs x) ≡ true
      → ((is_counted managers (manager_of (session rs x)) && is_counted resources k.resource) && (is_counted MANAGERS (manager_of (session rs x)) && is_counted CALLS k.call)) ≡ true
  asks_one k c e some =
      let place = place_within c k e in
      let manager = manager_within (session rs x) refl some in
      and_both (is_counted managers (manager_of (session rs x)) && is_counted resources k.resource) _ (and_both (is_counted managers (manager_of (session rs x))) _ manager place.0)
      (and_both (is_counted MANAGERS (manager_of (session rs x))) _ (counted_in managers MANAGERS (manager_of (session rs x)) w.few manager) place.1)

  asks_due : (o : Option Grant) (c : Bool) → is_commit (decided rs x) ≡ c → next_asked rs x (is_commit (decided rs x)) ≡ o → is_some (session rs x) ≡ true → asks_nodes managers resources (due_answer rs x o).sent ≡ true
  asks_due None c is e some = refl
  asks_due (Some k) true is e some = rw is (asks_one k (is_commit (decided rs x)) e some)
  asks_due (Some k) false is e some = rw is (asks_one k (is_commit (decided rs x)) e some)

going_some : (g b : Bool) (d m : ℕ) → (if g && b then Some d else None) ≡ Some m → g ≡ true
going_some true b d m e = refl
going_some false b d m e = none_some e

module _ (managers resources : ℕ) (k : Knowledge) (now : ℕ) (owns : Course) (w : AreWithin managers resources (records owns)) where
  turn_asks : (late : Option ℕ) (due : Option (ℕ × ℕ)) (old : Option ℕ) → due_at (times_in k) now owns ≡ due → asks_nodes managers resources (turn_answer (records owns) late due old).sent ≡ true
  turn_asks (Some x) due old e = refl
  turn_asks None None None e = refl
  turn_asks None None (Some x) e = refl
  turn_asks None (Some (x, moment)) old e =
      let rs = records owns in
      let going : goes rs x ≡ true = going_some (goes rs x) (nat_le (due_on k.retry owns x) now) (due_on k.retry owns x) moment
      (soonest_is (due_moment (times_in k) owns.past owns.owns rs now) (length (sessions rs)) (x, moment) e) in
      asks_due managers resources rs w x (next_asked rs x (is_commit (decided rs x))) (is_commit (decided rs x)) refl refl
      (and_left (is_some (session rs x)) (not (is_forgotten rs x)) (and_left (is_known rs x) (is_some (decided rs x) && is_on (progress rs x)) going))

  pub asks_within : asks_nodes managers resources (rule_answer (times_in k) owns now input.Turn).sent ≡ true
  asks_within = turn_asks (late_at (times_in k) now owns) (due_at (times_in k) now owns) (old_at (times_in k) now owns) refl
