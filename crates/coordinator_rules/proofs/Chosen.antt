-- The transaction that a turn takes, and the branch that is asked, by the memory and by the rules.
use Rattle.std.proofs.Common.{◌≡◌, ◌==◌, ◌&&◌, ◌<◌, ◌≤◌, ◌+◌, ◌-◌, not, ℕ, Bool, true, false, cond, if◌then◌else◌, List, [], ◌∷◌, ◌++◌, length, map, Option, Some, None, option_map, is_some, is_none, refl, sym, ap, ◌∙◌, arith}
use Rattle.std.specs.Prelude.{find, filter, nat_lt, nat_le}
use Rattle.std.proofs.lemmas.Bool.Decides.{nat_tests}
use Rattle.seata_types.specs.declared.acts.Act.TheVariants as act
use Rattle.seata_types.specs.declared.ids.Place.TheVariants as place
use Rattle.seata_types.specs.declared.ids.Xid.{Xid}
use Rattle.seata_types.specs.declared.messages.Message.TheVariants as message
use Rattle.durable_records.specs.declared.coordinators.SessionRecord.{SessionRecord}
use Rattle.durable_records.specs.Transactions.{Session as Began, sessions, session, has_xid, decided, is_forgotten, is_commit}
use Rattle.durable_records.specs.Branches.{Grant, branches, unended, is_unended}
use Rattle.durable_records.specs.Progress.{is_known, status_of, is_on, may_decide, is_going as goes, is_finished as is_over, progress, is_done}
use Rattle.durable_records.specs.SessionOrder.{Allowed, is_empty}
use Rattle.history_rules.specs.Own.{sends}
use Rattle.history_rules.specs.CoordinatorMemory.{is_past, is_late, least, soonest}
use Rattle.history_rules.specs.CoordinatorRules.{first_of, last_of, next_asked, asks, manager_of, xid_of as number, branch_of, due_answer}
use Rattle.retry_turns.specs.Plans.{Plans, moment_of, IsFirstDue, IsNoneDue}
use Rattle.session_log.specs.declared.sessions.Branch.{Branch}
use Rattle.session_log.specs.declared.sessions.SessionEntry.{SessionEntry}
use Rattle.session_log.specs.SnapshotOf.{in_order, branch_now, session_now, entry_now, is_kept_session, snapshot_of}
use Rattle.session_log.specs.Soundness.{is_open_branch}
use Rattle.session_memory.specs.Changes.{is_begin, is_finished}
use Rattle.session_memory.specs.Holding.{keeps_rows}
use Rattle.session_memory.specs.Lookups.{if_open, last_open, next_open, or_else, session_in, xid_of}
use Rattle.session_memory.specs.Order.{Each}
use Rattle.session_memory.proofs.Small.{false_true, none_some, and_left, and_right, same_nat, nat_same, nat_differs}
use Rattle.session_memory.proofs.Lists.{AreCounted, each_same, each_pair, up_to, find_mapped, find_both, map_both, and_false}
use Rattle.durable_records.proofs.RecordFacts.{numbered, began_xid}
use Rattle.session_memory.proofs.StepLaws.{began_found}
use Rattle.coordinator_rules.specs.declared.questions.Question.{Question}
use Rattle.coordinator_rules.specs.Choices.{is_late_entry, is_old_entry, is_by, question_to, question_of, question_in}
use Rattle.coordinator_rules.specs.Steps.{asked_step}
use Rattle.coordinator_rules.proofs.Firsts.{least_found, soonest_none, soonest_found}
use Rattle.coordinator_rules.proofs.Laws.{AnswersAlike}

-- ---- each transaction is found under its number

each_found : (ss : List Began) → AreCounted began_xid ss → Each (λ s. find (has_xid s.xid) ss ≡ Some s) ss
each_found [] c = tt
each_found (s ∷ ss) c = (
  ap (λ b. cond b (Some s) (find (has_xid s.xid) ss)) (nat_same s.xid s.xid refl),
  each_same (λ t. (find (has_xid t.xid) ss ≡ Some t) × (t.xid ≤ length ss)) (λ t. find (has_xid t.xid) (s ∷ ss) ≡ Some t)
      (λ t both. ap (λ b. cond b (Some s) (find (has_xid t.xid) ss)) (nat_differs s.xid t.xid (λ e. let le = both.1 in let is = c.0 in omega (arith, e, le, is))) ∙ both.0)
      ss (each_pair (λ t. find (has_xid t.xid) ss ≡ Some t) (λ t. t.xid ≤ length ss) ss (each_found ss c.1) (up_to began_xid ss c.1)),
)

in_range_by : (x : ℕ) (s : Began) (ss : List Began) → s.xid ≡ length ss + 1 → (is_some (find (has_xid x) ss) ≡ true → (1 ≤ x) × (x ≤ length ss))
    → (b : Bool) → (s.xid == x) ≡ b → is_some (cond b (Some s) (find (has_xid x) ss)) ≡ true → (1 ≤ x) × (x ≤ length (s ∷ ss))
in_range_by x s ss number below true is e = let same = same_nat s.xid x is in (omega (arith, same, number), omega (arith, same, number))
in_range_by x s ss number below false is e = let under = below e in (under.0, (let le = under.1 in omega (arith, le)))

pub in_range : (x : ℕ) (ss : List Began) → AreCounted began_xid ss → is_some (find (has_xid x) ss) ≡ true → (1 ≤ x) × (x ≤ length ss)
in_range x [] c e = false_true e
in_range x (s ∷ ss) c e = in_range_by x s ss c.0 (in_range x ss c.1) (s.xid == x) refl e

session_there : (o : Option Began) → is_some o ≡ true → (s : Began) × (o ≡ Some s)
session_there None e = false_true e
session_there (Some s) e = (s, refl)

absorbs : (k m l : Bool) → (m ≡ true → k ≡ true) → (k && (m && l)) ≡ (m && l)
absorbs k true l e = ap (λ b. b && l) (e refl)
absorbs k false l e = and_false k false refl

same_number : (rs : List SessionRecord) (o : Option Began) → option_map (λ (x : Xid). x.0) (option_map xid_of (option_map (entry_now rs) o)) ≡ option_map began_xid o
same_number rs None = refl
same_number rs (Some s) = refl

module _ (rs : List SessionRecord) (a : Allowed rs) (l : AnswersAlike rs) where
  -- the number of the first entry that passes
  abbrev pub first_entry : (SessionEntry → Bool) → Option ℕ
  first_entry test = option_map (λ (x : Xid). x.0) (option_map xid_of (find test (snapshot_of rs).sessions))

  abbrev at_entry : (SessionEntry → Bool) → Began → Bool
  at_entry test s = test (entry_now rs s)

  least_entry : (entry_test : SessionEntry → Bool) (test : ℕ → Bool)
      → Each (λ s. (is_kept_session rs s && at_entry entry_test s) ≡ test s.xid) (sessions rs) → first_entry entry_test ≡ least test (length (sessions rs))
  least_entry entry_test test agree =
      ap (λ o. option_map (λ (x : Xid). x.0) (option_map xid_of o)) (find_mapped (entry_now rs) entry_test (in_order (filter (is_kept_session rs) (sessions rs))))
      ∙ same_number rs (find (at_entry entry_test) (in_order (filter (is_kept_session rs) (sessions rs))))
      ∙ least_found began_xid (is_kept_session rs) (at_entry entry_test) test (sessions rs) (numbered rs a).began agree

  begins : (x : ℕ) → is_begin (status_of rs x) ≡ may_decide rs x
  begins x = ap is_begin (sym (l.transaction x).status) ∙ (l.transaction x).undecided

  ends : (x : ℕ) → is_finished (status_of rs x) ≡ is_over rs x
  ends x = ap is_finished (sym (l.transaction x).status) ∙ (l.transaction x).over

  not_forgotten : (x : ℕ) → is_known rs x ≡ true → not (is_forgotten rs x) ≡ true
  not_forgotten x e = and_right (is_some (session rs x)) (not (is_forgotten rs x)) e

  late_here : (now : ℕ) (s : Began) → session rs s.xid ≡ Some s → (is_kept_session rs s && is_late_entry now (entry_now rs s)) ≡ is_late rs now s.xid
  late_here now s e =
      ap (λ b. is_kept_session rs s && (b && nat_lt (s.begun + s.timeout) now)) (begins s.xid)
      ∙ absorbs (is_kept_session rs s) (may_decide rs s.xid) (nat_lt (s.begun + s.timeout) now) (λ m. not_forgotten s.xid (and_left (is_known rs s.xid) (is_none (decided rs s.xid)) m))
      ∙ ap (λ o. may_decide rs s.xid && is_past o now) (sym e)

  -- the first late entry is the least late transaction
  pub late_alike : (now : ℕ) → first_entry (is_late_entry now) ≡ least (is_late rs now) (length (sessions rs))
  late_alike now =
      least_entry (is_late_entry now) (is_late rs now)
      (each_same (λ s. session rs s.xid ≡ Some s) (λ s. (is_kept_session rs s && is_late_entry now (entry_now rs s)) ≡ is_late rs now s.xid) (late_here now) (sessions rs)
      (each_found (sessions rs) (numbered rs a).began))

  -- the first old entry is the least old transaction
  module _ (rests : Plans) (rested : ℕ → ℕ) (forget now : ℕ) (resting : (x : ℕ) → moment_of rests x ≡ (if is_over rs x then Some (rested x) else None)) where
    abbrev pub old_test : ℕ → Bool
    old_test x = nat_lt 0 forget && (is_over rs x && nat_le (rested x + forget) now)

    old_by : (k over some : Bool) (since : ℕ) → (over ≡ true → k ≡ true) → (k && (over && (some && is_by forget now (if over then Some since else None)))) ≡ (some && (over && nat_le (since + forget) now))
    old_by k true some since e = ap (λ b. b && (some && nat_le (since + forget) now)) (e refl)
    old_by k false some since e = and_false k false refl ∙ sym (and_false some false refl)

    old_here : (s : Began) → (is_kept_session rs s && is_old_entry rests forget now (entry_now rs s)) ≡ old_test s.xid
    old_here s =
        ap (λ b. is_kept_session rs s && (b && (nat_lt 0 forget && is_by forget now (moment_of rests s.xid)))) (ends s.xid)
        ∙ ap (λ o. is_kept_session rs s && (is_over rs s.xid && (nat_lt 0 forget && is_by forget now o))) (resting s.xid)
        ∙ old_by (is_kept_session rs s) (is_over rs s.xid) (nat_lt 0 forget) (rested s.xid)
        (λ m. not_forgotten s.xid (and_left (is_known rs s.xid) (is_some (decided rs s.xid) && is_done (progress rs s.xid)) m))

    pub old_alike : first_entry (is_old_entry rests forget now) ≡ least old_test (length (sessions rs))
    old_alike =
        least_entry (is_old_entry rests forget now) old_test
        (each_same (λ s. session rs s.xid ≡ Some s) (λ s. (is_kept_session rs s && is_old_entry rests forget now (entry_now rs s)) ≡ old_test s.xid) (λ s e. old_here s) (sessions rs)
        (each_found (sessions rs) (numbered rs a).began))

  -- ---- what is due

  module _ (turns : Plans) (due_at : ℕ → ℕ) (now : ℕ) (planned : (x : ℕ) → moment_of turns x ≡ (if goes rs x then Some (due_at x) else None)) where
    abbrev pub moment : ℕ → Option ℕ
    moment x = if goes rs x && nat_le (due_at x) now then Some (due_at x) else None

    come_by : (g : Bool) (d k : ℕ) → (if g then Some d else None) ≡ Some k → (g ≡ true) × (d ≡ k)
    come_by true d k e = let same : d ≡ k = cc in (refl, same)
    come_by false d k e = none_some e

    moment_by : (g : Bool) (d k : ℕ) → g ≡ true → d ≡ k → k ≤ now → (if g && nat_le d now then Some d else None) ≡ Some k
    moment_by true d k e same le = let come : nat_le d now ≡ true = grind (arith, nat_tests, same, le) in rw come (ap (λ m. Some m) same)
    moment_by false d k e same le = false_true e

    back_by : (g b : Bool) (d k : ℕ) → (if g && b then Some d else None) ≡ Some k → (if g then Some d else None) ≡ Some k
    back_by true true d k e = e
    back_by true false d k e = none_some e
    back_by false b d k e = none_some e

    planned_due : (y k : ℕ) → moment y ≡ Some k → moment_of turns y ≡ Some k
    planned_due y k e = planned y ∙ back_by (goes rs y) (nat_le (due_at y) now) (due_at y) k e

    -- the one that is told is in its second phase, and goes first
    pub due_going : (x : ℕ) → IsFirstDue turns now x → goes rs x ≡ true
    due_going x f = (come_by (goes rs x) (due_at x) f.moment (sym (planned x) ∙ f.planned)).0

    pub due_first : (x : ℕ) (f : IsFirstDue turns now x) → soonest moment (length (sessions rs)) ≡ Some (x, f.moment)
    due_first x f =
        let here = come_by (goes rs x) (due_at x) f.moment (sym (planned x) ∙ f.planned) in
        let bounds = in_range x (sessions rs) (numbered rs a).began (and_left (is_some (session rs x)) (not (is_forgotten rs x)) (and_left (is_known rs x) (is_some (decided rs x) && is_on (progress rs x)) here.0)) in
        soonest_found moment x f.moment (moment_by (goes rs x) (due_at x) f.moment here.0 here.1 f.come)
        (λ y k e. f.least y k (planned_due y k e)) (length (sessions rs)) bounds.0 bounds.1

    never_by : (o : Option ℕ) (y : ℕ) → moment y ≡ o → IsNoneDue turns now → o ≡ None
    never_by None y e none = refl
    never_by (Some k) y e none = let late = none y k (planned_due y k e) in by_now (goes rs y) (nat_le (due_at y) now) (due_at y) k refl e late
      where
        by_now : (g b : Bool) (d k : ℕ) → nat_le d now ≡ b → (if g && b then Some d else None) ≡ Some k → now < k → Some k ≡ None
        by_now true true d k is e late = let same : d ≡ k = cc in absurd (grind (arith, nat_tests, is, same, late))
        by_now true false d k is e late = none_some e
        by_now false b d k is e late = none_some e

    pub due_none : IsNoneDue turns now → soonest moment (length (sessions rs)) ≡ None
    due_none none = soonest_none moment (λ y. never_by (moment y) y refl none) (length (sessions rs))

-- ---- the branch that is asked

or_assoc : {X : Type 0} (o p q : Option X) → or_else (or_else o p) q ≡ or_else o (or_else p q)
or_assoc None p q = refl
or_assoc (Some x) p q = refl

or_none : {X : Type 0} (o : Option X) → o ≡ or_else o None
or_none None = refl
or_none (Some x) = refl

last_behind : (bs : List Branch) (b : Branch) → last_open (bs ++ b ∷ []) ≡ or_else (if_open b) (last_open bs)
last_behind [] b = or_none (if_open b)
last_behind (c ∷ bs) b = ap (λ o. or_else o (if_open c)) (last_behind bs b) ∙ or_assoc (if_open b) (last_open bs) (if_open c)

last_is : {X : Type 0} (x : X) (xs : List X) (o : Option X) → or_else (last_of (x ∷ xs)) o ≡ last_of (x ∷ xs)
last_is x [] o = refl
last_is x (y ∷ ys) o = last_is y ys o

last_cons : {X : Type 0} (x : X) (xs : List X) → or_else (last_of xs) (Some x) ≡ last_of (x ∷ xs)
last_cons x [] = refl
last_cons x (y ∷ ys) = last_is y ys (Some x)

first_by : {X : Type 0} (p : X → Bool) (b : Bool) (x : X) (xs : List X) → p x ≡ b → find p (in_order xs) ≡ last_of (filter p xs)
    → or_else (find p (in_order xs)) (find p (x ∷ [])) ≡ last_of (cond b (x ∷ filter p xs) (filter p xs))
first_by p true x xs e below = ap (λ c. or_else (find p (in_order xs)) (cond c (Some x) None)) e ∙ ap (λ o. or_else o (Some x)) below ∙ last_cons x (filter p xs)
first_by p false x xs e below = ap (λ c. or_else (find p (in_order xs)) (cond c (Some x) None)) e ∙ sym (or_none (find p (in_order xs))) ∙ below

first_in_order : {X : Type 0} (p : X → Bool) (xs : List X) → find p (in_order xs) ≡ last_of (filter p xs)
first_in_order p [] = refl
first_in_order p (x ∷ xs) = find_both p (in_order xs) (x ∷ []) ∙ first_by p (p x) x xs refl (first_in_order p xs)

module _ (rs : List SessionRecord) where
  last_by : (b : Bool) (g : Grant) (gs : List Grant) → is_unended rs g ≡ b → last_open (map (branch_now rs) (in_order gs)) ≡ option_map (branch_now rs) (first_of (filter (is_unended rs) gs))
      → or_else (if_open (branch_now rs g)) (last_open (map (branch_now rs) (in_order gs))) ≡ option_map (branch_now rs) (first_of (cond b (g ∷ filter (is_unended rs) gs) (filter (is_unended rs) gs)))
  last_by true g gs e below = ap (λ c. or_else (if c then Some (branch_now rs g) else None) (last_open (map (branch_now rs) (in_order gs)))) e
  last_by false g gs e below = ap (λ c. or_else (if c then Some (branch_now rs g) else None) (last_open (map (branch_now rs) (in_order gs)))) e ∙ below

  last_in_order : (gs : List Grant) → last_open (map (branch_now rs) (in_order gs)) ≡ option_map (branch_now rs) (first_of (filter (is_unended rs) gs))
  last_in_order [] = refl
  last_in_order (g ∷ gs) =
      ap last_open (map_both (branch_now rs) (in_order gs) (g ∷ [])) ∙ last_behind (map (branch_now rs) (in_order gs)) (branch_now rs g)
      ∙ last_by (is_unended rs g) g gs refl (last_in_order gs)

  -- the open branch that is asked next is the one by the rules
  next_alike : (commit : Bool) (x : ℕ) → next_open commit (map (branch_now rs) (in_order (branches rs x))) ≡ option_map (branch_now rs) (next_asked rs x commit)
  next_alike true x =
      find_mapped (branch_now rs) is_open_branch (in_order (branches rs x)) ∙ ap (option_map (branch_now rs)) (first_in_order (is_unended rs) (branches rs x))
  next_alike false x = last_in_order (branches rs x)

-- ---- what it is asked

none_last : {X : Type 0} (xs : List X) → last_of xs ≡ None → xs ≡ []
none_last [] e = refl
none_last (x ∷ []) e = none_some (sym e)
none_last (x ∷ y ∷ ys) e = absurd (by (none_last (y ∷ ys) e))
  where
    by : y ∷ ys ≡ [] → ⊥
    by e = cc

none_first : {X : Type 0} (xs : List X) → first_of xs ≡ None → xs ≡ []
none_first [] e = refl
none_first (x ∷ xs) e = none_some (sym e)

empty_none : {A : Type 0} (xs : List A) → is_empty xs ≡ true → xs ≡ []
empty_none [] e = refl
empty_none (x ∷ xs) e = false_true e

module _ (rs : List SessionRecord) (l : AnswersAlike rs) (x : ℕ) (g : goes rs x ≡ true) where
  here : is_known rs x ≡ true
  here = and_left (is_known rs x) (is_some (decided rs x) && is_on (progress rs x)) g

  there : (s : Began) × (session rs x ≡ Some s)
  there = session_there (session rs x) (and_left (is_some (session rs x)) (not (is_forgotten rs x)) here)

  numbered_as : there.0.xid ≡ x
  numbered_as = began_found x (sessions rs) there.0 there.1

  known_session : session_in (snapshot_of rs) x ≡ Some (session_now rs there.0)
  known_session = (l.transaction x).session ∙ ap (λ b. if b then option_map (session_now rs) (session rs x) else None) here ∙ ap (option_map (session_now rs)) there.1

  abbrev pub decided_commit : Bool
  decided_commit = is_commit (decided rs x)

  commits : not (keeps_rows (session_now rs there.0).status) ≡ decided_commit
  commits = ap (λ n. not (keeps_rows (status_of rs n))) numbered_as ∙ ap (λ st. not (keeps_rows st)) (sym (l.transaction x).status) ∙ (l.branches x here).commit

  next_here : next_open (not (keeps_rows (session_now rs there.0).status)) (session_now rs there.0).branches ≡ option_map (branch_now rs) (next_asked rs x decided_commit)
  next_here =
      ap (λ b. next_open b (session_now rs there.0).branches) commits ∙ ap (λ n. next_open decided_commit (map (branch_now rs) (in_order (branches rs n)))) numbered_as ∙ next_alike rs decided_commit x

  abbrev question_by : Bool → Grant → Question
  question_by commit k = record { commit = commit; branch = record { 0 = k.branch }; kind = k.kind; manager = there.0.manager; call = k.call; resource = k.resource }

  asked_by : (o : Option Grant) → next_asked rs x decided_commit ≡ o → question_of (session_now rs there.0) ≡ option_map (question_by decided_commit) o
  asked_by None e =
      ap (option_map (question_to (session_now rs there.0))) (next_here ∙ ap (option_map (branch_now rs)) e)
  asked_by (Some k) e =
      ap (option_map (question_to (session_now rs there.0))) (next_here ∙ ap (option_map (branch_now rs)) e)
      ∙ ap (λ c. Some (question_by c k)) commits

  -- the question is the one by the rules
  question_alike : question_in (session_in (snapshot_of rs) x) ≡ option_map (question_by decided_commit) (next_asked rs x decided_commit)
  question_alike = ap question_in known_session ∙ asked_by (next_asked rs x decided_commit) refl

  asks_same : (commit : Bool) (k : Grant) → asked_step (number x) (question_by commit k) ≡ sends (act.Asked (number x) (branch_of k.branch)) (place.Res k.resource) (asks rs x k commit)
  asks_same true k =
      ap (λ o. sends (act.Asked (number x) (branch_of k.branch)) (place.Res k.resource) (message.BranchCommit (number x) (branch_of k.branch) k.kind (manager_of o) k.call)) (sym there.1)
  asks_same false k =
      ap (λ o. sends (act.Asked (number x) (branch_of k.branch)) (place.Res k.resource) (message.BranchRollback (number x) (branch_of k.branch) k.kind (manager_of o) k.call)) (sym there.1)

  -- and so is the step that asks it
  asked_alike : (k : Grant) → asked_step (number x) (question_by decided_commit k) ≡ due_answer rs x (Some k)
  asked_alike k = asks_same decided_commit k

  -- none is asked exactly where no branch is left
  none_left : next_asked rs x decided_commit ≡ None → is_empty (unended rs x) ≡ true
  none_left e = by decided_commit e
    where
      by : (c : Bool) → next_asked rs x c ≡ None → is_empty (unended rs x) ≡ true
      by true e = ap is_empty (none_last (unended rs x) e)
      by false e = ap is_empty (none_first (unended rs x) e)

  none_mapped : {A B : Type 0} (f : A → B) (o : Option A) → option_map f o ≡ None → o ≡ None
  none_mapped f None e = refl
  none_mapped f (Some k) e = none_some (sym e)

  pub question_none : question_in (session_in (snapshot_of rs) x) ≡ None → is_empty (unended rs x) ≡ true
  question_none e = none_left (none_mapped (question_by decided_commit) (next_asked rs x decided_commit) (sym question_alike ∙ e))

  abbrev pub IsAsked : Question → Type 0
  IsAsked q = (k : Grant) × ((next_asked rs x decided_commit ≡ Some k) × (asked_step (number x) q ≡ due_answer rs x (Some k)))

  some_by : (q : Question) (o : Option Grant) → next_asked rs x decided_commit ≡ o → option_map (question_by decided_commit) o ≡ Some q → IsAsked q
  some_by q None e f = none_some f
  some_by q (Some k) e f = let same : question_by decided_commit k ≡ q = cc in (k, (e, ap (asked_step (number x)) (sym same) ∙ asked_alike k))

  pub question_some : (q : Question) → question_in (session_in (snapshot_of rs) x) ≡ Some q → IsAsked q
  question_some q e = some_by q (next_asked rs x decided_commit) refl (sym question_alike ∙ e)

  pub left_none : is_empty (unended rs x) ≡ true → next_asked rs x decided_commit ≡ None
  left_none e = by decided_commit
    where
      gone : unended rs x ≡ []
      gone = empty_none (unended rs x) e

      by : (c : Bool) → next_asked rs x c ≡ None
      by true = ap last_of gone
      by false = ap first_of gone
