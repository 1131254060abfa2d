-- A snapshot of records answers as the records do.
use Rattle.std.proofs.Common.{◌≡◌, ◌==◌, ◌&&◌, ◌||◌, ◌+◌, not, ℕ, Bool, true, false, cond, if◌then◌else◌, List, [], ◌∷◌, ◌++◌, map, Option, Some, None, is_some, is_none, refl, sym, ap, ◌∙◌}
use Rattle.std.specs.Prelude.{find, filter, option_map}
use Rattle.std.specs.List.{list_all, list_any}
use Rattle.seata_types.specs.declared.statuses.Decision.{Decision}
use Rattle.seata_types.specs.declared.statuses.Decision.TheVariants as how
use Rattle.seata_types.specs.declared.statuses.GlobalStatus.{GlobalStatus}
use Rattle.seata_types.specs.declared.statuses.GlobalStatus.TheVariants as status
use Rattle.durable_records.specs.declared.coordinators.SessionRecord.{SessionRecord}
use Rattle.durable_records.specs.declared.coordinators.SessionRecord.TheVariants as log
use Rattle.durable_records.specs.Transactions.{Session as Began, sessions, session, has_manager as began_by, decided, is_forgotten, session_for}
use Rattle.durable_records.specs.Branches.{branches, all_at, is_ended, is_unended, unended, unended_branch}
use Rattle.durable_records.specs.Progress.{Progress, Goes, Retries, IsFailed, IsDone, progress, status_by, is_known, status_of, is_on, is_done, is_going as goes, has_retrying}
use Rattle.durable_records.specs.SessionOrder.{Allowed, may, is_empty}
use Rattle.session_log.specs.SnapshotOf.{in_order, branch_now, session_now, entry_now, is_forgotten_session, is_kept_session, forgotten_now, snapshot_of}
use Rattle.session_log.specs.Soundness.{is_ended_branch, is_open_with}
use Rattle.session_memory.specs.Lookups.{status_or_finished, status_in, branches_or_none, branches_in, or_else, xid_of, forgotten_xid, has_manager, was_of_manager, xid_for}
use Rattle.session_memory.specs.Changes.{is_begin, is_going, is_finished, may_come}
use Rattle.session_memory.proofs.Small.{false_true, and_left}
use Rattle.session_memory.proofs.Lists.{keep, map_both, and_swap, all_behind}
use Rattle.durable_records.proofs.RecordFacts.{Numbered, numbered}
use Rattle.session_memory.proofs.StepLaws.{session_found, began_found}

abbrev pub state : (known at : Bool) → Option Decision → Progress → GlobalStatus
state known at d far = if known then status_by at d far else status.Finished

-- ---- statuses

module _ (rs : List SessionRecord) (n : Numbered rs) (x : ℕ) where
  status_kept : (s : Began) (b : Bool) → session rs x ≡ Some s → is_forgotten rs x ≡ b → is_kept_session rs s ≡ not b →
      status_or_finished (option_map (session_now rs) (cond (is_kept_session rs s) (Some s) None)) ≡ status_of rs x
  status_kept s true e f k = ap (λ c. status_or_finished (option_map (session_now rs) (cond c (Some s) None))) k ∙ sym (rw (e, f) refl)
  status_kept s false e f k = ap (λ c. status_or_finished (option_map (session_now rs) (cond c (Some s) None))) k ∙ ap (status_of rs) (began_found x (sessions rs) s e)

  status_by_session : (o : Option Began) → session rs x ≡ o → status_or_finished (option_map (session_now rs) (keep (is_kept_session rs) o)) ≡ status_of rs x
  status_by_session None e = sym (rw e refl)
  status_by_session (Some s) e = status_kept s (is_forgotten rs x) e refl (ap (λ m. not (is_forgotten rs m)) (began_found x (sessions rs) s e))

  -- the status of a transaction is that by the records
  pub status_found : status_in (snapshot_of rs) x ≡ status_of rs x
  status_found = ap status_or_finished (session_found rs n x) ∙ status_by_session (session rs x) refl

pub begin_state : (known at : Bool) (d : Option Decision) (far : Progress) → is_begin (state known at d far) ≡ (known && is_none d)
begin_state false at d far = refl
begin_state true at None far = refl
begin_state true true (Some how.Commit) Goes = refl
begin_state true true (Some how.Commit) Retries = refl
begin_state true false (Some how.Commit) Goes = refl
begin_state true false (Some how.Commit) Retries = refl
begin_state true at (Some how.Commit) IsFailed = refl
begin_state true at (Some how.Commit) IsDone = refl
begin_state true at (Some how.Rollback) Goes = refl
begin_state true at (Some how.Rollback) Retries = refl
begin_state true at (Some how.Rollback) IsFailed = refl
begin_state true at (Some how.Rollback) IsDone = refl
begin_state true at (Some how.Timeout) Goes = refl
begin_state true at (Some how.Timeout) Retries = refl
begin_state true at (Some how.Timeout) IsFailed = refl
begin_state true at (Some how.Timeout) IsDone = refl

pub going_state : (known at : Bool) (d : Option Decision) (far : Progress) → is_going (state known at d far) ≡ (known && (is_some d && is_on far))
going_state false at d far = refl
going_state true at None far = refl
going_state true true (Some how.Commit) Goes = refl
going_state true true (Some how.Commit) Retries = refl
going_state true false (Some how.Commit) Goes = refl
going_state true false (Some how.Commit) Retries = refl
going_state true at (Some how.Commit) IsFailed = refl
going_state true at (Some how.Commit) IsDone = refl
going_state true at (Some how.Rollback) Goes = refl
going_state true at (Some how.Rollback) Retries = refl
going_state true at (Some how.Rollback) IsFailed = refl
going_state true at (Some how.Rollback) IsDone = refl
going_state true at (Some how.Timeout) Goes = refl
going_state true at (Some how.Timeout) Retries = refl
going_state true at (Some how.Timeout) IsFailed = refl
going_state true at (Some how.Timeout) IsDone = refl

pub finished_state : (known at : Bool) (d : Option Decision) (far : Progress) → is_finished (state known at d far) ≡ (known && (is_some d && is_done far))
finished_state false at d far = refl
finished_state true at None far = refl
finished_state true true (Some how.Commit) Goes = refl
finished_state true true (Some how.Commit) Retries = refl
finished_state true false (Some how.Commit) Goes = refl
finished_state true false (Some how.Commit) Retries = refl
finished_state true at (Some how.Commit) IsFailed = refl
finished_state true at (Some how.Commit) IsDone = refl
finished_state true at (Some how.Rollback) Goes = refl
finished_state true at (Some how.Rollback) Retries = refl
finished_state true at (Some how.Rollback) IsFailed = refl
finished_state true at (Some how.Rollback) IsDone = refl
finished_state true at (Some how.Timeout) Goes = refl
finished_state true at (Some how.Timeout) Retries = refl
finished_state true at (Some how.Timeout) IsFailed = refl
finished_state true at (Some how.Timeout) IsDone = refl

-- ---- tests of all branches

pub or_swap : (a b : Bool) → (a || b) ≡ (b || a)
or_swap true true = refl
or_swap true false = refl
or_swap false true = refl
or_swap false false = refl

pub or_assoc : (a b c : Bool) → (a || (b || c)) ≡ ((a || b) || c)
or_assoc true b c = refl
or_assoc false b c = refl

or_false : (a : Bool) → (a || false) ≡ a
or_false true = refl
or_false false = refl

any_behind : {X : Type 0} (p : X → Bool) (xs : List X) (y : X) → list_any p (xs ++ y ∷ []) ≡ (p y || list_any p xs)
any_behind p [] y = refl
any_behind p (x ∷ xs) y =
    ap (λ b. p x || b) (any_behind p xs y) ∙ or_assoc (p x) (p y) (list_any p xs) ∙ ap (λ b. b || list_any p xs) (or_swap (p x) (p y)) ∙ sym (or_assoc (p y) (p x) (list_any p xs))

pub any_now : {X Y : Type 0} (p : Y → Bool) (f : X → Y) (xs : List X) → list_any p (map f (in_order xs)) ≡ list_any (λ x. p (f x)) xs
any_now p f [] = refl
any_now p f (x ∷ xs) = ap (list_any p) (map_both f (in_order xs) (x ∷ [])) ∙ any_behind p (map f (in_order xs)) (f x) ∙ ap (λ b. p (f x) || b) (any_now p f xs)

all_now : {X Y : Type 0} (p : Y → Bool) (f : X → Y) (xs : List X) → list_all p (map f (in_order xs)) ≡ list_all (λ x. p (f x)) xs
all_now p f [] = refl
all_now p f (x ∷ xs) = ap (list_all p) (map_both f (in_order xs) (x ∷ [])) ∙ all_behind p (map f (in_order xs)) (f x) ∙ ap (λ b. p (f x) && b) (all_now p f xs)

some_by : {X : Type 0} (k t : X → Bool) (x : X) (xs : List X) (b c : Bool) → t x ≡ c → is_some (find t (filter k xs)) ≡ list_any (λ y. t y && k y) xs →
    is_some (find t (cond b (x ∷ filter k xs) (filter k xs))) ≡ ((c && b) || list_any (λ y. t y && k y) xs)
some_by k t x xs true true is below = rw is refl
some_by k t x xs true false is below = rw is below
some_by k t x xs false true is below = below
some_by k t x xs false false is below = below

some_filtered : {X : Type 0} (k t : X → Bool) (xs : List X) → is_some (find t (filter k xs)) ≡ list_any (λ y. t y && k y) xs
some_filtered k t [] = refl
some_filtered k t (x ∷ xs) = some_by k t x xs (k x) (t x) refl (some_filtered k t xs)

empty_by : {X : Type 0} (e : X → Bool) (x : X) (xs : List X) (b : Bool) → is_empty (filter (λ y. not (e y)) xs) ≡ list_all e xs →
    is_empty (cond (not b) (x ∷ filter (λ y. not (e y)) xs) (filter (λ y. not (e y)) xs)) ≡ (b && list_all e xs)
empty_by e x xs true below = below
empty_by e x xs false below = refl

empty_filtered : {X : Type 0} (e : X → Bool) (xs : List X) → is_empty (filter (λ y. not (e y)) xs) ≡ list_all e xs
empty_filtered e [] = refl
empty_filtered e (x ∷ xs) = empty_by e x xs (e x) (empty_filtered e xs)

-- ---- branches

module _ (rs : List SessionRecord) (n : Numbered rs) (x : ℕ) where
  branches_kept : (o : Option Began) → session rs x ≡ o → is_known rs x ≡ true → branches_or_none (option_map (session_now rs) (keep (is_kept_session rs) o)) ≡ map (branch_now rs) (in_order (branches rs x))
  branches_kept None e k = false_true (ap (λ o. is_some o && not (is_forgotten rs x)) (sym e) ∙ k)
  branches_kept (Some s) e k =
      let has = began_found x (sessions rs) s e in
      let is_kept : is_kept_session rs s ≡ true = ap (λ m. not (is_forgotten rs m)) has ∙ sym (ap (λ o. is_some o && not (is_forgotten rs x)) e) ∙ k in
      ap (λ c. branches_or_none (option_map (session_now rs) (cond c (Some s) None))) is_kept ∙ ap (λ m. map (branch_now rs) (in_order (branches rs m))) has

  pub branches_found : is_known rs x ≡ true → branches_in (snapshot_of rs) x ≡ map (branch_now rs) (in_order (branches rs x))
  branches_found k = ap branches_or_none (session_found rs n x) ∙ branches_kept (session rs x) refl k

  -- what is asked of the branches of a transaction in its second phase
  when_going : (g p q : Bool) → goes rs x ≡ g → (is_known rs x ≡ true → p ≡ q) → (g && p) ≡ (g && q)
  when_going true p q e same = same (and_left (is_known rs x) (is_some (decided rs x) && is_on (progress rs x)) e)
  when_going false p q e same = refl

  pub going_found : is_going (status_in (snapshot_of rs) x) ≡ goes rs x
  going_found = ap is_going (status_found rs n x) ∙ going_state (is_known rs x) (all_at (branches rs x)) (decided rs x) (progress rs x)

  open_found : (b : ℕ) → (is_going (status_in (snapshot_of rs) x) && list_any (is_open_with b) (branches_in (snapshot_of rs) x)) ≡ (goes rs x && is_some (unended_branch rs x b))
  open_found b =
      ap (λ c. c && list_any (is_open_with b) (branches_in (snapshot_of rs) x)) going_found
      ∙ when_going (goes rs x) (list_any (is_open_with b) (branches_in (snapshot_of rs) x)) (is_some (unended_branch rs x b)) refl
      (λ k. ap (list_any (is_open_with b)) (branches_found k)
      ∙ any_now (is_open_with b) (branch_now rs) (branches rs x)
      ∙ sym (some_filtered (is_unended rs) (λ g. g.branch == b) (branches rs x)))

  finish_found : (is_going (status_in (snapshot_of rs) x) && list_all is_ended_branch (branches_in (snapshot_of rs) x)) ≡ (goes rs x && is_empty (unended rs x))
  finish_found =
      ap (λ c. c && list_all is_ended_branch (branches_in (snapshot_of rs) x)) going_found
      ∙ when_going (goes rs x) (list_all is_ended_branch (branches_in (snapshot_of rs) x)) (is_empty (unended rs x)) refl
      (λ k. ap (list_all is_ended_branch) (branches_found k)
      ∙ all_now is_ended_branch (branch_now rs) (branches rs x)
      ∙ sym (empty_filtered (λ g. is_ended rs g.xid g.branch) (branches rs x)))

-- ---- managers

pub none_both : {X : Type 0} (o p : Option X) → is_none (or_else o p) ≡ (is_none o && is_none p)
none_both None p = refl
none_both (Some x) p = refl

pub none_mapped : {X Y : Type 0} (f : X → Y) (o : Option X) → is_none (option_map f o) ≡ is_none o
none_mapped f None = refl
none_mapped f (Some x) = refl

none_found_by : {X : Type 0} (t : X → Bool) (b : Bool) (x : X) (xs : List X) → is_none (find t xs) ≡ not (list_any t xs) → is_none (cond b (Some x) (find t xs)) ≡ not (b || list_any t xs)
none_found_by t true x xs below = refl
none_found_by t false x xs below = below

pub none_found : {X : Type 0} (t : X → Bool) (xs : List X) → is_none (find t xs) ≡ not (list_any t xs)
none_found t [] = refl
none_found t (x ∷ xs) = none_found_by t (t x) x xs (none_found t xs)

parted_by : {X : Type 0} (t f : X → Bool) (b c : Bool) (x : X) (xs : List X) → t x ≡ c → (not (list_any t (filter (λ y. not (f y)) xs)) && not (list_any t (filter f xs))) ≡ not (list_any t xs) →
    (not (list_any t (cond (not b) (x ∷ filter (λ y. not (f y)) xs) (filter (λ y. not (f y)) xs))) && not (list_any t (cond b (x ∷ filter f xs) (filter f xs)))) ≡ not (c || list_any t xs)
parted_by t f true true x xs is below = rw is (and_swap (not (list_any t (filter (λ y. not (f y)) xs))) false)
parted_by t f true false x xs is below = rw is below
parted_by t f false true x xs is below = rw is refl
parted_by t f false false x xs is below = rw is below

parted : {X : Type 0} (t f : X → Bool) (xs : List X) → (not (list_any t (filter (λ y. not (f y)) xs)) && not (list_any t (filter f xs))) ≡ not (list_any t xs)
parted t f [] = refl
parted t f (x ∷ xs) = parted_by t f (f x) (t x) x xs refl (parted t f xs)

-- a manager has a transaction exactly where the records say so
pub manager_found : (rs : List SessionRecord) (m : ℕ) → is_none (xid_for (snapshot_of rs) m) ≡ is_none (session_for rs m)
manager_found rs m =
    none_both (option_map xid_of (find (has_manager m) (snapshot_of rs).sessions)) (option_map forgotten_xid (find (was_of_manager m) (snapshot_of rs).forgotten))
    ∙ ap (λ b. b && is_none (option_map forgotten_xid (find (was_of_manager m) (snapshot_of rs).forgotten)))
    (none_mapped xid_of (find (has_manager m) (snapshot_of rs).sessions) ∙ none_found (has_manager m) (snapshot_of rs).sessions
    ∙ ap not (any_now (has_manager m) (entry_now rs) (filter (is_kept_session rs) (sessions rs))))
    ∙ ap (λ b. not (list_any (began_by m) (filter (is_kept_session rs) (sessions rs))) && b)
    (none_mapped forgotten_xid (find (was_of_manager m) (snapshot_of rs).forgotten) ∙ none_found (was_of_manager m) (snapshot_of rs).forgotten
    ∙ ap not (any_now (was_of_manager m) forgotten_now (filter (is_forgotten_session rs) (sessions rs))))
    ∙ parted (began_by m) (is_forgotten_session rs) (sessions rs)
    ∙ sym (none_found (began_by m) (sessions rs))

-- ---- records

abbrev pub registers_nothing : SessionRecord → Bool
registers_nothing (log.Granted xid branch resource call ticket kind hold) = false
registers_nothing _ = true

-- the snapshot of records allows what they allow, of all records but a registration
pub allowed_alike : (rs : List SessionRecord) → Allowed rs → (r : SessionRecord) → registers_nothing r ≡ true → may_come (snapshot_of rs) r ≡ may rs r
allowed_alike rs a (log.Begun xid manager begun timeout) e = ap (λ b. (xid.0 == (snapshot_of rs).begun + 1) && b) (manager_found rs manager)
allowed_alike rs a (log.Granted xid branch resource call ticket kind hold) e = false_true e
allowed_alike rs a (log.Decided xid d) e = ap is_begin (status_found rs (numbered rs a) xid.0) ∙ begin_state (is_known rs xid.0) (all_at (branches rs xid.0)) (decided rs xid.0) (progress rs xid.0)
allowed_alike rs a (log.Retrying xid) e = ap has_retrying (status_found rs (numbered rs a) xid.0)
allowed_alike rs a (log.Ended xid branch) e = open_found rs (numbered rs a) xid.0 branch.0
allowed_alike rs a (log.Failed xid branch stmt) e = open_found rs (numbered rs a) xid.0 branch.0
allowed_alike rs a (log.Finished xid) e = finish_found rs (numbered rs a) xid.0
allowed_alike rs a (log.Forgot xid) e = ap is_finished (status_found rs (numbered rs a) xid.0) ∙ finished_state (is_known rs xid.0) (all_at (branches rs xid.0)) (decided rs xid.0) (progress rs xid.0)
