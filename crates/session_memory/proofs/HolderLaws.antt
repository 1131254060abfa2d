-- Who holds a row, by a snapshot of records and by the records.
use Rattle.std.proofs.Common.{◌≡◌, ◌⊎◌, inl, inr, ◌==◌, ◌&&◌, ◌||◌, not, ℕ, Bool, true, false, if◌then◌else◌, List, [], ◌∷◌, map, Option, Some, None, is_some, is_none, refl, sym, ap, subst, ◌∙◌}
use Rattle.std.specs.Prelude.{filter, option_map}
use Rattle.std.specs.List.{list_any}
use Rattle.seata_types.specs.declared.ids.Xid.{Xid}
use Rattle.seata_types.specs.declared.ids.Leg.{Leg}
use Rattle.seata_types.specs.declared.rows.RowKey.{RowKey}
use Rattle.seata_types.specs.declared.statuses.Decision.{Decision}
use Rattle.seata_types.specs.declared.statuses.Decision.TheVariants as how
use Rattle.local_tables.specs.Rows.{is_key}
use Rattle.local_tables.proofs.KeyLaws.{same_key}
use Rattle.durable_records.specs.declared.coordinators.SessionRecord.{SessionRecord}
use Rattle.durable_records.specs.declared.coordinators.SessionRecord.TheVariants as log
use Rattle.durable_records.specs.Transactions.{Session as Began, sessions, session, has_xid as began_as, decided, is_forgotten, is_commit}
use Rattle.durable_records.specs.Branches.{Grant, grants, branches, all_at, is_ended, is_unended, granted, next_branch, unended_branch}
use Rattle.durable_records.specs.Progress.{Progress, Goes, Retries, IsFailed, IsDone, progress, status_of, is_known, is_on, is_done, is_going, may_decide, has_retrying, is_finished}
use Rattle.durable_records.specs.Locks.{has_key, is_holding, holds_row, holding, other_holder, with_holder, first_held as held_first}
use Rattle.durable_records.specs.SessionOrder.{Allowed, May}
use Rattle.lock_table.specs.Locks.{Holds, HaveOneHolder, locked, locks, holds, is_held_by, if_other, first_held}
use Rattle.lock_table.proofs.Puts.{same_xid}
use Rattle.lock_table.proofs.Holders.{holder_holds, nobody_holds}
use Rattle.session_log.specs.declared.sessions.Branch.{Branch}
use Rattle.session_log.specs.declared.sessions.SessionEntry.{SessionEntry}
use Rattle.session_log.specs.SnapshotOf.{in_order, branch_now, entry_now, is_kept_session, snapshot_of}
use Rattle.session_log.proofs.Members.{In, of_filter, in_filter, is_found, none_passes}
use Rattle.session_log.proofs.RecordFacts.{done_ended}
use Rattle.session_memory.specs.Lookups.{leg_of}
use Rattle.session_memory.specs.Holding.{keeps_rows, held_by_branches, held_by, held, held_in}
use Rattle.session_memory.specs.Laws.{held_row}
use Rattle.session_memory.proofs.Small.{false_true, none_some, and_left, and_right, and_both, not_true, same_nat, nat_same, moved, is_none_none}
use Rattle.session_memory.proofs.Lists.{and_true}
use Rattle.session_memory.proofs.Passing.{passing, any_of, found_passes, any_within, and_any, any_both}
use Rattle.durable_records.proofs.RecordFacts.{decide_none}
use Rattle.session_memory.proofs.MayLaws.{any_now, state}
use Rattle.session_memory.proofs.GrantLaws.{grant_begun, by_sessions}

-- ---- a forgotten transaction is finished, and so holds nothing

retrying_known : (is at : Bool) (d : Option Decision) (far : Progress) → has_retrying (state is at d far) ≡ true → is ≡ true
retrying_known true at d far e = refl
retrying_known false at d far e = false_true e

is_done_done : (p : Progress) → is_done p ≡ true → p ≡ IsDone
is_done_done Goes e = false_true e
is_done_done Retries e = false_true e
is_done_done IsFailed e = false_true e
is_done_done IsDone e = refl

not_here : (b : Bool) (here before : Progress) → (b ≡ true → ⊥) → before ≡ IsDone → (if b then here else before) ≡ IsDone
not_here true here before never done = absurd (never refl)
not_here false here before never done = done

done_here : (b : Bool) (before : Progress) → before ≡ IsDone → (if b then IsDone else before) ≡ IsDone
done_here true before done = refl
done_here false before done = done

module _ (rs : List SessionRecord) (x : ℕ) where
  pub known_kept : is_known rs x ≡ true → is_forgotten rs x ≡ false
  known_kept k = not_true (is_forgotten rs x) (and_right (is_some (session rs x)) (not (is_forgotten rs x)) k)

  going_known : is_going rs x ≡ true → is_known rs x ≡ true
  going_known e = and_left (is_known rs x) (is_some (decided rs x) && is_on (progress rs x)) e

module _ (rs : List SessionRecord) (y x : ℕ) where
  not_both : is_known rs y ≡ true → is_forgotten rs x ≡ true → (y == x) ≡ true → ⊥
  not_both k gone same = false_true (sym (known_kept rs x (moved (λ n. is_known rs n ≡ true) y x k same)) ∙ gone)

  gone_by : (b : Bool) → (y == x) ≡ b → is_finished rs y ≡ true → (is_forgotten rs x ≡ true → progress rs x ≡ IsDone) → (if b then true else is_forgotten rs x) ≡ true → progress rs x ≡ IsDone
  gone_by true same may below gone =
      moved (λ n. progress rs n ≡ IsDone) y x
      (is_done_done (progress rs y) (and_right (is_some (decided rs y)) (is_done (progress rs y)) (and_right (is_known rs y) (is_some (decided rs y) && is_done (progress rs y)) may))) same
  gone_by false same may below gone = below gone

forgotten_done : (rs : List SessionRecord) → Allowed rs → (x : ℕ) → is_forgotten rs x ≡ true → progress rs x ≡ IsDone
forgotten_done [] a x gone = false_true gone
forgotten_done (log.Retrying xid ∷ rs) a x gone =
    not_here (xid.0 == x) Retries (progress rs x)
    (not_both rs xid.0 x (retrying_known (is_known rs xid.0) (all_at (branches rs xid.0)) (decided rs xid.0) (progress rs xid.0) a.1) gone) (forgotten_done rs a.0 x gone)
forgotten_done (log.Failed xid branch stmt ∷ rs) a x gone =
    not_here (xid.0 == x) IsFailed (progress rs x)
    (not_both rs xid.0 x (going_known rs xid.0 (and_left (is_going rs xid.0) (is_some (unended_branch rs xid.0 branch.0)) a.1)) gone) (forgotten_done rs a.0 x gone)
forgotten_done (log.Finished xid ∷ rs) a x gone = done_here (xid.0 == x) (progress rs x) (forgotten_done rs a.0 x gone)
forgotten_done (log.Forgot xid ∷ rs) a x gone = gone_by rs xid.0 x (xid.0 == x) refl a.1 (forgotten_done rs a.0 x) gone
forgotten_done (r ∷ rs) a x gone = forgotten_done rs a.0 x gone

-- who holds a row isn't forgotten
module _ (rs : List SessionRecord) (a : Allowed rs) (r : RowKey) (g : Grant) (i : In g (grants rs)) (h : holds_row rs r g ≡ true) where
  holder_by : (b : Bool) → is_forgotten rs g.xid ≡ b → is_forgotten rs g.xid ≡ false
  holder_by true gone =
      let ended = done_ended rs a g.xid g (forgotten_done rs a g.xid gone) i refl in
      false_true (sym (ap not ended) ∙ and_left (not (is_ended rs g.xid g.branch)) (not (is_commit (decided rs g.xid))) (and_right (has_key g.hold r) (is_holding rs g) h))
  holder_by false kept = kept

  holder_kept : is_forgotten rs g.xid ≡ false
  holder_kept = holder_by (is_forgotten rs g.xid) refl

  pub holder_known : is_known rs g.xid ≡ true
  holder_known = and_both (is_some (session rs g.xid)) (not (is_forgotten rs g.xid)) (grant_begun rs a g i) (ap not holder_kept)

-- ---- no row has two holders

not_false : (b : Bool) → not b ≡ false → b ≡ true
not_false true e = refl
not_false false e = sym e

or_either : (a b : Bool) → (a || b) ≡ true → (a ≡ true) ⊎ (b ≡ true)
or_either true b e = inl refl
or_either false b e = inr e

-- where no other transaction holds any of these rows, who holds one of them is x
module _ (rs : List SessionRecord) (x : ℕ) where
  none_other : (k : RowKey) (g : Grant) → other_holder rs x k ≡ None → In g (grants rs) → holds_row rs k g ≡ true → g.xid ≡ x
  none_other k g none i h =
      let passes : In g (holding rs k) = in_filter (holds_row rs k) (grants rs) g i h in
      same_nat g.xid x (not_false (g.xid == x) (none_passes (λ b. not (b.xid == x)) (holding rs k) g (ap is_some none) passes))

  first_none : (k : RowKey) (o : Option Grant) (rest : Option (RowKey × Grant)) → with_holder k o rest ≡ None → (o ≡ None) × (rest ≡ None)
  first_none k None rest e = (refl, e)
  first_none k (Some g) rest e = none_some (sym e)

  none_held_by : (k : RowKey) (ks : List RowKey) (r : RowKey) (g : Grant) → (other_holder rs x k ≡ None) × (held_first rs x ks ≡ None) → (held_first rs x ks ≡ None → has_key ks r ≡ true → g.xid ≡ x) →
      In g (grants rs) → holds_row rs r g ≡ true → (is_key k r ≡ true) ⊎ (has_key ks r ≡ true) → g.xid ≡ x
  none_held_by k ks r g none below i h (inl is) = none_other k g none.0 i (ap (λ q. holds_row rs q g) (same_key k r is) ∙ h)
  none_held_by k ks r g none below i h (inr rest) = below none.1 rest

  none_held : (ks : List RowKey) (r : RowKey) (g : Grant) → held_first rs x ks ≡ None → has_key ks r ≡ true → In g (grants rs) → holds_row rs r g ≡ true → g.xid ≡ x
  none_held [] r g none e i h = false_true e
  none_held (k ∷ ks) r g none e i h =
      none_held_by k ks r g (first_none k (other_holder rs x k) (held_first rs x ks) none) (λ n f. none_held ks r g n f i h) i h (or_either (is_key k r) (has_key ks r) e)

-- two branches that hold a row are of one transaction
abbrev pub HeldOnce : List SessionRecord → Type 0
HeldOnce rs = (key : RowKey) (g h : Grant) → In g (grants rs) → In h (grants rs) → holds_row rs key g ≡ true → holds_row rs key h ≡ true → g.xid ≡ h.xid

-- a record that grants nothing and lets no branch hold more
once_fewer : (rs : List SessionRecord) (r : SessionRecord) → grants (r ∷ rs) ≡ grants rs → ((key : RowKey) (g : Grant) → holds_row (r ∷ rs) key g ≡ true → holds_row rs key g ≡ true) → HeldOnce rs → HeldOnce (r ∷ rs)
once_fewer rs r same fewer once key g h i j hg hh =
    once key g h (subst (λ gs. In g gs) same i) (subst (λ gs. In h gs) same j) (fewer key g hg) (fewer key h hh)

holds_while_undecided : (h e : Bool) (before : Option Decision) (d : Decision) → before ≡ None → (h && (not e && not (is_commit (Some d)))) ≡ true → (h && (not e && not (is_commit before))) ≡ true
holds_while_undecided h e before d none t =
    let p = and_right h (not e && not (is_commit (Some d))) t in
    and_both h (not e && not (is_commit before)) (and_left h (not e && not (is_commit (Some d))) t)
    (and_both (not e) (not (is_commit before)) (and_left (not e) (not (is_commit (Some d))) p) (ap (λ o. not (is_commit o)) none))

holds_before : (b h e : Bool) (before : Option Decision) (d : Decision) → (b ≡ true → before ≡ None) → (h && (not e && not (is_commit (if b then Some d else before)))) ≡ true → (h && (not e && not (is_commit before))) ≡ true
holds_before true h e before d none t = holds_while_undecided h e before d (none refl) t
holds_before false h e before d none t = t

holds_unended : (b h e c : Bool) → (h && (not (if b then true else e) && c)) ≡ true → (h && (not e && c)) ≡ true
holds_unended true h e c t = false_true (and_right h false t)
holds_unended false h e c t = t

module _ (rs : List SessionRecord) (g : Grant) (free : held_first rs g.xid g.hold ≡ None) (once : HeldOnce rs) where
  -- who holds a row that the new branch has is its transaction
  of_new : (key : RowKey) (b : Grant) → In b (g ∷ grants rs) → holds_row rs key b ≡ true → has_key g.hold key ≡ true → b.xid ≡ g.xid
  of_new key b (inl is) h new = ap (λ c. c.xid) is
  of_new key b (inr old) h new = none_held rs g.xid g.hold key b free new old h

  new_has : (key : RowKey) (b : Grant) → b ≡ g → holds_row rs key b ≡ true → has_key g.hold key ≡ true
  new_has key b is h = subst (λ (d : Grant). has_key d.hold key ≡ true) is (and_left (has_key b.hold key) (is_holding rs b) h)

  once_more : (key : RowKey) (b c : Grant) → In b (g ∷ grants rs) → In c (g ∷ grants rs) → holds_row rs key b ≡ true → holds_row rs key c ≡ true → b.xid ≡ c.xid
  once_more key b c (inl is) j hb hc = ap (λ d. d.xid) is ∙ sym (of_new key c j hc (new_has key b is hb))
  once_more key b c (inr i) (inl is) hb hc = of_new key b (inr i) hb (new_has key c is hc) ∙ sym (ap (λ d. d.xid) is)
  once_more key b c (inr i) (inr j) hb hc = once key b c i j hb hc

once_after : (rs : List SessionRecord) → HeldOnce rs → (r : SessionRecord) → May rs r → HeldOnce (r ∷ rs)
once_after rs once (log.Begun xid manager moment timeout) may = once
once_after rs once (log.Granted xid branch resource call ticket kind hold) may =
    let grant = and_left (may_decide rs xid.0 && ((branch.0 == next_branch rs) && is_none (held_first rs xid.0 hold))) (is_none (granted rs xid.0 resource call ticket kind)) may in
    let free = and_right (branch.0 == next_branch rs) (is_none (held_first rs xid.0 hold)) (and_right (may_decide rs xid.0) ((branch.0 == next_branch rs) && is_none (held_first rs xid.0 hold)) grant) in
    once_more rs (record { xid = xid.0; branch = branch.0; resource = resource; call = call; ticket = ticket; kind = kind; hold = hold })
    (is_none_none (held_first rs xid.0 hold) free) once
once_after rs once (log.Decided xid d) may =
    once_fewer rs (log.Decided xid d) refl
    (λ key g h. holds_before (xid.0 == g.xid) (has_key g.hold key) (is_ended rs g.xid g.branch) (decided rs g.xid) d
    (λ e. decide_none rs g.xid (moved (λ n. may_decide rs n ≡ true) xid.0 g.xid may e)) h) once
once_after rs once (log.Retrying xid) may = once
once_after rs once (log.Ended xid branch) may =
    once_fewer rs (log.Ended xid branch) refl
    (λ key g h. holds_unended ((xid.0 == g.xid) && (branch.0 == g.branch)) (has_key g.hold key) (is_ended rs g.xid g.branch) (not (is_commit (decided rs g.xid))) h) once
once_after rs once (log.Failed xid branch stmt) may = once
once_after rs once (log.Finished xid) may = once
once_after rs once (log.Forgot xid) may = once

held_once : (rs : List SessionRecord) → Allowed rs → HeldOnce rs
held_once [] a = λ key g h i j hg hh. absurd i
held_once (r ∷ rs) a = once_after rs (held_once rs a.0) r a.1

-- ---- statuses that keep rows

pub keeps_state : (at : Bool) (d : Option Decision) (far : Progress) → keeps_rows (state true at d far) ≡ not (is_commit d)
keeps_state at None far = refl
keeps_state true (Some how.Commit) Goes = refl
keeps_state true (Some how.Commit) Retries = refl
keeps_state false (Some how.Commit) Goes = refl
keeps_state false (Some how.Commit) Retries = refl
keeps_state at (Some how.Commit) IsFailed = refl
keeps_state at (Some how.Commit) IsDone = refl
keeps_state at (Some how.Rollback) Goes = refl
keeps_state at (Some how.Rollback) Retries = refl
keeps_state at (Some how.Rollback) IsFailed = refl
keeps_state at (Some how.Rollback) IsDone = refl
keeps_state at (Some how.Timeout) Goes = refl
keeps_state at (Some how.Timeout) Retries = refl
keeps_state at (Some how.Timeout) IsFailed = refl
keeps_state at (Some how.Timeout) IsDone = refl

pub keeps_known : (rs : List SessionRecord) (x : ℕ) → is_known rs x ≡ true → keeps_rows (status_of rs x) ≡ not (is_commit (decided rs x))
keeps_known rs x k =
    ap (λ b. keeps_rows (state b (all_at (branches rs x)) (decided rs x) (progress rs x))) k ∙ keeps_state (all_at (branches rs x)) (decided rs x) (progress rs x)

-- ---- which branches hold a row

module _ (p : Leg × List RowKey → Bool) where
  any_held : (es : List SessionEntry) → list_any p (held es) ≡ list_any (λ e. list_any p (held_by e)) es
  any_held [] = refl
  any_held (e ∷ es) = any_both p (held_by e) (held es) ∙ ap (λ b. list_any p (held_by e) || b) (any_held es)

  any_if : (c : Bool) (hs : Holds) → list_any p (if c then hs else []) ≡ (c && list_any p hs)
  any_if true hs = refl
  any_if false hs = refl

  abbrev opens : Xid → Branch → Bool
  opens x b = not b.ended && p (leg_of x b, b.hold)

  any_open_by : (x : Xid) (b : Branch) (bs : List Branch) (c : Bool) → list_any p (held_by_branches x bs) ≡ list_any (opens x) bs →
      list_any p (if c then held_by_branches x bs else ((leg_of x b, b.hold) ∷ held_by_branches x bs)) ≡ ((not c && p (leg_of x b, b.hold)) || list_any (opens x) bs)
  any_open_by x b bs true below = below
  any_open_by x b bs false below = ap (λ q. p (leg_of x b, b.hold) || q) below

  any_open : (x : Xid) (bs : List Branch) → list_any p (held_by_branches x bs) ≡ list_any (opens x) bs
  any_open x [] = refl
  any_open x (b ∷ bs) = any_open_by x b bs b.ended (any_open x bs)

shuffled : (a b c d : Bool) → (a && (b && (c && d))) ≡ (c && (d && (b && a)))
shuffled true true c d = ap (λ q. c && q) (sym (and_true d))
shuffled true false true true = refl
shuffled true false true false = refl
shuffled true false false d = refl
shuffled false true true true = refl
shuffled false true true false = refl
shuffled false true false d = refl
shuffled false false true true = refl
shuffled false false true false = refl
shuffled false false false d = refl

dropped : (f t : Bool) → (t ≡ true → f ≡ true) → (f && t) ≡ t
dropped true t is = refl
dropped false true is = is refl
dropped false false is = refl

module _ (rs : List SessionRecord) (a : Allowed rs) (y : Xid) (r : RowKey) where
  abbrev of_y : Grant → Bool
  of_y g = (g.xid == y.0) && holds_row rs r g

  -- by a branch of a transaction
  by_branch : (x : ℕ) (g : Grant) → g.xid ≡ x →
      (not (is_commit (decided rs x)) && (is_unended rs g && ((x == y.0) && has_key g.hold r))) ≡ of_y g
  by_branch x g is =
      shuffled (not (is_commit (decided rs x))) (is_unended rs g) (x == y.0) (has_key g.hold r)
      ∙ ap (λ n. (n == y.0) && (has_key g.hold r && (is_unended rs g && not (is_commit (decided rs n))))) (sym is)

  by_entry : (s : Began) → is_known rs s.xid ≡ true → list_any (is_held_by y r) (held_by (entry_now rs s)) ≡ list_any of_y (branches rs s.xid)
  by_entry s k =
      any_if (is_held_by y r) (keeps_rows (status_of rs s.xid)) (held_by_branches (record { 0 = s.xid }) (map (branch_now rs) (in_order (branches rs s.xid))))
      ∙ ap (λ c. c && list_any (is_held_by y r) (held_by_branches (record { 0 = s.xid }) (map (branch_now rs) (in_order (branches rs s.xid))))) (keeps_known rs s.xid k)
      ∙ ap (λ c. not (is_commit (decided rs s.xid)) && c)
      (any_open (is_held_by y r) (record { 0 = s.xid }) (map (branch_now rs) (in_order (branches rs s.xid)))
      ∙ any_now (opens (is_held_by y r) (record { 0 = s.xid })) (branch_now rs) (branches rs s.xid))
      ∙ and_any (not (is_commit (decided rs s.xid))) (λ g. is_unended rs g && ((s.xid == y.0) && has_key g.hold r)) (branches rs s.xid)
      ∙ any_within (λ g. not (is_commit (decided rs s.xid)) && (is_unended rs g && ((s.xid == y.0) && has_key g.hold r))) of_y (branches rs s.xid)
      (λ g i. by_branch s.xid g (same_nat g.xid s.xid (of_filter (λ h. h.xid == s.xid) (grants rs) g i).1))

  kept_known : (s : Began) → In s (filter (is_kept_session rs) (sessions rs)) → is_known rs s.xid ≡ true
  kept_known s i =
      let there = of_filter (is_kept_session rs) (sessions rs) s i in
      and_both (is_some (session rs s.xid)) (not (is_forgotten rs s.xid)) (is_found (began_as s.xid) (sessions rs) s there.0 (nat_same s.xid s.xid refl)) there.1

  -- y holds a row by the snapshot exactly where it does by the records
  holds_alike : holds (held_in (snapshot_of rs)) y r ≡ list_any of_y (grants rs)
  holds_alike =
      any_held (is_held_by y r) (snapshot_of rs).sessions
      ∙ any_now (λ e. list_any (is_held_by y r) (held_by e)) (entry_now rs) (filter (is_kept_session rs) (sessions rs))
      ∙ any_within (λ s. list_any (is_held_by y r) (held_by (entry_now rs s))) (λ s. list_any of_y (branches rs s.xid)) (filter (is_kept_session rs) (sessions rs)) (λ s i. by_entry s (kept_known s i))
      ∙ by_sessions rs a of_y
      ∙ any_within (λ g. not (is_forgotten rs g.xid) && of_y g) of_y (grants rs)
      (λ g i. dropped (not (is_forgotten rs g.xid)) (of_y g) (λ h. ap not (holder_kept rs a r g i (and_right (g.xid == y.0) (holds_row rs r g) h))))

-- ---- who holds a row

module _ (rs : List SessionRecord) (a : Allowed rs) (r : RowKey) where
  abbrev here : Holds
  here = held_in (snapshot_of rs)

  -- a branch that holds a row
  pub record Holder (y : ℕ) : Type 0 where
    pub branch : Grant
    pub there : In branch (grants rs)
    pub of : branch.xid ≡ y
    pub holding : holds_row rs r branch ≡ true

  holder_of : (y : Xid) → locked (locks here) r ≡ Some y → Holder y.0
  holder_of y is =
      let found = passing (of_y rs a y r) (grants rs) (sym (holds_alike rs a y r) ∙ holder_holds here y r is) in record {
        branch = found.it;
        there = found.member;
        of = same_nat found.it.xid y.0 (and_left (found.it.xid == y.0) (holds_row rs r found.it) found.passes);
        holding = and_right (found.it.xid == y.0) (holds_row rs r found.it) found.passes;
      }

  locked_by : (g : Grant) → In g (grants rs) → holds_row rs r g ≡ true → (o : Option Xid) → locked (locks here) r ≡ o → locked (locks here) r ≡ Some (record { 0 = g.xid })
  locked_by g i h None is =
      let x : Xid = record { 0 = g.xid } in
      false_true (sym (nobody_holds here r is x) ∙ holds_alike rs a x r ∙ any_of (of_y rs a x r) g (grants rs) i (and_both (g.xid == g.xid) (holds_row rs r g) (nat_same g.xid g.xid refl) h))
  locked_by g i h (Some y) is =
      let k = holder_of y is in
      is ∙ ap (λ (z : Xid). Some z) (same_xid y (record { 0 = g.xid }) (sym k.of ∙ held_once rs a r k.branch g k.there i k.holding h))

  module _ (x : Xid) (rest : Option (RowKey × Xid)) where
    free_by : (o : Option Xid) → locked (locks here) r ≡ o → other_holder rs x.0 r ≡ None → if_other r x o rest ≡ rest
    free_by None is none = refl
    free_by (Some y) is none =
        let k = holder_of y is in
        ap (λ b. if b then rest else Some (r, y)) (nat_same y.0 x.0 (sym k.of ∙ none_other rs x.0 r k.branch none k.there k.holding))

    row_by : (o : Option Grant) → other_holder rs x.0 r ≡ o → (other : Option (RowKey × Grant)) → rest ≡ option_map held_row other → if_other r x (locked (locks here) r) rest ≡ option_map held_row (with_holder r o other)
    row_by None none other same = free_by (locked (locks here) r) refl none ∙ same
    row_by (Some g) is other same =
        let found = found_passes (λ h. not (h.xid == x.0)) g (holding rs r) is in
        let there = of_filter (holds_row rs r) (grants rs) g found.0 in
        ap (λ o. if_other r x o rest) (locked_by g there.0 there.1 (locked (locks here) r) refl)
        ∙ ap (λ b. if b then rest else Some (r, record { 0 = g.xid })) (not_true (g.xid == x.0) found.1)

module _ (rs : List SessionRecord) (a : Allowed rs) where
  -- the first of these rows that another transaction holds, and who does
  pub held_alike : (x : Xid) (rows : List RowKey) → first_held (held_in (snapshot_of rs)) x rows ≡ option_map held_row (held_first rs x.0 rows)
  held_alike x [] = refl
  held_alike x (r ∷ rows) =
      row_by rs a r x (first_held (held_in (snapshot_of rs)) x rows) (other_holder rs x.0 r) refl (held_first rs x.0 rows) (held_alike x rows)

  first_by : (x : ℕ) (k : RowKey) (rows : List RowKey) (o : Option Grant) (key : RowKey) (g : Grant) → other_holder rs x k ≡ o → with_holder k o (held_first rs x rows) ≡ Some (key, g) →
      (held_first rs x rows ≡ Some (key, g) → is_known rs g.xid ≡ true) → is_known rs g.xid ≡ true
  first_by x k rows None key g is e below = below e
  first_by x k rows (Some h) key g is e below =
      let found = found_passes (λ b. not (b.xid == x)) h (holding rs k) is in
      let there = of_filter (holds_row rs k) (grants rs) h found.0 in
      let both : (k, h) ≡ (key, g) = cc in
      let same : h ≡ g = ap (λ (p : RowKey × Grant). p.1) both in
      ap (λ (b : Grant). is_known rs b.xid) (sym same) ∙ holder_known rs a k h there.0 there.1

  -- who holds a row is known
  pub first_known : (x : ℕ) (rows : List RowKey) (key : RowKey) (g : Grant) → held_first rs x rows ≡ Some (key, g) → is_known rs g.xid ≡ true
  first_known x [] key g e = none_some e
  first_known x (k ∷ rows) key g e = first_by x k rows (other_holder rs x k) key g refl e (first_known x rows key g)

  apart_by : (x y : Xid) (r : RowKey) → holds (held_in (snapshot_of rs)) x r ≡ true → holds (held_in (snapshot_of rs)) y r ≡ true → x ≡ y
  apart_by x y r hx hy =
      let g = passing (of_y rs a x r) (grants rs) (sym (holds_alike rs a x r) ∙ hx) in
      let h = passing (of_y rs a y r) (grants rs) (sym (holds_alike rs a y r) ∙ hy) in
      let same = held_once rs a r g.it h.it g.member h.member (and_right (g.it.xid == x.0) (holds_row rs r g.it) g.passes) (and_right (h.it.xid == y.0) (holds_row rs r h.it) h.passes) in
      same_xid x y (sym (same_nat g.it.xid x.0 (and_left (g.it.xid == x.0) (holds_row rs r g.it) g.passes)) ∙ same ∙ same_nat h.it.xid y.0 (and_left (h.it.xid == y.0) (holds_row rs r h.it) h.passes))

  -- no row of the snapshot has two holders
  pub held_apart : HaveOneHolder (held_in (snapshot_of rs))
  held_apart = apart_by
