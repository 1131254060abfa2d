-- Which transactions hold a row, in records that may come after one another.
use Rattle.std.proofs.Common.{◌≡◌, ◌⊎◌, inl, inr, ◌==◌, ◌&&◌, ◌||◌, not, ℕ, Bool, true, false, if◌then◌else◌, List, [], ◌∷◌, ◌++◌, Option, Some, None, is_none, refl, ap, sym, subst, ◌∙◌}
use Rattle.std.specs.List.{list_any}
use Rattle.seata_types.specs.declared.ids.Xid.{Xid}
use Rattle.seata_types.specs.declared.rows.RowKey.{RowKey}
use Rattle.seata_types.specs.declared.statuses.Decision.{Decision}
use Rattle.seata_types.specs.declared.statuses.Decision.TheVariants as how
use Rattle.local_tables.specs.Rows.{is_key}
use Rattle.local_tables.proofs.KeyLaws.{same_key}
use Rattle.durable_records.specs.declared.coordinators.SessionRecord.{SessionRecord}
use Rattle.durable_records.specs.declared.coordinators.SessionRecord.TheVariants as log
use Rattle.durable_records.specs.Transactions.{decided, is_commit}
use Rattle.durable_records.specs.Branches.{Grant, grants, is_ended, granted, next_branch}
use Rattle.durable_records.specs.Progress.{may_decide}
use Rattle.durable_records.specs.Locks.{has_key, is_holding, holds_row, holding, holds, other_holder, with_holder, first_held}
use Rattle.durable_records.specs.SessionOrder.{May, Allowed}
use Rattle.history_law.specs.Points.{In}
use Rattle.history_law.specs.SessionSafety.{HasOneHolder, holds_after, HoldersChange}
use Rattle.history_law.proofs.Tests.{false_true, true_false, none_some, and_left, and_right, and_both, or_either, not_false, same_nat, nat_same, moved, is_none_none, find_none, in_filter, of_filter, found_member, some_of, any_same, any_none}
use Rattle.history_law.proofs.Transactions.{Known, known, decide_none}

-- ---- rows that nobody else holds

-- where no other transaction holds any of these rows, who holds one of them is x
module _ (rs : List SessionRecord) (x : ℕ) where
  none_other : (k : RowKey) (g : Grant) → other_holder rs x k ≡ None → In g (grants rs) → holds_row rs k g ≡ true → g.xid ≡ x
  none_other k g none i h =
      let passes : In g (holding rs k) = in_filter (holds_row rs k) (grants rs) g i h in
      let fails = find_none (λ b. not (b.xid == x)) (holding rs k) g none passes in
      same_nat g.xid x (not_false (g.xid == x) fails)

  first_none : (k : RowKey) (o : Option Grant) (rest : Option (RowKey × Grant)) → with_holder k o rest ≡ None → (o ≡ None) × (rest ≡ None)
  first_none k None rest e = (refl, e)
  first_none k (Some g) rest e = none_some (sym e)

  none_held_by : (k : RowKey) (ks : List RowKey) (r : RowKey) (g : Grant) → (other_holder rs x k ≡ None) × (first_held rs x ks ≡ None) → (first_held rs x ks ≡ None → has_key ks r ≡ true → g.xid ≡ x)
      → In g (grants rs) → holds_row rs r g ≡ true → (is_key k r ≡ true) ⊎ (has_key ks r ≡ true) → g.xid ≡ x
  none_held_by k ks r g none below i h (inl is) = none_other k g none.0 i (ap (λ q. holds_row rs q g) (same_key k r is) ∙ h)
  none_held_by k ks r g none below i h (inr rest) = below none.1 rest

  pub none_held : (ks : List RowKey) (r : RowKey) (g : Grant) → first_held rs x ks ≡ None → has_key ks r ≡ true → In g (grants rs) → holds_row rs r g ≡ true → g.xid ≡ x
  none_held [] r g none e i h = false_true e
  none_held (k ∷ ks) r g none e i h =
      none_held_by k ks r g (first_none k (other_holder rs x k) (first_held rs x ks) none) (λ n f. none_held ks r g n f i h) i h (or_either (is_key k r) (has_key ks r) e)

  -- and so of the first of them
  pub held_left : (ks ls : List RowKey) → first_held rs x (ks ++ ls) ≡ None → first_held rs x ks ≡ None
  held_left [] ls none = refl
  held_left (k ∷ ks) ls none =
      let p = first_none k (other_holder rs x k) (first_held rs x (ks ++ ls)) none in
      ap (λ o. with_holder k o (first_held rs x ks)) p.0 ∙ held_left ks ls p.1

-- ---- no row has two holders

-- a branch of x that holds a row
pub record Holder (rs : List SessionRecord) (x : ℕ) (key : RowKey) : Type 0 where
  pub branch : Grant
  pub granted : In branch (grants rs)
  pub of : branch.xid ≡ x
  pub holding : holds_row rs key branch ≡ true

pub holder : (rs : List SessionRecord) (x : ℕ) (key : RowKey) → holds rs x key ≡ true → Holder rs x key
holder rs x key e =
    let found = found_member (λ g. g.xid == x) (holding rs key) e in
    let member = of_filter (holds_row rs key) (grants rs) found.0 found.1 in
    record { branch = found.0; granted = member.0; of = same_nat found.0.xid x found.2; holding = member.1 }

-- two branches that hold a row are of one transaction
pub HeldOnce : List SessionRecord → Type 0
HeldOnce rs = (key : RowKey) (g h : Grant) → In g (grants rs) → In h (grants rs) → holds_row rs key g ≡ true → holds_row rs key h ≡ true → g.xid ≡ h.xid

-- a record that grants nothing and lets no branch hold more
once_fewer : (rs : List SessionRecord) (r : SessionRecord) → grants (r ∷ rs) ≡ grants rs → ((key : RowKey) (g : Grant) → holds_row (r ∷ rs) key g ≡ true → holds_row rs key g ≡ true) → HeldOnce rs → HeldOnce (r ∷ rs)
unfolding HeldOnce
once_fewer rs r same fewer once key g h i j hg hh =
    once key g h (subst (λ gs. In g gs) same i) (subst (λ gs. In h gs) same j) (fewer key g hg) (fewer key h hh)

holds_while_undecided : (h e : Bool) (dec : Option Decision) (d : Decision) → dec ≡ None → (h && (not e && not (is_commit (Some d)))) ≡ true → (h && (not e && not (is_commit dec))) ≡ true
holds_while_undecided h e dec d none t =
    let p = and_right h (not e && not (is_commit (Some d))) t in
    and_both h (not e && not (is_commit dec)) (and_left h (not e && not (is_commit (Some d))) t)
    (and_both (not e) (not (is_commit dec)) (and_left (not e) (not (is_commit (Some d))) p) (ap (λ o. not (is_commit o)) none))

holds_before : (b h e : Bool) (dec : Option Decision) (d : Decision) → (b ≡ true → dec ≡ None) → (h && (not e && not (is_commit (if b then Some d else dec)))) ≡ true → (h && (not e && not (is_commit dec))) ≡ true
holds_before true h e dec d none t = holds_while_undecided h e dec d (none refl) t
holds_before false h e dec d none t = t

holds_unended : (b h e c : Bool) → (h && (not (if b then true else e) && c)) ≡ true → (h && (not e && c)) ≡ true
holds_unended true h e c t = false_true (and_right h false t)
holds_unended false h e c t = t

module _ (rs : List SessionRecord) (g : Grant) (free : first_held rs g.xid g.hold ≡ None) (once : HeldOnce rs) where
  -- who holds a row that the new branch has is its transaction
  of_new : (key : RowKey) (b : Grant) → In b (g ∷ grants rs) → holds_row rs key b ≡ true → has_key g.hold key ≡ true → b.xid ≡ g.xid
  of_new key b (inl is) h new = ap (λ c. c.xid) is
  of_new key b (inr old) h new = none_held rs g.xid g.hold key b free new old h

  new_has : (key : RowKey) (b : Grant) → b ≡ g → holds_row rs key b ≡ true → has_key g.hold key ≡ true
  new_has key b is h = subst (λ (d : Grant). has_key d.hold key ≡ true) is (and_left (has_key b.hold key) (is_holding rs b) h)

  both : (key : RowKey) (b c : Grant) → In b (g ∷ grants rs) → In c (g ∷ grants rs) → holds_row rs key b ≡ true → holds_row rs key c ≡ true → b.xid ≡ c.xid
  unfolding HeldOnce
  both key b c (inl is) j hb hc = ap (λ d. d.xid) is ∙ sym (of_new key c j hc (new_has key b is hb))
  both key b c (inr i) (inl is) hb hc = of_new key b (inr i) hb (new_has key c is hc) ∙ sym (ap (λ d. d.xid) is)
  both key b c (inr i) (inr j) hb hc = once key b c i j hb hc

once_after : (rs : List SessionRecord) → ((x : ℕ) → Known rs x) → HeldOnce rs → (r : SessionRecord) → May rs r → HeldOnce (r ∷ rs)
unfolding HeldOnce
once_after rs k once (log.Begun xid manager moment timeout) may = once
once_after rs k once (log.Granted xid branch resource call ticket kind hold) may =
    let grant = and_left (may_decide rs xid.0 && ((branch.0 == next_branch rs) && is_none (first_held rs xid.0 hold))) (is_none (granted rs xid.0 resource call ticket kind)) may in
    let free = and_right (branch.0 == next_branch rs) (is_none (first_held rs xid.0 hold)) (and_right (may_decide rs xid.0) ((branch.0 == next_branch rs) && is_none (first_held rs xid.0 hold)) grant) in
    both rs (record { xid = xid.0; branch = branch.0; resource = resource; call = call; ticket = ticket; kind = kind; hold = hold })
    (is_none_none (first_held rs xid.0 hold) free) once
once_after rs k once (log.Decided xid d) may =
    once_fewer rs (log.Decided xid d) refl
    (λ key g h. holds_before (xid.0 == g.xid) (has_key g.hold key) (is_ended rs g.xid g.branch) (decided rs g.xid) d
    (λ e. decide_none rs g.xid (moved (λ n. may_decide rs n ≡ true) xid.0 g.xid may e)) h) once
once_after rs k once (log.Retrying xid) may = once
once_after rs k once (log.Ended xid branch) may =
    once_fewer rs (log.Ended xid branch) refl
    (λ key g h. holds_unended ((xid.0 == g.xid) && (branch.0 == g.branch)) (has_key g.hold key) (is_ended rs g.xid g.branch) (not (is_commit (decided rs g.xid))) h) once
once_after rs k once (log.Failed xid branch stmt) may = once
once_after rs k once (log.Finished xid) may = once
once_after rs k once (log.Forgot xid) may = once

pub held_once : (rs : List SessionRecord) → Allowed rs → HeldOnce rs
unfolding HeldOnce
held_once [] a = λ key g h i j hg hh. absurd i
held_once (r ∷ rs) a = once_after rs (known rs a.0) (held_once rs a.0) r a.1

pub one_holder : (rs : List SessionRecord) → Allowed rs → (key : RowKey) → HasOneHolder rs key
unfolding HeldOnce
one_holder rs a key x y hx hy =
    let p = holder rs x key hx in
    let q = holder rs y key hy in
    sym p.of ∙ held_once rs a key p.branch q.branch p.granted q.granted p.holding q.holding ∙ q.of

-- ---- how holders change

abbrev holds_by : List SessionRecord → ℕ → RowKey → Grant → Bool
holds_by rs x key g = holds_row rs key g && (g.xid == x)

by_any : (rs : List SessionRecord) (x : ℕ) (key : RowKey) → holds rs x key ≡ list_any (holds_by rs x key) (grants rs)
by_any rs x key = some_of (holds_row rs key) (λ g. g.xid == x) (grants rs)

gains : (has t rest : Bool) (e : Bool) (dec : Option Decision) → e ≡ false → dec ≡ None → (((has && (not e && not (is_commit dec))) && t) || rest) ≡ ((t && has) || rest)
gains has t rest e dec unended none = ap (λ f. ((has && (not f && not (is_commit dec))) && t) || rest) unended ∙ ap (λ o. ((has && not (is_commit o)) && t) || rest) none ∙ by has t
  where
    by : (has t : Bool) → (((has && true) && t) || rest) ≡ ((t && has) || rest)
    by true true = refl
    by true false = refl
    by false true = refl
    by false false = refl

loses_branch : (has e c t m : Bool) → ((has && (not (if m then true else e) && c)) && t) ≡ ((has && (not e && c)) && (t && not m))
loses_branch has e c t false = ap (λ q. (has && (not e && c)) && q) (right t)
  where
    right : (t : Bool) → t ≡ (t && true)
    right true = refl
    right false = refl
loses_branch has e c t true = ap (λ q. q && t) (never has) ∙ sym (last (has && (not e && c)) t)
  where
    never : (has : Bool) → (has && false) ≡ false
    never true = refl
    never false = refl

    last : (h t : Bool) → (h && (t && false)) ≡ false
    last true true = refl
    last true false = refl
    last false t = refl

-- of a row that the branch has or not, where the decision is of its transaction or not
loses_all : (has e t m : Bool) (dec : Option Decision) → (t ≡ true → m ≡ true) → ((has && (not e && not (is_commit (if m then Some how.Commit else dec)))) && t) ≡ false
loses_all has e true true dec mine = by has e
  where
    by : (has e : Bool) → ((has && (not e && false)) && true) ≡ false
    by true true = refl
    by true false = refl
    by false e = refl
loses_all has e true false dec mine = true_false (sym (mine refl))
loses_all has e false m dec mine = by (has && (not e && not (is_commit (if m then Some how.Commit else dec))))
  where
    by : (h : Bool) → (h && false) ≡ false
    by true = refl
    by false = refl

keeps_others : (has e t m : Bool) (d : Decision) (dec : Option Decision) → (t ≡ true → m ≡ false)
    → ((has && (not e && not (is_commit (if m then Some d else dec)))) && t) ≡ ((has && (not e && not (is_commit dec))) && t)
keeps_others has e true true d dec other = true_false (other refl)
keeps_others has e true false d dec other = refl
keeps_others has e false m d dec other = by (has && (not e && not (is_commit (if m then Some d else dec)))) (has && (not e && not (is_commit dec)))
  where
    by : (h k : Bool) → (h && false) ≡ (k && false)
    by true true = refl
    by true false = refl
    by false true = refl
    by false false = refl

-- a decision other than commit
keeps_all : (has e t m : Bool) (d : Decision) (dec : Option Decision) → is_commit (Some d) ≡ false → (m ≡ true → dec ≡ None)
    → ((has && (not e && not (is_commit (if m then Some d else dec)))) && t) ≡ ((has && (not e && not (is_commit dec))) && t)
keeps_all has e t true d dec other none = ap (λ c. (has && (not e && not c)) && t) (other ∙ sym (ap is_commit (none refl)))
keeps_all has e t false d dec other none = refl

module _ (rs : List SessionRecord) (x : ℕ) (key : RowKey) where
  commit_frees : (xid : Xid) (b : Bool) → (xid.0 == x) ≡ b → list_any (holds_by (log.Decided xid how.Commit ∷ rs) x key) (grants rs) ≡ (not b && list_any (holds_by rs x key) (grants rs))
  commit_frees xid true e =
      any_none (holds_by (log.Decided xid how.Commit ∷ rs) x key) (grants rs)
      (λ g i. loses_all (has_key g.hold key) (is_ended rs g.xid g.branch) (g.xid == x) (xid.0 == g.xid) (decided rs g.xid)
      (λ t. nat_same xid.0 g.xid (same_nat xid.0 x e ∙ sym (same_nat g.xid x t))))
  commit_frees xid false e =
      any_same (holds_by (log.Decided xid how.Commit ∷ rs) x key) (holds_by rs x key) (grants rs)
      (λ g i. keeps_others (has_key g.hold key) (is_ended rs g.xid g.branch) (g.xid == x) (xid.0 == g.xid) how.Commit (decided rs g.xid)
      (λ t. ap (λ n. xid.0 == n) (same_nat g.xid x t) ∙ e))

  decision_keeps : (xid : Xid) (d : Decision) → is_commit (Some d) ≡ false → may_decide rs xid.0 ≡ true → holds (log.Decided xid d ∷ rs) x key ≡ holds rs x key
  decision_keeps xid d other may =
      by_any (log.Decided xid d ∷ rs) x key
      ∙ any_same (holds_by (log.Decided xid d ∷ rs) x key) (holds_by rs x key) (grants rs)
      (λ g i. keeps_all (has_key g.hold key) (is_ended rs g.xid g.branch) (g.xid == x) (xid.0 == g.xid) d (decided rs g.xid) other
      (λ e. decide_none rs g.xid (moved (λ n. may_decide rs n ≡ true) xid.0 g.xid may e)))
      ∙ sym (by_any rs x key)

  holder_change : ((y : ℕ) → Known rs y) → (r : SessionRecord) → May rs r → holds (r ∷ rs) x key ≡ holds_after rs r x key
  holder_change k (log.Begun xid manager moment timeout) may = refl
  holder_change k (log.Granted xid branch resource call ticket kind hold) may =
      let grant = and_left (may_decide rs xid.0 && ((branch.0 == next_branch rs) && is_none (first_held rs xid.0 hold))) (is_none (granted rs xid.0 resource call ticket kind)) may in
      let none = decide_none rs xid.0 (and_left (may_decide rs xid.0) ((branch.0 == next_branch rs) && is_none (first_held rs xid.0 hold)) grant) in
      by_any (log.Granted xid branch resource call ticket kind hold ∷ rs) x key
      ∙ gains (has_key hold key) (xid.0 == x) (list_any (holds_by rs x key) (grants rs)) (is_ended rs xid.0 branch.0) (decided rs xid.0) (((k xid.0).undecided none).2 branch.0) none
      ∙ ap (λ q. ((xid.0 == x) && has_key hold key) || q) (sym (by_any rs x key))
  holder_change k (log.Decided xid how.Commit) may =
      by_any (log.Decided xid how.Commit ∷ rs) x key ∙ commit_frees xid (xid.0 == x) refl ∙ ap (λ q. not (xid.0 == x) && q) (sym (by_any rs x key))
  holder_change k (log.Decided xid how.Rollback) may = decision_keeps xid how.Rollback refl may
  holder_change k (log.Decided xid how.Timeout) may = decision_keeps xid how.Timeout refl may
  holder_change k (log.Retrying xid) may = refl
  holder_change k (log.Ended xid branch) may =
      by_any (log.Ended xid branch ∷ rs) x key
      ∙ any_same (holds_by (log.Ended xid branch ∷ rs) x key) (λ g. holds_row rs key g && ((g.xid == x) && not ((xid.0 == g.xid) && (branch.0 == g.branch)))) (grants rs)
      (λ g i. loses_branch (has_key g.hold key) (is_ended rs g.xid g.branch) (not (is_commit (decided rs g.xid))) (g.xid == x) ((xid.0 == g.xid) && (branch.0 == g.branch)))
      ∙ sym (some_of (holds_row rs key) (λ g. (g.xid == x) && not ((xid.0 == g.xid) && (branch.0 == g.branch))) (grants rs))
  holder_change k (log.Failed xid branch stmt) may = refl
  holder_change k (log.Finished xid) may = refl
  holder_change k (log.Forgot xid) may = refl

pub holders_change : (rs : List SessionRecord) → Allowed rs → HoldersChange rs
holders_change [] a = tt
holders_change (r ∷ rs) a = (holders_change rs a.0, λ x key. holder_change rs x key (known rs a.0) r a.1)
