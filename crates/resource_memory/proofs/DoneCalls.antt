-- The undo record that is found of a call is that of its least branch.
use Rattle.std.proofs.Common.{◌≡◌, ◌==◌, ◌&&◌, ◌<◌, not, ℕ, Bool, true, false, cond, List, [], ◌∷◌, map, filter, Option, Some, None, option_map, min, Ordering, Less, Equal, Greater, refl, sym, ap, subst, ◌∙◌, true≢false, arith}
use Rattle.std.specs.List.{AllByRecursion}
use Rattle.std.specs.List.Sorted.{IsStrictlySortedBy}
use Rattle.std.specs.Map.{keys_of}
use Rattle.std.specs.BTreeMap.{insert_entry}
use Rattle.std.specs.Ordering.{nat_cmp, ordering_then, match_ordering, is_eq}
use Rattle.std.specs.Cmp.{nat_cmp_is, ranked}
use Rattle.std.proofs.lemmas.Bool.{and_parts, and_from}
use Rattle.std.proofs.lemmas.Bool.Decides.{nat_tests}
use Rattle.std.proofs.lemmas.Cmp.{tied_itself}
use Rattle.seata_types.specs.declared.ids.Leg.{Leg}
use Rattle.local_tables.specs.Rows.{Database}
use Rattle.durable_records.specs.declared.resources.ResourceRecord.{ResourceRecord}
use Rattle.durable_records.specs.declared.resources.ResourceRecord.TheVariants as log
use Rattle.durable_records.specs.ResourceOrder.{Allowed, HasNoEntry}
use Rattle.durable_records.specs.UndoRecords.{Undo, undos, is_marked, is_leg as is_undo_leg, is_other_leg}
use Rattle.undo_log.specs.Entries.{Log, order, is_leg, entry_at, with_entry, without_entry, is_of_call, record_in, record_of_call}
use Rattle.undo_log.specs.declared.records.UndoEntry.{UndoEntry}
use Rattle.undo_log.specs.declared.records.UndoEntry.TheVariants as entry
use Rattle.resource_log.specs.Records.{leg_of}
use Rattle.resource_log.specs.SnapshotOf.{undo_log_of}
use Rattle.resource_memory.specs.Changes.{undo_record}
pub use Rattle.resource_memory.specs.Laws.{branch_of_record, branch_of_undo}
use Rattle.resource_memory.specs.Laws.{FindsUndosOfCalls}
use Rattle.resource_memory.specs.Lookups.{lesser, least_branch, entry_for, entry_by}
use Rattle.resource_memory.proofs.Legs.{leg_total, leg_exact}
use Rattle.resource_memory.proofs.Maps.{all_insert, all_remove}
use Rattle.resource_memory.proofs.RecordLaws.{log_in_order, undo_now}

same_nat : (m n : ℕ) → (m == n) ≡ true → m ≡ n
same_nat m n e = grind (arith, nat_tests)

nat_same : (m n : ℕ) → m ≡ n → (m == n) ≡ true
nat_same m n e = grind (arith, nat_tests)

some_none : {A : Type 0} (a : A) → Some a ≡ None → ⊥
some_none a e = cc

-- ---- the least branch of the entries of which a test holds

abbrev Test : Type 0
Test = Leg → UndoEntry → Bool

abbrev lowest : Test → Log → Option ℕ
lowest p [] = None
lowest p (e ∷ es) = cond (p e.0 e.1) (lesser e.0.branch.0 (lowest p es)) (lowest p es)

abbrev undo_leg : Undo → Leg
undo_leg u = record { xid = record { 0 = u.xid }; branch = record { 0 = u.branch } }

-- and of the undo records
abbrev lowest_of : Test → List Undo → Option ℕ
lowest_of p [] = None
lowest_of p (u ∷ us) = cond (p (undo_leg u) (entry_for u)) (lesser u.branch (lowest_of p us)) (lowest_of p us)

abbrev but : Leg → Test → Test
but leg p = λ l e. not (is_leg leg l) && p l e

lesser_turned : (a b : ℕ) (o : Option ℕ) → lesser a (lesser b o) ≡ lesser b (lesser a o)
lesser_turned a b None = let turned : min a b ≡ min b a = omega arith in ap (λ (n : ℕ). Some n) turned
lesser_turned a b (Some c) = let turned : min a (min b c) ≡ min b (min a c) = omega arith in ap (λ (n : ℕ). Some n) turned

turned : (s t : Bool) (a b : ℕ) (o : Option ℕ) → cond s (lesser a (cond t (lesser b o) o)) (cond t (lesser b o) o) ≡ cond t (lesser b (cond s (lesser a o) o)) (cond s (lesser a o) o)
turned true true a b o = lesser_turned a b o
turned true false a b o = refl
turned false true a b o = refl
turned false false a b o = refl

-- one more entry, of a branch that had none
lowest_put : (p : Test) (es : Log) (leg : Leg) (e : UndoEntry) → entry_at es leg ≡ None → lowest p (with_entry es leg e) ≡ cond (p leg e) (lesser leg.branch.0 (lowest p es)) (lowest p es)
lowest_put p [] leg e none = refl
lowest_put p (x ∷ es) leg e none = by (order leg x.0) refl (λ absent. lowest_put p es leg e absent)
  where
    after : Ordering → Log
    after r = match_ordering r ((leg, e) ∷ x ∷ es) ((x.0, e) ∷ es) (x ∷ insert_entry order es leg e)

    absent : (r : Ordering) → order leg x.0 ≡ r → is_eq r ≡ false → entry_at es leg ≡ None
    absent r same apart = sym (ap (λ s. cond (is_eq s) (Some x.1) (entry_at es leg)) same ∙ ap (λ b. cond b (Some x.1) (entry_at es leg)) apart) ∙ none

    by : (r : Ordering) → order leg x.0 ≡ r → (entry_at es leg ≡ None → lowest p (insert_entry order es leg e) ≡ cond (p leg e) (lesser leg.branch.0 (lowest p es)) (lowest p es))
        → lowest p (after r) ≡ cond (p leg e) (lesser leg.branch.0 (lowest p (x ∷ es))) (lowest p (x ∷ es))
    by Less same rest = refl
    by Equal same rest = absurd (some_none x.1 (sym (ap (λ s. cond (is_eq s) (Some x.1) (entry_at es leg)) same) ∙ none))
    by Greater same rest =
        ap (λ o. cond (p x.0 x.1) (lesser x.0.branch.0 o) o) (rest (absent Greater same refl))
        ∙ turned (p x.0 x.1) (p leg e) x.0.branch.0 leg.branch.0 (lowest p es)

-- an entry less
lowest_others : (p : Test) (leg : Leg) (es : Log) → AllByRecursion (λ y. order leg y ≡ Less) (keys_of es) → lowest (but leg p) es ≡ lowest p es
lowest_others p leg [] all = refl
lowest_others p leg (x ∷ es) all =
    ap (λ b. cond (not b && p x.0 x.1) (lesser x.0.branch.0 (lowest (but leg p) es)) (lowest (but leg p) es)) (ap is_eq all.0)
    ∙ ap (λ o. cond (p x.0 x.1) (lesser x.0.branch.0 o) o) (lowest_others p leg es all.1)

lowest_taken : (p : Test) (leg : Leg) (es : Log) → IsStrictlySortedBy order (keys_of es) → lowest p (without_entry es leg) ≡ lowest (but leg p) es
unfolding IsStrictlySortedBy
lowest_taken p leg [] sorted = refl
lowest_taken p leg (x ∷ es) sorted = by (is_leg leg x.0) refl (lowest_taken p leg es sorted.1)
  where
    equal_is : (r : Ordering) → is_eq r ≡ true → r ≡ Equal
    equal_is Less e = absurd (true≢false (sym e))
    equal_is Equal e = refl
    equal_is Greater e = absurd (true≢false (sym e))

    moved : is_leg leg x.0 ≡ true → AllByRecursion (λ y. order leg y ≡ Less) (keys_of es)
    moved same =
        let one : leg ≡ x.0 = leg_exact leg x.0 (equal_is (order leg x.0) same) in
        subst (λ (l : Leg). AllByRecursion (λ y. order l y ≡ Less) (keys_of es)) (sym one) sorted.0

    by : (b : Bool) → is_leg leg x.0 ≡ b → lowest p (without_entry es leg) ≡ lowest (but leg p) es
        → lowest p (cond b es (x ∷ without_entry es leg)) ≡ cond (not b && p x.0 x.1) (lesser x.0.branch.0 (lowest (but leg p) es)) (lowest (but leg p) es)
    by true same rest = sym (lowest_others p leg es (moved same))
    by false same rest = ap (λ o. cond (p x.0 x.1) (lesser x.0.branch.0 o) o) rest

-- ---- undo records, of all branches but one

leg_tests : (leg : Leg) (u : Undo) → is_leg leg (undo_leg u) ≡ is_undo_leg leg.xid.0 leg.branch.0 u
leg_tests leg u = by (is_leg leg (undo_leg u)) (is_undo_leg leg.xid.0 leg.branch.0 u) refl refl
  where
    equal_is : (r : Ordering) → is_eq r ≡ true → r ≡ Equal
    equal_is Less e = absurd (true≢false (sym e))
    equal_is Equal e = refl
    equal_is Greater e = absurd (true≢false (sym e))

    by : (s t : Bool) → is_leg leg (undo_leg u) ≡ s → is_undo_leg leg.xid.0 leg.branch.0 u ≡ t → s ≡ t
    by true true e f = refl
    by false false e f = refl
    by true false e f =
        let same : leg ≡ undo_leg u = leg_exact leg (undo_leg u) (equal_is (order leg (undo_leg u)) e) in
        let yes : is_undo_leg leg.xid.0 leg.branch.0 u ≡ true =
        and_from _ _ (nat_same u.xid leg.xid.0 (sym (ap (λ (l : Leg). l.xid.0) same))) (nat_same u.branch leg.branch.0 (sym (ap (λ (l : Leg). l.branch.0) same))) in
        sym yes ∙ f
    by false true e f =
        let both = and_parts (u.xid == leg.xid.0) (u.branch == leg.branch.0) f in
        let x : u.xid ≡ leg.xid.0 = same_nat u.xid leg.xid.0 both.0 in
        let b : u.branch ≡ leg.branch.0 = same_nat u.branch leg.branch.0 both.1 in
        let same : undo_leg u ≡ leg = λ i. record { xid = record { 0 = x i }; branch = record { 0 = b i } } in
        sym e ∙ ap (λ (l : Leg). is_leg leg l) same ∙ ap is_eq (tied_itself leg_total leg)

lowest_filtered : (p : Test) (leg : Leg) (us : List Undo) → lowest_of p (filter (is_other_leg leg.xid.0 leg.branch.0) us) ≡ lowest_of (but leg p) us
lowest_filtered p leg [] = refl
lowest_filtered p leg (u ∷ us) =
    by (is_undo_leg leg.xid.0 leg.branch.0 u) (lowest_filtered p leg us)
    ∙ ap (λ b. cond (not b && p (undo_leg u) (entry_for u)) (lesser u.branch (lowest_of (but leg p) us)) (lowest_of (but leg p) us)) (sym (leg_tests leg u))
  where
    others : List Undo
    others = filter (is_other_leg leg.xid.0 leg.branch.0) us

    by : (b : Bool) → lowest_of p others ≡ lowest_of (but leg p) us
        → lowest_of p (cond (not b) (u ∷ others) others) ≡ cond (not b && p (undo_leg u) (entry_for u)) (lesser u.branch (lowest_of (but leg p) us)) (lowest_of (but leg p) us)
    by true rest = rest
    by false rest = ap (λ o. cond (p (undo_leg u) (entry_for u)) (lesser u.branch o) o) rest

-- ---- the undo log and the records

-- markers don't count
abbrev Ignores : Test → Type 0
Ignores p = (l : Leg) → p l entry.Finished ≡ false

and_false : (b : Bool) → (b && false) ≡ false
and_false true = refl
and_false false = refl

ignores_but : (leg : Leg) (p : Test) → Ignores p → Ignores (but leg p)
ignores_but leg p h l = ap (λ b. not (is_leg leg l) && b) (h l) ∙ and_false (not (is_leg leg l))

module _ (opening : Database) where
  none_at : (rs : List ResourceRecord) → Allowed opening rs → (leg : Leg) → HasNoEntry rs leg.xid.0 leg.branch.0 → entry_at (undo_log_of rs) leg ≡ None
  none_at rs a leg none =
      undo_now opening rs a leg ∙ ap (λ (o : Option Undo). entry_by o (is_marked rs leg.xid.0 leg.branch.0)) none.0 ∙ ap (λ (m : Bool). entry_by None m) none.1

  lowest_same : (rs : List ResourceRecord) → Allowed opening rs → (p : Test) → Ignores p → lowest p (undo_log_of rs) ≡ lowest_of p (undos rs)
  lowest_same [] a p h = refl
  lowest_same (log.Committed xid branch call images reads ∷ rs) a p h =
      let leg : Leg = leg_of xid branch in
      let e : UndoEntry = undo_record leg call images reads in
      lowest_put p (undo_log_of rs) leg e (none_at rs a.0 leg a.1.0)
      ∙ ap (λ o. cond (p leg e) (lesser branch.0 o) o) (lowest_same rs a.0 p h)
  lowest_same (log.Undone xid branch ∷ rs) a p h =
      let leg : Leg = leg_of xid branch in
      lowest_taken p leg (undo_log_of rs) (log_in_order rs) ∙ lowest_same rs a.0 (but leg p) (ignores_but leg p h) ∙ sym (lowest_filtered p leg (undos rs))
  lowest_same (log.Cleared xid branch ∷ rs) a p h =
      let leg : Leg = leg_of xid branch in
      lowest_taken p leg (undo_log_of rs) (log_in_order rs) ∙ lowest_same rs a.0 (but leg p) (ignores_but leg p h) ∙ sym (lowest_filtered p leg (undos rs))
  lowest_same (log.Marked xid branch ∷ rs) a p h =
      let leg : Leg = leg_of xid branch in
      lowest_put p (undo_log_of rs) leg entry.Finished (none_at rs a.0 leg a.1)
      ∙ ap (λ b. cond b (lesser branch.0 (lowest p (undo_log_of rs))) (lowest p (undo_log_of rs))) (h leg)
      ∙ lowest_same rs a.0 p h
  lowest_same (log.Boot number ∷ rs) a p h = lowest_same rs a.0 p h
  lowest_same (log.Tried xid branch call images ∷ rs) a p h = lowest_same rs a.0 p h
  lowest_same (log.Confirmed xid branch images ∷ rs) a p h = lowest_same rs a.0 p h
  lowest_same (log.Cancelled xid branch images ∷ rs) a p h = lowest_same rs a.0 p h
  lowest_same (log.Suspended xid branch ∷ rs) a p h = lowest_same rs a.0 p h
  lowest_same (log.LocalCommitted number images ∷ rs) a p h = lowest_same rs a.0 p h
  lowest_same (log.Outside number images ∷ rs) a p h = lowest_same rs a.0 p h

-- ---- an undo record names its branch

abbrev Owns : Leg → UndoEntry → Type 0
Owns leg (entry.Normal r) = r.leg ≡ leg
Owns leg entry.Finished = Unit {0}

abbrev OwnsIt : Leg × UndoEntry → Type 0
OwnsIt e = Owns e.0 e.1

owned : (rs : List ResourceRecord) → AllByRecursion OwnsIt (undo_log_of rs)
owned [] = tt
owned (log.Committed xid branch call images reads ∷ rs) = all_insert order leg_total leg_exact OwnsIt (undo_log_of rs) (leg_of xid branch) (undo_record (leg_of xid branch) call images reads) (owned rs) refl
owned (log.Undone xid branch ∷ rs) = all_remove order leg_total leg_exact OwnsIt (undo_log_of rs) (leg_of xid branch) (owned rs)
owned (log.Cleared xid branch ∷ rs) = all_remove order leg_total leg_exact OwnsIt (undo_log_of rs) (leg_of xid branch) (owned rs)
owned (log.Marked xid branch ∷ rs) = all_insert order leg_total leg_exact OwnsIt (undo_log_of rs) (leg_of xid branch) entry.Finished (owned rs) tt
owned (log.Boot number ∷ rs) = owned rs
owned (log.Tried xid branch call images ∷ rs) = owned rs
owned (log.Confirmed xid branch images ∷ rs) = owned rs
owned (log.Cancelled xid branch images ∷ rs) = owned rs
owned (log.Suspended xid branch ∷ rs) = owned rs
owned (log.LocalCommitted number images ∷ rs) = owned rs
owned (log.Outside number images ∷ rs) = owned rs

-- ---- the first record of a call is that of its least branch

below_branch : (a b : Leg) → a.xid.0 ≡ b.xid.0 → order a b ≡ Less → a.branch.0 < b.branch.0
below_branch a b same e =
    let tied : nat_cmp a.xid.0 b.xid.0 ≡ Equal = sym (nat_cmp_is a.xid.0 b.xid.0 Equal same) in
    ranked a.branch.0 b.branch.0 Less (sym (sym (ap (λ o. ordering_then o (nat_cmp a.branch.0 b.branch.0)) tied) ∙ e))

module _ (x c : ℕ) where
  call_xid : (leg : Leg) (e : UndoEntry) → is_of_call x c leg e ≡ true → leg.xid.0 ≡ x
  call_xid leg (entry.Normal r) is = same_nat leg.xid.0 x (and_parts (leg.xid.0 == x) (r.call == c) is).0
  call_xid leg entry.Finished is = absurd (true≢false (sym is))

  least_first : (leg : Leg) (es : Log) → leg.xid.0 ≡ x → AllByRecursion (λ y. order leg y ≡ Less) (keys_of es) → lesser leg.branch.0 (lowest (is_of_call x c) es) ≡ Some leg.branch.0
  least_first leg [] same below = refl
  least_first leg (e ∷ es) same below = by (is_of_call x c e.0 e.1) refl (least_first leg es same below.1)
    where
      by : (s : Bool) → is_of_call x c e.0 e.1 ≡ s → lesser leg.branch.0 (lowest (is_of_call x c) es) ≡ Some leg.branch.0
          → lesser leg.branch.0 (cond s (lesser e.0.branch.0 (lowest (is_of_call x c) es)) (lowest (is_of_call x c) es)) ≡ Some leg.branch.0
      by true is rest =
          let less : leg.branch.0 < e.0.branch.0 = below_branch leg e.0 (same ∙ sym (call_xid e.0 e.1 is)) below.0 in
          let first : min e.0.branch.0 leg.branch.0 ≡ leg.branch.0 = omega (arith, less) in
          lesser_turned leg.branch.0 e.0.branch.0 (lowest (is_of_call x c) es) ∙ ap (lesser e.0.branch.0) rest ∙ ap (λ (n : ℕ). Some n) first
      by false is rest = rest

  at_head : (leg : Leg) (e : UndoEntry) (es : Log) → Owns leg e → AllByRecursion (λ y. order leg y ≡ Less) (keys_of es)
      → option_map branch_of_record (record_of_call x c es) ≡ lowest (is_of_call x c) es
      → option_map branch_of_record (cond (is_of_call x c leg e) (record_in e) (record_of_call x c es)) ≡ cond (is_of_call x c leg e) (lesser leg.branch.0 (lowest (is_of_call x c) es)) (lowest (is_of_call x c) es)
  at_head leg entry.Finished es own below rest = rest
  at_head leg (entry.Normal r) es own below rest = by ((leg.xid.0 == x) && (r.call == c)) refl
    where
      by : (s : Bool) → ((leg.xid.0 == x) && (r.call == c)) ≡ s
          → option_map branch_of_record (cond s (Some r) (record_of_call x c es)) ≡ cond s (lesser leg.branch.0 (lowest (is_of_call x c) es)) (lowest (is_of_call x c) es)
      by true is = ap (λ (l : Leg). Some l.branch.0) own ∙ sym (least_first leg es (same_nat leg.xid.0 x (and_parts (leg.xid.0 == x) (r.call == c) is).0) below)
      by false is = rest

  first_lowest : (es : Log) → IsStrictlySortedBy order (keys_of es) → AllByRecursion OwnsIt es → option_map branch_of_record (record_of_call x c es) ≡ lowest (is_of_call x c) es
  unfolding IsStrictlySortedBy
  first_lowest [] sorted own = refl
  first_lowest (e ∷ es) sorted own = at_head e.0 e.1 es own.0 sorted.0 (first_lowest es sorted.1 own.1)

  lowest_listed : (us : List Undo) → lowest_of (is_of_call x c) us ≡ least_branch (map branch_of_undo (filter (λ u. (u.xid == x) && (u.call == c)) us))
  lowest_listed [] = refl
  lowest_listed (u ∷ us) = by ((u.xid == x) && (u.call == c)) (lowest_listed us)
    where
      mine : List Undo
      mine = filter (λ v. (v.xid == x) && (v.call == c)) us

      by : (s : Bool) → lowest_of (is_of_call x c) us ≡ least_branch (map branch_of_undo mine)
          → cond s (lesser u.branch (lowest_of (is_of_call x c) us)) (lowest_of (is_of_call x c) us) ≡ least_branch (map branch_of_undo (cond s (u ∷ mine) mine))
      by true rest = ap (lesser u.branch) rest
      by false rest = rest

pub finds_undos : FindsUndosOfCalls
finds_undos opening rs a x c =
    first_lowest x c (undo_log_of rs) (log_in_order rs) (owned rs)
    ∙ lowest_same opening rs a (is_of_call x c) (λ l. refl)
    ∙ lowest_listed x c (undos rs)
